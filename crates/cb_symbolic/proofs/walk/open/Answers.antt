use Rattle.cb_symbolic.proofs.WalkLemmas.{opened_way}
use Rattle.cb_symbolic.proofs.walk.open.Goals as goal

pub returns-clause-way : goal.returns-clause-way
returns-clause-way c = opened_way c.args.reached c.args.walk.now c.args.name.now c.args.kind c.in_ok-number.number c.add_opened.new.names c.put_opened.new.store
    c.in_ok-number.ensures c.in_ok-add_opened.ensures c.in_ok-put_opened.ensures
