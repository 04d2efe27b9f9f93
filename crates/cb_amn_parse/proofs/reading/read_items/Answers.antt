use Rattle.cb_amn_parse.proofs.Hearing.{items_heard, taken_within}
use Rattle.cb_amn_parse.proofs.reading.read_items.Goals as goal

pub returns-clause-heard : goal.returns-clause-heard
returns-clause-heard c =
    items_heard c.args.part c.args.depth c.args.opened c.args.tokens.now c.in_ok-written.written.taken c.in_ok-written.written.items.items c.in_ok-written.ensures.reads

pub returns-clause-within : goal.returns-clause-within
returns-clause-within c =
    taken_within c.args.part c.args.depth c.args.opened c.args.tokens.now c.in_ok-written.written.taken c.in_ok-written.written.items.items c.in_ok-written.ensures.reads
