use Rattle.std.proofs.Common.{◌≡◌, ◌++◌, List, map, arith, subst}
use Rattle.std.proofs.lemmas.Grind.{common_steps}
use Rattle.cb_seq.specs.Validity.{Claim, claim_of}
use Rattle.cb_obligations.specs.Steps.{Step}
use Rattle.cb_wp.specs.Limits.{Counted, Faulted}
use Rattle.cb_symbolic.proofs.ShowLemmas.{every_steps, every_pieces}
use Rattle.cb_symbolic.proofs.show.+show.Goals as goal

pub show_every-returns-in_err-show_inside-clause-fault : goal.show_every-returns-in_err-show_inside-clause-fault
show_every-returns-in_err-show_inside-clause-fault t c =
    let same = every_steps c.args.opened.now.items c.open_inside.new.opened.items c.args.reached c.args.walk.now c.in_ok-number.number c.open_inside.new.names
    c.args.name.now c.args.kind c.args.body.now c.in_ok-number.ensures c.in_ok-open_inside.ensures.opened c.in_ok-open_inside.ensures.names in
    let fault = subst (λ (s : List Step). Faulted c.in_err-show_inside.field-0.0 c.args.made.now.used s) same c.in_err-show_inside.ensures.fault in
    grind (arith, common_steps, fault)

pub show_every-returns-clause-counted : goal.show_every-returns-clause-counted
show_every-returns-clause-counted t c =
    let same = every_steps c.args.opened.now.items c.open_inside.new.opened.items c.args.reached c.args.walk.now c.in_ok-number.number c.open_inside.new.names
    c.args.name.now c.args.kind c.args.body.now c.in_ok-number.ensures c.in_ok-open_inside.ensures.opened c.in_ok-open_inside.ensures.names in
    subst (λ (s : List Step). Counted c.args.made.now.used c.show_inside.new.made.used s) same c.in_ok-show_inside.ensures.counted

pub show_every-returns-clause-list : goal.show_every-returns-clause-list
show_every-returns-clause-list t c =
    let same = every_pieces c.args.opened.now.items c.open_inside.new.opened.items c.args.reached c.args.walk.now c.in_ok-number.number c.open_inside.new.names
    c.args.name.now c.args.kind c.args.body.now c.in_ok-number.ensures c.in_ok-open_inside.ensures.opened c.in_ok-open_inside.ensures.names in
    subst (λ (l : List Claim). map claim_of c.show_inside.new.made.sequents.items ≡ map claim_of c.args.made.now.sequents.items ++ l) same c.in_ok-show_inside.ensures.list
