use Rattle.std.proofs.Common.{rules, arith, ◌≡◌, ◌++◌, map, subst}
use Rattle.std.proofs.lemmas.Grind.{common_steps}
use Rattle.cb_seq.specs.Validity.{claim_of}
use Rattle.cb_spec.specs.Bound.{names}
use Rattle.cb_wp.specs.Limits.{Counted, Faulted}
use Rattle.cb_conditions.specs.Reading.{terms_at}
use Rattle.cb_conditions.specs.Ways.{Way, shown, written}
use Rattle.cb_conditions.specs.Steps.{shown_steps}
use Rattle.cb_symbolic.specs.Walks.{way_of}
use Rattle.cb_ways.proofs.shows.show_at.Goals as goal

pub returns-in_err-show-clause-fault : goal.returns-in_err-show-clause-fault
returns-in_err-show-clause-fault c =
    let here : Way = written (way_of c.args.reached c.args.walk.now) (terms_at (names c.args.declared.now) c.args.terms.now) in
    let whole : Faulted c.in_err-show.field-0.0 c.args.made.now.used (shown_steps here c.args.formula.now) =
    subst (λ (w : Way). Faulted c.in_err-show.field-0.0 c.args.made.now.used (shown_steps w c.args.formula.now))
    (c.in_ok-write_terms.ensures.way c.args.reached) c.in_err-show.ensures.fault in
    first_of (search (rules, whole), grind (arith, common_steps, whole))

pub returns-clause-counted : goal.returns-clause-counted
returns-clause-counted c =
    subst (λ (w : Way). Counted c.args.made.now.used c.show.new.made.used (shown_steps w c.args.formula.now))
    (c.in_ok-write_terms.ensures.way c.args.reached) c.in_ok-show.ensures.counted

pub returns-clause-list : goal.returns-clause-list
returns-clause-list c =
    subst (λ (w : Way). map claim_of c.show.new.made.sequents.items ≡ map claim_of c.args.made.now.sequents.items ++ shown w c.args.formula.now)
    (c.in_ok-write_terms.ensures.way c.args.reached) c.in_ok-show.ensures.list
