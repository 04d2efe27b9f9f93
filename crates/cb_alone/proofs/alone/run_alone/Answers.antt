use Rattle.std.proofs.Common.{◌<◌, length, ap, subst, ◌∙◌, arith}
use Rattle.cb_spec.specs.declared.system.System.{System}
use Rattle.cb_spec.specs.States.{state_of}
use Rattle.cb_alone.specs.Rounds.{IsRound}
use Rattle.cb_alone.proofs.LengthLemmas.{run_length}
use Rattle.cb_alone.proofs.RoundLemmas.{run_complete}
use Rattle.cb_alone.proofs.alone.run_alone.Goals as goal

pub rounds-smaller : goal.rounds-smaller
rounds-smaller c =
    let old = c.rounds.running in
    let new = c.step_each.new.running in
    let done = c.in_ok-step_each.ensures in
    let most = run_length new.system new.limit new.initial new.journal (state_of new.state) done.run in
    let longer : length old.journal < length new.journal = (subst (IsRound old.journal new.journal) c.if-branch.false done.round).1 in
    let limit = done.limit ∙ c.rounds.invariant.limit in
    let order = ap (λ (y : System). length y.order) done.system in
    let all = c.rounds.invariant.all in
    omega (arith, most, longer, limit, order, all)

pub returns-then-branch : goal.returns-then-branch
returns-then-branch c =
    let new = c.step_each.new.running in
    let done = c.in_ok-step_each.ensures in
    run_complete c.args.sound c.args.limit c.rounds.running.journal new c.in_ok-step_each.field-0 (done.system ∙ c.rounds.invariant.system) (done.limit ∙ c.rounds.invariant.limit) done.run done.round c.if-branch.true
