use Rattle.std.proofs.Common.{◌≡◌, length, sym, ap, subst, ◌∙◌, arith}
use Rattle.cb_spec.specs.declared.system.System.{System}
use Rattle.cb_spec.specs.States.{state_of}
use Rattle.cb_alone.specs.Rounds.{IsRound}
use Rattle.cb_alone.proofs.RoundLemmas.{step_memory, step_further, round_is}
use Rattle.cb_alone.proofs.alone.step_each.Goals as goal

pub loop-controller-preserved : goal.loop-controller-preserved
loop-controller-preserved c =
    let now = c.loop-controller in
    let did = c.in_ok-step.ensures in
    record {
      system = did.system ∙ now.invariant.system;
      limit = did.limit ∙ now.invariant.limit;
      memory = step_memory now.running c.step.new.self now.controller c.in_ok-step.field-0 now.invariant.memory did.ok;
      further = step_further c.args.running.now now.running c.step.new.self now.controller c.in_ok-step.field-0 c.requires.open now.invariant.further did.ok;
    }

pub returns-clause-round : goal.returns-clause-round
returns-clause-round c =
    let old = c.args.running.now in
    let now = c.loop-controller in
    let new = c.end_if_due.new.self in
    let due = c.end_if_due.ensures in
    let order = ap (λ (y : System). length y.order) (due.system ∙ now.invariant.system) in
    let all : now.controller ≡ length (state_of new.state).controls =
    (let below = now.auto.controller-end in let above = c.loop-controller-test.false in let placed = c.end_of.ensures.good.fit.placed in let many = c.requires.all in omega (arith, below, above, placed, many, order)) in
    subst (IsRound old.journal new.journal) (sym c.is_some.ensures)
    (round_is old now.running new now.controller c.end_if_due.result due.none due.some c.requires.open now.invariant.memory now.invariant.further all c.end_of.result c.end_of.ensures.end)
