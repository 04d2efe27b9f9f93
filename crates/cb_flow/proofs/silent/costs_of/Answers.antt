use Rattle.std.proofs.Common.{◌≡◌, ◌∙◌, ◌<◌, ◌+◌, ◌-◌, ℕ, List, length, drop, ap, sym, arith}
use Rattle.cb_forms.specs.Find.{inside}
use Rattle.cb_text_laws.specs.SilentFaults.{cost, costs_of}
use Rattle.cb_flow.proofs.Walks.{costs_step}
use Rattle.cb_flow.proofs.silent.costs_of.Goals as goal

pub loop-i-preserved : goal.loop-i-preserved
loop-i-preserved c =
    let back : (c.loop-i.i - 1) + 1 ≡ c.loop-i.i = omega (arith, c.loop-i-test.true) in
    let within : c.loop-i.i - 1 < length c.args.definitions.now = omega (arith, c.loop-i-test.true, c.loop-i.auto.i) in
    let so_far = ap (λ k. costs_of (drop k c.args.definitions.now)) back ∙ c.loop-i.invariant in
    let step = costs_step c.args.definitions.now (c.loop-i.i - 1) c.index-definitions-i.result c.loop-i.costs within c.index-definitions-i.is so_far in
    step
    ∙ ap (λ (x : List ℕ). inside x (cost c.loop-i.costs c.index-definitions-i.result.process) c.loop-i.costs) (sym c.as_slice.ensures)
    ∙ ap (λ (n : ℕ). inside c.as_slice.result.now n c.loop-i.costs) (sym c.cost-choices.ensures)
    ∙ sym c.in_ok-enter.ensures
