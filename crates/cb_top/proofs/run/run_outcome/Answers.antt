use Rattle.std.proofs.Common.{refl}
use Rattle.cb_top.proofs.run.run_outcome.Goals as goal

pub returns : goal.returns
returns c =
    let run = c.in_ok-running.ensures in
    let told = rw (c.spec.ensures, c.initial.ensures, c.journal.ensures, run.system) at c.in_ok-text.ensures in
    (c.in_ok-text.text.items, record { initial = _; journal = _; state = _; run = run.run; complete = run.complete; text_is = told }, refl)
