use Rattle.std.proofs.Common.{◌≡◌, drop}
use Rattle.cb_text_laws.specs.ProcessFaults.{with_locals}
use Rattle.cb_systems.proofs.bound.bind_all.Given as goal

abbrev pub invariant-loop-i : goal.invariant-loop-i
invariant-loop-i l = with_locals l.names (drop l.i l.bound) (drop l.i l.forms) ≡ with_locals l.fn.names l.bound l.forms
