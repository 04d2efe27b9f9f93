use Rattle.std.proofs.Common.{◌≡◌, drop}
use Rattle.cb_forms.specs.Faults.{least, first}
use Rattle.cb_text_laws.specs.ProcessFaults.{with_locals, bound_fault}
use Rattle.cb_processes.proofs.bound.declare_bound.Given as goal

abbrev pub invariant-loop-i : goal.invariant-loop-i
invariant-loop-i l =
    (with_locals l.names (drop l.i l.bound) (drop l.i l.forms) ≡ with_locals l.fn.names l.bound l.forms)
    × (least l.fault (first (bound_fault l.names (drop l.i l.bound) (drop l.i l.forms))) ≡ first (bound_fault l.fn.names l.bound l.forms))
