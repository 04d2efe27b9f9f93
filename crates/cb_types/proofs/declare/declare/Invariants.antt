use Rattle.std.proofs.Common.{◌≡◌, drop}
use Rattle.cb_forms.specs.Faults.{least, first}
use Rattle.cb_types.specs.Declares.{declared, declare_fault}
use Rattle.cb_types.proofs.declare.declare.Given as goal

abbrev pub invariant-loop-name : goal.invariant-loop-name
invariant-loop-name l =
    (declared l.sort l.numbers l.domains l.index l.names (drop l.name-index l.list) ≡ declared l.sort l.numbers l.domains 0 l.fn.names l.list)
    × (least l.fault (first (declare_fault l.sort l.numbers l.domains l.index l.names (drop l.name-index l.list))) ≡ first (declare_fault l.sort l.numbers l.domains 0 l.fn.names l.list))
