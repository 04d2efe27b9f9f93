use Rattle.std.proofs.Common.{◌≡◌, [], drop}
use Rattle.cb_forms.specs.Faults.{least, first}
use Rattle.cb_types.specs.MachineFaults.{sees_fault}
use Rattle.cb_types.proofs.machine.judge_sees.Given as goal

abbrev pub invariant-loop-name : goal.invariant-loop-name
invariant-loop-name l = least l.fault (first (sees_fault l.known l.seen (drop l.name-index l.sees))) ≡ first (sees_fault l.known [] l.sees)
