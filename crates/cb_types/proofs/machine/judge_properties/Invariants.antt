use Rattle.std.proofs.Common.{◌≡◌, [], drop}
use Rattle.cb_forms.specs.Faults.{least, first}
use Rattle.cb_types.specs.MachineFaults.{properties_fault}
use Rattle.cb_types.proofs.machine.judge_properties.Given as goal

abbrev pub invariant-loop-property : goal.invariant-loop-property
invariant-loop-property l = least l.fault (first (properties_fault l.owner l.known l.seen (drop l.property-index l.properties))) ≡ first (properties_fault l.owner l.known [] l.properties)
