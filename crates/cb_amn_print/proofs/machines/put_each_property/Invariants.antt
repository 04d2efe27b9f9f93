use Rattle.std.proofs.Common.{◌≡◌, ◌++◌, drop, true}
use Rattle.cb_amn_print.specs.Machines.{properties_text}
use Rattle.cb_amn_print.proofs.machines.put_each_property.Given as goal

abbrev pub invariant-loop-property : goal.invariant-loop-property
invariant-loop-property l = l.out.items ++ properties_text l.first (drop l.property-index l.properties) ≡ l.initial.out.items ++ properties_text true l.properties
