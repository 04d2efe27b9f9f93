use Rattle.std.proofs.Common.{◌≡◌, [], drop}
use Rattle.cb_types.specs.Declares.{numbers_from}
use Rattle.cb_types.proofs.declare.numbers.Given as goal

abbrev pub invariant-loop-property : goal.invariant-loop-property
invariant-loop-property l = numbers_from l.numbers (drop l.property-index l.properties) ≡ numbers_from [] l.properties
