use Rattle.std.proofs.Common.{◌≡◌, drop}
use Rattle.cb_owed.specs.Limits.{bodies_within}
use Rattle.cb_owed.proofs.limits.bodies_within.Given as goal

abbrev pub invariant-loop-definition : goal.invariant-loop-definition
invariant-loop-definition l = bodies_within l.system (drop l.definition-index l.definitions) ≡ bodies_within l.system l.definitions
