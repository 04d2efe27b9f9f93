use Rattle.std.proofs.Common.{◌≡◌, drop}
use Rattle.cb_wp.specs.Limits.{bodies_within}
use Rattle.cb_wp.proofs.machine.bodies_within.Given as goal

abbrev pub invariant-loop-operation : goal.invariant-loop-operation
invariant-loop-operation l = bodies_within (drop l.operation-index l.operations) ≡ bodies_within l.operations
