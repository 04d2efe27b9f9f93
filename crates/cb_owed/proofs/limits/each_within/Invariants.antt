use Rattle.std.proofs.Common.{◌≡◌, drop}
use Rattle.cb_owed.specs.Limits.{controllers_within}
use Rattle.cb_owed.proofs.limits.each_within.Given as goal

abbrev pub invariant-loop-controller : goal.invariant-loop-controller
invariant-loop-controller l = controllers_within l.system (drop l.controller-index l.controllers) ≡ controllers_within l.system l.controllers
