use Rattle.std.proofs.Common.{◌≡◌, drop}
use Rattle.cb_owed.specs.Limits.{starts_within}
use Rattle.cb_owed.proofs.limits.starts_within.Given as goal

abbrev pub invariant-loop-controller : goal.invariant-loop-controller
invariant-loop-controller l = starts_within l.system (drop l.controller-index l.controllers) ≡ starts_within l.system l.controllers
