use Rattle.std.proofs.Common.{◌≡◌, drop}
use Rattle.cb_lin.specs.Steps.{scale_parts}
use Rattle.cb_lin.proofs.StepLemmas.{prepend}
use Rattle.cb_lin.proofs.sum.scale_all.Given as goal

abbrev pub invariant-loop-part : goal.invariant-loop-part
invariant-loop-part l = scale_parts l.by l.parts ≡ prepend l.scaled.items (scale_parts l.by (drop l.part-index l.parts))
