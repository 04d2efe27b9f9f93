use Rattle.std.proofs.Common.{◌≡◌, ◌++◌, drop}
use Rattle.cb_spec.specs.Bound.{names}
use Rattle.cb_conditions.specs.Reading as reading
use Rattle.cb_symbolic.proofs.walk.terms_at.Given as goal

abbrev pub invariant-loop-place : goal.invariant-loop-place
invariant-loop-place l =
    l.written ++ reading.terms_at (names (drop l.place l.declared)) (drop l.place l.terms) ≡ reading.terms_at (names l.declared) l.terms
