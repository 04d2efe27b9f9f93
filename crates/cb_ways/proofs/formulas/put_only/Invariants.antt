use Rattle.std.proofs.Common.{◌≡◌, ◌++◌, drop}
use Rattle.cb_spec.specs.Bound.{only, names}
use Rattle.cb_ways.proofs.formulas.put_only.Given as goal

abbrev pub invariant-loop-write : goal.invariant-loop-write
invariant-loop-write l =
    l.into ++ only (names l.declared) (drop l.write-index l.writes) ≡ l.initial.into ++ only (names l.declared) l.writes
