use Rattle.std.proofs.Common.{◌≡◌, drop}
use Rattle.cb_conditions.specs.Reading.{given}
use Rattle.cb_ways.proofs.formulas.given.Given as goal

abbrev pub invariant-loop-write : goal.invariant-loop-write
invariant-loop-write l = given (drop l.write-index l.writes) l.name ≡ given l.writes l.name
