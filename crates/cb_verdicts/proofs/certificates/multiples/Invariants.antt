use Rattle.std.proofs.Common.{◌≡◌, ◌++◌, map, take}
use Rattle.cb_verdicts.specs.Certificates.{multiple}
use Rattle.cb_verdicts.proofs.certificates.multiples.Given as goal

abbrev pub invariant-loop-row : goal.invariant-loop-row
invariant-loop-row l = l.all ≡ map multiple (take l.row-index l.rows)
