use Rattle.cb_verdicts.specs.Proofs.{keys_of}
use Rattle.cb_verdicts.proofs.Tables.{SoFar, FindsFrom}
use Rattle.cb_verdicts.proofs.places.places.Given as goal

abbrev pub invariant-loop-i : goal.invariant-loop-i
invariant-loop-i l = record {
  wrong : SoFar (keys_of l.list) l.proofs l.i l.places;
  finds : FindsFrom l.proofs l.i l.places;
}
