use Rattle.std.proofs.Common.{sym, subst, [], to_z, of_z, w64, arith}
use Rattle.std.proofs.lemmas.Int.{ints}
use Rattle.cb_spec.specs.Stores.{empty}
use Rattle.cb_relation.specs.Performing.{CanRun}
use Rattle.cb_samples.proofs.PerformedLemmas.{last_of_can_run}
use Rattle.cb_samples.proofs.performing.from_last_of.Goals as goal

pub written-requires : goal.written-requires
written-requires c =
    subst (CanRun [] empty) (sym c.in_ok-subst.ensures)
    (last_of_can_run (to_z w64 (of_z w64 c.args.last)) (omega (arith, ints, c.requires.low)) (omega (arith, ints, c.requires.high)))
