use Rattle.std.proofs.Common.{sym, subst, []}
use Rattle.cb_spec.specs.Stores.{empty}
use Rattle.cb_relation.specs.Performing.{CanRun}
use Rattle.cb_samples.proofs.PerformedLemmas.{set_with_one_can_run}
use Rattle.cb_samples.proofs.performing.from_set_with_one.Goals as goal

pub written-requires : goal.written-requires
written-requires c = subst (CanRun [] empty) (sym c.in_ok-subst.ensures) set_with_one_can_run
