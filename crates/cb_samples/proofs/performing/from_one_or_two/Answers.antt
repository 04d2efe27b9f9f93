use Rattle.std.proofs.Common.{sym, subst, []}
use Rattle.cb_spec.specs.Stores.{empty}
use Rattle.cb_relation.specs.Performing.{CanRun}
use Rattle.cb_samples.proofs.PerformedLemmas.{one_or_two_can_run}
use Rattle.cb_samples.proofs.performing.from_one_or_two.Goals as goal

pub written-requires : goal.written-requires
written-requires c = subst (CanRun [] empty) (sym c.in_ok-subst.ensures) one_or_two_can_run
