use Rattle.std.proofs.Common.{sym, subst, arith}
use Rattle.std.proofs.lemmas.Int.{ints, to_z-of_z}
use Rattle.std.proofs.lemmas.Grind.{common_steps}
use Rattle.cb_term.specs.Sets.{IsAscending}
use Rattle.cb_eval.proofs.SetLemmas.{upwards_more, upwards_ascends}
use Rattle.cb_eval.proofs.sets.upwards.Goals as goal

pub loop-i-preserved : goal.loop-i-preserved
loop-i-preserved c =
    let same = to_z-of_z _ c.args.first c.ranges.first in
    let more = upwards_more c.args.first c.loop-i.i in
    grind (arith, common_steps, ints, to_z-of_z, same, more)

pub returns-clause-ascending : goal.returns-clause-ascending
returns-clause-ascending c = subst IsAscending (sym c.loop-i.invariant) (upwards_ascends _ _)
