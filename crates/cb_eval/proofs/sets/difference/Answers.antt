use Rattle.std.proofs.Common.{◌≡◌, sym, subst, arith}
use Rattle.std.proofs.lemmas.Grind.{common_steps}
use Rattle.std.proofs.lemmas.Int.{to_z-of_z}
use Rattle.cb_term.specs.Sets.{IsAscending, difference}
use Rattle.cb_eval.proofs.SetLemmas.{filter_ascends, difference_more}
use Rattle.cb_eval.proofs.sets.difference.Goals as goal

pub loop-x-preserved : goal.loop-x-preserved
loop-x-preserved c = grind (arith, common_steps, to_z-of_z, difference_more)

pub returns-clause-ascending : goal.returns-clause-ascending
returns-clause-ascending c =
    let whole : c.loop-x.rest.items ≡ difference c.args.xs.now c.args.ys.now = grind (arith, common_steps) in
    subst IsAscending (sym whole) (filter_ascends _ c.args.xs.now c.requires.first)
