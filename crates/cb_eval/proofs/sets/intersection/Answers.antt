use Rattle.std.proofs.Common.{◌≡◌, sym, subst}
use Rattle.std.proofs.lemmas.Grind.{common_steps}
use Rattle.std.proofs.Common.{arith}
use Rattle.cb_term.specs.Sets.{IsAscending, intersection}
use Rattle.cb_eval.proofs.SetLemmas.{filter_ascends}
use Rattle.cb_eval.proofs.sets.intersection.Goals as goal

pub returns-clause-ascending : goal.returns-clause-ascending
returns-clause-ascending c =
    let whole : c.loop-x.both.items ≡ intersection c.args.xs.now c.args.ys.now = grind (arith, common_steps) in
    subst IsAscending (sym whole) (filter_ascends _ c.args.xs.now c.requires.first)
