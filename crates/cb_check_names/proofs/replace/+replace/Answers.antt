use Rattle.std.proofs.Common.{arith}
use Rattle.std.proofs.lemmas.Grind.{common_steps}
use Rattle.cb_check_names.proofs.ReplaceLemmas.{replaced_trees}
use Rattle.cb_check_names.proofs.replace.+replace.Goals as goal

pub replace_term-returns-after-loop-term : goal.replace_term-returns-after-loop-term
replace_term-returns-after-loop-term t c =
    let whole = replaced_trees c.args.old.now c.args.by.now c.in-Listed.terms in
    grind (arith, common_steps, whole)
