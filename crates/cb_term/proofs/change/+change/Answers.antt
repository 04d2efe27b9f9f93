use Rattle.std.proofs.Common.{arith}
use Rattle.std.proofs.lemmas.Grind.{common_steps}
use Rattle.cb_term.proofs.TreeLemmas.{mapped_trees}
use Rattle.cb_term.proofs.change.+change.Goals as goal

pub change_term-returns-after-loop-term : goal.change_term-returns-after-loop-term
change_term-returns-after-loop-term g t c =
    let whole = mapped_trees (g.C.Change.names c.args.change.now) (g.C.Change.bounds c.args.change.now) c.args.depth c.in-Listed.terms in
    grind (arith, common_steps, whole)
