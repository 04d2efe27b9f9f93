use Rattle.std.proofs.Common.{arith}
use Rattle.std.proofs.lemmas.Grind.{common_steps}
use Rattle.cb_term.proofs.TreeLemmas.{unlike_lengths}
use Rattle.cb_term.proofs.equal.+equal.Goals as goal

pub equal_terms-returns-then-len : goal.equal_terms-returns-then-len
equal_terms-returns-then-len t c =
    let unlike = unlike_lengths c.in-Listed.terms c.in-Listed-node.others (λ e. omega (arith, c.if-len.true, c.len.ensures, c.len-in-Listed-node.ensures, e)) in
    grind (arith, common_steps, unlike)
