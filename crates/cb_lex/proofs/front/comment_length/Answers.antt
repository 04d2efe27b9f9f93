use Rattle.std.proofs.Common.{◌≡◌, ◌-◌, sym, ◌∙◌, arith, take, drop, length}
use Rattle.std.proofs.lemmas.Grind.{common_steps}
use Rattle.cb_lex.proofs.Numerals.{comment_next}
use Rattle.cb_lex.proofs.front.comment_length.Goals as goal

pub loop-n-preserved : goal.loop-n-preserved
loop-n-preserved c =
    let bs = c.args.bytes.now in
    let e : take (length bs - c.loop-n.n) (drop c.loop-n.n bs) ≡ drop c.loop-n.n bs = grind (arith, common_steps) in
    sym (comment_next c.loop-n.n c.loop-n.n c.args.bytes.now (omega arith) (rw e at (sym c.closes.ensures ∙ c.if-closes.false))) ∙ c.loop-n.invariant
