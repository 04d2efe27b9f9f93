use Rattle.std.proofs.Common.{arith}
use Rattle.cb_lex.proofs.Cutting.{cut}
use Rattle.cb_lex.proofs.lexer.tokens.Goals as goal

pub returns-in-Nothing-clause-tokens : goal.returns-in-Nothing-clause-tokens
returns-in-Nothing-clause-tokens c =
    rw c.in_ok-add-in-Nothing.ensures (rw c.in-Nothing.is at (cut _ _ _ _ c.loop-out.place c.in_ok-front_at.field-0 c.loop-out.invariant c.in_ok-front_at.ensures.front c.in_ok-front_at.ensures.within))

pub loop-out-preserved-in-Gap : goal.loop-out-preserved-in-Gap
loop-out-preserved-in-Gap c =
    let w = c.moved_over-place in
    (rw c.in-Gap.is at (cut _ _ _ _ w.result c.in_ok-front_at.field-0 c.loop-out.invariant c.in_ok-front_at.ensures.front c.in_ok-front_at.ensures.within)) w.ensures.place (omega (arith, w.ensures.line, c.loop-out.invariant.line)) (omega (arith, w.ensures.col, c.loop-out.invariant.col))

pub returns-in-Bad-clause-fault : goal.returns-in-Bad-clause-fault
returns-in-Bad-clause-fault c =
    rw c.in-Bad.is at (cut _ _ _ _ c.loop-out.place c.in_ok-front_at.field-0 c.loop-out.invariant c.in_ok-front_at.ensures.front c.in_ok-front_at.ensures.within)

pub returns-in-Long-clause-fault : goal.returns-in-Long-clause-fault
returns-in-Long-clause-fault c =
    (rw c.in-Long.is at (cut _ _ _ _ c.moved_over.result c.in_ok-front_at.field-0 c.loop-out.invariant c.in_ok-front_at.ensures.front c.in_ok-front_at.ensures.within)) c.moved_over.ensures.place

pub returns-in-Open-clause-fault : goal.returns-in-Open-clause-fault
returns-in-Open-clause-fault c =
    rw c.in-Open.is at (cut _ _ _ _ c.loop-out.place c.in_ok-front_at.field-0 c.loop-out.invariant c.in_ok-front_at.ensures.front c.in_ok-front_at.ensures.within)

pub loop-out-preserved : goal.loop-out-preserved
loop-out-preserved c =
    let w = c.moved_over-place-in-Makes in
    rw c.in_ok-add-in-Makes.ensures ((rw c.in-Makes.is at (cut _ _ _ _ w.result c.in_ok-front_at.field-0 c.loop-out.invariant c.in_ok-front_at.ensures.front c.in_ok-front_at.ensures.within)) w.ensures.place (omega (arith, w.ensures.line, c.loop-out.invariant.line)) (omega (arith, w.ensures.col, c.loop-out.invariant.col)))
