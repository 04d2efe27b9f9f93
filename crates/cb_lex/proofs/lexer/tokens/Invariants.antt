use Rattle.std.proofs.Common.{◌-◌, length}
use Rattle.cb_lex.proofs.Cutting.{Lexed}
use Rattle.cb_lex.proofs.lexer.tokens.Given as goal

abbrev pub invariant-loop-out : goal.invariant-loop-out
invariant-loop-out l = Lexed l.bytes l.at l.place l.out.items

abbrev pub decreases-loop-out : goal.decreases-loop-out
decreases-loop-out l = length l.bytes - l.at
