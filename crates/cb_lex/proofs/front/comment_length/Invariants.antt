use Rattle.std.proofs.Common.{◌≡◌, drop}
use Rattle.cb_lex.specs.Lexis.{comment_from}
use Rattle.cb_lex.proofs.front.comment_length.Given as goal

abbrev pub invariant-loop-n : goal.invariant-loop-n
invariant-loop-n l = comment_from l.n (drop l.n l.bytes) ≡ comment_from 0 l.bytes
