use Rattle.std.proofs.Common.{◌≡◌, drop}
use Rattle.cb_lex.specs.Spelling.{spelled}
use Rattle.cb_lex.proofs.spelling.spelled.Given as goal

abbrev pub invariant-loop-keyword : goal.invariant-loop-keyword
invariant-loop-keyword l = spelled (drop l.keyword-index l.keywords) l.word ≡ spelled l.keywords l.word
