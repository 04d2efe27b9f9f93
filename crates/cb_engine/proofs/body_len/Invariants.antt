use Rattle.std.proofs.Common.{◌≡◌, ◌++◌, take, drop}
use Rattle.cb_engine.specs.Tables.{body}
use Rattle.cb_engine.proofs.body_len.Given as goal

abbrev pub invariant-loop-i : goal.invariant-loop-i
invariant-loop-i l = take l.i l.symbols ++ body (drop l.i l.symbols) ≡ body l.symbols
