use Rattle.std.proofs.Common.{◌≡◌, ◌≤◌, ◌+◌, drop}
use Rattle.cb_lex.specs.Lexes.{moved}
use Rattle.cb_lex.proofs.lexer.moved.Given as goal

abbrev pub invariant-loop-byte : goal.invariant-loop-byte
invariant-loop-byte l =
    (moved l.place (drop l.byte-index l.bytes) ≡ moved l.initial.place l.bytes) × (l.place.line ≤ l.initial.place.line + l.byte-index) × (l.place.col ≤ l.initial.place.col + l.byte-index)
