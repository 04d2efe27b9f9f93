use Rattle.std.proofs.Common.{◌≡◌, ◌≤◌, drop}
use Rattle.cb_lex.proofs.Numerals.{number_from}
use Rattle.cb_lex.proofs.front.number_of.Given as goal

abbrev pub invariant-loop-digit : goal.invariant-loop-digit
invariant-loop-digit l = (l.value ≤ l.limit) × (number_from l.limit l.value (drop l.digit-index l.digits) ≡ number_from l.limit 0 l.digits)
