use Rattle.std.proofs.Common.{◌≡◌, ◌++◌, drop, true}
use Rattle.cb_lex.specs.RawTermTree.{raw_terms}
use Rattle.cb_amn_print.specs.Formulas.{terms_text}
use Rattle.cb_text_print.proofs.events.put_terms.Given as goal

abbrev pub invariant-loop-term : goal.invariant-loop-term
invariant-loop-term l = l.out.items ++ terms_text l.first (raw_terms (drop l.term-index l.terms)) ≡ l.initial.out.items ++ terms_text true (raw_terms l.terms)
