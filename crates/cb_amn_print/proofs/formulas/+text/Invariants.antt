use Rattle.std.proofs.Common.{◌≡◌, ◌++◌, drop, true}
use Rattle.cb_lex.specs.RawTermTree.{raw_terms}
use Rattle.cb_amn_print.specs.Formulas.{terms_text}
use Rattle.cb_amn_print.proofs.formulas.+text.Given as goal

abbrev pub invariant-put_term-loop-term : goal.invariant-put_term-loop-term
invariant-put_term-loop-term l = l.out.items ++ terms_text l.first (raw_terms (drop l.term-index l.term-items)) ≡ l.initial.out.items ++ terms_text true (raw_terms l.term-items)
