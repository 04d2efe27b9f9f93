use Rattle.std.proofs.Common.{◌≡◌, ◌++◌, drop}
use Rattle.cb_term.proofs.tree.+copy.Given as goal

abbrev pub invariant-Term::copy-loop-term : goal.invariant-Term::copy-loop-term
invariant-Term::copy-loop-term l = l.copies ++ drop l.term-index l.term-items ≡ l.term-items
