use Rattle.std.proofs.Common.{◌≡◌, ◌+◌, ◌*◌, ◌&&◌, drop}
use Rattle.cb_lex.specs.RawTermTree.{raw_terms, term_nodes, terms_nodes, formula_nodes}
use Rattle.cb_arguments.specs.Arguments.{all_are_clear}
use Rattle.cb_arguments.proofs.clear.+clear.Given as goal

abbrev pub invariant-all_are_clear-loop-item : goal.invariant-all_are_clear-loop-item
invariant-all_are_clear-loop-item l =
    ((l.all && all_are_clear l.symbols l.fn.bound (raw_terms (drop l.item-index l.terms))) ≡ all_are_clear l.symbols l.fn.bound (raw_terms l.terms))
    × (l.bound ≡ l.fn.bound)

abbrev pub decreases-term_is_clear : goal.decreases-term_is_clear
decreases-term_is_clear l = 3 * term_nodes l.term.now

abbrev pub decreases-terms_are_clear : goal.decreases-terms_are_clear
decreases-terms_are_clear l = 3 * (term_nodes l.left.now + term_nodes l.right.now) + 1

abbrev pub decreases-binary_is_clear : goal.decreases-binary_is_clear
decreases-binary_is_clear l = 3 * (term_nodes l.left.now + term_nodes l.right.now) + 2

abbrev pub decreases-all_are_clear : goal.decreases-all_are_clear
decreases-all_are_clear l = 3 * terms_nodes (raw_terms l.terms.now) + 1

abbrev pub decreases-is_clear : goal.decreases-is_clear
decreases-is_clear l = 3 * formula_nodes l.formula.now

abbrev pub decreases-both_are_clear : goal.decreases-both_are_clear
decreases-both_are_clear l = 3 * (formula_nodes l.left.now + formula_nodes l.right.now) + 1

abbrev pub decreases-every_is_clear : goal.decreases-every_is_clear
decreases-every_is_clear l = 3 * (formula_nodes l.domain.now + formula_nodes l.body.now) + 2

abbrev pub decreases-exists_is_clear : goal.decreases-exists_is_clear
decreases-exists_is_clear l = 3 * formula_nodes l.body.now + 1
