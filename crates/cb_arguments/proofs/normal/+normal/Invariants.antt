use Rattle.std.proofs.Common.{◌≡◌, ◌+◌, ◌*◌, ◌++◌, drop, map}
use Rattle.cb_lex.specs.RawTermTree.{raw_terms, term_nodes, terms_nodes, formula_nodes}
use Rattle.cb_arguments.specs.Arguments.{term_in}
use Rattle.cb_arguments.proofs.normal.+normal.Given as goal

abbrev pub invariant-normal_listed-loop-item : goal.invariant-normal_listed-loop-item
invariant-normal_listed-loop-item l =
    let f = term_in l.symbols l.fn.bound in
    (l.listed ++ map f (drop l.item-index l.terms) ≡ map f l.terms) × (l.bound ≡ l.fn.bound)

abbrev pub decreases-normal_term : goal.decreases-normal_term
decreases-normal_term l = 5 * term_nodes l.term.now

abbrev pub decreases-both_terms : goal.decreases-both_terms
decreases-both_terms l = 5 * (term_nodes l.left.now + term_nodes l.right.now) + 1

abbrev pub decreases-normal_binary : goal.decreases-normal_binary
decreases-normal_binary l = 5 * (term_nodes l.left.now + term_nodes l.right.now) + 2

abbrev pub decreases-normal_minus : goal.decreases-normal_minus
decreases-normal_minus l = 5 * term_nodes l.operand.now + 1

abbrev pub decreases-normal_card : goal.decreases-normal_card
decreases-normal_card l = 5 * term_nodes l.operand.now + 1

abbrev pub decreases-normal_truth : goal.decreases-normal_truth
decreases-normal_truth l = 5 * formula_nodes l.formula.now + 1

abbrev pub decreases-normal_listed : goal.decreases-normal_listed
decreases-normal_listed l = 5 * terms_nodes (raw_terms l.terms.now) + 1

abbrev pub decreases-normal_formula : goal.decreases-normal_formula
decreases-normal_formula l = 5 * formula_nodes l.formula.now

abbrev pub decreases-both_formulas : goal.decreases-both_formulas
decreases-both_formulas l = 5 * (formula_nodes l.left.now + formula_nodes l.right.now) + 1

abbrev pub decreases-normal_not : goal.decreases-normal_not
decreases-normal_not l = 5 * formula_nodes l.operand.now + 1

abbrev pub decreases-normal_and : goal.decreases-normal_and
decreases-normal_and l = 5 * (formula_nodes l.left.now + formula_nodes l.right.now) + 2

abbrev pub decreases-normal_or : goal.decreases-normal_or
decreases-normal_or l = 5 * (formula_nodes l.left.now + formula_nodes l.right.now) + 2

abbrev pub decreases-normal_implies : goal.decreases-normal_implies
decreases-normal_implies l = 5 * (formula_nodes l.left.now + formula_nodes l.right.now) + 2

abbrev pub decreases-normal_iff : goal.decreases-normal_iff
decreases-normal_iff l = 5 * (formula_nodes l.left.now + formula_nodes l.right.now) + 2

abbrev pub decreases-normal_relation : goal.decreases-normal_relation
decreases-normal_relation l = 5 * (term_nodes l.left.now + term_nodes l.right.now) + 2

abbrev pub decreases-normal_every : goal.decreases-normal_every
decreases-normal_every l = 5 * (formula_nodes l.domain.now + formula_nodes l.body.now) + 4

abbrev pub decreases-implies_under : goal.decreases-implies_under
decreases-implies_under l = 5 * (formula_nodes l.domain.now + formula_nodes l.body.now) + 3

abbrev pub decreases-normal_exists : goal.decreases-normal_exists
decreases-normal_exists l = 5 * formula_nodes l.body.now + 2

abbrev pub decreases-formula_under : goal.decreases-formula_under
decreases-formula_under l = 5 * formula_nodes l.body.now + 1
