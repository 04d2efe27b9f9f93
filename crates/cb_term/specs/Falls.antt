-- Each child of a node has fewer nodes than the node.
use Rattle.std.specs.Prelude.{◌+◌, ◌≤◌, max, List, [], ◌∷◌}
use Rattle.std.proofs.Common.{arith}
use denote.Param.Weighed.{most}
use Rattle.cb_term.specs.Tree.{TermTree, trees_of}
use Rattle.cb_term.specs.Size.{term_nodes, terms_nodes, formula_nodes}
use Rattle.cb_term.specs.View.{term_of, formula_of}
use Rattle.cb_term.specs.declared.tree.TermNode.{TermNode}
use Rattle.cb_term.specs.declared.tree.TermNode.TheVariants.{Var, Bound, Num, Truth, Elem, Bin, Neg, Card, Listed, Elems, Truths, Bool}
use Rattle.cb_term.specs.declared.tree.FormulaNode.{FormulaNode}
use Rattle.cb_term.specs.declared.tree.FormulaNode.TheVariants.{True, False, Rel, Not, And, Or, Implies, Iff, Every, Exist}
use Rattle.cb_term.specs.declared.tree.Formula.TheDeep.{deep-TermNode, deep-FormulaNode}

pub most_le-terms_nodes : (ts : List TermTree) → most (λ t. term_nodes t + 1) ts ≤ terms_nodes (trees_of ts) + 1
most_le-terms_nodes [] = omega arith
most_le-terms_nodes (t ∷ ts) = omega (arith, most_le-terms_nodes ts)

pub term_falls : (n : TermNode) → max (deep-TermNode n) 0 ≤ term_nodes (term_of n)
term_falls (Var x) = omega arith
term_falls (Bound k) = omega arith
term_falls (Num n) = omega arith
term_falls (Truth b) = omega arith
term_falls (Elem s i) = omega arith
term_falls (Bin s a b) = omega arith
term_falls (Neg a) = omega arith
term_falls (Card a) = omega arith
term_falls (Listed ts) = omega (arith, most_le-terms_nodes ts)
term_falls (Elems s) = omega arith
term_falls Truths = omega arith
term_falls (Bool f) = omega arith

pub formula_falls : (n : FormulaNode) → max (deep-FormulaNode n) 0 ≤ formula_nodes (formula_of n)
formula_falls True = omega arith
formula_falls False = omega arith
formula_falls (Rel s a b) = omega arith
formula_falls (Not f) = omega arith
formula_falls (And f g) = omega arith
formula_falls (Or f g) = omega arith
formula_falls (Implies f g) = omega arith
formula_falls (Iff f g) = omega arith
formula_falls (Every x k f) = omega arith
formula_falls (Exist x k f) = omega arith
