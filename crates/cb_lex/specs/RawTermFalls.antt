-- Each child of a node has fewer nodes than the node.
use Rattle.std.specs.Prelude.{◌+◌, ◌≤◌, max, List, [], ◌∷◌}
use Rattle.std.proofs.Common.{arith}
use denote.Param.Weighed.{most}
use Rattle.cb_lex.specs.RawTermTree.{RawTermTree, raw_terms, term_nodes, terms_nodes, formula_nodes}
use Rattle.cb_lex.specs.RawTermView.{term_of, formula_of}
use Rattle.cb_lex.specs.declared.raw.term.RawTermNode.{RawTermNode}
use Rattle.cb_lex.specs.declared.raw.term.RawTermNode.TheVariants.{Number, Name, Atom, Binary, Minus, Card, TruthOf, Listed}
use Rattle.cb_lex.specs.declared.raw.term.RawFormulaNode.{RawFormulaNode}
use Rattle.cb_lex.specs.declared.raw.term.RawFormulaNode.TheVariants.{True, False, Not, And, Or, Implies, Equivalent, Relation, Every, Exists}
use Rattle.cb_lex.specs.declared.raw.term.RawFormula.TheDeep.{deep-RawTermNode, deep-RawFormulaNode}

most_le-terms_nodes : (ts : List RawTermTree) → most (λ t. term_nodes t + 1) ts ≤ terms_nodes (raw_terms ts) + 1
most_le-terms_nodes [] = omega arith
most_le-terms_nodes (t ∷ ts) = omega (arith, most_le-terms_nodes ts)

pub term_falls : (n : RawTermNode) → max (deep-RawTermNode n) 0 ≤ term_nodes (term_of n)
term_falls (Number n p) = omega arith
term_falls (Name x) = omega arith
term_falls (Atom a p) = omega arith
term_falls (Binary o p a b) = omega arith
term_falls (Minus p a) = omega arith
term_falls (Card p a) = omega arith
term_falls (TruthOf p f) = omega arith
term_falls (Listed p ts) = omega (arith, most_le-terms_nodes ts)

pub formula_falls : (n : RawFormulaNode) → max (deep-RawFormulaNode n) 0 ≤ formula_nodes (formula_of n)
formula_falls True = omega arith
formula_falls False = omega arith
formula_falls (Not f) = omega arith
formula_falls (And f g) = omega arith
formula_falls (Or f g) = omega arith
formula_falls (Implies f g) = omega arith
formula_falls (Equivalent f g) = omega arith
formula_falls (Relation r p a b) = omega arith
formula_falls (Every x d f) = omega arith
formula_falls (Exists x f) = omega arith
