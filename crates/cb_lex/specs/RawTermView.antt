-- The tree that a node of a term or a formula stands for.
use Rattle.cb_lex.specs.RawTermTree.{RawTermTree, RawFormulaTree, raw_terms}
use Rattle.cb_lex.specs.RawTermTree as tree
use Rattle.cb_lex.specs.declared.raw.term.RawTermNode.{RawTermNode}
use Rattle.cb_lex.specs.declared.raw.term.RawTermNode.TheVariants.{Number, Name, Atom, Binary, Minus, Card, TruthOf, Listed}
use Rattle.cb_lex.specs.declared.raw.term.RawFormulaNode.{RawFormulaNode}
use Rattle.cb_lex.specs.declared.raw.term.RawFormulaNode.TheVariants.{True, False, Not, And, Or, Implies, Equivalent, Relation, Every, Exists}

abbrev pub term_of : RawTermNode → RawTermTree
term_of (Number n p) = tree.Number n p
term_of (Name x) = tree.Name x
term_of (Atom a p) = tree.Atom a p
term_of (Binary o p a b) = tree.Binary o p a.value b.value
term_of (Minus p a) = tree.Minus p a.value
term_of (Card p a) = tree.Card p a.value
term_of (TruthOf p f) = tree.TruthOf p f.value
term_of (Listed p ts) = tree.Listed p (raw_terms ts)

abbrev pub formula_of : RawFormulaNode → RawFormulaTree
formula_of True = tree.True
formula_of False = tree.False
formula_of (Not f) = tree.Not f.value
formula_of (And f g) = tree.And f.value g.value
formula_of (Or f g) = tree.Or f.value g.value
formula_of (Implies f g) = tree.Implies f.value g.value
formula_of (Equivalent f g) = tree.Equivalent f.value g.value
formula_of (Relation r p a b) = tree.Relation r p a b
formula_of (Every x d f) = tree.Every x d.value f.value
formula_of (Exists x f) = tree.Exists x f.value
