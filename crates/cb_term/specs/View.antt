-- The tree that a node stands for.
use Rattle.cb_term.specs.Tree.{TermTree, FormulaTree, trees_of}
use Rattle.cb_term.specs.Tree as tree
use Rattle.cb_term.specs.declared.tree.TermNode.{TermNode}
use Rattle.cb_term.specs.declared.tree.TermNode.TheVariants.{Var, Bound, Num, Truth, Elem, Bin, Neg, Card, Listed, Elems, Truths, Bool}
use Rattle.cb_term.specs.declared.tree.FormulaNode.{FormulaNode}
use Rattle.cb_term.specs.declared.tree.FormulaNode.TheVariants.{True, False, Rel, Not, And, Or, Implies, Iff, Every, Exist}

abbrev pub term_of : TermNode → TermTree
term_of (Var x) = tree.Var x
term_of (Bound k) = tree.Bound k
term_of (Num n) = tree.Num n
term_of (Truth b) = tree.Truth b
term_of (Elem set index) = tree.Elem set index
term_of (Bin sign a b) = tree.Bin sign a.value b.value
term_of (Neg a) = tree.Neg a.value
term_of (Card a) = tree.Card a.value
term_of (Listed ts) = tree.Listed (trees_of ts)
term_of (Elems set) = tree.Elems set
term_of Truths = tree.Truths
term_of (Bool f) = tree.Test f.value

abbrev pub formula_of : FormulaNode → FormulaTree
formula_of True = tree.True
formula_of False = tree.False
formula_of (Rel sign a b) = tree.Rel sign a b
formula_of (Not f) = tree.Not f.value
formula_of (And f g) = tree.And f.value g.value
formula_of (Or f g) = tree.Or f.value g.value
formula_of (Implies f g) = tree.Implies f.value g.value
formula_of (Iff f g) = tree.Iff f.value g.value
formula_of (Every x kind f) = tree.Every x kind f.value
formula_of (Exist x kind f) = tree.Exist x kind f.value
