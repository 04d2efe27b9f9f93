-- How many nodes a tree has.
use Rattle.std.specs.Prelude.{ℕ, ◌+◌}
use Rattle.cb_term.specs.Tree.{TermTree, Var, Bound, Num, Truth, Elem, Bin, Neg, Card, Listed, Elems, Truths, Test, TermTrees, End, More, FormulaTree, True, False, Rel, Not, And, Or, Implies, Iff, Every, Exist}

abbrev mutual
  pub term_nodes : TermTree → ℕ
  term_nodes (Var x) = 1
  term_nodes (Bound k) = 1
  term_nodes (Num n) = 1
  term_nodes (Truth b) = 1
  term_nodes (Elem set index) = 1
  term_nodes (Bin sign a b) = term_nodes a + term_nodes b + 1
  term_nodes (Neg a) = term_nodes a + 1
  term_nodes (Card a) = term_nodes a + 1
  term_nodes (Listed ts) = terms_nodes ts + 1
  term_nodes (Elems set) = 1
  term_nodes Truths = 1
  term_nodes (Test f) = formula_nodes f + 1

  pub terms_nodes : TermTrees → ℕ
  terms_nodes End = 0
  terms_nodes (More t ts) = term_nodes t + terms_nodes ts

  pub formula_nodes : FormulaTree → ℕ
  formula_nodes True = 1
  formula_nodes False = 1
  formula_nodes (Rel sign a b) = term_nodes a + term_nodes b + 1
  formula_nodes (Not f) = formula_nodes f + 1
  formula_nodes (And f g) = formula_nodes f + formula_nodes g + 1
  formula_nodes (Or f g) = formula_nodes f + formula_nodes g + 1
  formula_nodes (Implies f g) = formula_nodes f + formula_nodes g + 1
  formula_nodes (Iff f g) = formula_nodes f + formula_nodes g + 1
  formula_nodes (Every x kind f) = formula_nodes f + 1
  formula_nodes (Exist x kind f) = formula_nodes f + 1
