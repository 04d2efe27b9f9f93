-- How many binders stand around each other.
use Rattle.std.specs.Prelude.{ℕ, ◌+◌, max}
use Rattle.cb_lex.specs.RawTermTree.{RawTermTree, Number, Name, Atom, Binary, Minus, Card, TruthOf, Listed, RawTerms, End, More, RawFormulaTree, True, False, Not, And, Or, Implies, Equivalent, Relation, Every, Exists}
use Rattle.cb_lex.specs.RawSubstTree.{RawSubstTree, Skip, Assign, Among, If, IfElse, Choice, Any, Parallel, RawSubsts, NoSide, Side}

abbrev mutual
  pub term_depth : RawTermTree → ℕ
  term_depth (Number n p) = 0
  term_depth (Name x) = 0
  term_depth (Atom a p) = 0
  term_depth (Binary o p a b) = max (term_depth a) (term_depth b)
  term_depth (Minus p a) = term_depth a
  term_depth (Card p a) = term_depth a
  term_depth (TruthOf p f) = formula_depth f
  term_depth (Listed p ts) = terms_depth ts

  pub terms_depth : RawTerms → ℕ
  terms_depth End = 0
  terms_depth (More t ts) = max (term_depth t) (terms_depth ts)

  pub formula_depth : RawFormulaTree → ℕ
  formula_depth True = 0
  formula_depth False = 0
  formula_depth (Not f) = formula_depth f
  formula_depth (And f g) = max (formula_depth f) (formula_depth g)
  formula_depth (Or f g) = max (formula_depth f) (formula_depth g)
  formula_depth (Implies f g) = max (formula_depth f) (formula_depth g)
  formula_depth (Equivalent f g) = max (formula_depth f) (formula_depth g)
  formula_depth (Relation r p a b) = max (term_depth a) (term_depth b)
  formula_depth (Every x d f) = max (formula_depth d) (formula_depth f) + 1
  formula_depth (Exists x f) = formula_depth f + 1

abbrev mutual
  pub subst_depth : RawSubstTree → ℕ
  subst_depth Skip = 0
  subst_depth (Assign x t) = term_depth t
  subst_depth (Among x d) = 0
  subst_depth (If f s) = max (formula_depth f) (subst_depth s)
  subst_depth (IfElse f s t) = max (formula_depth f) (max (subst_depth s) (subst_depth t))
  subst_depth (Choice ss) = sides_depth ss
  subst_depth (Any x f s) = max (formula_depth f) (subst_depth s)
  subst_depth (Parallel s t) = max (subst_depth s) (subst_depth t)

  pub sides_depth : RawSubsts → ℕ
  sides_depth NoSide = 0
  sides_depth (Side s ss) = max (subst_depth s) (sides_depth ss)
