-- Trees without loose bound variables.
use Rattle.std.specs.Prelude.{ℕ, ◌+◌, ◌<◌, ⊤}
use Rattle.cb_term.specs.Tree.{TermTree, Var, Bound, Num, Truth, Elem, Bin, Neg, Card, Listed, Elems, Truths, Test, TermTrees, End, More, FormulaTree, True, False, Rel, Not, And, Or, Implies, Iff, Every, Exist}

-- each bound variable of the tree is bound in it or is one of the k outside it
abbrev mutual
  pub IsClosedTerm : ℕ → TermTree → Type 0
  IsClosedTerm k (Var y) = ⊤
  IsClosedTerm k (Bound j) = j < k
  IsClosedTerm k (Num n) = ⊤
  IsClosedTerm k (Truth b) = ⊤
  IsClosedTerm k (Elem set index) = ⊤
  IsClosedTerm k (Bin sign a b) = IsClosedTerm k a × IsClosedTerm k b
  IsClosedTerm k (Neg a) = IsClosedTerm k a
  IsClosedTerm k (Card a) = IsClosedTerm k a
  IsClosedTerm k (Listed ts) = AreClosedTerms k ts
  IsClosedTerm k (Elems set) = ⊤
  IsClosedTerm k Truths = ⊤
  IsClosedTerm k (Test f) = IsClosed k f

  pub AreClosedTerms : ℕ → TermTrees → Type 0
  AreClosedTerms k End = ⊤
  AreClosedTerms k (More a ts) = IsClosedTerm k a × AreClosedTerms k ts

  pub IsClosed : ℕ → FormulaTree → Type 0
  IsClosed k True = ⊤
  IsClosed k False = ⊤
  IsClosed k (Rel sign a b) = IsClosedTerm k a × IsClosedTerm k b
  IsClosed k (Not f) = IsClosed k f
  IsClosed k (And f g) = IsClosed k f × IsClosed k g
  IsClosed k (Or f g) = IsClosed k f × IsClosed k g
  IsClosed k (Implies f g) = IsClosed k f × IsClosed k g
  IsClosed k (Iff f g) = IsClosed k f × IsClosed k g
  IsClosed k (Every y kind f) = IsClosed (k + 1) f
  IsClosed k (Exist y kind f) = IsClosed (k + 1) f
