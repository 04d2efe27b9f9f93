-- Terms and formulas as plain trees. A bound variable is counted from the inside.
use Rattle.std.specs.Prelude.{ℕ, ℤ, Bool, List, [], ◌∷◌}
use Rattle.cb_term.specs.declared.name.Name.{Name}
use Rattle.cb_term.specs.declared.kind.Kind.{Kind}
use Rattle.cb_term.specs.declared.sign.TermSign.{TermSign}
use Rattle.cb_term.specs.declared.sign.RelSign.{RelSign}

mutual
  pub data TermTree : Type 0 where
    Var : Name → TermTree
    Bound : ℕ → TermTree
    Num : ℤ → TermTree
    Truth : Bool → TermTree
    Elem : ℕ → ℕ → TermTree
    Bin : TermSign → TermTree → TermTree → TermTree
    Neg : TermTree → TermTree
    Card : TermTree → TermTree
    Listed : TermTrees → TermTree
    Elems : ℕ → TermTree
    Truths : TermTree
    Test : FormulaTree → TermTree

  -- the list of a set's terms
  pub data TermTrees : Type 0 where
    End : TermTrees
    More : TermTree → TermTrees → TermTrees

  pub data FormulaTree : Type 0 where
    True : FormulaTree
    False : FormulaTree
    Rel : RelSign → TermTree → TermTree → FormulaTree
    Not : FormulaTree → FormulaTree
    And : FormulaTree → FormulaTree → FormulaTree
    Or : FormulaTree → FormulaTree → FormulaTree
    Implies : FormulaTree → FormulaTree → FormulaTree
    Iff : FormulaTree → FormulaTree → FormulaTree
    Every : Name → Kind → FormulaTree → FormulaTree
    Exist : Name → Kind → FormulaTree → FormulaTree

-- a list as the tree holds it
abbrev pub trees_of : List TermTree → TermTrees
trees_of [] = End
trees_of (t ∷ ts) = More t (trees_of ts)
