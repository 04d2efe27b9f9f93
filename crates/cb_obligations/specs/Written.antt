-- Trees whose names are as they are written, without a loose bound variable.
use Rattle.std.specs.Prelude.{◌≡◌, ⊤}
use Rattle.cb_term.specs.declared.name.Name.{Name}
use Rattle.cb_term.specs.Tree.{TermTree, Var, Bound, Num, Truth, Elem, Bin, Neg, Card, Listed, Elems, Truths, Test, TermTrees, FormulaTree, True, False, Rel, Not, And, Or, Implies, Iff, Every, Exist}
use Rattle.cb_term.specs.Tree as tree
use Rattle.cb_term.specs.Closed.{IsClosedTerm, IsClosed}
use Rattle.cb_spec.specs.SubstTree.{SubstTree, Skip, Assign, Together, Choice, If, AnyOf, SubstTrees, End, More}

-- each free name of the tree is one of these
module _ (These : Name → Type 0) where
  abbrev mutual
    pub EachNameOfTerm : TermTree → Type 0
    EachNameOfTerm (Var y) = These y
    EachNameOfTerm (Bound j) = ⊤
    EachNameOfTerm (Num n) = ⊤
    EachNameOfTerm (Truth b) = ⊤
    EachNameOfTerm (Elem set index) = ⊤
    EachNameOfTerm (Bin sign a b) = EachNameOfTerm a × EachNameOfTerm b
    EachNameOfTerm (Neg a) = EachNameOfTerm a
    EachNameOfTerm (Card a) = EachNameOfTerm a
    EachNameOfTerm (Listed ts) = EachNameOfTerms ts
    EachNameOfTerm (Elems set) = ⊤
    EachNameOfTerm Truths = ⊤
    EachNameOfTerm (Test f) = EachName f

    pub EachNameOfTerms : TermTrees → Type 0
    EachNameOfTerms tree.End = ⊤
    EachNameOfTerms (tree.More a ts) = EachNameOfTerm a × EachNameOfTerms ts

    pub EachName : FormulaTree → Type 0
    EachName True = ⊤
    EachName False = ⊤
    EachName (Rel sign a b) = EachNameOfTerm a × EachNameOfTerm b
    EachName (Not f) = EachName f
    EachName (And f g) = EachName f × EachName g
    EachName (Or f g) = EachName f × EachName g
    EachName (Implies f g) = EachName f × EachName g
    EachName (Iff f g) = EachName f × EachName g
    EachName (Every y kind f) = EachName f
    EachName (Exist y kind f) = EachName f

abbrev pub IsWritten : Name → Type 0
IsWritten x = x.number ≡ 0

abbrev pub IsPlainTerm : TermTree → Type 0
IsPlainTerm t = EachNameOfTerm IsWritten t × IsClosedTerm 0 t

abbrev pub IsPlain : FormulaTree → Type 0
IsPlain f = EachName IsWritten f × IsClosed 0 f

-- each name of the substitution is as written
abbrev mutual
  pub AsWritten : SubstTree → Type 0
  AsWritten Skip = ⊤
  AsWritten (Assign x e) = IsWritten x × IsPlainTerm e
  AsWritten (Together a b) = AsWritten a × AsWritten b
  AsWritten (Choice ss) = AsWrittenEach ss
  AsWritten (If p a b) = IsPlain p × (AsWritten a × AsWritten b)
  AsWritten (AnyOf z domain p s) = IsWritten z × (IsPlain p × AsWritten s)

  pub AsWrittenEach : SubstTrees → Type 0
  AsWrittenEach End = ⊤
  AsWrittenEach (More s ss) = AsWritten s × AsWrittenEach ss
