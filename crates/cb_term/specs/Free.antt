-- The names that stand free in a tree.
use Rattle.std.specs.Prelude.{Bool, false, ◌||◌}
use Rattle.cb_term.specs.declared.name.Name.{Name}
use Rattle.cb_term.specs.Names.{same_name}
use Rattle.cb_term.specs.Tree.{TermTree, Var, Bound, Num, Truth, Elem, Bin, Neg, Card, Listed, Elems, Truths, Test, TermTrees, End, More, FormulaTree, True, False, Rel, Not, And, Or, Implies, Iff, Every, Exist}

-- whether the name stands free in the tree
module _ (x : Name) where
  abbrev mutual
    pub free_in_term : TermTree → Bool
    free_in_term (Var y) = same_name y x
    free_in_term (Bound k) = false
    free_in_term (Num n) = false
    free_in_term (Truth b) = false
    free_in_term (Elem set index) = false
    free_in_term (Bin sign a b) = free_in_term a || free_in_term b
    free_in_term (Neg a) = free_in_term a
    free_in_term (Card a) = free_in_term a
    free_in_term (Listed ts) = free_in_terms ts
    free_in_term (Elems set) = false
    free_in_term Truths = false
    free_in_term (Test f) = free_in f

    pub free_in_terms : TermTrees → Bool
    free_in_terms End = false
    free_in_terms (More t ts) = free_in_term t || free_in_terms ts

    pub free_in : FormulaTree → Bool
    free_in True = false
    free_in False = false
    free_in (Rel sign a b) = free_in_term a || free_in_term b
    free_in (Not f) = free_in f
    free_in (And f g) = free_in f || free_in g
    free_in (Or f g) = free_in f || free_in g
    free_in (Implies f g) = free_in f || free_in g
    free_in (Iff f g) = free_in f || free_in g
    free_in (Every y kind f) = free_in f
    free_in (Exist y kind f) = free_in f
