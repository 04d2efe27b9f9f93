-- One term in the places of another.
use Rattle.std.specs.Prelude.{if◌then◌else◌}
use Rattle.cb_term.specs.Same.{same_term}
use Rattle.cb_term.specs.Tree.{TermTree, Bin, Neg, Card, Listed, Test, TermTrees, End, More, FormulaTree, True, False, Rel, Not, And, Or, Implies, Iff, Every, Exist}

-- the tree with t in the place of each outermost s, also under binders: s and t have no loose variable. What is put in is not
-- looked at again
module _ (s t : TermTree) where
  abbrev mutual
    pub replaced_term : TermTree → TermTree
    replaced_term (Bin sign a b) = if same_term (Bin sign a b) s then t else Bin sign (replaced_term a) (replaced_term b)
    replaced_term (Neg a) = if same_term (Neg a) s then t else Neg (replaced_term a)
    replaced_term (Card a) = if same_term (Card a) s then t else Card (replaced_term a)
    replaced_term (Listed ts) = if same_term (Listed ts) s then t else Listed (replaced_terms ts)
    replaced_term (Test f) = if same_term (Test f) s then t else Test (replaced f)
    replaced_term a = if same_term a s then t else a

    pub replaced_terms : TermTrees → TermTrees
    replaced_terms End = End
    replaced_terms (More a ts) = More (replaced_term a) (replaced_terms ts)

    pub replaced : FormulaTree → FormulaTree
    replaced True = True
    replaced False = False
    replaced (Rel sign a b) = Rel sign (replaced_term a) (replaced_term b)
    replaced (Not f) = Not (replaced f)
    replaced (And f g) = And (replaced f) (replaced g)
    replaced (Or f g) = Or (replaced f) (replaced g)
    replaced (Implies f g) = Implies (replaced f) (replaced g)
    replaced (Iff f g) = Iff (replaced f) (replaced g)
    replaced (Every x kind f) = Every x kind (replaced f)
    replaced (Exist x kind f) = Exist x kind (replaced f)
