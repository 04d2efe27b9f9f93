-- Terms in the places of names and of bound variables.
use Rattle.std.specs.Prelude.{ℕ, ◌+◌, ◌==◌, if◌then◌else◌}
use Rattle.cb_term.specs.declared.name.Name.{Name}
use Rattle.cb_term.specs.Names.{same_name}
use Rattle.cb_term.specs.Tree.{TermTree, Var, Bound, Num, Truth, Elem, Bin, Neg, Card, Listed, Elems, Truths, Test, TermTrees, End, More, FormulaTree, True, False, Rel, Not, And, Or, Implies, Iff, Every, Exist}

-- the tree with `names k y` in the place of the name y, and `bounds k j` in that of the bound variable j, where k binders
-- stand around them. A term with bound variables goes under binders by what it is at depth k: nothing is captured
module _ (names : ℕ → Name → TermTree) (bounds : ℕ → ℕ → TermTree) where
  abbrev mutual
    pub mapped_term : ℕ → TermTree → TermTree
    mapped_term k (Var y) = names k y
    mapped_term k (Bound j) = bounds k j
    mapped_term k (Num n) = Num n
    mapped_term k (Truth b) = Truth b
    mapped_term k (Elem set index) = Elem set index
    mapped_term k (Bin sign a b) = Bin sign (mapped_term k a) (mapped_term k b)
    mapped_term k (Neg a) = Neg (mapped_term k a)
    mapped_term k (Card a) = Card (mapped_term k a)
    mapped_term k (Listed ts) = Listed (mapped_terms k ts)
    mapped_term k (Elems set) = Elems set
    mapped_term k Truths = Truths
    mapped_term k (Test f) = Test (mapped_formula k f)

    pub mapped_terms : ℕ → TermTrees → TermTrees
    mapped_terms k End = End
    mapped_terms k (More a ts) = More (mapped_term k a) (mapped_terms k ts)

    pub mapped_formula : ℕ → FormulaTree → FormulaTree
    mapped_formula k True = True
    mapped_formula k False = False
    mapped_formula k (Rel sign a b) = Rel sign (mapped_term k a) (mapped_term k b)
    mapped_formula k (Not f) = Not (mapped_formula k f)
    mapped_formula k (And f g) = And (mapped_formula k f) (mapped_formula k g)
    mapped_formula k (Or f g) = Or (mapped_formula k f) (mapped_formula k g)
    mapped_formula k (Implies f g) = Implies (mapped_formula k f) (mapped_formula k g)
    mapped_formula k (Iff f g) = Iff (mapped_formula k f) (mapped_formula k g)
    mapped_formula k (Every y kind f) = Every y kind (mapped_formula (k + 1) f)
    mapped_formula k (Exist y kind f) = Exist y kind (mapped_formula (k + 1) f)

-- t in the place of the name x
abbrev pub for_name : Name → TermTree → ℕ → Name → TermTree
for_name x t k y = if same_name y x then t else Var y

-- t in the place of the variable that is bound just outside the tree
abbrev pub for_outermost : TermTree → ℕ → ℕ → TermTree
for_outermost t k j = if j == k then t else Bound j

abbrev pub name_stays : ℕ → Name → TermTree
name_stays k y = Var y

abbrev pub bound_stays : ℕ → ℕ → TermTree
bound_stays k j = Bound j

-- the formula with t in the place of each free x
abbrev pub subst_formula : Name → TermTree → FormulaTree → FormulaTree
subst_formula x t f = mapped_formula (for_name x t) bound_stays 0 f

-- the formula with t in the place of the variable bound just outside it
abbrev pub open_formula : TermTree → FormulaTree → FormulaTree
open_formula t f = mapped_formula name_stays (for_outermost t) 0 f
