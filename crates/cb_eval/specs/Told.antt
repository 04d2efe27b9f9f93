-- Which formulas have a truth that their numbers and sets alone tell: they have no name, no loose variable and no quantifier, no
-- number in them passes 2^100 in size, and no set in them has more than 256 items. A range directly to the right of `:` or `<:` may
-- have any size. `sizes` has the number of elements of each enumerated set.
use Rattle.std.specs.Prelude.{ℕ, Bool, true, false, List, [], length, nat_le, IsTrue, ⊤}
use Rattle.cb_term.specs.declared.value.Value.{Value}
use Rattle.cb_term.specs.declared.value.Value.TheVariants as value
use Rattle.cb_term.specs.Tree.{TermTree, Var, Bound, Num, Truth, Elem, Bin, Neg, Card, Listed, Elems, Truths, Test, TermTrees, End, More, FormulaTree, True, False, Rel, Not, And, Or, Implies, Iff, Every, Exist}
use Rattle.cb_term.specs.Values.{Look}
use Rattle.cb_term.specs.Holds.{Meets}
use Rattle.cb_spec.specs.TypedTerms.{is_membership, is_free_range, Unless}
use Rattle.cb_eval.specs.ClosedTruth.{is_small}

-- a number of a size of at most 2^100, a set of at most 256 items
abbrev pub is_small_value : Value → Bool
is_small_value (value.Int n) = is_small n
is_small_value (value.Set xs) = nat_le (length xs) 256
is_small_value v = true

-- whatever names stand for, the value of the term is small
abbrev pub HasSmallValue : List ℕ → TermTree → Type 0
HasSmallValue sizes t = (look : Look) → Meets sizes look t [] (λ v. IsTrue (is_small_value v))

module _ (sizes : List ℕ) where
  abbrev mutual
    -- the term stands directly to the right of `:` or `<:`, or it does not
    pub IsToldTerm : (on_right : Bool) → TermTree → Type 0
    IsToldTerm on_right (Var x) = ⊥
    IsToldTerm on_right (Bound j) = ⊥
    IsToldTerm on_right (Num n) = HasSmallValue sizes (Num n)
    IsToldTerm on_right (Truth b) = ⊤
    IsToldTerm on_right (Elem set index) = ⊤
    IsToldTerm on_right (Bin sign a b) = IsToldTerm false a × IsToldTerm false b × Unless (is_free_range on_right sign) (HasSmallValue sizes (Bin sign a b))
    IsToldTerm on_right (Neg a) = IsToldTerm false a × HasSmallValue sizes (Neg a)
    IsToldTerm on_right (Card a) = IsToldTerm false a × HasSmallValue sizes (Card a)
    IsToldTerm on_right (Listed ts) = AreToldTerms ts × HasSmallValue sizes (Listed ts)
    IsToldTerm on_right (Elems set) = HasSmallValue sizes (Elems set)
    IsToldTerm on_right Truths = ⊤
    IsToldTerm on_right (Test f) = IsTold f

    pub AreToldTerms : TermTrees → Type 0
    AreToldTerms End = ⊤
    AreToldTerms (More t ts) = IsToldTerm false t × AreToldTerms ts

    pub IsTold : FormulaTree → Type 0
    IsTold True = ⊤
    IsTold False = ⊤
    IsTold (Rel sign a b) = IsToldTerm false a × IsToldTerm (is_membership sign) b
    IsTold (Not f) = IsTold f
    IsTold (And f g) = IsTold f × IsTold g
    IsTold (Or f g) = IsTold f × IsTold g
    IsTold (Implies f g) = IsTold f × IsTold g
    IsTold (Iff f g) = IsTold f × IsTold g
    IsTold (Every x kind f) = ⊥
    IsTold (Exist x kind f) = ⊥
