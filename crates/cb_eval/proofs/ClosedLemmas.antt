-- Where no name is known, what is worked out is the truth of a closed formula.
use Rattle.std.proofs.Common.{◌≡◌, ℕ, Bool, true, false, List, Option, Some, None, refl}
use Rattle.std.specs.Prelude.{slice_get}
use Rattle.cb_term.specs.declared.value.Value.{Value}
use Rattle.cb_term.specs.declared.value.Value.TheVariants as value
use Rattle.cb_term.specs.Tree.{TermTree, Var, Bound, Num, Truth, Elem, Bin, Neg, Card, Listed, Elems, Truths, Test, TermTrees, End, More, FormulaTree, True, False, Rel, Not, And, Or, Implies, Iff, Every, Exist}
use Rattle.cb_term.specs.Values.{Look, bin, neg, card}
use Rattle.cb_spec.specs.TypedTerms.{is_membership, is_free_range}
use Rattle.cb_eval.specs.ClosedTruth as closed
use Rattle.cb_eval.specs.ClosedTruth.{closed_value, closed_items, closed_truth, with_one, with_two}
use Rattle.cb_eval.specs.Evaluation.{kept, kept_unless, value_in, items_in, truth_in}

kept_same : (v : Value) → kept false v ≡ closed.kept v
kept_same (value.Int n) = refl
kept_same (value.Truth b) = refl
kept_same (value.Elem k) = refl
kept_same (value.Set xs) = refl

unless_same : (free : Bool) (v : Value) → kept_unless free false v ≡ closed.kept_unless free v
unless_same true v = refl
unless_same false v = kept_same v

one_same : {A B : Type 0} (o p : Option A) (g h : A → Option B) → o ≡ p → ((a : A) → g a ≡ h a) → with_one o g ≡ with_one p h
one_same o p g h e same = λ i. with_one (e i) (λ a. same a i)

two_same : {A B C : Type 0} (o p : Option A) (q r : Option B) (g h : A → B → Option C) → o ≡ p → q ≡ r → ((a : A) (b : B) → g a b ≡ h a b) → with_two o q g ≡ with_two p r h
two_same o p q r g h e f same = λ i. with_two (e i) (f i) (λ a b. same a b i)

none_after : {A B : Type 0} (o : Option A) → with_one {B = B} o (λ a. None) ≡ None
none_after None = refl
none_after (Some a) = refl

module _ (sizes : List ℕ) (look : Look) (env : List Value) where
  mutual
    pub value_exact : (on_right : Bool) (t : TermTree) → value_in sizes false look on_right env t ≡ closed_value sizes on_right t
    value_exact on_right (Var x) = refl
    value_exact on_right (Bound j) = none_after (slice_get env j)
    value_exact on_right (Num n) = refl
    value_exact on_right (Truth b) = refl
    value_exact on_right (Elem set index) = refl
    value_exact on_right (Bin sign a b) =
        two_same _ _ _ _ _ _ (value_exact false a) (value_exact false b) (λ u v. unless_same (is_free_range on_right sign) (bin sign u v))
    value_exact on_right (Neg a) = one_same _ _ _ _ (value_exact false a) (λ u. kept_same (neg u))
    value_exact on_right (Card a) = one_same _ _ _ _ (value_exact false a) (λ u. kept_same (card u))
    value_exact on_right (Listed ts) = one_same _ _ _ _ (items_exact ts) (λ xs. refl)
    value_exact on_right (Elems set) = refl
    value_exact on_right Truths = refl
    value_exact on_right (Test f) = one_same _ _ _ _ (truth_exact f) (λ b. refl)

    pub items_exact : (ts : TermTrees) → items_in sizes false look env ts ≡ closed_items sizes ts
    items_exact End = refl
    items_exact (More t ts) = two_same _ _ _ _ _ _ (value_exact false t) (items_exact ts) (λ u xs. refl)

    pub truth_exact : (f : FormulaTree) → truth_in sizes false look env f ≡ closed_truth sizes f
    truth_exact True = refl
    truth_exact False = refl
    truth_exact (Rel sign a b) = two_same _ _ _ _ _ _ (value_exact false a) (value_exact (is_membership sign) b) (λ u v. refl)
    truth_exact (Not f) = one_same _ _ _ _ (truth_exact f) (λ p. refl)
    truth_exact (And f g) = two_same _ _ _ _ _ _ (truth_exact f) (truth_exact g) (λ p q. refl)
    truth_exact (Or f g) = two_same _ _ _ _ _ _ (truth_exact f) (truth_exact g) (λ p q. refl)
    truth_exact (Implies f g) = two_same _ _ _ _ _ _ (truth_exact f) (truth_exact g) (λ p q. refl)
    truth_exact (Iff f g) = two_same _ _ _ _ _ _ (truth_exact f) (truth_exact g) (λ p q. refl)
    truth_exact (Every x kind f) = refl
    truth_exact (Exist x kind f) = refl
