-- The value of a term, and when a formula holds, over whole numbers of any size. `sizes` has the number of elements of
-- each enumerated set, `look` the values of names, and `env` those of the bound variables, the innermost first.
use Rattle.std.specs.Prelude.{ℕ, ◌≡◌, ℤ, pos, Bool, List, [], ◌∷◌, ◌↔◌, IsTrue, slice_index_or, ⊤}
use Rattle.cb_term.specs.Tree.{TermTree, Var, Bound, Num, Truth, Elem, Bin, Neg, Card, Listed, Elems, Truths, Test, TermTrees, End, More, FormulaTree, True, False, Rel, Not, And, Or, Implies, Iff, Every, Exist}
use Rattle.cb_term.specs.Sets.{insert, upwards}
use Rattle.cb_term.specs.Values.{Look, nothing, item, bin, neg, card, rel, size_of_set, IsOf}
use Rattle.cb_term.specs.declared.value.Value.{Value}
use Rattle.cb_term.specs.declared.value.Value.TheVariants as value

module _ (sizes : List ℕ) (look : Look) where
  abbrev mutual
    -- the value of the term meets P. A value is told in this way, and not computed, since `bool(F)` may ask for every whole
    -- number: its truth value is the b that agrees with F
    pub Meets : TermTree → List Value → (Value → Type 0) → Type 0
    Meets (Var x) env P = P (look x)
    Meets (Bound k) env P = P (slice_index_or env k nothing)
    Meets (Num n) env P = P (value.Int n)
    Meets (Truth b) env P = P (value.Truth b)
    Meets (Elem set index) env P = P (value.Elem index)
    Meets (Bin sign a b) env P = Meets a env (λ u. Meets b env (λ v. P (bin sign u v)))
    Meets (Neg a) env P = Meets a env (λ u. P (neg u))
    Meets (Card a) env P = Meets a env (λ u. P (card u))
    Meets (Listed ts) env P = MeetsAll ts env (λ xs. P (value.Set xs))
    Meets (Elems set) env P = P (value.Set (upwards (pos 0) (size_of_set sizes set)))
    Meets Truths env P = P (value.Set (pos 0 ∷ pos 1 ∷ []))
    Meets (Test f) env P = (b : Bool) → (IsTrue b ↔ Holds f env) → P (value.Truth b)

    -- the set of the terms' values meets P
    pub MeetsAll : TermTrees → List Value → (List ℤ → Type 0) → Type 0
    MeetsAll End env P = P []
    MeetsAll (More t ts) env P = Meets t env (λ u. MeetsAll ts env (λ xs. P (insert (item u) xs)))

    -- the formula holds. `Or` says that not both sides fail, and `Exist` that not each value fails: so what cannot fail holds
    pub Holds : FormulaTree → List Value → Type 0
    Holds True env = ⊤
    Holds False env = ⊥
    Holds (Rel sign a b) env = Meets a env (λ u. Meets b env (λ v. IsTrue (rel sign u v)))
    Holds (Not f) env = ¬ Holds f env
    Holds (And f g) env = Holds f env × Holds g env
    Holds (Or f g) env = ¬ (¬ Holds f env × ¬ Holds g env)
    Holds (Implies f g) env = Holds f env → Holds g env
    Holds (Iff f g) env = Holds f env ↔ Holds g env
    Holds (Every x kind f) env = (v : Value) → IsOf sizes kind v → Holds f (v ∷ env)
    Holds (Exist x kind f) env = ¬ ((v : Value) → IsOf sizes kind v → ¬ Holds f (v ∷ env))

-- the term has the value v
abbrev pub IsValue : List ℕ → Look → TermTree → List Value → Value → Type 0
IsValue sizes look t env v = Meets sizes look t env (λ w. w ≡ v)
