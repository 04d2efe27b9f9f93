-- A tree whose loose bound variables are below k reads the first k values alone.
use Rattle.std.proofs.Common.{◌≡◌, ℕ, zero, suc, ◌+◌, ◌<◌, List, [], ◌∷◌, ◌↔◌, IsTrue, ℤ, refl, sym, subst, slice_index_or, arith}
use Rattle.cb_term.specs.declared.value.Value.{Value}
use Rattle.cb_term.specs.declared.value.Value.TheVariants as value
use Rattle.cb_term.specs.Tree.{TermTree, Var, Bound, Num, Truth, Elem, Bin, Neg, Card, Listed, Elems, Truths, Test, TermTrees, End, More, FormulaTree, True, False, Rel, Not, And, Or, Implies, Iff, Every, Exist}
use Rattle.cb_term.specs.Sets.{insert}
use Rattle.cb_term.specs.Values.{Look, nothing, item, bin, neg, card, rel}
use Rattle.cb_term.specs.Holds.{Meets, MeetsAll, Holds, IsValue}
use Rattle.cb_term.specs.Closed.{IsClosedTerm, AreClosedTerms, IsClosed}
use Rattle.cb_term.proofs.Equivalences.{stays, then_iff, not_iff, and_iff, implies_iff, iff_iff, each_iff, test_iff}
use Rattle.cb_term.proofs.HoldsLemmas.{meets_iff}

abbrev Agree : ℕ → List Value → List Value → Type 0
Agree k env env' = (j : ℕ) → j < k → slice_index_or env j nothing ≡ slice_index_or env' j nothing

agree_more : (k : ℕ) (env env' : List Value) (v : Value) → Agree k env env' → Agree (k + 1) (v ∷ env) (v ∷ env')
agree_more k env env' v h zero lt = refl
agree_more k env env' v h (suc j) lt = h j (omega arith)

module _ (sizes : List ℕ) (look : Look) where
  mutual
    pub closed_meets : (a : TermTree) (k : ℕ) (env env' : List Value) (P : Value → Type 0) → Agree k env env' → IsClosedTerm k a →
        Meets sizes look a env P ↔ Meets sizes look a env' P
    closed_meets (Bound j) k env env' P r c = (subst P (r j c), subst P (sym (r j c)))
    closed_meets (Var y) k env env' P r c = stays
    closed_meets (Num n) k env env' P r c = stays
    closed_meets (Truth b) k env env' P r c = stays
    closed_meets (Elem s i) k env env' P r c = stays
    closed_meets (Elems s) k env env' P r c = stays
    closed_meets Truths k env env' P r c = stays
    closed_meets (Bin s a b) k env env' P r c = then_iff
        (meets_iff sizes look a env _ _ (λ u. closed_meets b k env env' (λ w. P (bin s u w)) r c.1))
        (closed_meets a k env env' (λ u. Meets sizes look b env' (λ w. P (bin s u w))) r c.0)
    closed_meets (Neg a) k env env' P r c = closed_meets a k env env' (λ u. P (neg u)) r c
    closed_meets (Card a) k env env' P r c = closed_meets a k env env' (λ u. P (card u)) r c
    closed_meets (Listed ts) k env env' P r c = closed_all ts k env env' (λ xs. P (value.Set xs)) r c
    closed_meets (Test f) k env env' P r c = test_iff (closed_holds ⊥ f k env env' r c)

    pub closed_all : (ts : TermTrees) (k : ℕ) (env env' : List Value) (P : List ℤ → Type 0) → Agree k env env' → AreClosedTerms k ts →
        MeetsAll sizes look ts env P ↔ MeetsAll sizes look ts env' P
    closed_all End k env env' P r c = stays
    closed_all (More t ts) k env env' P r c = then_iff
        (meets_iff sizes look t env _ _ (λ u. closed_all ts k env env' (λ xs. P (insert (item u) xs)) r c.1))
        (closed_meets t k env env' (λ u. MeetsAll sizes look ts env' (λ xs. P (insert (item u) xs))) r c.0)

    -- X is there for the block's functions to lie in one universe
    pub closed_holds : (X : Type 0) (f : FormulaTree) (k : ℕ) (env env' : List Value) → Agree k env env' → IsClosed k f →
        Holds sizes look f env ↔ Holds sizes look f env'
    closed_holds X True k env env' r c = stays
    closed_holds X False k env env' r c = stays
    closed_holds X (Rel s a b) k env env' r c = then_iff
        (meets_iff sizes look a env _ _ (λ u. closed_meets b k env env' (λ w. IsTrue (rel s u w)) r c.1))
        (closed_meets a k env env' (λ u. Meets sizes look b env' (λ w. IsTrue (rel s u w))) r c.0)
    closed_holds X (Not f) k env env' r c = not_iff (closed_holds X f k env env' r c)
    closed_holds X (And f g) k env env' r c = and_iff (closed_holds X f k env env' r c.0) (closed_holds X g k env env' r c.1)
    closed_holds X (Or f g) k env env' r c = not_iff (and_iff (not_iff (closed_holds X f k env env' r c.0)) (not_iff (closed_holds X g k env env' r c.1)))
    closed_holds X (Implies f g) k env env' r c = implies_iff (closed_holds X f k env env' r c.0) (closed_holds X g k env env' r c.1)
    closed_holds X (Iff f g) k env env' r c = iff_iff (closed_holds X f k env env' r c.0) (closed_holds X g k env env' r c.1)
    closed_holds X (Every x kind f) k env env' r c = each_iff (λ v. closed_holds X f (k + 1) (v ∷ env) (v ∷ env') (agree_more k env env' v r) c)
    closed_holds X (Exist x kind f) k env env' r c = not_iff (each_iff (λ v. not_iff (closed_holds X f (k + 1) (v ∷ env) (v ∷ env') (agree_more k env env' v r) c)))

  pub value_closed : (t : TermTree) (v : Value) → IsClosedTerm 0 t → IsValue sizes look t [] v → (env : List Value) → IsValue sizes look t env v
  value_closed t v c is env = (closed_meets t 0 [] env (λ w. w ≡ v) (λ j lt. absurd (omega arith)) c).0 is
