-- A changed tree means what the tree means with the values of what has been put in. R tells, at each depth, which values of
-- bound variables belong together.
use Rattle.std.proofs.Common.{ℕ, ◌+◌, List, ◌∷◌, ◌↔◌, IsTrue, ℤ, slice_index_or}
use Rattle.cb_term.specs.declared.name.Name.{Name}
use Rattle.cb_term.specs.declared.value.Value.{Value}
use Rattle.cb_term.specs.declared.value.Value.TheVariants as value
use Rattle.cb_term.specs.Tree.{TermTree, Var, Bound, Num, Truth, Elem, Bin, Neg, Card, Listed, Elems, Truths, Test, TermTrees, End, More, FormulaTree, True, False, Rel, Not, And, Or, Implies, Iff, Every, Exist}
use Rattle.cb_term.specs.Sets.{insert}
use Rattle.cb_term.specs.Values.{Look, nothing, item, bin, neg, card, rel}
use Rattle.cb_term.specs.Holds.{Meets, MeetsAll, Holds, IsValue}
use Rattle.cb_term.specs.Change.{mapped_term, mapped_terms, mapped_formula}
use Rattle.cb_term.proofs.Equivalences.{stays, then_iff, not_iff, and_iff, implies_iff, iff_iff, each_iff, test_iff}
use Rattle.cb_term.proofs.HoldsLemmas.{IsStable, true_stable, meets_stable, all_stable, value_iff, meets_iff}

module _ (sizes : List ℕ) (look look' : Look) (names : ℕ → Name → TermTree) (bounds : ℕ → ℕ → TermTree)
    (R : ℕ → List Value → List Value → Type 0)
    (grows : (k : ℕ) (env env' : List Value) (v : Value) → R k env env' → R (k + 1) (v ∷ env) (v ∷ env'))
    (names_are : (k : ℕ) (y : Name) (env env' : List Value) → R k env env' → IsValue sizes look (names k y) env (look' y))
    (bounds_are : (k j : ℕ) (env env' : List Value) → R k env env' → IsValue sizes look (bounds k j) env (slice_index_or env' j nothing)) where
  mutual
    pub mapped_meets : (a : TermTree) (k : ℕ) (env env' : List Value) (P : Value → Type 0) → R k env env' → ((v : Value) → IsStable (P v)) →
        Meets sizes look (mapped_term names bounds k a) env P ↔ Meets sizes look' a env' P
    mapped_meets (Var y) k env env' P r st = value_iff sizes look (names k y) env (look' y) P (st _) (names_are k y env env' r)
    mapped_meets (Bound j) k env env' P r st = value_iff sizes look (bounds k j) env _ P (st _) (bounds_are k j env env' r)
    mapped_meets (Num n) k env env' P r st = stays
    mapped_meets (Truth b) k env env' P r st = stays
    mapped_meets (Elem s i) k env env' P r st = stays
    mapped_meets (Elems s) k env env' P r st = stays
    mapped_meets Truths k env env' P r st = stays
    mapped_meets (Bin s a b) k env env' P r st = then_iff
        (meets_iff sizes look (mapped_term names bounds k a) env _ _ (λ u. mapped_meets b k env env' (λ w. P (bin s u w)) r (λ w. st (bin s u w))))
        (mapped_meets a k env env' (λ u. Meets sizes look' b env' (λ w. P (bin s u w))) r (λ u. meets_stable sizes look' b env' _ (λ w. st (bin s u w))))
    mapped_meets (Neg a) k env env' P r st = mapped_meets a k env env' (λ u. P (neg u)) r (λ u. st (neg u))
    mapped_meets (Card a) k env env' P r st = mapped_meets a k env env' (λ u. P (card u)) r (λ u. st (card u))
    mapped_meets (Listed ts) k env env' P r st = mapped_all ts k env env' (λ xs. P (value.Set xs)) r (λ xs. st (value.Set xs))
    mapped_meets (Test f) k env env' P r st = test_iff (mapped_holds ⊥ f k env env' r)

    pub mapped_all : (ts : TermTrees) (k : ℕ) (env env' : List Value) (P : List ℤ → Type 0) → R k env env' → ((xs : List ℤ) → IsStable (P xs)) →
        MeetsAll sizes look (mapped_terms names bounds k ts) env P ↔ MeetsAll sizes look' ts env' P
    mapped_all End k env env' P r st = stays
    mapped_all (More t ts) k env env' P r st = then_iff
        (meets_iff sizes look (mapped_term names bounds k t) env _ _ (λ u. mapped_all ts k env env' (λ xs. P (insert (item u) xs)) r (λ xs. st (insert (item u) xs))))
        (mapped_meets t k env env' (λ u. MeetsAll sizes look' ts env' (λ xs. P (insert (item u) xs))) r (λ u. all_stable sizes look' ts env' _ (λ xs. st (insert (item u) xs))))

    -- X is there for the block's functions to lie in one universe
    pub mapped_holds : (X : Type 0) (f : FormulaTree) (k : ℕ) (env env' : List Value) → R k env env' → Holds sizes look (mapped_formula names bounds k f) env ↔ Holds sizes look' f env'
    mapped_holds X True k env env' r = stays
    mapped_holds X False k env env' r = stays
    mapped_holds X (Rel s a b) k env env' r = then_iff
        (meets_iff sizes look (mapped_term names bounds k a) env _ _ (λ u. mapped_meets b k env env' (λ w. IsTrue (rel s u w)) r (λ w. true_stable (rel s u w))))
        (mapped_meets a k env env' (λ u. Meets sizes look' b env' (λ w. IsTrue (rel s u w))) r (λ u. meets_stable sizes look' b env' _ (λ w. true_stable (rel s u w))))
    mapped_holds X (Not f) k env env' r = not_iff (mapped_holds X f k env env' r)
    mapped_holds X (And f g) k env env' r = and_iff (mapped_holds X f k env env' r) (mapped_holds X g k env env' r)
    mapped_holds X (Or f g) k env env' r = not_iff (and_iff (not_iff (mapped_holds X f k env env' r)) (not_iff (mapped_holds X g k env env' r)))
    mapped_holds X (Implies f g) k env env' r = implies_iff (mapped_holds X f k env env' r) (mapped_holds X g k env env' r)
    mapped_holds X (Iff f g) k env env' r = iff_iff (mapped_holds X f k env env' r) (mapped_holds X g k env env' r)
    mapped_holds X (Every x kind f) k env env' r = each_iff (λ v. mapped_holds X f (k + 1) (v ∷ env) (v ∷ env') (grows k env env' v r))
    mapped_holds X (Exist x kind f) k env env' r = not_iff (each_iff (λ v. not_iff (mapped_holds X f (k + 1) (v ∷ env) (v ∷ env') (grows k env env' v r))))
