-- One term in the places of another with the same value keeps what a tree means.
use Rattle.std.proofs.Common.{◌≡◌, ℕ, Bool, true, false, List, [], ◌∷◌, map, ◌↔◌, IsTrue, ℤ, refl, ap, if◌then◌else◌}
use Rattle.cb_term.specs.declared.value.Value.{Value}
use Rattle.cb_term.specs.declared.value.Value.TheVariants as value
use Rattle.cb_term.specs.Tree.{TermTree, Var, Bound, Num, Truth, Elem, Bin, Neg, Card, Listed, Elems, Truths, Test, TermTrees, End, More, trees_of, FormulaTree, True, False, Rel, Not, And, Or, Implies, Iff, Every, Exist}
use Rattle.cb_term.specs.Sets.{insert}
use Rattle.cb_term.specs.Values.{Look, item, bin, neg, card, rel}
use Rattle.cb_term.specs.Holds.{Meets, MeetsAll, Holds, IsValue}
use Rattle.cb_term.specs.Same.{same_term}
use Rattle.cb_term.proofs.Equivalences.{stays, then_iff, not_iff, and_iff, implies_iff, iff_iff, each_iff, test_iff}
use Rattle.cb_term.proofs.HoldsLemmas.{IsStable, true_stable, meets_stable, all_stable, value_iff, meets_iff}
use Rattle.cb_term.proofs.SameLemmas.{same_meets}
use Rattle.cb_check_names.specs.Replace.{replaced_term, replaced_terms, replaced}

pub replaced_trees : (s t : TermTree) (ts : List TermTree) → replaced_terms s t (trees_of ts) ≡ trees_of (map (replaced_term s t) ts)
replaced_trees s t [] = refl
replaced_trees s t (a ∷ ts) = ap (More (replaced_term s t a)) (replaced_trees s t ts)

-- s and t have the value v, whatever the bound variables' values
module _ (sizes : List ℕ) (look : Look) (s t : TermTree) (v : Value)
    (is_s : (env : List Value) → IsValue sizes look s env v) (is_t : (env : List Value) → IsValue sizes look t env v) where
  abbrev AsBefore : TermTree → TermTree → List Value → (Value → Type 0) → Type 0
  AsBefore a' a env P = Meets sizes look a' env P ↔ Meets sizes look a env P

  back : {A B C : Type 0} → (A ↔ B) → (C ↔ B) → A ↔ C
  back p q = ((λ a. q.1 (p.0 a)), (λ c. p.1 (q.0 c)))

  at_test : (a a' : TermTree) (env : List Value) (P : Value → Type 0) → IsStable (P v) → AsBefore a' a env P → AsBefore (if same_term a s then t else a') a env P
  at_test a a' env P st r = by (same_term a s) refl
    where
      by : (b : Bool) → same_term a s ≡ b → AsBefore (if b then t else a') a env P
      by true e = back (value_iff sizes look t env v P st (is_t env)) (then_iff (same_meets sizes look a s e env P) (value_iff sizes look s env v P st (is_s env)))
      by false e = r

  mutual
    pub replaced_meets : (a : TermTree) (env : List Value) (P : Value → Type 0) → ((w : Value) → IsStable (P w)) → Meets sizes look (replaced_term s t a) env P ↔ Meets sizes look a env P
    replaced_meets (Bin g a b) env P st = at_test (Bin g a b) (Bin g (replaced_term s t a) (replaced_term s t b)) env P (st v) (then_iff
        (meets_iff sizes look (replaced_term s t a) env _ _ (λ u. replaced_meets b env (λ w. P (bin g u w)) (λ w. st (bin g u w))))
        (replaced_meets a env (λ u. Meets sizes look b env (λ w. P (bin g u w))) (λ u. meets_stable sizes look b env _ (λ w. st (bin g u w)))))
    replaced_meets (Neg a) env P st = at_test (Neg a) (Neg (replaced_term s t a)) env P (st v) (replaced_meets a env (λ u. P (neg u)) (λ u. st (neg u)))
    replaced_meets (Card a) env P st = at_test (Card a) (Card (replaced_term s t a)) env P (st v) (replaced_meets a env (λ u. P (card u)) (λ u. st (card u)))
    replaced_meets (Listed ts) env P st = at_test (Listed ts) (Listed (replaced_terms s t ts)) env P (st v) (replaced_all ts env (λ xs. P (value.Set xs)) (λ xs. st (value.Set xs)))
    replaced_meets (Test f) env P st = at_test (Test f) (Test (replaced s t f)) env P (st v) (test_iff (replaced_holds ⊥ f env))
    replaced_meets (Var x) env P st = at_test (Var x) (Var x) env P (st v) stays
    replaced_meets (Bound j) env P st = at_test (Bound j) (Bound j) env P (st v) stays
    replaced_meets (Num n) env P st = at_test (Num n) (Num n) env P (st v) stays
    replaced_meets (Truth b) env P st = at_test (Truth b) (Truth b) env P (st v) stays
    replaced_meets (Elem j k) env P st = at_test (Elem j k) (Elem j k) env P (st v) stays
    replaced_meets (Elems j) env P st = at_test (Elems j) (Elems j) env P (st v) stays
    replaced_meets Truths env P st = at_test Truths Truths env P (st v) stays

    pub replaced_all : (ts : TermTrees) (env : List Value) (P : List ℤ → Type 0) → ((xs : List ℤ) → IsStable (P xs)) → MeetsAll sizes look (replaced_terms s t ts) env P ↔ MeetsAll sizes look ts env P
    replaced_all End env P st = stays
    replaced_all (More a ts) env P st = then_iff
        (meets_iff sizes look (replaced_term s t a) env _ _ (λ u. replaced_all ts env (λ xs. P (insert (item u) xs)) (λ xs. st (insert (item u) xs))))
        (replaced_meets a env (λ u. MeetsAll sizes look ts env (λ xs. P (insert (item u) xs))) (λ u. all_stable sizes look ts env _ (λ xs. st (insert (item u) xs))))

    -- X is there for the block's functions to lie in one universe
    pub replaced_holds : (X : Type 0) (f : FormulaTree) (env : List Value) → Holds sizes look (replaced s t f) env ↔ Holds sizes look f env
    replaced_holds X True env = stays
    replaced_holds X False env = stays
    replaced_holds X (Rel g a b) env = then_iff
        (meets_iff sizes look (replaced_term s t a) env _ _ (λ u. replaced_meets b env (λ w. IsTrue (rel g u w)) (λ w. true_stable (rel g u w))))
        (replaced_meets a env (λ u. Meets sizes look b env (λ w. IsTrue (rel g u w))) (λ u. meets_stable sizes look b env _ (λ w. true_stable (rel g u w))))
    replaced_holds X (Not f) env = not_iff (replaced_holds X f env)
    replaced_holds X (And f g) env = and_iff (replaced_holds X f env) (replaced_holds X g env)
    replaced_holds X (Or f g) env = not_iff (and_iff (not_iff (replaced_holds X f env)) (not_iff (replaced_holds X g env)))
    replaced_holds X (Implies f g) env = implies_iff (replaced_holds X f env) (replaced_holds X g env)
    replaced_holds X (Iff f g) env = iff_iff (replaced_holds X f env) (replaced_holds X g env)
    replaced_holds X (Every x k f) env = each_iff (λ w. replaced_holds X f (w ∷ env))
    replaced_holds X (Exist x k f) env = not_iff (each_iff (λ w. not_iff (replaced_holds X f (w ∷ env))))
