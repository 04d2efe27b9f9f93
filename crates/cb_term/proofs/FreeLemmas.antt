-- A tree reads its free names alone.
use Rattle.std.proofs.Common.{◌≡◌, ℕ, Bool, true, false, ◌||◌, List, ◌∷◌, ◌↔◌, IsTrue, ℤ, refl, sym, subst}
use Rattle.cb_term.specs.declared.name.Name.{Name}
use Rattle.cb_term.specs.declared.value.Value.{Value}
use Rattle.cb_term.specs.declared.value.Value.TheVariants as value
use Rattle.cb_term.specs.Tree.{TermTree, Var, Bound, Num, Truth, Elem, Bin, Neg, Card, Listed, Elems, Truths, Test, TermTrees, End, More, FormulaTree, True, False, Rel, Not, And, Or, Implies, Iff, Every, Exist}
use Rattle.cb_term.specs.Sets.{insert}
use Rattle.cb_term.specs.Values.{Look, item, bin, neg, card, rel}
use Rattle.cb_term.specs.Holds.{Meets, MeetsAll, Holds}
use Rattle.cb_term.specs.Free.{free_in_term, free_in_terms, free_in}
use Rattle.cb_term.proofs.Equivalences.{stays, then_iff, not_iff, and_iff, implies_iff, iff_iff, each_iff, test_iff}
use Rattle.cb_term.proofs.HoldsLemmas.{meets_iff}
use Rattle.cb_term.proofs.ValueLemmas.{same_name_self}

pub or_left : (a b : Bool) → a ≡ true → (a || b) ≡ true
or_left true b e = refl
or_left false b e = cc

pub or_right : (a b : Bool) → b ≡ true → (a || b) ≡ true
or_right true b e = refl
or_right false b e = e

module _ (sizes : List ℕ) (look look' : Look) where
  abbrev AgreeTerm : TermTree → Type 0
  AgreeTerm t = (y : Name) → free_in_term y t ≡ true → look y ≡ look' y

  abbrev AgreeTerms : TermTrees → Type 0
  AgreeTerms ts = (y : Name) → free_in_terms y ts ≡ true → look y ≡ look' y

  abbrev Agree : FormulaTree → Type 0
  Agree f = (y : Name) → free_in y f ≡ true → look y ≡ look' y

  mutual
    pub agree_meets : (a : TermTree) (env : List Value) (P : Value → Type 0) → AgreeTerm a → Meets sizes look a env P ↔ Meets sizes look' a env P
    agree_meets (Var y) env P r = (subst P (r y (same_name_self y)), subst P (sym (r y (same_name_self y))))
    agree_meets (Bound j) env P r = stays
    agree_meets (Num n) env P r = stays
    agree_meets (Truth b) env P r = stays
    agree_meets (Elem s i) env P r = stays
    agree_meets (Elems s) env P r = stays
    agree_meets Truths env P r = stays
    agree_meets (Bin s a b) env P r = then_iff
        (meets_iff sizes look a env _ _ (λ u. agree_meets b env (λ w. P (bin s u w)) (λ y h. r y (or_right (free_in_term y a) (free_in_term y b) h))))
        (agree_meets a env (λ u. Meets sizes look' b env (λ w. P (bin s u w))) (λ y h. r y (or_left (free_in_term y a) (free_in_term y b) h)))
    agree_meets (Neg a) env P r = agree_meets a env (λ u. P (neg u)) r
    agree_meets (Card a) env P r = agree_meets a env (λ u. P (card u)) r
    agree_meets (Listed ts) env P r = agree_all ts env (λ xs. P (value.Set xs)) r
    agree_meets (Test f) env P r = test_iff (agree_holds ⊥ f env r)

    pub agree_all : (ts : TermTrees) (env : List Value) (P : List ℤ → Type 0) → AgreeTerms ts → MeetsAll sizes look ts env P ↔ MeetsAll sizes look' ts env P
    agree_all End env P r = stays
    agree_all (More t ts) env P r = then_iff
        (meets_iff sizes look t env _ _ (λ u. agree_all ts env (λ xs. P (insert (item u) xs)) (λ y h. r y (or_right (free_in_term y t) (free_in_terms y ts) h))))
        (agree_meets t env (λ u. MeetsAll sizes look' ts env (λ xs. P (insert (item u) xs))) (λ y h. r y (or_left (free_in_term y t) (free_in_terms y ts) h)))

    -- X is there for the block's functions to lie in one universe
    pub agree_holds : (X : Type 0) (f : FormulaTree) (env : List Value) → Agree f → Holds sizes look f env ↔ Holds sizes look' f env
    agree_holds X True env r = stays
    agree_holds X False env r = stays
    agree_holds X (Rel s a b) env r = then_iff
        (meets_iff sizes look a env _ _ (λ u. agree_meets b env (λ w. IsTrue (rel s u w)) (λ y h. r y (or_right (free_in_term y a) (free_in_term y b) h))))
        (agree_meets a env (λ u. Meets sizes look' b env (λ w. IsTrue (rel s u w))) (λ y h. r y (or_left (free_in_term y a) (free_in_term y b) h)))
    agree_holds X (Not f) env r = not_iff (agree_holds X f env r)
    agree_holds X (And f g) env r = and_iff (agree_holds X f env (λ y h. r y (or_left (free_in y f) (free_in y g) h))) (agree_holds X g env (λ y h. r y (or_right (free_in y f) (free_in y g) h)))
    agree_holds X (Or f g) env r = not_iff (and_iff (not_iff (agree_holds X f env (λ y h. r y (or_left (free_in y f) (free_in y g) h)))) (not_iff (agree_holds X g env (λ y h. r y (or_right (free_in y f) (free_in y g) h)))))
    agree_holds X (Implies f g) env r = implies_iff (agree_holds X f env (λ y h. r y (or_left (free_in y f) (free_in y g) h))) (agree_holds X g env (λ y h. r y (or_right (free_in y f) (free_in y g) h)))
    agree_holds X (Iff f g) env r = iff_iff (agree_holds X f env (λ y h. r y (or_left (free_in y f) (free_in y g) h))) (agree_holds X g env (λ y h. r y (or_right (free_in y f) (free_in y g) h)))
    agree_holds X (Every x kind f) env r = each_iff (λ v. agree_holds X f (v ∷ env) r)
    agree_holds X (Exist x kind f) env r = not_iff (each_iff (λ v. not_iff (agree_holds X f (v ∷ env) r)))
