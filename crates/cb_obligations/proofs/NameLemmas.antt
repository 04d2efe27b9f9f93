-- What a tree means rests on the values of its own names alone.
use Rattle.std.proofs.Common.{◌≡◌, ℕ, List, ◌∷◌, ◌↔◌, IsTrue, ℤ, sym, subst}
use Rattle.cb_term.specs.declared.name.Name.{Name}
use Rattle.cb_term.specs.declared.value.Value.{Value}
use Rattle.cb_term.specs.declared.value.Value.TheVariants as value
use Rattle.cb_term.specs.Tree.{TermTree, Var, Bound, Num, Truth, Elem, Bin, Neg, Card, Listed, Elems, Truths, Test, TermTrees, End, More, FormulaTree, True, False, Rel, Not, And, Or, Implies, Iff, Every, Exist}
use Rattle.cb_term.specs.Sets.{insert}
use Rattle.cb_term.specs.Values.{Look, item, bin, neg, card, rel}
use Rattle.cb_term.specs.Holds.{Meets, MeetsAll, Holds}
use Rattle.cb_term.proofs.Equivalences.{stays, then_iff, not_iff, and_iff, implies_iff, iff_iff, each_iff, test_iff}
use Rattle.cb_term.proofs.HoldsLemmas.{meets_iff}
use Rattle.cb_obligations.specs.Written.{EachNameOfTerm, EachNameOfTerms, EachName}

-- ---- the values of its own names alone

module _ (sizes : List ℕ) (look look' : Look) (These : Name → Type 0) (agree : (y : Name) → These y → look y ≡ look' y) where
  mutual
    pub agree_meets : (a : TermTree) (env : List Value) (P : Value → Type 0) → EachNameOfTerm These a →
        Meets sizes look a env P ↔ Meets sizes look' a env P
    agree_meets (Bound j) env P c = stays
    agree_meets (Var y) env P c = (subst P (agree y c), subst P (sym (agree y c)))
    agree_meets (Num n) env P c = stays
    agree_meets (Truth b) env P c = stays
    agree_meets (Elem s i) env P c = stays
    agree_meets (Elems s) env P c = stays
    agree_meets Truths env P c = stays
    agree_meets (Bin s a b) env P c = then_iff
        (meets_iff sizes look a env _ _ (λ u. agree_meets b env (λ w. P (bin s u w)) c.1))
        (agree_meets a env (λ u. Meets sizes look' b env (λ w. P (bin s u w))) c.0)
    agree_meets (Neg a) env P c = agree_meets a env (λ u. P (neg u)) c
    agree_meets (Card a) env P c = agree_meets a env (λ u. P (card u)) c
    agree_meets (Listed ts) env P c = agree_all ts env (λ xs. P (value.Set xs)) c
    agree_meets (Test f) env P c = test_iff (agree_holds ⊥ f env c)

    pub agree_all : (ts : TermTrees) (env : List Value) (P : List ℤ → Type 0) → EachNameOfTerms These ts →
        MeetsAll sizes look ts env P ↔ MeetsAll sizes look' ts env P
    agree_all End env P c = stays
    agree_all (More t ts) env P c = then_iff
        (meets_iff sizes look t env _ _ (λ u. agree_all ts env (λ xs. P (insert (item u) xs)) c.1))
        (agree_meets t env (λ u. MeetsAll sizes look' ts env (λ xs. P (insert (item u) xs))) c.0)

    -- X is there for the block's functions to lie in one universe
    pub agree_holds : (X : Type 0) (f : FormulaTree) (env : List Value) → EachName These f →
        Holds sizes look f env ↔ Holds sizes look' f env
    agree_holds X True env c = stays
    agree_holds X False env c = stays
    agree_holds X (Rel s a b) env c = then_iff
        (meets_iff sizes look a env _ _ (λ u. agree_meets b env (λ w. IsTrue (rel s u w)) c.1))
        (agree_meets a env (λ u. Meets sizes look' b env (λ w. IsTrue (rel s u w))) c.0)
    agree_holds X (Not f) env c = not_iff (agree_holds X f env c)
    agree_holds X (And f g) env c = and_iff (agree_holds X f env c.0) (agree_holds X g env c.1)
    agree_holds X (Or f g) env c = not_iff (and_iff (not_iff (agree_holds X f env c.0)) (not_iff (agree_holds X g env c.1)))
    agree_holds X (Implies f g) env c = implies_iff (agree_holds X f env c.0) (agree_holds X g env c.1)
    agree_holds X (Iff f g) env c = iff_iff (agree_holds X f env c.0) (agree_holds X g env c.1)
    agree_holds X (Every x kind f) env c = each_iff (λ v. agree_holds X f (v ∷ env) c)
    agree_holds X (Exist x kind f) env c = not_iff (each_iff (λ v. not_iff (agree_holds X f (v ∷ env) c)))

-- ---- more names

module _ (These Those : Name → Type 0) (more : (y : Name) → These y → Those y) where
  mutual
    pub weaken_term : (a : TermTree) → EachNameOfTerm These a → EachNameOfTerm Those a
    weaken_term (Var y) h = more y h
    weaken_term (Bin s a b) h = (weaken_term a h.0, weaken_term b h.1)
    weaken_term (Neg a) h = weaken_term a h
    weaken_term (Card a) h = weaken_term a h
    weaken_term (Listed ts) h = weaken_terms ts h
    weaken_term (Test f) h = each_name_weaken f h
    weaken_term t h = tt

    pub weaken_terms : (ts : TermTrees) → EachNameOfTerms These ts → EachNameOfTerms Those ts
    weaken_terms End h = tt
    weaken_terms (More a ts) h = (weaken_term a h.0, weaken_terms ts h.1)

    pub each_name_weaken : (f : FormulaTree) → EachName These f → EachName Those f
    each_name_weaken (Rel s a b) h = (weaken_term a h.0, weaken_term b h.1)
    each_name_weaken (Not f) h = each_name_weaken f h
    each_name_weaken (And f g) h = (each_name_weaken f h.0, each_name_weaken g h.1)
    each_name_weaken (Or f g) h = (each_name_weaken f h.0, each_name_weaken g h.1)
    each_name_weaken (Implies f g) h = (each_name_weaken f h.0, each_name_weaken g h.1)
    each_name_weaken (Iff f g) h = (each_name_weaken f h.0, each_name_weaken g h.1)
    each_name_weaken (Every x kind f) h = each_name_weaken f h
    each_name_weaken (Exist x kind f) h = each_name_weaken f h
    each_name_weaken f h = tt
