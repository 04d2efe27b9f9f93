-- Trees that are the same, the written names of bound variables aside, mean the same.
use Rattle.std.proofs.Common.{◌≡◌, ◌==◌, true, ◌&&◌, ℕ, List, ◌∷◌, ◌↔◌, IsTrue, ℤ, sym, subst, slice_index_or, true≢false}
use Rattle.std.proofs.lemmas.Bool.{eqb-true, and_parts}
use Rattle.std.proofs.lemmas.Bool.Decides.{Decides-int_eq}
use Rattle.cb_term.specs.declared.value.Value.{Value}
use Rattle.cb_term.specs.declared.value.Value.TheVariants as value
use Rattle.cb_term.specs.Tree.{TermTree, Var, Bound, Num, Truth, Elem, Bin, Neg, Card, Listed, Elems, Truths, Test, TermTrees, End, More, FormulaTree, True, False, Rel, Not, And, Or, Implies, Iff, Every, Exist}
use Rattle.cb_term.specs.Kinds.{same_kind}
use Rattle.cb_term.specs.Signs.{same_sign, same_rel}
use Rattle.cb_term.specs.Sets.{insert}
use Rattle.cb_term.specs.Values.{Look, nothing, item, bin, neg, card, rel}
use Rattle.cb_term.specs.Same.{same_term, same_terms, same}
use Rattle.cb_term.specs.Holds.{Meets, MeetsAll, Holds}
use Rattle.cb_term.proofs.Equivalences.{stays, then_iff, not_iff, and_iff, implies_iff, iff_iff, each_iff, test_iff}
use Rattle.cb_term.proofs.HoldsLemmas.{meets_iff}
use Rattle.cb_term.proofs.ValueLemmas.{same_name_tells, same_truth_tells, same_sign_tells, same_rel_tells, same_kind_tells}

module _ (sizes : List ℕ) (look : Look) where
  mutual
    pub same_meets : (t u : TermTree) → same_term t u ≡ true → (env : List Value) (P : Value → Type 0) → Meets sizes look t env P ↔ Meets sizes look u env P
    same_meets (Var x) (Var y) s env P = subst (λ z. P (look x) ↔ P (look z)) (same_name_tells x y s) stays
    same_meets (Bound j) (Bound k) s env P = subst (λ z. P (slice_index_or env j nothing) ↔ P (slice_index_or env z nothing)) (eqb-true j k s) stays
    same_meets (Num m) (Num n) s env P = subst (λ z. P (value.Int m) ↔ P (value.Int z)) ((Decides-int_eq m n).0 s) stays
    same_meets (Truth b) (Truth c) s env P = subst (λ z. P (value.Truth b) ↔ P (value.Truth z)) (same_truth_tells b c s) stays
    same_meets (Elem set i) (Elem set' i') s env P = subst (λ z. P (value.Elem i) ↔ P (value.Elem z)) (eqb-true i i' (and_parts (set == set') (i == i') s).1) stays
    same_meets (Bin g a b) (Bin g' a' b') s env P =
        let p = and_parts (same_sign g g') (same_term a a' && same_term b b') s in
        let q = and_parts (same_term a a') (same_term b b') p.1 in
        subst (λ z. Meets sizes look (Bin g a b) env P ↔ Meets sizes look (Bin z a' b') env P) (same_sign_tells g g' p.0)
        (then_iff (meets_iff sizes look a env _ _ (λ u. same_meets b b' q.1 env (λ w. P (bin g u w))))
        (same_meets a a' q.0 env (λ u. Meets sizes look b' env (λ w. P (bin g u w)))))
    same_meets (Neg a) (Neg a') s env P = same_meets a a' s env (λ u. P (neg u))
    same_meets (Card a) (Card a') s env P = same_meets a a' s env (λ u. P (card u))
    same_meets (Listed ts) (Listed us) s env P = same_all ts us s env (λ xs. P (value.Set xs))
    same_meets (Elems set) (Elems set') s env P = subst (λ z. Meets sizes look (Elems set) env P ↔ Meets sizes look (Elems z) env P) (eqb-true set set' s) stays
    same_meets Truths Truths s env P = stays
    same_meets (Test f) (Test g) s env P = test_iff (same_holds ⊥ f g s env)
    same_meets t u s env P = absurd (true≢false (sym s))

    pub same_all : (ts us : TermTrees) → same_terms ts us ≡ true → (env : List Value) (P : List ℤ → Type 0) → MeetsAll sizes look ts env P ↔ MeetsAll sizes look us env P
    same_all End End s env P = stays
    same_all (More t ts) (More u us) s env P =
        let p = and_parts (same_term t u) (same_terms ts us) s in
        then_iff (meets_iff sizes look t env _ _ (λ v. same_all ts us p.1 env (λ xs. P (insert (item v) xs))))
        (same_meets t u p.0 env (λ v. MeetsAll sizes look us env (λ xs. P (insert (item v) xs))))
    same_all ts us s env P = absurd (true≢false (sym s))

    -- X is there for the block's functions to lie in one universe
    pub same_holds : (X : Type 0) (f g : FormulaTree) → same f g ≡ true → (env : List Value) → Holds sizes look f env ↔ Holds sizes look g env
    same_holds X True True s env = stays
    same_holds X False False s env = stays
    same_holds X (Rel r a b) (Rel r' a' b') s env =
        let p = and_parts (same_rel r r') (same_term a a' && same_term b b') s in
        let q = and_parts (same_term a a') (same_term b b') p.1 in
        subst (λ z. Holds sizes look (Rel r a b) env ↔ Holds sizes look (Rel z a' b') env) (same_rel_tells r r' p.0)
        (then_iff (meets_iff sizes look a env _ _ (λ u. same_meets b b' q.1 env (λ w. IsTrue (rel r u w))))
        (same_meets a a' q.0 env (λ u. Meets sizes look b' env (λ w. IsTrue (rel r u w)))))
    same_holds X (Not f) (Not f') s env = not_iff (same_holds X f f' s env)
    same_holds X (And f g) (And f' g') s env = let p = and_parts (same f f') (same g g') s in and_iff (same_holds X f f' p.0 env) (same_holds X g g' p.1 env)
    same_holds X (Or f g) (Or f' g') s env =
        let p = and_parts (same f f') (same g g') s in not_iff (and_iff (not_iff (same_holds X f f' p.0 env)) (not_iff (same_holds X g g' p.1 env)))
    same_holds X (Implies f g) (Implies f' g') s env = let p = and_parts (same f f') (same g g') s in implies_iff (same_holds X f f' p.0 env) (same_holds X g g' p.1 env)
    same_holds X (Iff f g) (Iff f' g') s env = let p = and_parts (same f f') (same g g') s in iff_iff (same_holds X f f' p.0 env) (same_holds X g g' p.1 env)
    same_holds X (Every x k f) (Every y k' f') s env =
        let p = and_parts (same_kind k k') (same f f') s in
        subst (λ z. Holds sizes look (Every x k f) env ↔ Holds sizes look (Every y z f') env) (same_kind_tells k k' p.0)
        (each_iff (λ v. same_holds X f f' p.1 (v ∷ env)))
    same_holds X (Exist x k f) (Exist y k' f') s env =
        let p = and_parts (same_kind k k') (same f f') s in
        subst (λ z. Holds sizes look (Exist x k f) env ↔ Holds sizes look (Exist y z f') env) (same_kind_tells k k' p.0)
        (not_iff (each_iff (λ v. not_iff (same_holds X f f' p.1 (v ∷ env)))))
    same_holds X f g s env = absurd (true≢false (sym s))
