-- What is worked out is the value of the term and the truth of the formula.
use Rattle.std.proofs.Common.{◌≡◌, ◌↔◌, ◌∙◌, ℕ, ℤ, Bool, true, false, not, ◌&&◌, ◌||◌, List, ◌∷◌, IsTrue, Some, refl, sym, ap, ap₂, subst, true≢false}
use Rattle.std.specs.Prelude.{nat_le, slice_get, slice_index_or, length}
use Rattle.cb_term.specs.declared.value.Value.{Value}
use Rattle.cb_term.specs.declared.value.Value.TheVariants as value
use Rattle.cb_term.specs.Tree.{TermTree, Var, Bound, Num, Truth, Elem, Bin, Neg, Card, Listed, Elems, Truths, Test, TermTrees, End, More, FormulaTree, True, False, Rel, Not, And, Or, Implies, Iff, Every, Exist}
use Rattle.cb_term.specs.Sets.{insert}
use Rattle.cb_term.specs.Values.{Look, nothing, item, bin, neg, card, rel, same_truth}
use Rattle.cb_term.specs.Holds.{Meets, MeetsAll, Holds, IsValue}
use Rattle.cb_term.proofs.HoldsLemmas.{true_stable, meets_mono, all_mono, meets_stable, meets_at, meets_gives, like_truths}
use Rattle.cb_spec.specs.TypedTerms.{is_membership, is_free_range}
use Rattle.cb_eval.specs.ClosedTruth.{closed_truth}
use Rattle.cb_eval.specs.Evaluation.{given, where_named, value_in, items_in, truth_in}
use Rattle.cb_eval.proofs.ClosedLemmas.{truth_exact}
use Rattle.cb_eval.proofs.TellLemmas.{one_tells, two_tells, some_is, if_tells, kept_tells, unless_tells, given_tells, where_tells, bound_is}
use Rattle.cb_eval.proofs.QuantifierLemmas.{every_sound, exist_sound}

-- ---- truth values

both_hold : (p q : Bool) {A B : Type 0} → (IsTrue p ↔ A) → (IsTrue q ↔ B) → IsTrue (p && q) ↔ (A × B)
both_hold true q i j = ((λ t. (i.0 refl, j.0 t)), (λ h. j.1 h.1))
both_hold false q i j = ((λ t. absurd (true≢false (sym t))), (λ h. absurd (true≢false (sym (i.1 h.0)))))

not_holds : (p : Bool) {A : Type 0} → (IsTrue p ↔ A) → IsTrue (not p) ↔ (¬ A)
not_holds true i = ((λ t. absurd (true≢false (sym t))), (λ n. absurd (n (i.0 refl))))
not_holds false i = ((λ t h. true≢false (sym (i.1 h))), (λ n. refl))

either_holds : (p q : Bool) {A B : Type 0} → (IsTrue p ↔ A) → (IsTrue q ↔ B) → IsTrue (p || q) ↔ (¬ (¬ A × ¬ B))
either_holds true q i j = ((λ t n. n.0 (i.0 refl)), (λ h. refl))
either_holds false true i j = ((λ t n. n.1 (j.0 refl)), (λ h. refl))
either_holds false false i j = ((λ t. absurd (true≢false (sym t))), (λ h. absurd (h ((λ a. true≢false (sym (i.1 a))), (λ b. true≢false (sym (j.1 b)))))))

implied_holds : (p q : Bool) {A B : Type 0} → (IsTrue p ↔ A) → (IsTrue q ↔ B) → IsTrue (not p || q) ↔ (A → B)
implied_holds true q i j = ((λ t a. j.0 t), (λ h. j.1 (h (i.0 refl))))
implied_holds false q i j = ((λ t a. absurd (true≢false (sym (i.1 a)))), (λ h. refl))

alike_hold : (p q : Bool) {A B : Type 0} → (IsTrue p ↔ A) → (IsTrue q ↔ B) → IsTrue (same_truth p q) ↔ (A ↔ B)
alike_hold true true i j = ((λ t. ((λ a. j.0 refl), (λ b. i.0 refl))), (λ h. refl))
alike_hold false false i j = ((λ t. ((λ a. absurd (true≢false (sym (i.1 a)))), (λ b. absurd (true≢false (sym (j.1 b)))))), (λ h. refl))
alike_hold true false i j = ((λ t. absurd (true≢false (sym t))), (λ h. absurd (true≢false (sym (j.1 (h.0 (i.0 refl)))))))
alike_hold false true i j = ((λ t. absurd (true≢false (sym t))), (λ h. absurd (true≢false (sym (i.1 (h.1 (j.0 refl)))))))

module _ (sizes : List ℕ) (look : Look) where
  rel_holds : (env : List Value) (a b : TermTree) (u w : Value) → IsValue sizes look a env u → IsValue sizes look b env w → (s : _) → IsTrue (rel s u w) ↔ Holds sizes look (Rel s a b) env
  rel_holds env a b u w hu hw s =
      let P : Value → Type 0 = λ x. Meets sizes look b env (λ y. IsTrue (rel s x y)) in (
        (λ p. meets_at sizes look a env u P hu (meets_at sizes look b env w (λ y. IsTrue (rel s u y)) hw p)),
        (λ h. meets_gives sizes look b env w (λ y. IsTrue (rel s u y)) (true_stable _) hw
            (meets_gives sizes look a env u P (meets_stable sizes look b env _ (λ y. true_stable (rel s u y))) hu h)),
      )

  module _ (named : Bool) where
    mutual
      pub value_sound : (on_right : Bool) (env : List Value) (t : TermTree) (v : Value) → value_in sizes named look on_right env t ≡ Some v → IsValue sizes look t env v
      value_sound r env (Var x) v e = given_tells (look x) v (where_tells named (given (look x)) v e)
      value_sound r env (Bound j) v e =
          one_tells (slice_get env j) (λ w. where_named named (given w)) v (slice_index_or env j nothing ≡ v) e (λ w at g.
          bound_is env j w at ∙ given_tells w v (where_tells named (given w) v g))
      value_sound r env (Num n) v e = kept_tells named (value.Int n) v e
      value_sound r env (Truth b) v e = some_is _ _ e
      value_sound r env (Elem set index) v e = some_is _ _ e
      value_sound r env (Bin s a b) v e =
          two_tells (value_in sizes named look false env a) (value_in sizes named look false env b) _ v (IsValue sizes look (Bin s a b) env v) e (λ u w eu ew g.
          meets_mono sizes look a env _ _ (λ u' d. meets_mono sizes look b env _ _ (λ w' d'. ap₂ (bin s) d d' ∙ unless_tells (is_free_range r s) named (bin s u w) v g) (value_sound false env b w ew)) (value_sound false env a u eu))
      value_sound r env (Neg a) v e =
          one_tells (value_in sizes named look false env a) _ v (IsValue sizes look (Neg a) env v) e (λ u eu g.
          meets_mono sizes look a env _ _ (λ u' d. ap neg d ∙ kept_tells named (neg u) v g) (value_sound false env a u eu))
      value_sound r env (Card a) v e =
          one_tells (value_in sizes named look false env a) _ v (IsValue sizes look (Card a) env v) e (λ u eu g.
          meets_mono sizes look a env _ _ (λ u' d. ap card d ∙ kept_tells named (card u) v g) (value_sound false env a u eu))
      value_sound r env (Listed ts) v e =
          one_tells (items_in sizes named look env ts) _ v (IsValue sizes look (Listed ts) env v) e (λ xs ex g.
          all_mono sizes look ts env _ _ (λ ys d. ap value.Set d ∙ some_is _ _ g) (items_sound env ts xs ex))
      value_sound r env (Elems set) v e = kept_tells named _ v e
      value_sound r env Truths v e = some_is _ _ e
      value_sound r env (Test f) v e =
          one_tells (truth_in sizes named look env f) _ v (IsValue sizes look (Test f) env v) e (λ b eb g.
          λ c i. ap value.Truth (like_truths c b i (truth_sound env f b eb)) ∙ some_is _ _ g)

      pub items_sound : (env : List Value) (ts : TermTrees) (xs : List ℤ) → items_in sizes named look env ts ≡ Some xs → MeetsAll sizes look ts env (λ ys. ys ≡ xs)
      items_sound env End xs e = some_is _ _ e
      items_sound env (More t ts) xs e =
          two_tells (value_in sizes named look false env t) (items_in sizes named look env ts) _ xs (MeetsAll sizes look (More t ts) env (λ ys. ys ≡ xs)) e (λ u zs eu ez g.
          meets_mono sizes look t env _ _ (λ u' d. all_mono sizes look ts env _ _ (λ zs' d'. ap₂ (λ w ws. insert (item w) ws) d d' ∙ if_tells (nat_le (length (insert (item u) zs)) 256) _ _ g) (items_sound env ts zs ez)) (value_sound false env t u eu))

      pub truth_sound : (env : List Value) (f : FormulaTree) (b : Bool) → truth_in sizes named look env f ≡ Some b → IsTrue b ↔ Holds sizes look f env
      truth_sound env True b e = ((λ t. tt), (λ h. sym (some_is _ _ e)))
      truth_sound env False b e = ((λ t. true≢false (sym (some_is _ _ e ∙ t))), (λ h. absurd h))
      truth_sound env (Rel s x y) b e =
          two_tells (value_in sizes named look false env x) (value_in sizes named look (is_membership s) env y) _ b (IsTrue b ↔ Holds sizes look (Rel s x y) env) e (λ u w eu ew g.
          subst (λ c. IsTrue c ↔ Holds sizes look (Rel s x y) env) (some_is _ _ g) (rel_holds env x y u w (value_sound false env x u eu) (value_sound (is_membership s) env y w ew) s))
      truth_sound env (Not f) b e =
          one_tells (truth_in sizes named look env f) _ b (IsTrue b ↔ Holds sizes look (Not f) env) e (λ p ep g.
          subst (λ c. IsTrue c ↔ Holds sizes look (Not f) env) (some_is _ _ g) (not_holds p (truth_sound env f p ep)))
      truth_sound env (And f h) b e =
          two_tells (truth_in sizes named look env f) (truth_in sizes named look env h) _ b (IsTrue b ↔ Holds sizes look (And f h) env) e (λ p q ep eq g.
          subst (λ c. IsTrue c ↔ Holds sizes look (And f h) env) (some_is _ _ g) (both_hold p q (truth_sound env f p ep) (truth_sound env h q eq)))
      truth_sound env (Or f h) b e =
          two_tells (truth_in sizes named look env f) (truth_in sizes named look env h) _ b (IsTrue b ↔ Holds sizes look (Or f h) env) e (λ p q ep eq g.
          subst (λ c. IsTrue c ↔ Holds sizes look (Or f h) env) (some_is _ _ g) (either_holds p q (truth_sound env f p ep) (truth_sound env h q eq)))
      truth_sound env (Implies f h) b e =
          two_tells (truth_in sizes named look env f) (truth_in sizes named look env h) _ b (IsTrue b ↔ Holds sizes look (Implies f h) env) e (λ p q ep eq g.
          subst (λ c. IsTrue c ↔ Holds sizes look (Implies f h) env) (some_is _ _ g) (implied_holds p q (truth_sound env f p ep) (truth_sound env h q eq)))
      truth_sound env (Iff f h) b e =
          two_tells (truth_in sizes named look env f) (truth_in sizes named look env h) _ b (IsTrue b ↔ Holds sizes look (Iff f h) env) e (λ p q ep eq g.
          subst (λ c. IsTrue c ↔ Holds sizes look (Iff f h) env) (some_is _ _ g) (alike_hold p q (truth_sound env f p ep) (truth_sound env h q eq)))
      truth_sound env (Every x kind f) b e =
          every_sound sizes look env x kind f (λ v. truth_in sizes named look (v ∷ env) f) (λ v. truth_sound (v ∷ env) f) b (where_tells named _ b e)
      truth_sound env (Exist x kind f) b e =
          exist_sound sizes look env x kind f (λ v. truth_in sizes named look (v ∷ env) f) (λ v. truth_sound (v ∷ env) f) b (where_tells named _ b e)

pub closed_sound : (sizes : List ℕ) (look : Look) (env : List Value) (f : FormulaTree) (b : Bool) → closed_truth sizes f ≡ Some b → IsTrue b ↔ Holds sizes look f env
closed_sound sizes look env f b e = truth_sound sizes look false env f b (truth_exact sizes look env f ∙ e)
