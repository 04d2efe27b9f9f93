-- The queue's rule at the start, and over the push of the first value.
use Rattle.std.proofs.Common.{◌≡◌, ◌≢◌, ℕ, false, true≢false, List, [], ◌∷◌, ◌++◌, Some, None, inl, inr, sym, refl, ap, ◌∙◌, subst, ⊎_elim}
use Rattle.crossbeam_queue.specs.Fifo.{Pushes}
use Rattle.cb_turn.specs.declared.view.View.{View}
use Rattle.cb_turn.specs.Views.{Fits, IsAtHome, IsOut, IsRuled, started}
use Rattle.cb_turn.proofs.Steps.{prefix_refl, each_one, each_set, first_stays, lonely, holder_is}
use Rattle.cb_turn_queue.specs.Openings.{opening, Starts}

module _ {T P E : Type 0} (plan : T → P) (list : T → List E) where
  pub begins : IsRuled plan list [] (opening {P = P} {E = E} ∷ [])
  begins = record {
    known = None;
    front = [];
    where_is = inr (record { empty = refl; place = 0; holder = opening; at = refl; is_holder = refl; took = refl; others = each_one (λ i u. i ≢ 0 → u.holds ≡ false) opening (λ n. absurd (n refl)) });
    fits = each_one (λ _ u. Fits None [] u) opening ((λ _. (refl, prefix_refl [])), λ s. absurd (true≢false (sym s)));
    one_first = record { place = 0; leader = opening; at = refl; is_first = refl; not_spent = refl; counts = refl; others = each_one (λ i u. i ≢ 0 → u.first ≡ false) opening (λ n. absurd (n refl)) };
  }

  starts : (n id : ℕ) (x : T) → Pushes (IsRuled plan list) n id opening x (Starts plan list opening x)
  starts n id x items views room h at = ⊎_elim (λ (home : IsAtHome plan list items h.known h.front views). absurd (true≢false (home.none_holds id opening at)))
      (λ (out : IsOut plan list items h.front views).
      let is = holder_is plan list items h.front views id opening out at refl in
      let w : View P E = started (plan x) (list x) in (
        w,
        record {
          known = Some (plan x);
          front = list x;
          where_is = inl (record { value = x; here = ap (λ (l : List T). l ++ x ∷ []) out.empty; same_plan = refl; same_list = refl; none_holds = each_set (λ _ u. u.holds ≡ false) views id w refl (λ j u n e. out.others j u e (λ q. n (q ∙ sym is))) });
          fits = each_set (λ _ u. Fits (Some (plan x)) (list x) u) views id w ((λ _. (refl, prefix_refl (list x))), λ s. absurd (true≢false (sym s)))
              (λ j u n e. ((λ s. absurd (true≢false (sym (lonely views id opening h.one_first at refl refl refl j u n e) ∙ s))), (h.fits j u e).1));
          one_first = first_stays views id opening w at refl refl refl h.one_first;
        },
        refl,
      )) h.where_is

  pub starts_at : (n id : ℕ) (v : View P E) (x : T) → v ≡ opening → Pushes (IsRuled plan list) n id v x (Starts plan list v x)
  starts_at n id v x e = subst (λ (u : View P E). Pushes (IsRuled plan list) n id u x (Starts plan list u x)) (sym e) (starts n id x)
