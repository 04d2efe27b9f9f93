-- Each step of a pass keeps the rule of the turn.
use Rattle.std.proofs.Common.{◌≡◌, ◌≢◌, ℕ, zero, suc, ◌+◌, ◌≤◌, nat_lt, Bool, true, false, true≢false, if◌then◌else◌, List, [], ◌∷◌, ◌++◌, length, set, sum_by, Option, Some, inl, inr, sym, refl, ap, ◌∙◌, subst, ⊎_elim, append_assoc, append-nil, arith}
use Rattle.std.proofs.lemmas.List.Sums.{sum_by-append}
use mathlib.Core.Option.{some, some-injective, some-ne-none}
use native.Mathlib.Decide.{ℕ_discrete}
use mathlib.Core.Logic.{dite}
use lib.ListN.{get_elem?}
use Rattle.atomic_table.proofs.Lists.{at_set, at_snoc, at_longer, set_else}
use Rattle.cb_turn.specs.declared.view.View.{View}
use Rattle.cb_turn.specs.Views.{IsPrefix, started, taking, giving, split_from, split_off, joined, spent, lives, Fits, Each, AnotherHolds, HasOneFirst, IsAtHome, IsOut, IsRuled, Takes, Gives}
use Rattle.cb_turn.proofs.Sums.{sum_set, sum_two}

no_life : (b : Bool) → (if b then 0 else 1) ≤ 0 → b ≡ true
no_life true h = refl
no_life false h = absurd (omega arith)

module _ {E : Type 0} where
  pub prefix_refl : (xs : List E) → IsPrefix xs xs
  prefix_refl xs = ([], sym (append-nil xs))

  prefix_trans : (xs ys zs : List E) → IsPrefix xs ys → IsPrefix ys zs → IsPrefix xs zs
  prefix_trans xs ys zs a b = (a.0 ++ b.0, b.1 ∙ ap (λ l. l ++ b.0) a.1 ∙ append_assoc xs a.0 b.0)

  either_fits : (b : Bool) (xs ys front : List E) → IsPrefix xs front → IsPrefix ys front → IsPrefix (if b then xs else ys) front
  either_fits true xs ys front a c = a
  either_fits false xs ys front a c = c

module _ {P E : Type 0} where
  -- ---- views by their numbers

  same_at : (views : List (View P E)) (i : ℕ) (v w : View P E) → get_elem? views i ≡ some v → get_elem? views i ≡ some w → v ≡ w
  same_at views i v w a b = some-injective v w (sym a ∙ b)

  pub at_it : (views : List (View P E)) (i : ℕ) (v w : View P E) → get_elem? views i ≡ some v → get_elem? (set views i w) i ≡ some w
  at_it [] i v w e = absurd (some-ne-none v (sym e))
  at_it (x ∷ xs) zero v w e = refl
  at_it (x ∷ xs) (suc i) v w e = at_it xs i v w e

  pub each_one : (F : ℕ → View P E → Type 0) (r : View P E) → F 0 r → Each F (r ∷ [])
  each_one F r h zero u e = subst (λ (y : View P E). F 0 y) (some-injective r u e) h
  each_one F r h (suc i) u e = absurd (some-ne-none u (sym e))

  pub each_set : (F : ℕ → View P E → Type 0) (views : List (View P E)) (i : ℕ) (w : View P E) → F i w → ((j : ℕ) (u : View P E) → j ≢ i → get_elem? views j ≡ some u → F j u) → Each F (set views i w)
  each_set F views i w here there j u e = ⊎_elim (λ (x : (j ≡ i) × (w ≡ u)). subst (λ (y : ℕ × View P E). F y.0 y.1) (λ k. (sym x.0 k, x.1 k)) here)
      (λ (x : (j ≢ i) × (get_elem? views j ≡ some u)). there j u x.0 x.1) (at_set views i j w u e)

  each_snoc : (F : ℕ → View P E → Type 0) (views : List (View P E)) (r : View P E) → Each F views → ((i : ℕ) → F i r) → Each F (views ++ r ∷ [])
  each_snoc F views r all new j u e = ⊎_elim (λ x. all j u x) (λ (is : r ≡ u). subst (λ (y : View P E). F j y) is (new j)) (at_snoc views r u j e)

  -- one that holds and one that doesn't stand at different places
  not_holder : (views : List (View P E)) (i : ℕ) (v : View P E) (j : ℕ) (u : View P E) → get_elem? views i ≡ some v → v.holds ≡ false → get_elem? views j ≡ some u → u.holds ≡ true → j ≢ i
  not_holder views i v j u at free there holds is = true≢false (sym holds ∙ ap (λ (y : View P E). y.holds) (same_at views i u v (subst (λ (k : ℕ). get_elem? views k ≡ some u) is there) at) ∙ free)

  -- ---- the first pass, and the number of passes

  lives_is : (v : View P E) → v.spent ≡ false → lives v ≡ 1
  lives_is v e = ap (λ (y : Bool). if y then 0 else 1) e

  -- a step of one pass leaves who is the first, and the number of passes
  pub first_stays : (views : List (View P E)) (i : ℕ) (v w : View P E) → get_elem? views i ≡ some v → w.first ≡ v.first → w.spent ≡ v.spent → w.splits ≡ v.splits → HasOneFirst views → HasOneFirst (set views i w)
  first_stays views i v w at a b c h = dite (ℕ_discrete h.place i)
      (λ is. let mine : h.leader ≡ v = same_at views i h.leader v (subst (λ (k : ℕ). get_elem? views k ≡ some h.leader) is h.at) at in record {
        place = i;
        leader = w;
        at = at_it views i v w at;
        is_first = a ∙ ap (λ (y : View P E). y.first) (sym mine) ∙ h.is_first;
        not_spent = b ∙ ap (λ (y : View P E). y.spent) (sym mine) ∙ h.not_spent;
        counts = (let m : w.splits ≡ h.leader.splits = c ∙ ap (λ (y : View P E). y.splits) (sym mine) in let s = same_count in let n = h.counts in omega arith);
        others = each_set (λ j u. j ≢ i → u.first ≡ false) views i w (λ n. absurd (n refl)) (λ j u n e _. h.others j u e (λ q. n (q ∙ is)));
      })
      (λ isnt. record {
        place = h.place;
        leader = h.leader;
        at = set_else views i h.place w isnt ∙ h.at;
        is_first = h.is_first;
        not_spent = h.not_spent;
        counts = same_count ∙ h.counts;
        others = each_set (λ j u. j ≢ h.place → u.first ≡ false) views i w (λ n. a ∙ h.others i v at n) (λ j u n e m. h.others j u e m);
      })
    where
      same_count : sum_by lives (set views i w) ≡ sum_by lives views
      same_count = let s = sum_set lives views i v w at in let t : lives w ≡ lives v = ap (λ (y : Bool). if y then 0 else 1) b in omega arith

  -- a pass that says it is the first is the one
  is_place : (views : List (View P E)) (i : ℕ) (v : View P E) (h : HasOneFirst views) → get_elem? views i ≡ some v → v.first ≡ true → i ≡ h.place
  is_place views i v h at first = dite (ℕ_discrete i h.place) (λ e. e) (λ n. absurd (true≢false (sym first ∙ h.others i v at n)))

  count_of : (views : List (View P E)) (i : ℕ) (v : View P E) → HasOneFirst views → get_elem? views i ≡ some v → v.first ≡ true → sum_by lives views ≡ v.splits + 1
  count_of views i v h at first = let is = is_place views i v h at first in
      let mine : h.leader ≡ v = same_at views i h.leader v (subst (λ (k : ℕ). get_elem? views k ≡ some h.leader) (sym is) h.at) at in
      h.counts ∙ ap (λ (y : View P E). y.splits + 1) mine

  -- while nothing is split off, each other pass is spent
  pub lonely : (views : List (View P E)) (i : ℕ) (v : View P E) → HasOneFirst views → get_elem? views i ≡ some v → v.first ≡ true → v.spent ≡ false → v.splits ≡ 0
      → (j : ℕ) (u : View P E) → j ≢ i → get_elem? views j ≡ some u → u.spent ≡ true
  lonely views i v h at first live none j u n e = let c = count_of views i v h at first in let t = sum_two lives views j i u v n e at in let l = lives_is v live in no_life u.spent (omega arith)

  -- a pass that fits still fits where the list is longer
  fits_longer : (known : Option P) (front more : List E) (u : View P E) → IsPrefix front more → Fits known front u → Fits known more u
  fits_longer known front more u pre fit = ((λ s. ((fit.0 s).0, prefix_trans u.seen front more (fit.0 s).1 pre)), fit.1)

module _ {T P E : Type 0} (plan : T → P) (list : T → List E) where
  -- ---- at the start

  pub starts_with : (x : T) → IsRuled plan list (x ∷ []) (started (plan x) (list x) ∷ [])
  starts_with x = let v : View P E = started (plan x) (list x) in record {
    known = Some (plan x);
    front = list x;
    where_is = inl (record { value = x; here = refl; same_plan = refl; same_list = refl; none_holds = each_one (λ _ u. u.holds ≡ false) v refl });
    fits = each_one (λ _ u. Fits (Some (plan x)) (list x) u) v ((λ _. (refl, prefix_refl (list x))), λ s. absurd (true≢false (sym s)));
    one_first = record { place = 0; leader = v; at = refl; is_first = refl; not_spent = refl; counts = refl; others = each_one (λ i u. i ≢ 0 → u.first ≡ false) v (λ n. absurd (n refl)) };
  }

  -- ---- a take

  pub takes : (id : ℕ) (v : View P E) → v.spent ≡ false → v.holds ≡ false
      → (x : T) (items : List T) (views : List (View P E)) → IsRuled plan list (x ∷ items) views → get_elem? views id ≡ some v → (w : View P E) × IsRuled plan list items (set views id w) × Takes plan list v x w
  takes id v live free x items views h at = ⊎_elim (λ (home : IsAtHome plan list (x ∷ items) h.known h.front views).
      let same : x ≡ home.value = (let here = home.here in cc) in
      let rest : items ≡ [] = (let here = home.here in cc) in
      let fit = (h.fits id v at).0 live in
      let front : h.front ≡ list x = home.same_list ∙ ap list (sym same) in
      let w : View P E = taking v (list x) in (
        w,
        record {
          known = h.known;
          front = list x;
          where_is = inr (record { empty = rest; place = id; holder = w; at = at_it views id v w at; is_holder = refl; took = refl; others = each_set (λ i u. i ≢ id → u.holds ≡ false) views id w (λ n. absurd (n refl)) (λ j u n e _. home.none_holds j u e) });
          fits = each_set (λ _ u. Fits h.known (list x) u) views id w ((λ _. (fit.0, prefix_refl (list x))), λ s. absurd (true≢false (sym s ∙ live))) (λ j u n e. subst (λ (l : List E). Fits h.known l u) front (h.fits j u e));
          one_first = first_stays views id v w at refl refl refl h.one_first;
        },
        (fit.0 ∙ home.same_plan ∙ ap (λ (y : T). Some (plan y)) (sym same), subst (λ (l : List E). IsPrefix v.seen l) front fit.1, refl),
      ))
      (λ (out : IsOut plan list (x ∷ items) h.front views). absurd (let none = out.empty in cc)) h.where_is

  -- where a pass that is free finds no value, another holds it
  pub free_learns : (id : ℕ) (v : View P E) → v.spent ≡ false → v.holds ≡ false → (items : List T) (views : List (View P E)) → IsRuled plan list items views → get_elem? views id ≡ some v → length items ≡ 0 → AnotherHolds v
  free_learns id v live free items views h at none = ⊎_elim (λ (home : IsAtHome plan list items h.known h.front views). absurd (let one : length items ≡ 1 = ap (λ (l : List T). length l) home.here in omega arith))
      (λ (out : IsOut plan list items h.front views).
      let u = out.holder in
      let apart = not_holder views id v out.place u at free out.at out.is_holder in
      let theirs = h.fits out.place u out.at in
      let ours = (h.fits id v at).0 live in
      let alive : u.spent ≡ false = not_true u.spent (λ s. true≢false (sym out.is_holder ∙ theirs.1 s)) in (
        (u, out.is_holder, (theirs.0 alive).0 ∙ sym ours.0, subst (λ (l : List E). IsPrefix v.seen l) (sym out.took) ours.1),
        λ first. let c = count_of views id v h.one_first at first in let t = sum_two lives views out.place id u v apart out.at at in let a = lives_is v live in let b = lives_is u alive in omega arith,
      )) h.where_is
    where
      not_true : (b : Bool) → (b ≡ true → ⊥) → b ≡ false
      not_true true n = absurd (n refl)
      not_true false n = refl

  -- ---- a give

  pub holder_is : (items : List T) (front : List E) (views : List (View P E)) (id : ℕ) (v : View P E) (out : IsOut plan list items front views) → get_elem? views id ≡ some v → v.holds ≡ true → id ≡ out.place
  holder_is items front views id v out at holds = dite (ℕ_discrete id out.place) (λ e. e) (λ n. absurd (true≢false (sym holds ∙ out.others id v at n)))

  holder_saw : (items : List T) (front : List E) (views : List (View P E)) (id : ℕ) (v : View P E) → IsOut plan list items front views → get_elem? views id ≡ some v → v.holds ≡ true → v.seen ≡ front
  holder_saw items front views id v out at holds = let is = holder_is items front views id v out at holds in
      let mine : v ≡ out.holder = same_at views id v out.holder at (subst (λ (k : ℕ). get_elem? views k ≡ some out.holder) (sym is) out.at) in ap (λ (y : View P E). y.seen) mine ∙ out.took

  pub gives : (id : ℕ) (v : View P E) (x : T) → v.spent ≡ false → v.holds ≡ true → v.plan ≡ Some (plan x) → IsPrefix v.seen (list x)
      → (items : List T) (views : List (View P E)) → IsRuled plan list items views → get_elem? views id ≡ some v → (w : View P E) × IsRuled plan list (items ++ x ∷ []) (set views id w) × Gives plan list v x w
  gives id v x live holds same pre items views h at = ⊎_elim (λ (home : IsAtHome plan list items h.known h.front views). absurd (true≢false (sym holds ∙ home.none_holds id v at)))
      (λ (out : IsOut plan list items h.front views).
      let is = holder_is items h.front views id v out at holds in
      let front : v.seen ≡ h.front = holder_saw items h.front views id v out at holds in
      let fit = (h.fits id v at).0 live in
      let w : View P E = giving v (list x) in (
        w,
        record {
          known = h.known;
          front = list x;
          where_is = inl (record { value = x; here = ap (λ (l : List T). l ++ x ∷ []) out.empty; same_plan = sym fit.0 ∙ same; same_list = refl; none_holds = each_set (λ _ u. u.holds ≡ false) views id w refl (λ j u n e. out.others j u e (λ q. n (q ∙ sym is))) });
          fits = each_set (λ _ u. Fits h.known (list x) u) views id w ((λ _. (fit.0, prefix_refl (list x))), λ s. absurd (true≢false (sym s ∙ live))) (λ j u n e. fits_longer h.known h.front (list x) u (subst (λ (l : List E). IsPrefix l (list x)) front pre) (h.fits j u e));
          one_first = first_stays views id v w at refl refl refl h.one_first;
        },
        refl,
      )) h.where_is

  -- while a pass holds the value, none is in its place
  pub holder_learns : (id : ℕ) (v : View P E) → v.holds ≡ true → (items : List T) (views : List (View P E)) → IsRuled plan list items views → get_elem? views id ≡ some v → length items ≡ 0
  holder_learns id v holds items views h at = ⊎_elim (λ (home : IsAtHome plan list items h.known h.front views). absurd (true≢false (sym holds ∙ home.none_holds id v at)))
      (λ (out : IsOut plan list items h.front views). ap (λ (l : List T). length l) out.empty) h.where_is

  -- ---- a split

  pub forks : (id : ℕ) (v : View P E) → v.spent ≡ false → v.holds ≡ false → v.first ≡ true
      → (items : List T) (views : List (View P E)) → IsRuled plan list items views → get_elem? views id ≡ some v → IsRuled plan list items (set views id (split_from v) ++ split_off v ∷ [])
  forks id v live free first items views h at =
      let l : View P E = split_from v in let r : View P E = split_off v in let vs : List (View P E) = set views id l in
      let is = is_place views id v h.one_first at first in
      let fit = (h.fits id v at).0 live in
      record {
        known = h.known;
        front = h.front;
        where_is = ⊎_elim (λ (home : IsAtHome plan list items h.known h.front views). inl (record {
          value = home.value;
          here = home.here;
          same_plan = home.same_plan;
          same_list = home.same_list;
          none_holds = each_snoc (λ _ u. u.holds ≡ false) vs r (each_set (λ _ u. u.holds ≡ false) views id l free (λ j u n e. home.none_holds j u e)) (λ _. free);
        }))
            (λ (out : IsOut plan list items h.front views). inr (record {
              empty = out.empty;
              place = out.place;
              holder = out.holder;
              is_holder = out.is_holder;
              took = out.took;
              at = at_longer vs (r ∷ []) out.place out.holder (set_else views id out.place l (not_holder views id v out.place out.holder at free out.at out.is_holder) ∙ out.at);
              others = each_snoc (λ j u. j ≢ out.place → u.holds ≡ false) vs r (each_set (λ j u. j ≢ out.place → u.holds ≡ false) views id l (λ _. free) (λ j u _ e. out.others j u e)) (λ _ _. free);
            })) h.where_is;
        fits = each_snoc (λ _ u. Fits h.known h.front u) vs r (each_set (λ _ u. Fits h.known h.front u) views id l ((λ _. fit), λ _. free) (λ j u _ e. h.fits j u e)) (λ _. ((λ _. fit), λ _. free));
        one_first = record {
          place = id;
          leader = l;
          at = at_longer vs (r ∷ []) id l (at_it views id v l at);
          is_first = first;
          not_spent = live;
          counts = (let c = count_of views id v h.one_first at first in let s = sum_set lives views id v l at in let t = sum_by-append lives vs (r ∷ []) in let a : lives r ≡ 1 = lives_is r live in let b : lives l ≡ lives v = refl in omega arith);
          others = each_snoc (λ j u. j ≢ id → u.first ≡ false) vs r (each_set (λ j u. j ≢ id → u.first ≡ false) views id l (λ n. absurd (n refl)) (λ j u n e _. h.one_first.others j u e (λ q. n (q ∙ sym is)))) (λ _ _. refl);
        };
      }

  -- ---- a join

  pub merges : (id : ℕ) (v : View P E) (other : ℕ) (w : View P E) → v.spent ≡ false → v.holds ≡ false → v.first ≡ true → w.spent ≡ false → w.holds ≡ false
      → (items : List T) (views : List (View P E)) → IsRuled plan list items views → get_elem? views id ≡ some v → ¬ (other ≡ id) → get_elem? (set views id (joined v w)) other ≡ some w
      → IsRuled plan list items (set (set views id (joined v w)) other spent)
  merges id v other w live free first alive idle items views h at apart at' =
      let b : View P E = joined v w in let vs : List (View P E) = set views id b in let ws : List (View P E) = set vs other spent in
      let is = is_place views id v h.one_first at first in
      let atw : get_elem? views other ≡ some w = sym (set_else views id other b apart) ∙ at' in
      let fit = (h.fits id v at).0 live in
      let fitw = (h.fits other w atw).0 alive in
      record {
        known = h.known;
        front = h.front;
        where_is = ⊎_elim (λ (home : IsAtHome plan list items h.known h.front views). inl (record {
          value = home.value;
          here = home.here;
          same_plan = home.same_plan;
          same_list = home.same_list;
          none_holds = each_set (λ _ u. u.holds ≡ false) vs other spent refl (λ j u _ e. each_set (λ _ u. u.holds ≡ false) views id b free (λ j u _ e. home.none_holds j u e) j u e);
        }))
            (λ (out : IsOut plan list items h.front views). inr (record {
              empty = out.empty;
              place = out.place;
              holder = out.holder;
              is_holder = out.is_holder;
              took = out.took;
              at = set_else vs other out.place spent (not_holder views other w out.place out.holder atw idle out.at out.is_holder) ∙ set_else views id out.place b (not_holder views id v out.place out.holder at free out.at out.is_holder) ∙ out.at;
              others = each_set (λ j u. j ≢ out.place → u.holds ≡ false) vs other spent (λ _. refl) (λ j u _ e. each_set (λ j u. j ≢ out.place → u.holds ≡ false) views id b (λ _. free) (λ j u _ e. out.others j u e) j u e);
            })) h.where_is;
        fits = each_set (λ _ u. Fits h.known h.front u) vs other spent ((λ s. absurd (true≢false s)), λ _. refl)
            (λ j u _ e. each_set (λ _ u. Fits h.known h.front u) views id b ((λ _. (fit.0, either_fits (nat_lt (length v.seen) (length w.seen)) w.seen v.seen h.front fitw.1 fit.1)), λ _. free) (λ j u _ e. h.fits j u e) j u e);
        one_first = record {
          place = id;
          leader = b;
          at = set_else vs other id spent (λ q. apart (sym q)) ∙ at_it views id v b at;
          is_first = first;
          not_spent = live;
          counts = (let c = count_of views id v h.one_first at first in let s = sum_set lives views id v b at in let t = sum_set lives vs other w spent at' in let two = sum_two lives views other id w v apart atw at in let a = lives_is w alive in let d = lives_is v live in let n : lives b ≡ lives v = refl in omega arith);
          others = each_set (λ j u. j ≢ id → u.first ≡ false) vs other spent (λ _. refl) (λ j u _ e. each_set (λ j u. j ≢ id → u.first ≡ false) views id b (λ n. absurd (n refl)) (λ j u n e _. h.one_first.others j u e (λ q. n (q ∙ sym is))) j u e);
        };
      }
