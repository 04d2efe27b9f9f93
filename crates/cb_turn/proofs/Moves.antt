-- Each step on the table keeps the rule. What it does to the views is a step of the turn's own rule.
use Rattle.std.proofs.Common.{◌≡◌, ℕ, ◌==◌, true, false, List, [], ◌∷◌, ◌++◌, slice_index, slice_set, Option, Some, None, IsSome, sym, refl, ap, ap₂, ◌∙◌, subst, arith}
use mathlib.Core.Option.{some, none, some-injective}
use lib.ListN.{get_elem?}
use prog.Atomic.{either}
use Rattle.atomic_table.specs.Table.{State, Me, Step, Act, Valid, Allows, Splits, Joins, homes_after, carried_after, rest, Final, Seen, opening as opening_state}
use Rattle.atomic_table.specs.Table.Act.{keeps, takes as fetches, gives as returns}
use Rattle.atomic_table.proofs.Lists.{set_again}
use Rattle.cb_turn.specs.declared.view.View.{View}
use Rattle.cb_turn.specs.Views.{IsPrefix, IsRuled, Takes, taking, giving, split_from, split_off, joined, spent, started}
use Rattle.cb_turn.proofs.Steps.{takes, gives, forks, merges, free_learns, holder_learns, starts_with}
use Rattle.cb_turn.specs.Slots.{Shows, IsKept, Claims, Releases}

-- the slots that are at home, each with its value
abbrev Homes : Type 0 → Type 0
Homes T = List (mathlib.Core.Option.Option (Option T))

abbrev value_of : {T : Type 0} → List (ℕ × Option T) → Option T
value_of [] = None
value_of (c ∷ cs) = c.1

module _ {T P E : Type 0} (plan : T → P) (list : T → List E) where
  -- ---- the start

  pub begins : (x : T) (ws : List ℕ) (xs : List (Option T)) → ws ≡ 0 ∷ [] → xs ≡ Some x ∷ [] → IsKept plan list (opening_state ws xs (started (plan x) (list x)))
  begins x ws xs a b = rw (a, b) record { items = x ∷ []; shows = (refl, refl); ruled = starts_with plan list x }

  -- ---- a take

  -- what the exchange of the word owes, at these words and slots
  abbrev Claimed : Step (Option T) → ℕ → View P E → List (View P E) → List ℕ → Homes T → Type 0
  Claimed st id v views ws hs = (w : View P E) × (a : Act (Option T)) × Valid hs [] a
      × IsKept plan list record { words = slice_set ws 0 (either (slice_index ws 0 == 0) 1 (slice_index ws 0)); homes = homes_after hs [] a; views = slice_set views id w }
      × Claims plan list st (v, []) (slice_index ws 0) (w, carried_after [] a)

  claimed : (st : Step (Option T)) (id : ℕ) (v : View P E) → v.spent ≡ false → v.holds ≡ false → (s : State (Option T) (View P E)) (items : List T) → Shows plan list items s → IsRuled plan list items s.views → get_elem? s.views id ≡ some v → Claimed st id v s.views s.words s.homes
  claimed st id v live free s [] shows ruled at =
      subst (λ (ws : List ℕ). Claimed st id v s.views ws s.homes) (sym shows.0) (subst (λ (hs : Homes T). Claimed st id v s.views (1 ∷ []) hs) (sym shows.1) (
        v,
        keeps,
        tt,
        record { items = []; shows = (refl, refl); ruled = subst (λ (vs : List (View P E)). IsRuled plan list [] vs) (sym (set_again s.views id v at)) ruled },
        ((λ none. absurd (omega arith)), λ _. (refl, free_learns plan list id v live free [] s.views ruled at refl)),
      ))
  claimed st id v live free s (x ∷ []) shows ruled at =
      let t = takes plan list id v live free x [] s.views ruled at in
      subst (λ (ws : List ℕ). Claimed st id v s.views ws s.homes) (sym shows.0) (subst (λ (hs : Homes T). Claimed st id v s.views (0 ∷ []) hs) (sym shows.1) (
        t.0,
        fetches 0 (Some x),
        refl,
        record { items = []; shows = (refl, refl); ruled = t.1 },
        ((λ _. (x, t.2, refl)), λ n. absurd (n refl)),
      ))
  claimed st id v live free s (x ∷ y ∷ ys) shows ruled at = absurd shows

  pub claims : (st : Step (Option T)) (n id : ℕ) (me : Me (Option T) (View P E)) → me.1 ≡ [] → me.0.spent ≡ false → me.0.holds ≡ false → Allows (IsKept plan list) n id me 0 (λ n. either (n == 0) 1 n) (Claims plan list st me)
  claims st n id me bare live free = subst (λ (c : List (ℕ × Option T)). Allows (IsKept plan list) n id (me.0, c) 0 (λ n. either (n == 0) 1 n) (Claims plan list st (me.0, c))) (sym bare)
      (λ s h len at fits. claimed st id me.0 live free s h.items h.shows h.ruled at)

  -- the pass that has won has the slot out, with the value in it
  pub claimed_slot : (old me : Me (Option T) (View P E)) → ((x : T) × Takes plan list old.0 x me.0 × (me.1 ≡ (0, Some x) ∷ old.1)) → (y : Option T) × (me.1 ≡ (0, y) ∷ rest me.1)
  claimed_slot old me won = (Some won.0, won.2 ∙ ap (λ (l : List (ℕ × Option T)). (0, Some won.0) ∷ l) (sym (ap rest won.2)))

  pub claimed_is : (old me new : Me (Option T) (View P E)) (won : (x : T) × Takes plan list old.0 x me.0 × (me.1 ≡ (0, Some x) ∷ old.1)) → old.1 ≡ [] → new ≡ (me.0, (0, None) ∷ rest me.1) → new ≡ (taking old.0 (list won.0), (0, None) ∷ [])
  claimed_is old me new won bare emptied = emptied ∙ ap₂ (λ (u : View P E) (l : List (ℕ × Option T)). (u, (0, None) ∷ rest l)) won.1.2 (won.2 ∙ ap (λ (l : List (ℕ × Option T)). (0, Some won.0) ∷ l) bare)

  -- ---- a split and a join

  shows_on : (s : State (Option T) (View P E)) (vs : List (View P E)) (items : List T) → Shows plan list items s → Shows plan list items record { words = s.words; homes = s.homes; views = vs }
  shows_on s vs [] h = h
  shows_on s vs (x ∷ []) h = h
  shows_on s vs (x ∷ y ∷ ys) h = absurd h

  pub splits : (id : ℕ) (v : View P E) → v.spent ≡ false → v.holds ≡ false → v.first ≡ true → Splits (IsKept plan list) id v (split_from v) (split_off v)
  splits id v live free first s h at = let vs : List (View P E) = slice_set s.views id (split_from v) ++ split_off v ∷ [] in
      record { items = h.items; shows = shows_on s vs h.items h.shows; ruled = forks plan list id v live free first h.items s.views h.ruled at }

  pub joins : (id : ℕ) (v : View P E) (other : ℕ) (w : View P E) → v.spent ≡ false → v.holds ≡ false → v.first ≡ true → w.spent ≡ false → w.holds ≡ false → Joins (IsKept plan list) id v other w (joined v w) spent
  joins id v other w live free first alive idle s h at apart at' = let vs : List (View P E) = slice_set (slice_set s.views id (joined v w)) other spent in
      record { items = h.items; shows = shows_on s vs h.items h.shows; ruled = merges plan list id v other w live free first alive idle h.items s.views h.ruled at apart at' }

  -- ---- a give

  -- what the store of the word owes, at these words and slots
  abbrev Released : Step (Option T) → ℕ → View P E → T → List (View P E) → List ℕ → Homes T → Type 0
  Released st id v x views ws hs = (w : View P E) × (a : Act (Option T)) × Valid hs ((0, Some x) ∷ []) a
      × IsKept plan list record { words = slice_set ws 0 0; homes = homes_after hs ((0, Some x) ∷ []) a; views = slice_set views id w }
      × Releases plan list st (v, (0, Some x) ∷ []) 0 (w, carried_after ((0, Some x) ∷ []) a)

  released : (st : Step (Option T)) (id : ℕ) (v : View P E) (x : T) → v.spent ≡ false → v.holds ≡ true → v.plan ≡ Some (plan x) → IsPrefix v.seen (list x)
      → (s : State (Option T) (View P E)) (items : List T) → Shows plan list items s → IsRuled plan list items s.views → get_elem? s.views id ≡ some v → Released st id v x s.views s.words s.homes
  released st id v x live holds same pre s [] shows ruled at =
      let t = gives plan list id v x live holds same pre [] s.views ruled at in
      subst (λ (ws : List ℕ). Released st id v x s.views ws s.homes) (sym shows.0) (subst (λ (hs : Homes T). Released st id v x s.views (1 ∷ []) hs) (sym shows.1) (
        t.0,
        returns,
        tt,
        record { items = x ∷ []; shows = (refl, refl); ruled = t.1 },
        λ y is. let f : Some x ≡ Some y = ap value_of is in let e : x ≡ y = cc in ap₂ (λ (u : View P E) (c : List (ℕ × Option T)). (u, c)) (t.2 ∙ ap (λ (z : T). giving v (list z)) e) refl,
      ))
  released st id v x live holds same pre s (y ∷ []) shows ruled at = absurd (let none_left : 1 ≡ 0 = holder_learns plan list id v holds (y ∷ []) s.views ruled at in omega arith)
  released st id v x live holds same pre s (y ∷ z ∷ zs) shows ruled at = absurd shows

  -- the pass that has the slot out has put the value into it
  filled : (old me : Me (Option T) (View P E)) (x : T) → old.1 ≡ (0, None) ∷ [] → me ≡ (old.0, (0, Some x) ∷ rest old.1) → me ≡ (old.0, (0, Some x) ∷ [])
  filled old me x out put = put ∙ ap (λ (l : List (ℕ × Option T)). (old.0, (0, Some x) ∷ rest l)) out

  pub releases : (st : Step (Option T)) (n id : ℕ) (old me : Me (Option T) (View P E)) (x : T) → old.1 ≡ (0, None) ∷ [] → me ≡ (old.0, (0, Some x) ∷ rest old.1)
      → old.0.spent ≡ false → old.0.holds ≡ true → old.0.plan ≡ Some (plan x) → IsPrefix old.0.seen (list x) → Allows (IsKept plan list) n id me 0 (λ _. 0) (λ _. Releases plan list st me 0)
  releases st n id old me x out put live holds same pre = subst (λ (m : Me (Option T) (View P E)). Allows (IsKept plan list) n id m 0 (λ _. 0) (λ _. Releases plan list st m 0)) (sym (filled old me x out put))
      (λ s h len at fits. released st id old.0 x live holds same pre s h.items h.shows h.ruled at)

  pub released_is : (st : Step (Option T)) (old me new : Me (Option T) (View P E)) (x : T) → old.1 ≡ (0, None) ∷ [] → me ≡ (old.0, (0, Some x) ∷ rest old.1) → Releases plan list st me 0 new → new ≡ (giving old.0 (list x), [])
  released_is st old me new x out put tells = let is = filled old me x out put in
      tells x (ap (λ (m : Me (Option T) (View P E)). m.1) is) ∙ ap (λ (m : Me (Option T) (View P E)). (giving m.0 (list x), [])) is

  -- ---- the end

  -- while no pass is split off and the first is free, the slot has the value
  home : (id : ℕ) (v : View P E) → v.spent ≡ false → v.holds ≡ false → v.first ≡ true → v.splits ≡ 0 → (s : State (Option T) (View P E)) (items : List T) → Shows plan list items s → IsRuled plan list items s.views → get_elem? s.views id ≡ some v
      → (x : T) × (get_elem? s.homes 0 ≡ some (some (Some x))) × (v.plan ≡ Some (plan x)) × IsPrefix v.seen (list x)
  home id v live free first zero s [] shows ruled at = absurd (let a = (free_learns plan list id v live free [] s.views ruled at refl).1 first in omega arith)
  home id v live free first zero s (x ∷ []) shows ruled at = let t = takes plan list id v live free x [] s.views ruled at in
      (x, ap (λ (hs : Homes T). get_elem? hs 0) shows.1, t.2.0, t.2.1)
  home id v live free first zero s (x ∷ y ∷ ys) shows ruled at = absurd shows

  closes : (id : ℕ) (v : View P E) → v.spent ≡ false → v.holds ≡ false → v.first ≡ true → v.splits ≡ 0 → (ws : List ℕ) (xs : List (Option T)) → Final (Seen (IsKept plan list) id v) ws xs
      → (x : T) × (get_elem? xs 0 ≡ some (Some x)) × (v.plan ≡ Some (plan x)) × IsPrefix v.seen (list x)
  closes id v live free first zero ws xs f = let k = f.1.0 in let h = home id v live free first zero f.0 k.items k.shows k.ruled f.1.1 in (h.0, f.4 0 (Some h.0) h.1, h.2, h.3)

  pub closed_some : (id : ℕ) (v : View P E) → v.spent ≡ false → v.holds ≡ false → v.first ≡ true → v.splits ≡ 0 → (ws : List ℕ) (xs : List (Option T)) (r : Option T) → Final (Seen (IsKept plan list) id v) ws xs → get_elem? xs 0 ≡ some r → IsSome r
  closed_some id v live free first zero ws xs r f at = let h = closes id v live free first zero ws xs f in
      subst (λ (o : Option T). IsSome o) (some-injective (Some h.0) r (sym h.1 ∙ at)) refl

  pub closed_value : (id : ℕ) (v : View P E) → v.spent ≡ false → v.holds ≡ false → v.first ≡ true → v.splits ≡ 0 → (ws : List ℕ) (xs : List (Option T)) (r : Option T) (u : T) → Final (Seen (IsKept plan list) id v) ws xs → get_elem? xs 0 ≡ some r → r ≡ Some u
      → (v.plan ≡ Some (plan u)) × IsPrefix v.seen (list u)
  closed_value id v live free first zero ws xs r u f at is = let h = closes id v live free first zero ws xs f in
      let s : Some h.0 ≡ Some u = some-injective (Some h.0) r (sym h.1 ∙ at) ∙ is in let e : h.0 ≡ u = cc in
      subst (λ (y : T). (v.plan ≡ Some (plan y)) × IsPrefix v.seen (list y)) e (h.2, h.3)
