-- What is true of every run.
use Rattle.std.proofs.Common.{◌≡◌, ℕ, ◌⊎◌, inl, inr, Bool, true, false, ◌||◌, List, [], ◌∷◌, ◌++◌, IsSome, Some, None, if◌then◌else◌, refl, subst, ◌↔◌, ◌&&◌, not}
use Rattle.cb_term.specs.declared.name.Name.{Name}
use Rattle.cb_term.specs.declared.value.Value.{Value}
use Rattle.cb_term.specs.Names.{same_name}
use Rattle.cb_term.specs.Values.{Look, set_at}
use Rattle.cb_term.specs.Holds.{Holds}
use Rattle.cb_term.specs.Tree.{FormulaTree}
use Rattle.cb_term.specs.Free.{free_in}
use Rattle.cb_term.proofs.FreeLemmas.{or_left, or_right, agree_meets, agree_holds}
use Rattle.cb_term.proofs.HoldsLemmas.{IsStable, by_value}
use Rattle.cb_spec.specs.SubstTree.{SubstTree, Skip, Assign, Together, Choice, If, AnyOf, SubstTrees, End, More}
use Rattle.cb_spec.specs.Stores.{Writes, found}
use Rattle.cb_spec.specs.Runs.{Apart, Runs, RunsOne, Live, LiveEach, writes, one_writes, Fits, reads, one_reads}

found_in_one : (d e : Writes) (x : Name) → IsSome (found (d ++ e) x) → IsSome (found d x) ⊎ IsSome (found e x)
found_in_one [] e x h = inr h
found_in_one (p ∷ d) e x h =
    elim (same_name x p.0) as (λ b. IsSome (if b then Some p.1 else found (d ++ e) x) → IsSome (if b then Some p.1 else found d x) ⊎ IsSome (found e x)) [
      | true ↦ λ h. inl h
      | false ↦ λ h. found_in_one d e x h
    ] h

found_alone : (x y : Name) (v : Value) → IsSome (found ((y, v) ∷ []) x) → same_name x y ≡ true
found_alone x y v h = elim (same_name x y) as (λ b. IsSome (if b then Some v else None) → b ≡ true) [ true ↦ λ h. refl | false ↦ λ h. cc ] h

module _ (sizes : List ℕ) where
  mutual
    pub runs_targets : (s : SubstTree) (look : Look) (d : Writes) → Runs sizes s look d → (x : Name) → IsSome (found d x) → writes x s ≡ true
    runs_targets Skip look d r x h = absurd (nothing_found (subst (λ z. IsSome (found z x)) r h))
      where
        nothing_found : IsSome (found [] x) → ⊥
        nothing_found h = cc
    runs_targets (Assign y e) look d r x h = found_alone x y r.0 (subst (λ z. IsSome (found z x)) r.1.1 h)
    runs_targets (Together a b) look d r x h = elim (found_in_one r.0 r.1.0 x (subst (λ z. IsSome (found z x)) r.1.1.3 h)) [
      | inl f ↦ or_left (writes x a) (writes x b) (runs_targets a look r.0 r.1.1.0 x f)
      | inr f ↦ or_right (writes x a) (writes x b) (runs_targets b look r.1.0 r.1.1.1 x f)
    ]
    runs_targets (Choice ss) look d r x h = one_targets ss look d r x h
    runs_targets (If p a b) look d r x h = elim r [
      | inl t ↦ or_left (writes x a) (writes x b) (runs_targets a look d t.1 x h)
      | inr t ↦ or_right (writes x a) (writes x b) (runs_targets b look d t.1 x h)
    ]
    runs_targets (AnyOf z domain p s) look d r x h = runs_targets s (set_at look z r.0) d r.1.2 x h

    one_targets : (ss : SubstTrees) (look : Look) (d : Writes) → RunsOne sizes ss look d → (x : Name) → IsSome (found d x) → one_writes x ss ≡ true
    one_targets End look d r x h = absurd r
    one_targets (More s ss) look d r x h = elim r [
      | inl t ↦ or_left (writes x s) (one_writes x ss) (runs_targets s look d t x h)
      | inr t ↦ or_right (writes x s) (one_writes x ss) (one_targets ss look d t x h)
    ]

  pub sides_apart : (a b : SubstTree) (look : Look) (d e : Writes) → Fits sizes (Together a b) → Runs sizes a look d → Runs sizes b look e → Apart d e
  sides_apart a b look d e fits ra rb x in_d in_e = fits.0 x (runs_targets a look d ra x in_d) (runs_targets b look e rb x in_e)

  mutual
    pub live_runs : (s : SubstTree) (look : Look) → Fits sizes s → Live sizes s look → ¬ ((d : Writes) → ¬ Runs sizes s look d)
    live_runs Skip look fits live none = none [] refl
    live_runs (Assign x e) look fits live none = by_value sizes look e [] ⊥ (λ h. h (λ f. f)) (λ v is. none ((x, v) ∷ []) (v, (is, refl)))
    live_runs (Together a b) look fits live none =
        live_runs a look fits.1 live.0 (λ d ra. live_runs b look fits.2 live.1 (λ e rb. none (d ++ e) (d, (e, (ra, rb, sides_apart a b look d e fits ra rb, refl)))))
    live_runs (Choice End) look fits live none = fits
    live_runs (Choice (More s ss)) look fits live none = live_runs s look fits.0 live.0 (λ d r. none d (inl r))
    live_runs (If p a b) look fits live none =
        let fails : ¬ Holds sizes look p [] = λ t. live_runs a look fits.0 (live.0 t) (λ d r. none d (inl (t, r))) in
        live_runs b look fits.1 (live.1 fails) (λ d r. none d (inr (fails, r)))
    live_runs (AnyOf z domain p s) look fits live none =
        live.0 (λ v i t. live_runs s (set_at look z v) fits.2 (live.1 v i t) (λ d r. none d (v, (i, t, r))))

  mutual
    pub live_stable : (s : SubstTree) (look : Look) → IsStable (Live sizes s look)
    live_stable Skip look h = tt
    live_stable (Assign x e) look h = tt
    live_stable (Together a b) look h = (live_stable a look (λ n. h (λ l. n l.0)), live_stable b look (λ n. h (λ l. n l.1)))
    live_stable (Choice ss) look h = each_stable ss look h
    live_stable (If p a b) look h = ((λ t. live_stable a look (λ n. h (λ l. n (l.0 t)))), (λ f. live_stable b look (λ n. h (λ l. n (l.1 f)))))
    live_stable (AnyOf z domain p s) look h =
        ((λ k. h (λ l. l.0 k)), (λ v i t. live_stable s (set_at look z v) (λ n. h (λ l. n (l.1 v i t)))))

    each_stable : (ss : SubstTrees) (look : Look) → IsStable (LiveEach sizes ss look)
    each_stable End look h = tt
    each_stable (More s ss) look h = (live_stable s look (λ n. h (λ l. n l.0)), each_stable ss look (λ n. h (λ l. n l.1)))

-- ---- a run depends on the names that are read alone

-- look-ups that agree on the names of Q other than z agree on all of Q where z has a value
after_set : (look look' : Look) (z : Name) (v : Value) (Q : Name → Bool) → ((y : Name) → (not (same_name y z) && Q y) ≡ true → look y ≡ look' y) →
    (y : Name) → Q y ≡ true → set_at look z v y ≡ set_at look' z v y
after_set look look' z v Q agree y q =
    elim (same_name y z) as (λ b. ((not b && Q y) ≡ true → look y ≡ look' y) → (if b then v else look y) ≡ (if b then v else look' y)) [
      | true ↦ λ h. refl
      | false ↦ λ h. h q
    ] (agree y)

module _ (sizes : List ℕ) where
  -- the look-ups agree on the names of Q
  abbrev On : (Name → Bool) → Look → Look → Type 0
  On Q look look' = (y : Name) → Q y ≡ true → look y ≡ look' y

  on_left : (Q R : Name → Bool) (look look' : Look) → On (λ y. Q y || R y) look look' → On Q look look'
  on_left Q R look look' agree y q = agree y (or_left (Q y) (R y) q)

  on_right : (Q R : Name → Bool) (look look' : Look) → On (λ y. Q y || R y) look look' → On R look look'
  on_right Q R look look' agree y q = agree y (or_right (Q y) (R y) q)

  tests_agree : (p : FormulaTree) (look look' : Look) → On (λ y. free_in y p) look look' → Holds sizes look p [] ↔ Holds sizes look' p []
  tests_agree p look look' agree = agree_holds sizes look look' ⊥ p [] agree

  mutual
    pub runs_agree : (s : SubstTree) (look look' : Look) → On (λ y. reads y s) look look' → (d : Writes) → Runs sizes s look d → Runs sizes s look' d
    runs_agree Skip look look' agree d r = r
    runs_agree (Assign x e) look look' agree d r = (r.0, ((agree_meets sizes look look' e [] (λ w. w ≡ r.0) agree).0 r.1.0, r.1.1))
    runs_agree (Together a b) look look' agree d r = (
      r.0,
      (
        r.1.0,
        (
          runs_agree a look look' (on_left (λ y. reads y a) (λ y. reads y b) look look' agree) r.0 r.1.1.0,
          runs_agree b look look' (on_right (λ y. reads y a) (λ y. reads y b) look look' agree) r.1.0 r.1.1.1,
          r.1.1.2,
          r.1.1.3,
        ),
      ),
    )
    runs_agree (Choice ss) look look' agree d r = one_agrees ss look look' agree d r
    runs_agree (If p a b) look look' agree d r =
        let test = tests_agree p look look' (on_left (λ y. free_in y p) (λ y. reads y a || reads y b) look look' agree) in
        let sides = on_right (λ y. free_in y p) (λ y. reads y a || reads y b) look look' agree in
        elim r [
          | inl t ↦ inl (test.0 t.0, runs_agree a look look' (on_left (λ y. reads y a) (λ y. reads y b) look look' sides) d t.1)
          | inr t ↦ inr ((λ h. t.0 (test.1 h)), runs_agree b look look' (on_right (λ y. reads y a) (λ y. reads y b) look look' sides) d t.1)
        ]
    runs_agree (AnyOf z domain p s) look look' agree d r =
        let inside = after_set look look' z r.0 (λ y. free_in y p || reads y s) agree in (
          r.0,
          (
            r.1.0,
            (tests_agree p (set_at look z r.0) (set_at look' z r.0) (on_left (λ y. free_in y p) (λ y. reads y s) (set_at look z r.0) (set_at look' z r.0) inside)).0 r.1.1,
            runs_agree s (set_at look z r.0) (set_at look' z r.0) (on_right (λ y. free_in y p) (λ y. reads y s) (set_at look z r.0) (set_at look' z r.0) inside) d r.1.2,
          ),
        )

    one_agrees : (ss : SubstTrees) (look look' : Look) → On (λ y. one_reads y ss) look look' → (d : Writes) → RunsOne sizes ss look d → RunsOne sizes ss look' d
    one_agrees End look look' agree d r = r
    one_agrees (More s ss) look look' agree d r = elim r [
      | inl t ↦ inl (runs_agree s look look' (on_left (λ y. reads y s) (λ y. one_reads y ss) look look' agree) d t)
      | inr t ↦ inr (one_agrees ss look look' (on_right (λ y. reads y s) (λ y. one_reads y ss) look look' agree) d t)
    ]

  mutual
    pub live_agrees : (s : SubstTree) (look look' : Look) → On (λ y. reads y s) look look' → Live sizes s look → Live sizes s look'
    live_agrees Skip look look' agree l = tt
    live_agrees (Assign x e) look look' agree l = tt
    live_agrees (Together a b) look look' agree l = (
      live_agrees a look look' (on_left (λ y. reads y a) (λ y. reads y b) look look' agree) l.0,
      live_agrees b look look' (on_right (λ y. reads y a) (λ y. reads y b) look look' agree) l.1,
    )
    live_agrees (Choice ss) look look' agree l = each_agrees ss look look' agree l
    live_agrees (If p a b) look look' agree l =
        let test = tests_agree p look look' (on_left (λ y. free_in y p) (λ y. reads y a || reads y b) look look' agree) in
        let sides = on_right (λ y. free_in y p) (λ y. reads y a || reads y b) look look' agree in (
          (λ t. live_agrees a look look' (on_left (λ y. reads y a) (λ y. reads y b) look look' sides) (l.0 (test.1 t))),
          (λ f. live_agrees b look look' (on_right (λ y. reads y a) (λ y. reads y b) look look' sides) (l.1 (λ t. f (test.0 t)))),
        )
    live_agrees (AnyOf z domain p s) look look' agree l =
        let inside : (v : Value) → On (λ y. free_in y p || reads y s) (set_at look z v) (set_at look' z v) = λ v. after_set look look' z v (λ y. free_in y p || reads y s) agree in
        let test : (v : Value) → Holds sizes (set_at look z v) p [] ↔ Holds sizes (set_at look' z v) p [] =
        λ v. tests_agree p (set_at look z v) (set_at look' z v) (on_left (λ y. free_in y p) (λ y. reads y s) (set_at look z v) (set_at look' z v) (inside v)) in (
          (λ fails. l.0 (λ v i t. fails v i ((test v).0 t))),
          (λ v i t. live_agrees s (set_at look z v) (set_at look' z v) (on_right (λ y. free_in y p) (λ y. reads y s) (set_at look z v) (set_at look' z v) (inside v)) (l.1 v i ((test v).1 t))),
        )

    each_agrees : (ss : SubstTrees) (look look' : Look) → On (λ y. one_reads y ss) look look' → LiveEach sizes ss look → LiveEach sizes ss look'
    each_agrees End look look' agree l = tt
    each_agrees (More s ss) look look' agree l = (
      live_agrees s look look' (on_left (λ y. reads y s) (λ y. one_reads y ss) look look' agree) l.0,
      each_agrees ss look look' (on_right (λ y. reads y s) (λ y. one_reads y ss) look look' agree) l.1,
    )
