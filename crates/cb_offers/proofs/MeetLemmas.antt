-- Who meets on a channel, by what rows offer.
use Rattle.std.proofs.Common.{◌≡◌, ◌≢◌, ℕ, zero, suc, ◌<◌, Bool, true, false, if◌then◌else◌, Option, Some, None, unwrap_or, List, [], ◌∷◌, length, slice_get, set, replicate, refl, sym, ap, subst, ◌∙◌, arith, eq-eqb}
use Rattle.std.proofs.lemmas.Bool.{eqb-true}
use Rattle.std.proofs.lemmas.Option.{some_pair_parts}
use Rattle.cb_offers.specs.declared.offers.Side.{Side}
use Rattle.cb_offers.specs.declared.offers.Side.TheVariants.{Output, Input, Call}
use Rattle.cb_offers.specs.Tables.{sends, receives, next, first_in, or_else, first_of, both, meeting, IsOffered}
use Rattle.cb_offers.proofs.ChannelLemmas.{get_set_same, get_set_other}

-- ---- a side that passes a test

-- a side of the row that passes stands at b
abbrev Passes : (Side → Bool) → List Side → ℕ → Type 0
Passes test row b = (s : Side) × ((slice_get row b ≡ Some s) × (test s ≡ true))

in_row : (test : Side → Bool) (row : List Side) (b : ℕ) → first_in test row ≡ Some b → Passes test row b
in_row test [] b e = absurd (cc)
in_row test (r ∷ row) b e = by (test r) refl b e (in_row test row)
  where
    on : (o : Option ℕ) → first_in test row ≡ o → (b : ℕ) → next o ≡ Some b → ((b : ℕ) → first_in test row ≡ Some b → Passes test row b) → Passes test (r ∷ row) b
    on None is b e more = absurd (cc)
    on (Some n) is b e more =
        let same : suc n ≡ b = grind arith in
        subst (Passes test (r ∷ row)) same (more n is)

    by : (t : Bool) → test r ≡ t → (b : ℕ) → (if t then Some 0 else next (first_in test row)) ≡ Some b → ((b : ℕ) → first_in test row ≡ Some b → Passes test row b) → Passes test (r ∷ row) b
    by true h b e more =
        let same : 0 ≡ b = grind arith in
        subst (Passes test (r ∷ row)) same (r, (refl, h))
    by false h b e more = on (first_in test row) refl b e more

-- a controller offers a side that passes
abbrev pub AnyOffers : (Side → Bool) → List (List Side) → ℕ → Type 0
AnyOffers test rows b = (i : ℕ) × ((s : Side) × (IsOffered rows i b s × (test s ≡ true)))

pub first_offered : (test : Side → Bool) (rows : List (List Side)) (b : ℕ) → first_of test rows ≡ Some b → AnyOffers test rows b
first_offered test [] b e = absurd (cc)
first_offered test (row ∷ rows) b e = by (first_in test row) refl e (first_offered test rows b)
  where
    by : (o : Option ℕ) → first_in test row ≡ o → or_else o (first_of test rows) ≡ Some b → (first_of test rows ≡ Some b → AnyOffers test rows b) → AnyOffers test (row ∷ rows) b
    by None is e more = (let m = more e in (suc m.0, (m.1.0, m.1.1)))
    by (Some n) is e more = (let p = in_row test row b (is ∙ e) in (zero, (p.0, (p.1.0, p.1.1))))

none_in : (test : Side → Bool) (row : List Side) (b : ℕ) (s : Side) → slice_get row b ≡ Some s → test s ≡ true → first_in test row ≢ None
none_in test [] b s at pass e = absurd (cc)
none_in test (r ∷ row) zero s at pass e =
    let same : r ≡ s = grind arith in
    let here : test r ≡ true = ap test same ∙ pass in
    let some : first_in test (r ∷ row) ≡ Some 0 = ap (λ t. if t then Some 0 else next (first_in test row)) here in
    absurd (cc)
none_in test (r ∷ row) (suc b) s at pass e = by (test r) e (none_in test row b s at pass)
  where
    on : (o : Option ℕ) → next o ≡ None → o ≡ None
    on None e = refl
    on (Some n) e = absurd (cc)

    by : (t : Bool) → (if t then Some 0 else next (first_in test row)) ≡ None → (first_in test row ≡ None → ⊥) → ⊥
    by true e never = absurd (cc)
    by false e never = never (on (first_in test row) e)

pub none_offered : (test : Side → Bool) (rows : List (List Side)) (i b : ℕ) (s : Side) → IsOffered rows i b s → test s ≡ true → first_of test rows ≢ None
none_offered test [] i b s at pass e = absurd (cc)
none_offered test (row ∷ rows) zero b s at pass e = by (first_in test row) e (none_in test row b s at pass)
  where
    by : (o : Option ℕ) → or_else o (first_of test rows) ≡ None → (o ≡ None → ⊥) → ⊥
    by None e never = never refl
    by (Some n) e never = absurd (cc)
none_offered test (row ∷ rows) (suc i) b s at pass e = by (first_in test row) e (none_offered test rows i b s at pass)
  where
    by : (o : Option ℕ) → or_else o (first_of test rows) ≡ None → (first_of test rows ≡ None → ⊥) → ⊥
    by None e never = never e
    by (Some n) e never = absurd (cc)

sends_only : (k : ℕ) (s : Side) → sends k s ≡ true → s ≡ Output k
sends_only k (Output j) e = ap Output (eqb-true j k e)
sends_only k (Input j) e = absurd (cc)
sends_only k Call e = absurd (cc)

receives_only : (k : ℕ) (s : Side) → receives k s ≡ true → s ≡ Input k
receives_only k (Output j) e = absurd (cc)
receives_only k (Input j) e = ap Input (eqb-true j k e)
receives_only k Call e = absurd (cc)

-- ---- both ends of a channel

both_parts : (m n : Option ℕ) (a b : ℕ) → both m n ≡ Some (a, b) → (m ≡ Some a) × (n ≡ Some b)
both_parts None n a b e = absurd (cc)
both_parts (Some x) None a b e = absurd (cc)
both_parts (Some x) (Some y) a b e = (let p = some_pair_parts x a y b e in (ap Some p.0, ap Some p.1))

both_none : (m n : Option ℕ) → both m n ≡ None → m ≢ None → n ≢ None → ⊥
both_none None n e p q = p refl
both_none (Some x) None e p q = q refl
both_none (Some x) (Some y) e p q = absurd (cc)

-- the branches that meet are offered by controllers i and j
pub meeting_offered : (rows : List (List Side)) (k a b : ℕ) → meeting rows k ≡ Some (a, b) → (i : ℕ) × ((j : ℕ) × (IsOffered rows i a (Output k) × IsOffered rows j b (Input k)))
meeting_offered rows k a b e =
    let parts = both_parts (first_of (sends k) rows) (first_of (receives k) rows) a b e in
    let x = first_offered (sends k) rows a parts.0 in
    let y = first_offered (receives k) rows b parts.1 in
    (x.0, (y.0, (subst (IsOffered rows x.0 a) (sends_only k x.1.0 x.1.1.1) x.1.1.0, subst (IsOffered rows y.0 b) (receives_only k y.1.0 y.1.1.1) y.1.1.0)))

-- where no branches meet, not both ends are offered
pub meeting_none : (rows : List (List Side)) (k : ℕ) → meeting rows k ≡ None → (i a j b : ℕ) → IsOffered rows i a (Output k) → IsOffered rows j b (Input k) → ⊥
meeting_none rows k e i a j b x y =
    both_none (first_of (sends k) rows) (first_of (receives k) rows) e (none_offered (sends k) rows i a (Output k) x (eq-eqb k k refl)) (none_offered (receives k) rows j b (Input k) y (eq-eqb k k refl))

-- ---- another row for one controller

pub offered_set : (rows : List (List Side)) (i b : ℕ) (row : List Side) (s : Side) → i < length rows → slice_get row b ≡ Some s → IsOffered (set rows i row) i b s
offered_set rows i b row s range at = ap (λ o. slice_get (unwrap_or o []) b) (get_set_same rows i row range) ∙ at

pub set_offered : (rows : List (List Side)) (i b : ℕ) (row : List Side) (s : Side) → i < length rows → IsOffered (set rows i row) i b s → slice_get row b ≡ Some s
set_offered rows i b row s range at = sym (ap (λ o. slice_get (unwrap_or o []) b) (get_set_same rows i row range)) ∙ at

pub offered_other : (rows : List (List Side)) (i j b : ℕ) (row : List Side) (s : Side) → (i ≡ j → ⊥) → IsOffered rows j b s → IsOffered (set rows i row) j b s
offered_other rows i j b row s apart at = ap (λ o. slice_get (unwrap_or o []) b) (get_set_other rows i j row apart) ∙ at

pub other_offered : (rows : List (List Side)) (i j b : ℕ) (row : List Side) (s : Side) → (i ≡ j → ⊥) → IsOffered (set rows i row) j b s → IsOffered rows j b s
other_offered rows i j b row s apart at = sym (ap (λ o. slice_get (unwrap_or o []) b) (get_set_other rows i j row apart)) ∙ at

-- ---- where nothing is offered

pub offered_within : (rows : List (List Side)) (i b : ℕ) (s : Side) → IsOffered rows i b s → i < length rows
offered_within [] i b s at = absurd (cc)
offered_within (row ∷ rows) zero b s at = omega arith
offered_within (row ∷ rows) (suc i) b s at = omega (arith, offered_within rows i b s at)

pub none_in_empty : (n i b : ℕ) (s : Side) → IsOffered (replicate n []) i b s → ⊥
none_in_empty zero i b s at = absurd (cc)
none_in_empty (suc n) zero b s at = absurd (cc)
none_in_empty (suc n) (suc i) b s at = none_in_empty n i b s at
