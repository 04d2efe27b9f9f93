-- What the rendezvous table's rows tell of the state.
use Rattle.std.proofs.Common.{◌≡◌, ℕ, zero, suc, ◌≢◌, Bool, true, false, List, [], ◌∷◌, slice_get, Option, Some, None, unwrap_or, if◌then◌else◌, refl, sym, ap, subst, ◌∙◌}
use Rattle.std.proofs.lemmas.Bool.{eqb-true, eq-eqb}
use Rattle.cb_spec.specs.declared.event.Event.{Event}
use Rattle.cb_spec.specs.ProcessTree.{ProcessTree, Stop, Skip, Call, Prefix, Choice, Internal, If}
use Rattle.cb_spec.specs.Stores.{Writes}
use Rattle.cb_spec.specs.States.{IsAt}
use Rattle.cb_safety_laws.proofs.Lists.{at_map, two_at}
use Rattle.cb_code.specs.declared.place.Place.{Place}
use Rattle.cb_code.specs.declared.place.Place.TheVariants.{At, Ready, Ended}
use Rattle.cb_code.specs.Nodes.{part}
use Rattle.cb_settling.specs.Branches.{IsPrefix}
use Rattle.cb_offers.specs.declared.offers.Side.{Side}
use Rattle.cb_offers.specs.declared.offers.Side.TheVariants as side
use Rattle.cb_offers.specs.Tables.{sends, receives, next, first_in, or_else, first_of, both, meeting, IsOffered}
use Rattle.cb_system.specs.Branches.{AreOffered, HasBranch, IsShown}
use Rattle.cb_system.specs.Rows.{side_of, side_at, row_at, rows_at}
use Rattle.cb_system.proofs.PlaceLemmas.{get_map}
use Rattle.cb_system.proofs.BranchLemmas.{prefix_at}

-- ---- first ones

-- the side that is found passes, and is offered
abbrev IsFound : (Side → Bool) → List Side → ℕ → Type 0
IsFound test row n = (s : Side) × (slice_get row n ≡ Some s) × (test s ≡ true)

in_row : (test : Side → Bool) (row : List Side) (n : ℕ) → first_in test row ≡ Some n → IsFound test row n
in_row test [] n e = absurd (cc)
in_row test (s ∷ row) n e = by (test s) refl (first_in test row) refl (in_row test row) e
  where
    by : (b : Bool) → test s ≡ b → (o : Option ℕ) → first_in test row ≡ o → ((m : ℕ) → first_in test row ≡ Some m → IsFound test row m) → (if b then Some 0 else next o) ≡ Some n → IsFound test (s ∷ row) n
    by true t o f rest e = let z : zero ≡ n = ap (λ o. unwrap_or o n) e in subst (IsFound test (s ∷ row)) z (s, refl, t)
    by false t None f rest e = absurd (cc)
    by false t (Some m) f rest e = let z : suc m ≡ n = ap (λ o. unwrap_or o n) e in let r = rest m f in subst (IsFound test (s ∷ row)) z (r.0, r.1, r.2)

none_in : (test : Side → Bool) (row : List Side) (n : ℕ) (s : Side) → first_in test row ≡ None → slice_get row n ≡ Some s → test s ≡ true → ⊥
none_in test [] n s e at t = absurd (cc)
none_in test (x ∷ row) n s e at t = by (test x) refl (first_in test row) refl (λ m f there. none_in test row m s f there t) e n at
  where
    by : (b : Bool) → test x ≡ b → (o : Option ℕ) → first_in test row ≡ o → ((m : ℕ) → first_in test row ≡ None → slice_get row m ≡ Some s → ⊥) → (if b then Some 0 else next o) ≡ None → (n : ℕ) → slice_get (x ∷ row) n ≡ Some s → ⊥
    by true u o f rest e n at = absurd (cc)
    by false u (Some m) f rest e n at = absurd (cc)
    by false u None f rest e zero at = let same : x ≡ s = ap (λ o. unwrap_or o x) at in let v : test x ≡ true = ap test same ∙ t in absurd (cc)
    by false u None f rest e (suc n) at = rest n f at

-- a side of the rows passes
abbrev IsFoundIn : (Side → Bool) → List (List Side) → ℕ → Type 0
IsFoundIn test rows n = (i : ℕ) × (s : Side) × IsOffered rows i n s × (test s ≡ true)

in_rows : (test : Side → Bool) (rows : List (List Side)) (n : ℕ) → first_of test rows ≡ Some n → IsFoundIn test rows n
in_rows test [] n e = absurd (cc)
in_rows test (row ∷ rows) n e = by (first_in test row) refl (in_rows test rows n) e
  where
    by : (o : Option ℕ) → first_in test row ≡ o → (first_of test rows ≡ Some n → IsFoundIn test rows n) → or_else o (first_of test rows) ≡ Some n → IsFoundIn test (row ∷ rows) n
    by None f rest e = let r = rest e in (suc r.0, r.1, r.2, r.3)
    by (Some m) f rest e = let r = in_row test row n (f ∙ e) in (0, r.0, r.1, r.2)

none_of : (test : Side → Bool) (rows : List (List Side)) (i n : ℕ) (s : Side) → first_of test rows ≡ None → IsOffered rows i n s → test s ≡ true → ⊥
none_of test [] i n s e at t = absurd (cc)
none_of test (row ∷ rows) i n s e at t = by (first_in test row) refl (λ j f there. none_of test rows j n s f there t) e i at
  where
    by : (o : Option ℕ) → first_in test row ≡ o → ((j : ℕ) → first_of test rows ≡ None → IsOffered rows j n s → ⊥) → or_else o (first_of test rows) ≡ None → (i : ℕ) → IsOffered (row ∷ rows) i n s → ⊥
    by (Some m) f rest e i at = absurd (cc)
    by None f rest e zero at = none_in test row n s f at t
    by None f rest e (suc i) at = rest i e at

-- where both sides of a channel are offered, branches meet on it
pub both_meet : (rows : List (List Side)) (k i m j n : ℕ) → IsOffered rows i m (side.Output k) → IsOffered rows j n (side.Input k) → meeting rows k ≢ None
both_meet rows k i m j n out into e = by (first_of (sends k) rows) refl (first_of (receives k) rows) refl e
  where
    by : (o : Option ℕ) → first_of (sends k) rows ≡ o → (p : Option ℕ) → first_of (receives k) rows ≡ p → both o p ≡ None → ⊥
    by None f p g e = none_of (sends k) rows i m (side.Output k) f out (eq-eqb k k refl)
    by (Some a) f None g e = none_of (receives k) rows j n (side.Input k) g into (eq-eqb k k refl)
    by (Some a) f (Some b) g e = absurd (cc)

abbrev first_one : Option (ℕ × ℕ) → Option ℕ
first_one None = None
first_one (Some p) = Some p.0

abbrev second_one : Option (ℕ × ℕ) → Option ℕ
second_one None = None
second_one (Some p) = Some p.1

-- those that meet are offered
pub met : (rows : List (List Side)) (k m n : ℕ) → meeting rows k ≡ Some (m, n) → ((i : ℕ) × IsOffered rows i m (side.Output k)) × ((j : ℕ) × IsOffered rows j n (side.Input k))
met rows k m n e = by (first_of (sends k) rows) refl (first_of (receives k) rows) refl e
  where
    output : (s : Side) → sends k s ≡ true → s ≡ side.Output k
    output (side.Output j) e = ap side.Output (eqb-true j k e)
    output (side.Input j) e = absurd (cc)
    output side.Call e = absurd (cc)

    input : (s : Side) → receives k s ≡ true → s ≡ side.Input k
    input (side.Output j) e = absurd (cc)
    input (side.Input j) e = ap side.Input (eqb-true j k e)
    input side.Call e = absurd (cc)

    by : (o : Option ℕ) → first_of (sends k) rows ≡ o → (p : Option ℕ) → first_of (receives k) rows ≡ p → both o p ≡ Some (m, n) →
        ((i : ℕ) × IsOffered rows i m (side.Output k)) × ((j : ℕ) × IsOffered rows j n (side.Input k))
    by None f p g e = absurd (cc)
    by (Some a) f None g e = absurd (cc)
    by (Some a) f (Some b) g e =
        let one : Some a ≡ Some m = ap first_one e in
        let two : Some b ≡ Some n = ap second_one e in
        let r = in_rows (sends k) rows m (f ∙ one) in
        let q = in_rows (receives k) rows n (g ∙ two) in
        ((r.0, subst (IsOffered rows r.0 m) (output r.1 r.3) r.2), (q.0, subst (IsOffered rows q.0 n) (input q.1 q.3) q.2))

-- ---- the rows of places

module _ (ps : List ProcessTree) (places : List Place) (all : AreOffered ps places) where
  -- a branch that is offered is shown
  pub shown_so : (i b : ℕ) (has : HasBranch places i b) → (e : Event) × (q : ProcessTree) × IsShown ps places i b e q has.env
  shown_so i b has = by (part ps has.prefix) refl (prefix_at ps has.prefixes b has.prefix (all i has.prefixes has.env has.at) has.listed)
    where
      by : (p : ProcessTree) → part ps has.prefix ≡ p → IsPrefix p → (e : Event) × (q : ProcessTree) × IsShown ps places i b e q has.env
      by Stop is h = absurd h
      by Skip is h = absurd h
      by (Call k ts) is h = absurd h
      by (Prefix e q) is h = (e, q, record { prefixes = has.prefixes; at = has.at; prefix = has.prefix; listed = has.listed; is = is })
      by (Choice p q) is h = absurd h
      by (Internal p q) is h = absurd h
      by (If f p q) is h = absurd h

  -- each side of a row is that of a branch
  pub branch_of_side : (i b : ℕ) (s : Side) → IsOffered (rows_at ps places) i b s → (e : Event) × (q : ProcessTree) × (env : Writes) × IsShown ps places i b e q env × (side_of e ≡ s)
  branch_of_side i b s at = by (slice_get (rows_at ps places) i) refl at
    where
      in_place : (p : Place) → IsAt places i p → slice_get (row_at ps p) b ≡ Some s → (e : Event) × (q : ProcessTree) × (env : Writes) × IsShown ps places i b e q env × (side_of e ≡ s)
      in_place (At k env) here at = absurd (cc)
      in_place Ended here at = absurd (cc)
      in_place (Ready ks env) here at =
          let k = at_map (λ k. side_at (part ps k)) ks b s at in
          let r = shown_so i b (record { prefixes = ks; env = env; prefix = k.0; at = here; listed = k.1 }) in
          (r.0, r.1, env, r.2, side_is k.0 r.0 r.1 r.2.prefix r.2.is (same ks k.0 r.2.prefixes r.2.prefix here r.2.at k.1 r.2.listed) ∙ sym k.2)
        where
          side_is : (k : ℕ) (e : Event) (q : ProcessTree) (j : ℕ) → part ps j ≡ Prefix e q → j ≡ k → side_of e ≡ side_at (part ps k)
          side_is k e q j is same = sym (ap side_at is) ∙ ap (λ n. side_at (part ps n)) same

          same : (ks : List ℕ) (k : ℕ) (js : List ℕ) (j : ℕ) → IsAt places i (Ready ks env) → IsAt places i (Ready js env) → IsAt ks b k → IsAt js b j → j ≡ k
          same ks k js j a c x y =
              let e = two_at places i (Ready js env) (Ready ks env) c a in
              let l : js ≡ ks = (cc) in
              two_at ks b j k (subst (λ l. IsAt l b j) l y) x

      by : (o : Option (List Side)) → slice_get (rows_at ps places) i ≡ o → slice_get (unwrap_or o []) b ≡ Some s → (e : Event) × (q : ProcessTree) × (env : Writes) × IsShown ps places i b e q env × (side_of e ≡ s)
      by None f at = absurd (cc)
      by (Some row) f at = let p = at_map (row_at ps) places i row f in in_place p.0 p.1 (ap (λ (l : List Side). slice_get l b) (sym p.2) ∙ at)

  -- and each branch has its side there
  pub side_of_branch : (i b : ℕ) (e : Event) (q : ProcessTree) (env : Writes) → IsShown ps places i b e q env → IsOffered (rows_at ps places) i b (side_of e)
  side_of_branch i b e q env r =
      let row : slice_get (rows_at ps places) i ≡ Some (row_at ps (Ready r.prefixes env)) = get_map (row_at ps) places i (Ready r.prefixes env) r.at in
      ap (λ (o : Option (List Side)). slice_get (unwrap_or o []) b) row ∙ get_map (λ k. side_at (part ps k)) r.prefixes b r.prefix r.listed ∙ ap (λ p. Some (side_at p)) r.is
