-- The names of a controller's variables with their kinds.
use Rattle.std.proofs.Common.{◌≡◌, ℕ, zero, suc, Bool, true, false, ◌||◌, List, [], ◌∷◌, ◌++◌, flat_map, slice_get, Option, Some, None, refl, sym, ap, ap₂, ◌∙◌, subst, if◌then◌else◌, true≢false, arith}
use Rattle.std.proofs.lemmas.Option.{same_Some}
use Rattle.cb_term.specs.declared.name.Name.{Name}
use Rattle.cb_term.specs.Names.{same_name}
use Rattle.cb_term.proofs.FreeLemmas.{or_left, or_right}
use Rattle.cb_term.proofs.ValueLemmas.{same_name_self}
use Rattle.cb_seq.specs.Kinds.{kind_in}
use Rattle.cb_seq.specs.Validity.{AreDifferent}
use Rattle.cb_spec.specs.declared.system.Declared.{Declared}
use Rattle.cb_spec.specs.declared.system.Machine.{Machine}
use Rattle.cb_spec.specs.declared.system.System.{System}
use Rattle.cb_spec.specs.Domains.{kind_of_domain}
use Rattle.cb_spec.specs.Bound.{names, is_among}
use Rattle.cb_spec.specs.States.{IsAt}
use Rattle.cb_spec.specs.TypedTerms.{Scope}
use Rattle.cb_spec.specs.Typed as typed
use Rattle.cb_spec.specs.Typed.{NumbersDiffer, Typed}
use Rattle.cb_obligations.specs.Owed.{with_kinds}
use Rattle.cb_obligations.specs.Sufficing.{Differ, IsVariable}
use Rattle.cb_obligations.specs.Written.{IsWritten}
use Rattle.cb_obligations.proofs.Calls.{neither}
use Rattle.cb_typed.specs.Erasure.{kinds_in}
use Rattle.cb_typed.proofs.Kinding.{Names, Wider}
use Rattle.cb_typed.proofs.Fitting as fitting
use Rattle.cb_typed.proofs.Fitting.{kind_of_declared, scope_kinds}
use Rattle.cb_conditions.specs.Conditions.{if_there, listed, variables_of}
use Rattle.cb_controlled_laws.proofs.Owning.{one_machine}
use Rattle.cb_controlled_laws.proofs.Called.{kinds_append}

-- ---- lists of declared names

among_one : (x : Name) (ds es : List Declared) (C : Type 0) → is_among x (names (ds ++ es)) ≡ true → (is_among x (names ds) ≡ true → C) → (is_among x (names es) ≡ true → C) → C
among_one x [] es C h p q = q h
among_one x (d ∷ ds) es C h p q = by (same_name x d.name) h p (λ h' p'. among_one x ds es C h' p' q)
  where
    by : (b : Bool) → (b || is_among x (names (ds ++ es))) ≡ true → ((b || is_among x (names ds)) ≡ true → C) → (is_among x (names (ds ++ es)) ≡ true → (is_among x (names ds) ≡ true → C) → C) → C
    by true h p r = p refl
    by false h p r = r h p

among_neither : (x : Name) (ds es : List Declared) → is_among x (names ds) ≡ false → is_among x (names es) ≡ false → is_among x (names (ds ++ es)) ≡ false
among_neither x ds es a b = by (is_among x (names (ds ++ es))) refl
  where
    by : (c : Bool) → is_among x (names (ds ++ es)) ≡ c → c ≡ false
    by true h = absurd (among_one x ds es ⊥ h (λ i. true≢false (sym i ∙ a)) (λ i. true≢false (sym i ∙ b)))
    by false h = refl

joined_differ : (ds es : List Declared) → Differ (names ds) → Differ (names es) → ((x : Name) → is_among x (names ds) ≡ true → is_among x (names es) ≡ false) → Differ (names (ds ++ es))
joined_differ [] es a b h = b
joined_differ (d ∷ ds) es a b h = (
  among_neither d.name ds es a.0 (h d.name (or_left (same_name d.name d.name) (is_among d.name (names ds)) (same_name_self d.name))),
  joined_differ ds es a.1 b (λ x e. h x (or_right (same_name x d.name) (is_among x (names ds)) e)),
)

pub kinds_joined : (ds es : List Declared) → with_kinds (ds ++ es) ≡ with_kinds ds ++ with_kinds es
kinds_joined [] es = refl
kinds_joined (d ∷ ds) es = ap (λ z. (d.name, kind_of_domain d.domain) ∷ z) (kinds_joined ds es)

-- a name that has a kind in front has it
pub in_front : (as' bs : Names) → Wider as' (as' ++ bs)
in_front [] bs x c e = cc
in_front (a ∷ as') bs x c e = by (same_name x a.0) e (in_front as' bs x c)
  where
    by : (b : Bool) → (if b then Some a.1 else kind_in as' x) ≡ Some c → (kind_in as' x ≡ Some c → kind_in (as' ++ bs) x ≡ Some c) → (if b then Some a.1 else kind_in (as' ++ bs) x) ≡ Some c
    by true e r = e
    by false e r = r e

pub behind_them : (ds : List Declared) (ns : Names) (x : Name) → is_among x (names ds) ≡ false → kind_in (with_kinds ds ++ ns) x ≡ kind_in ns x
behind_them [] ns x e = refl
behind_them (d ∷ ds) ns x e =
    let n = neither (same_name x d.name) (is_among x (names ds)) e in
    ap (λ b. if b then Some (kind_of_domain d.domain) else kind_in (with_kinds ds ++ ns) x) n.0 ∙ behind_them ds ns x n.1

pub wider_behind : (as' bs cs : Names) → Wider bs cs → Wider (as' ++ bs) (as' ++ cs)
wider_behind [] bs cs w x c e = w x c e
wider_behind (a ∷ as') bs cs w x c e = by (same_name x a.0) e (wider_behind as' bs cs w x c)
  where
    by : (b : Bool) → (if b then Some a.1 else kind_in (as' ++ bs) x) ≡ Some c → (kind_in (as' ++ bs) x ≡ Some c → kind_in (as' ++ cs) x ≡ Some c) → (if b then Some a.1 else kind_in (as' ++ cs) x) ≡ Some c
    by true e r = e
    by false e r = r e

pub kinds_differ : (ds : List Declared) → Differ (names ds) → AreDifferent (with_kinds ds)
kinds_differ [] n = tt
kinds_differ (d ∷ ds) n = (none ds d.name n.0, kinds_differ ds n.1)
  where
    none : (ds : List Declared) (x : Name) → is_among x (names ds) ≡ false → kind_in (with_kinds ds) x ≡ None
    none [] x e = refl
    none (d ∷ ds) x e =
        let n = neither (same_name x d.name) (is_among x (names ds)) e in
        ap (λ b. if b then Some (kind_of_domain d.domain) else kind_in (with_kinds ds) x) n.0 ∙ none ds x n.1

module _ (y : System) (t : Typed y) where
  -- ---- variables of several machines

  variable_at : (ks : List ℕ) (x : Name) → is_among x (names (variables_of (listed y.machines ks))) ≡ true → (j : ℕ) × (k : ℕ) × (m : Machine) × (IsAt ks j k) × (IsAt y.machines k m) × IsVariable m x
  variable_at [] x e = cc
  variable_at (k ∷ ks) x e = by (slice_get y.machines k) refl e (variable_at ks x)
    where
      by : (o : Option Machine) → slice_get y.machines k ≡ o → is_among x (names (variables_of (if_there o (listed y.machines ks)))) ≡ true →
          (is_among x (names (variables_of (listed y.machines ks))) ≡ true → (j : ℕ) × (i : ℕ) × (m : Machine) × (IsAt ks j i) × (IsAt y.machines i m) × IsVariable m x) →
          (j : ℕ) × (i : ℕ) × (m : Machine) × (IsAt (k ∷ ks) j i) × (IsAt y.machines i m) × IsVariable m x
      by None n e r = let q = r e in (suc q.0, q.1, q.2, q.3, q.4, q.5)
      by (Some m) n e r = among_one x m.variables (variables_of (listed y.machines ks)) _ e (λ h. (0, k, m, refl, n, h)) (λ h. let q = r h in (suc q.0, q.1, q.2, q.3, q.4, q.5))

  fewer : (k : ℕ) (ks : List ℕ) → NumbersDiffer (k ∷ ks) → NumbersDiffer ks
  fewer k ks d i j z a b = let e : suc i ≡ suc j = d (suc i) (suc j) z a b in omega (arith, e)

  pub own_differ : (ks : List ℕ) → NumbersDiffer ks → Differ (names (variables_of (listed y.machines ks)))
  own_differ [] d = tt
  own_differ (k ∷ ks) d = by (slice_get y.machines k) refl (own_differ ks (fewer k ks d))
    where
      by : (o : Option Machine) → slice_get y.machines k ≡ o → Differ (names (variables_of (listed y.machines ks))) → Differ (names (variables_of (if_there o (listed y.machines ks))))
      by None e f = f
      by (Some m) e f = joined_differ m.variables (variables_of (listed y.machines ks)) (fitting.variables_differ y t k m e) f (λ x v. apart x v (is_among x (names (variables_of (listed y.machines ks)))) refl)
        where
          apart : (x : Name) → is_among x (names m.variables) ≡ true → (b : Bool) → is_among x (names (variables_of (listed y.machines ks))) ≡ b → b ≡ false
          apart x v true h =
              let q = variable_at ks x h in
              let same = one_machine y t k q.1 m q.2 e q.4 x v q.5 in
              let first : 0 ≡ suc q.0 = d 0 (suc q.0) q.1 (ap Some same) q.3 in
              absurd (omega (arith, first))
          apart x v false h = refl

  -- the variables of one of them have their kinds
  pub machine_wider : (ks : List ℕ) → NumbersDiffer ks → (i k : ℕ) (m : Machine) → IsAt ks i k → IsAt y.machines k m → Wider (with_kinds m.variables) (with_kinds (variables_of (listed y.machines ks)))
  machine_wider [] d i k m at e = cc
  machine_wider (q ∷ ks) d zero k m at e = by (slice_get y.machines q) (ap (slice_get y.machines) (same_Some q k at) ∙ e)
    where
      by : (o : Option Machine) → o ≡ Some m → Wider (with_kinds m.variables) (with_kinds (variables_of (if_there o (listed y.machines ks))))
      by None e x c h = cc
      by (Some m') e x c h = subst (λ (z : Machine). kind_in (with_kinds (variables_of (z ∷ listed y.machines ks))) x ≡ Some c) (sym (same_Some m' m e))
          (ap (λ ns. kind_in ns x) (kinds_joined m.variables (variables_of (listed y.machines ks))) ∙ in_front (with_kinds m.variables) (with_kinds (variables_of (listed y.machines ks))) x c h)
  machine_wider (q ∷ ks) d (suc i) k m at e = by (slice_get y.machines q) refl (machine_wider ks (fewer q ks d) i k m at e)
    where
      by : (o : Option Machine) → slice_get y.machines q ≡ o → Wider (with_kinds m.variables) (with_kinds (variables_of (listed y.machines ks))) →
          Wider (with_kinds m.variables) (with_kinds (variables_of (if_there o (listed y.machines ks))))
      by None n w x c h = w x c h
      by (Some m') n w x c h =
          ap (λ ns. kind_in ns x) (kinds_joined m'.variables (variables_of (listed y.machines ks)))
          ∙ behind_them m'.variables (with_kinds (variables_of (listed y.machines ks))) x (apart (is_among x (names m'.variables)) refl) ∙ w x c h
        where
          apart : (b : Bool) → is_among x (names m'.variables) ≡ b → b ≡ false
          apart true v =
              let same = one_machine y t q k m' m n e x v (kind_of_declared [] m.variables x c h) in
              let first : 0 ≡ suc i = d 0 (suc i) k (ap Some same) at in
              absurd (omega (arith, first))
          apart false v = refl

  pub own_kinds : (ks : List ℕ) → kinds_in (flat_map (λ k. typed.variables_of (slice_get y.machines k)) ks) ≡ with_kinds (variables_of (listed y.machines ks))
  own_kinds [] = refl
  own_kinds (k ∷ ks) = kinds_append (typed.variables_of (slice_get y.machines k)) (flat_map (λ k. typed.variables_of (slice_get y.machines k)) ks) ∙ by (slice_get y.machines k) (own_kinds ks)
    where
      others : Scope
      others = flat_map (λ k. typed.variables_of (slice_get y.machines k)) ks

      by : (o : Option Machine) → kinds_in others ≡ with_kinds (variables_of (listed y.machines ks)) →
          kinds_in (typed.variables_of o) ++ kinds_in others ≡ with_kinds (variables_of (if_there o (listed y.machines ks)))
      by None e = e
      by (Some m) e = ap₂ (λ a b. a ++ b) (scope_kinds [] m.variables) e ∙ sym (kinds_joined m.variables (variables_of (listed y.machines ks)))

  pub own_written : (ks : List ℕ) (x : Name) → is_among x (names (variables_of (listed y.machines ks))) ≡ true → IsWritten x
  own_written ks x e = let q = variable_at ks x e in fitting.variable_written y t q.1 q.2 q.4 x q.5
