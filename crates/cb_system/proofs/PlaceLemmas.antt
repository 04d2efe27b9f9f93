-- Places of controllers, and what they are in the state.
use Rattle.std.proofs.Common.{◌≡◌, ℕ, zero, suc, ◌+◌, ◌<◌, List, [], ◌∷◌, map, length, slice_get, slice_set, get_or, Some, unwrap_or, refl, sym, ap, subst, ◌∙◌, ◌⊎◌, inl, inr}
use Rattle.std.specs.List.{sum_by}
use Rattle.std.proofs.lemmas.List.Sums.{sum_by-set}
use Rattle.std.proofs.lemmas.Option.{slice_get_within, slice_get-get_or, get_or_from_slice_get}
use Rattle.cb_spec.specs.declared.system.Controller.{Controller}
use Rattle.cb_spec.specs.declared.system.System.{System}
use Rattle.cb_spec.specs.ProcessTree.{ProcessTree, Stop, Skip, Call, Prefix, Choice, Internal, If}
use Rattle.cb_spec.specs.Stores.{Writes, look_of}
use Rattle.cb_spec.specs.States.{IsAt, ControlView, Offering, branch_of, control_of, state_of}
use Rattle.cb_spec.specs.Journals.{IsNumbered}
use Rattle.cb_spec.specs.Typed.{Typed}
use Rattle.cb_safety_laws.proofs.Lists.{at_set, set_length}
use Rattle.cb_code.specs.declared.place.Place.{Place}
use Rattle.cb_code.specs.declared.place.Place.TheVariants.{At, Ready, Ended}
use Rattle.cb_code.specs.Nodes.{part}
use Rattle.cb_settling.specs.Branches.{offered, branches_at, ArePrefixes}
use Rattle.cb_settling.specs.Resolving.{HasBodies}
use Rattle.cb_beginning.specs.Placed.{branch_on, tree_control, state_in, Laid}

-- ---- lists

pub get_map : {A B : Type 0} (f : A → B) (xs : List A) (k : ℕ) (x : A) → IsAt xs k x → IsAt (map f xs) k (f x)
get_map f [] k x at = absurd (cc)
get_map f (y ∷ xs) zero x at = ap (λ o. Some (f (unwrap_or o y))) at
get_map f (y ∷ xs) (suc k) x at = get_map f xs k x at

pub set_map : {A B : Type 0} (f : A → B) (xs : List A) (k : ℕ) (x : A) → map f (slice_set xs k x) ≡ slice_set (map f xs) k (f x)
set_map f [] k x = refl
set_map f (y ∷ xs) zero x = refl
set_map f (y ∷ xs) (suc k) x = ap (λ ys. f y ∷ ys) (set_map f xs k x)

pub set_twice : {A : Type 0} (xs : List A) (k : ℕ) (x z : A) → slice_set (slice_set xs k x) k z ≡ slice_set xs k z
set_twice [] k x z = refl
set_twice (y ∷ xs) zero x z = refl
set_twice (y ∷ xs) (suc k) x z = ap (λ ys. y ∷ ys) (set_twice xs k x z)

pub get_same : {A : Type 0} (xs : List A) (k : ℕ) (x z : A) → IsAt xs k z → IsAt (slice_set xs k x) k x
get_same [] k x z at = absurd (cc)
get_same (y ∷ xs) zero x z at = refl
get_same (y ∷ xs) (suc k) x z at = get_same xs k x z at

pub other_at : {A : Type 0} (xs : List A) (k j : ℕ) (x : A) → (k ≡ j → ⊥) → slice_get (slice_set xs k x) j ≡ slice_get xs j
other_at [] k j x apart = refl
other_at (y ∷ xs) zero zero x apart = absurd (apart refl)
other_at (y ∷ xs) zero (suc j) x apart = refl
other_at (y ∷ xs) (suc k) zero x apart = refl
other_at (y ∷ xs) (suc k) (suc j) x apart = other_at xs k j x (λ e. apart (ap suc e))

-- ---- what the state says

branch_is : (p : ProcessTree) (env : Writes) → branch_of (branch_on p env) ≡ offered p (look_of env)
branch_is Stop env = refl
branch_is Skip env = refl
branch_is (Call k ts) env = refl
branch_is (Prefix e p) env = refl
branch_is (Choice p q) env = refl
branch_is (Internal p q) env = refl
branch_is (If f p q) env = refl

branches_are : (ps : List ProcessTree) (ks : List ℕ) (env : Writes) → map branch_of (map (λ k. branch_on (part ps k) env) ks) ≡ branches_at ps ks (look_of env)
branches_are ps [] env = refl
branches_are ps (k ∷ ks) env = λ i. branch_is (part ps k) env i ∷ branches_are ps ks env i

-- where a controller is, as definitions see it
abbrev pub seen : List ProcessTree → Place → ControlView
seen ps p = control_of (tree_control ps p)

pub ready_seen : (ps : List ProcessTree) (ks : List ℕ) (env : Writes) → seen ps (Ready ks env) ≡ Offering (branches_at ps ks (look_of env))
ready_seen ps ks env = ap Offering (branches_are ps ks env)

pub control_at : (ps : List ProcessTree) (store : Writes) (places : List Place) (i : ℕ) (p : Place) → IsAt places i p → IsAt (state_of (state_in ps store places)).controls i (seen ps p)
control_at ps store places i p at = get_map control_of (map (tree_control ps) places) i (tree_control ps p) (get_map (tree_control ps) places i p at)

pub controls_set : (ps : List ProcessTree) (places : List Place) (i : ℕ) (p : Place) →
    map control_of (map (tree_control ps) (slice_set places i p)) ≡ slice_set (map control_of (map (tree_control ps) places)) i (seen ps p)
controls_set ps places i p = ap (map control_of) (set_map (tree_control ps) places i p) ∙ set_map control_of (map (tree_control ps) places) i (tree_control ps p)

-- ---- what is laid

abbrev pub IsLaid : List ProcessTree → Place → Type 0
IsLaid ps (At k env) = k < length ps
IsLaid ps (Ready ks env) = ArePrefixes ps ks
IsLaid ps Ended = Unit {0}

pub laid_set : (y : System) (ps : List ProcessTree) (places : List Place) (bodies : List (List ℕ)) (i : ℕ) (p : Place) → IsLaid ps p → Laid y ps places bodies → Laid y ps (slice_set places i p) bodies
laid_set y ps places bodies i p new l = record {
  body_at = l.body_at;
  within = λ j k env at. by j (At k env) (at_set places i p j (At k env) at) (l.within j k env);
  offered = λ j ks env at. by j (Ready ks env) (at_set places i p j (Ready ks env) at) (l.offered j ks env);
  many = set_length places i p ∙ l.many;
}
  where
    by : (j : ℕ) (q : Place) → ((j ≡ i) × (q ≡ p)) ⊎ ((j ≡ i → ⊥) × IsAt places j q) → (IsAt places j q → IsLaid ps q) → IsLaid ps q
    by j q (inl e) old = subst (IsLaid ps) (sym e.1) new
    by j q (inr e) old = old e.1

-- ---- how many are where

pub sum_set : {A : Type 0} (f : A → ℕ) (xs : List A) (k : ℕ) (x z : A) → IsAt xs k z → sum_by f (slice_set xs k x) + f z ≡ sum_by f xs + f x
sum_set f xs k x z at =
    let low = slice_get_within xs k z at in
    subst (λ w. sum_by f (slice_set xs k x) + f w ≡ sum_by f xs + f x) (get_or_from_slice_get xs k z z at) (sum_by-set f xs k x z low)

-- ---- numbers

pub place_at : (places : List Place) (i : ℕ) (p q : Place) → i < length places → p ≡ get_or places i p → p ≡ q → IsAt places i q
place_at places i p q low is same = slice_get-get_or places i p low ∙ ap Some (sym is ∙ same)

pub numbered_at : (y : System) (i d : ℕ) (xs : List ℕ) (cs : List Controller) (c : Controller) → Typed y → i < length y.order → xs ≡ y.order → cs ≡ y.controllers → c ≡ get_or cs (get_or xs i d) c → IsNumbered y i c
numbered_at y i d xs cs c typed low ex ec is =
    let k = get_or y.order i d in
    let at : IsAt y.order i k = slice_get-get_or y.order i d low in
    let is_c : c ≡ get_or y.controllers k c = is ∙ (λ j. get_or (ec j) (get_or (ex j) i d) c) in
    (k, (at, slice_get-get_or y.controllers k c (typed.order_within i k at) ∙ ap Some (sym is_c)))

pub bodies_at : (y : System) (ps : List ProcessTree) (places : List Place) (bodies : List (List ℕ)) (i : ℕ) (c : Controller) (its : IsNumbered y i c) (laid : Laid y ps places bodies) (bs slice : List ℕ) →
    bs ≡ get_or bodies i bs → slice ≡ bs → HasBodies c ps slice
bodies_at y ps places bodies i c its laid bs slice is same =
    let b = laid.body_at i c its in
    subst (HasBodies c ps) (sym (same ∙ is ∙ get_or_from_slice_get bodies i b.0 bs b.1.0)) b.1.1

pub bodies_within : (y : System) (ps : List ProcessTree) (places : List Place) (bodies : List (List ℕ)) (i : ℕ) (c : Controller) → IsNumbered y i c → Laid y ps places bodies → i < length bodies
bodies_within y ps places bodies i c its laid = let b = laid.body_at i c its in slice_get_within bodies i b.0 b.1.0

-- what is taken out of a place
pub taken_is : (places : List Place) (i : ℕ) (x p q : Place) → IsAt places i q → x ≡ get_or places i x → p ≡ x → p ≡ q
taken_is places i x p q at is same = same ∙ is ∙ get_or_from_slice_get places i q x at
