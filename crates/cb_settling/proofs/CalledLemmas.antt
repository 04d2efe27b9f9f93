-- What a call gives back, and what it leaves in its machine's variables.
use Rattle.std.proofs.Common.{◌≡◌, ℕ, ◌+◌, ◌<◌, Bool, true, false, ◌||◌, if◌then◌else◌, List, [], ◌∷◌, ◌++◌, map, length, take, get_or, Option, None, Some, refl, sym, ap, subst, ◌∙◌}
use Rattle.std.proofs.lemmas.List.{map-append}
use Rattle.cb_term.specs.declared.name.Name.{Name}
use Rattle.cb_term.specs.declared.value.Value.{Value}
use Rattle.cb_term.specs.Names.{same_name}
use Rattle.cb_term.specs.Values.{Look, nothing}
use Rattle.cb_term.proofs.ValueLemmas.{same_name_tells}
use Rattle.cb_spec.specs.declared.system.Declared.{Declared}
use Rattle.cb_spec.specs.declared.system.Machine.{Machine}
use Rattle.cb_spec.specs.declared.system.Operation.{Operation}
use Rattle.cb_spec.specs.Stores.{Writes, found, empty, look_of, SameMap, Puts}
use Rattle.cb_spec.specs.Bound.{names, result_names, is_among, only}
use Rattle.cb_spec.specs.Machines.{with_args}
use Rattle.cb_spec.proofs.StoreLemmas.{over_is, or_look}
use Rattle.cb_relation.specs.Performing.{IsRunOf}
use Rattle.cb_settling.specs.declared.call.Called.{Called}
use Rattle.cb_settling.specs.Calling.{IsCalled}
use Rattle.cb_settling.proofs.BindLemmas.{take_more}

among_last : (y x : Name) (xs : List Name) → is_among y (xs ++ x ∷ []) ≡ (is_among y xs || same_name y x)
among_last y x [] = by (same_name y x)
  where
    by : (b : Bool) → (b || false) ≡ b
    by true = refl
    by false = refl
among_last y x (z ∷ xs) = by (same_name y z) (among_last y x xs)
  where
    by : (b : Bool) → is_among y (xs ++ x ∷ []) ≡ (is_among y xs || same_name y x) → (b || is_among y (xs ++ x ∷ [])) ≡ ((b || is_among y xs) || same_name y x)
    by true e = refl
    by false e = e

abbrev nowhere : Option Value
nowhere = None

-- what is found in the part that is written to some names
pub found_only : (xs : List Name) (d : Writes) (y : Name) → found (only xs d) y ≡ (if is_among y xs then found d y else None)
found_only xs [] y = by (is_among y xs)
  where
    by : (b : Bool) → nowhere ≡ (if b then None else None)
    by true = refl
    by false = refl
found_only xs (p ∷ d) y = by (is_among p.0 xs) refl (same_name y p.0) refl (found_only xs d y)
  where
    by : (listed : Bool) → is_among p.0 xs ≡ listed → (same : Bool) → same_name y p.0 ≡ same → found (only xs d) y ≡ (if is_among y xs then found d y else None) →
        found (if listed then p ∷ only xs d else only xs d) y ≡ (if is_among y xs then (if same then Some p.1 else found d y) else None)
    by true l true e h = rw e (rw (subst (λ n. is_among n xs ≡ true) (sym (same_name_tells y p.0 e)) l) refl)
    by true l false e h = rw e h
    by false l true e h =
        let apart : is_among y xs ≡ false = subst (λ n. is_among n xs ≡ false) (sym (same_name_tells y p.0 e)) l in
        h ∙ ap (λ b. if b then found d y else None) apart ∙ sym (ap (λ b. if b then Some p.1 else None) apart)
    by false l false e h = h

module _ (d own : Writes) (xs : List Name) (x : Name) (is : SameMap own (only xs d)) where
  -- what is found where one name more counts
  one_more : (y : Name) → found (only (xs ++ x ∷ []) d) y ≡ (if same_name y x then found d y else found own y)
  one_more y =
      found_only (xs ++ x ∷ []) d y ∙ ap (λ b. if b then found d y else None) (among_last y x xs) ∙ by (is_among y xs) (same_name y x) (is y ∙ found_only xs d y)
    where
      by : (a b : Bool) → found own y ≡ (if a then found d y else None) → (if (a || b) then found d y else None) ≡ (if b then found d y else found own y)
      by true true h = refl
      by true false h = sym h
      by false true h = refl
      by false false h = sym h

  pub one_kept : (new : Writes) (v : Value) → found d x ≡ Some v → Puts own new x v → SameMap new (only (xs ++ x ∷ []) d)
  one_kept new v has puts y = puts.found_is y ∙ by (same_name y x) refl ∙ sym (one_more y)
    where
      by : (b : Bool) → same_name y x ≡ b → (if b then Some v else found own y) ≡ (if b then found d y else found own y)
      by true e = sym has ∙ ap (found d) (sym (same_name_tells y x e))
      by false e = refl

  pub one_passed : found d x ≡ None → SameMap own (only (xs ++ x ∷ []) d)
  one_passed none y = by (same_name y x) refl (is_among y xs) (is y ∙ found_only xs d y) ∙ sym (one_more y)
    where
      by : (b : Bool) → same_name y x ≡ b → (a : Bool) → found own y ≡ (if a then found d y else None) → found own y ≡ (if b then found d y else found own y)
      by true e true h = h
      by true e false h = h ∙ sym none ∙ ap (found d) (sym (same_name_tells y x e))
      by false e a h = refl

only_same : (xs : List Name) (d e : Writes) → SameMap e d → SameMap (only xs e) (only xs d)
only_same xs d e same y = found_only xs e y ∙ ap (λ o. if is_among y xs then o else None) (same y) ∙ sym (found_only xs d y)

look_same : (d e : Writes) → SameMap e d → look_of e ≡ look_of d
look_same d e same i x = (over_is e empty x ∙ ap (λ o. or_look o nothing) (same x) ∙ sym (over_is d empty x)) i

-- one name more
names_more : (ds : List Declared) (k : ℕ) (d : Declared) → k < length ds → names (take (k + 1) ds) ≡ names (take k ds) ++ (get_or ds k d).name ∷ []
names_more ds k d l = ap names (take_more ds k d l) ∙ map-append (λ (d : Declared). d.name) (take k ds) (get_or ds k d ∷ [])

module _ (ds : List Declared) (k : ℕ) (d : Declared) (all own : Writes) (low : k < length ds) (at : d ≡ get_or ds k d) (is : SameMap own (only (names (take k ds)) all)) where
  next : names (take k ds) ++ d.name ∷ [] ≡ names (take (k + 1) ds)
  next = ap (λ (e : Declared). names (take k ds) ++ e.name ∷ []) at ∙ sym (names_more ds k d low)

  pub variable_kept : (new : Writes) (x : Name) (v : Value) → x ≡ d.name → found all d.name ≡ Some v → Puts own new x v → SameMap new (only (names (take (k + 1) ds)) all)
  variable_kept new x v x_is has puts =
      subst (λ xs. SameMap new (only xs all)) next (one_kept all own (names (take k ds)) d.name is new v has (subst (λ n. Puts own new n v) x_is puts))

  pub variable_passed : found all d.name ≡ None → SameMap own (only (names (take (k + 1) ds)) all)
  variable_passed none = subst (λ xs. SameMap own (only xs all)) next (one_passed all own (names (take k ds)) d.name is none)

-- a part of what is written to some names is written to them alone
pub kept_own : (xs : List Name) (w d : Writes) → SameMap w (only xs d) → SameMap w (only xs w)
kept_own xs w d is y = by (is_among y xs) (is y ∙ found_only xs d y) ∙ sym (found_only xs w y)
  where
    by : (b : Bool) → found w y ≡ (if b then found d y else None) → found w y ≡ (if b then found w y else None)
    by true h = refl
    by false h = h

pub called_is : (sizes : List ℕ) (m : Machine) (o : Operation) (args : List Value) (look : Look) (e : Writes) (c : Called) → IsRunOf sizes o.body (with_args o args look) e →
    c.results ≡ map (look_of e) (result_names o.results) → SameMap c.written (only (names m.variables) e) → IsCalled sizes m o args look c
called_is sizes m o args look e c run results written = (
  run.0,
  (
    run.1.0,
    results ∙ ap (λ l. map l (result_names o.results)) (look_same run.0 e run.1.1),
    λ y. written y ∙ only_same (names m.variables) run.0 e run.1.1 y,
  ),
)
