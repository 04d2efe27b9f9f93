-- Channels, one of which is changed at one end.
use Rattle.std.proofs.Common.{◌≡◌, ℕ, zero, suc, ◌+◌, ◌<◌, ◌≤◌, Bool, true, false, eqb, if◌then◌else◌, Option, Some, List, [], ◌∷◌, length, slice_get, get_or, set, Vec, vec_len, vec_capacity, refl, sym, ap, subst, ◌∙◌, arith}
use Rattle.std.specs.declared.alloc.Global.{Global}
use Rattle.std.proofs.lemmas.Bool.{eqb-true, eqb-false}
use Rattle.std.proofs.lemmas.List.{length-set}
use Rattle.std.proofs.lemmas.List.Sums.{sum_by-set, sum_by-cons}
use Rattle.std.proofs.lemmas.Option.{slice_get_read}
use Rattle.cb_offers.specs.declared.offers.Side.{Side}
use Rattle.cb_offers.specs.declared.offers.Side.TheVariants.{Output, Input, Call}
use Rattle.cb_offers.specs.declared.marks.Mark.{Mark}
use Rattle.cb_offers.specs.declared.channels.Channel.{Channel}
use Rattle.cb_offers.specs.Kept.{tests, senders_of, receivers_of, list_at, senders_room, receivers_room, room_at, IsThere, both_of, met_of, met_in, met_at, met_count, Changed}

-- ---- an element in the place of another

pub get_set_same : {A : Type 0} (xs : List A) (k : ℕ) (x : A) → k < length xs → slice_get (set xs k x) k ≡ Some x
get_set_same [] k x l = absurd (omega (arith, l))
get_set_same (y ∷ xs) zero x l = refl
get_set_same (y ∷ xs) (suc k) x l = get_set_same xs k x (omega (arith, l))

pub get_set_other : {A : Type 0} (xs : List A) (k j : ℕ) (x : A) → (k ≡ j → ⊥) → slice_get (set xs k x) j ≡ slice_get xs j
get_set_other [] k j x d = refl
get_set_other (y ∷ xs) zero zero x d = absurd (d refl)
get_set_other (y ∷ xs) zero (suc j) x d = refl
get_set_other (y ∷ xs) (suc k) zero x d = refl
get_set_other (y ∷ xs) (suc k) (suc j) x d = get_set_other xs k j x (λ e. d (ap suc e))

-- ---- one channel in the place of another

module _ (channels : List Channel) (k : ℕ) (old new : Channel) (within : k < length channels) (is : old ≡ get_or channels k old) where
  pub old_at : slice_get channels k ≡ Some old
  old_at = slice_get_read channels (length channels) k old refl within is

  new_at : slice_get (set channels k new) k ≡ Some new
  new_at = get_set_same channels k new within

  -- what is the same of the old one and the new one is the same of each channel
  same_each : {A : Type 0} (f : Option Channel → A) → f (Some new) ≡ f (Some old) → (j : ℕ) → f (slice_get (set channels k new) j) ≡ f (slice_get channels j)
  same_each f e j = by (eqb k j) refl
    where
      by : (b : Bool) → eqb k j ≡ b → f (slice_get (set channels k new) j) ≡ f (slice_get channels j)
      by true h =
          let same : k ≡ j = eqb-true k j h in
          subst (λ i. f (slice_get (set channels k new) i) ≡ f (slice_get channels i)) same (ap f new_at ∙ e ∙ sym (ap f old_at))
      by false h = ap f (get_set_other channels k j new (eqb-false k j h))

  no_less_each : (f : Option Channel → ℕ) → f (Some old) ≤ f (Some new) → (j : ℕ) → f (slice_get channels j) ≤ f (slice_get (set channels k new) j)
  no_less_each f l j = by (eqb k j) refl
    where
      by : (b : Bool) → eqb k j ≡ b → f (slice_get channels j) ≤ f (slice_get (set channels k new) j)
      by true h =
          let same : k ≡ j = eqb-true k j h in
          let e : f (slice_get (set channels k new) k) ≡ f (Some new) = ap f new_at in
          let o : f (slice_get channels k) ≡ f (Some old) = ap f old_at in
          subst (λ i. f (slice_get channels i) ≤ f (slice_get (set channels k new) i)) same (omega (arith, e, o, l))
      by false h =
          let e : f (slice_get (set channels k new) j) ≡ f (slice_get channels j) = ap f (get_set_other channels k j new (eqb-false k j h)) in
          omega (arith, e)

  -- what the new one has there, and each other has as before
  one_each : {A : Type 0} (f : Option Channel → A) (x : A) → f (Some new) ≡ x → (j : ℕ) → f (slice_get (set channels k new) j) ≡ (if eqb k j then x else f (slice_get channels j))
  one_each f x e j = by (eqb k j) refl
    where
      by : (b : Bool) → eqb k j ≡ b → f (slice_get (set channels k new) j) ≡ (if b then x else f (slice_get channels j))
      by true h = subst (λ i. f (slice_get (set channels k new) i) ≡ x) (eqb-true k j h) (ap f new_at ∙ e)
      by false h = ap f (get_set_other channels k j new (eqb-false k j h))

  met_each : met_count (set channels k new) + met_in (slice_get channels k) ≡ met_count channels + met_in (slice_get (set channels k new) k)
  met_each =
      let s = sum_by-set met_of channels k new old within in
      let o : met_in (slice_get channels k) ≡ met_of old = ap met_in old_at in
      let g : met_of (get_or channels k old) ≡ met_of old = ap met_of (sym is) in
      let n : met_in (slice_get (set channels k new) k) ≡ met_of new = ap met_in new_at in
      omega (arith, s, o, g, n)

  pub senders_changed : (f : List Mark → List Mark) → new.receivers ≡ old.receivers → new.senders.items ≡ f old.senders.items → vec_capacity old.senders ≤ vec_capacity new.senders →
      Changed channels (set channels k new) (Output k) (f (list_at channels (Output k)))
  senders_changed f same items room = record {
    as_many = length-set channels k new;
    lists = lists;
    room = rooms;
    met = met_each;
  }
    where
      lists : (t : Side) → list_at (set channels k new) t ≡ (if tests t (Output k) then f (list_at channels (Output k)) else list_at channels t)
      lists (Output j) = one_each senders_of (f (list_at channels (Output k))) (items ∙ sym (ap (λ o. f (senders_of o)) old_at)) j
      lists (Input j) = same_each receivers_of (ap (λ (v : Vec Mark Global). v.items) same) j
      lists Call = refl

      rooms : (t : Side) → room_at channels t ≤ room_at (set channels k new) t
      rooms (Output j) = no_less_each senders_room room j
      rooms (Input j) = (let e : vec_capacity new.receivers ≡ vec_capacity old.receivers = ap (λ (v : Vec Mark Global). vec_capacity v) same in no_less_each receivers_room (omega (arith, e)) j)
      rooms Call = omega arith

  pub receivers_changed : (f : List Mark → List Mark) → new.senders ≡ old.senders → new.receivers.items ≡ f old.receivers.items → vec_capacity old.receivers ≤ vec_capacity new.receivers →
      Changed channels (set channels k new) (Input k) (f (list_at channels (Input k)))
  receivers_changed f same items room = record {
    as_many = length-set channels k new;
    lists = lists;
    room = rooms;
    met = met_each;
  }
    where
      lists : (t : Side) → list_at (set channels k new) t ≡ (if tests t (Input k) then f (list_at channels (Input k)) else list_at channels t)
      lists (Output j) = same_each senders_of (ap (λ (v : Vec Mark Global). v.items) same) j
      lists (Input j) = one_each receivers_of (f (list_at channels (Input k))) (items ∙ sym (ap (λ o. f (receivers_of o)) old_at)) j
      lists Call = refl

      rooms : (t : Side) → room_at channels t ≤ room_at (set channels k new) t
      rooms (Output j) = (let e : vec_capacity new.senders ≡ vec_capacity old.senders = ap (λ (v : Vec Mark Global). vec_capacity v) same in no_less_each senders_room (omega (arith, e)) j)
      rooms (Input j) = no_less_each receivers_room room j
      rooms Call = omega arith

pub nothing_changed : (channels : List Channel) (marks : List Mark) → Changed channels channels Call marks
nothing_changed channels marks = record { as_many = refl; lists = lists; room = λ t. omega arith; met = omega arith }
  where
    lists : (t : Side) → list_at channels t ≡ (if tests t Call then marks else list_at channels t)
    lists (Output j) = refl
    lists (Input j) = refl
    lists Call = refl

-- ---- counts

met_one : (ms ns : List Mark) → both_of ms ns ≤ 1
met_one [] ns = omega arith
met_one (m ∷ ms) [] = omega arith
met_one (m ∷ ms) (n ∷ ns) = omega arith

pub met_few : (channels : List Channel) → met_count channels ≤ length channels
met_few [] = omega arith
met_few (c ∷ cs) = omega (arith, sum_by-cons met_of c cs, met_few cs, met_one c.senders.items c.receivers.items)

met_part : (channels : List Channel) (k : ℕ) → met_in (slice_get channels k) ≤ met_count channels
met_part [] k = omega arith
met_part (c ∷ cs) zero = omega (arith, sum_by-cons met_of c cs)
met_part (c ∷ cs) (suc k) = omega (arith, sum_by-cons met_of c cs, met_part cs k)

pub met_at_part : (channels : List Channel) (side : Side) → met_at channels side ≤ met_count channels
met_at_part channels (Output k) = met_part channels k
met_at_part channels (Input k) = met_part channels k
met_at_part channels Call = omega arith

-- ---- sides at the same end

pub tests_same : (t s : Side) → tests t s ≡ true → t ≡ s
tests_same (Output j) (Output k) e = ap Output (sym (eqb-true k j e))
tests_same (Output j) (Input k) e = absurd (cc)
tests_same (Output j) Call e = absurd (cc)
tests_same (Input j) (Output k) e = absurd (cc)
tests_same (Input j) (Input k) e = ap Input (sym (eqb-true k j e))
tests_same (Input j) Call e = absurd (cc)
tests_same Call s e = absurd (cc)

-- ---- the same for a side at one end of a channel

module _ (channels : List Channel) (side : Side) (k : ℕ) (old new : Channel) (there : IsThere (length channels) side) (is : old ≡ get_or channels k old) where
  pub senders_at : (f : List Mark → List Mark) → side ≡ Output k → new.receivers ≡ old.receivers → new.senders.items ≡ f old.senders.items → vec_capacity old.senders ≤ vec_capacity new.senders →
      Changed channels (set channels k new) side (f (list_at channels side))
  senders_at f e same items room =
      subst (λ s. Changed channels (set channels k new) s (f (list_at channels s))) (sym e)
      (senders_changed channels k old new (subst (IsThere (length channels)) e there) is f same items room)

  pub receivers_at : (f : List Mark → List Mark) → side ≡ Input k → new.senders ≡ old.senders → new.receivers.items ≡ f old.receivers.items → vec_capacity old.receivers ≤ vec_capacity new.receivers →
      Changed channels (set channels k new) side (f (list_at channels side))
  receivers_at f e same items room =
      subst (λ s. Changed channels (set channels k new) s (f (list_at channels s))) (sym e)
      (receivers_changed channels k old new (subst (IsThere (length channels)) e there) is f same items room)

  pub senders_room_at : side ≡ Output k → new.senders.items ≡ old.senders.items → vec_len new.senders + 1 ≤ vec_capacity new.senders → length (list_at channels side) < room_at (set channels k new) side
  senders_room_at e items room =
      let within : k < length channels = subst (IsThere (length channels)) e there in
      let l : length (list_at channels (Output k)) ≡ length old.senders.items = ap (λ o. length (senders_of o)) (slice_get_read channels (length channels) k old refl within is) in
      let r : room_at (set channels k new) (Output k) ≡ vec_capacity new.senders = ap senders_room (get_set_same channels k new within) in
      subst (λ s. length (list_at channels s) < room_at (set channels k new) s) (sym e) (omega (arith, l, r, room, ap (λ (x : List Mark). length x) items, new.senders.ok.0))

  pub receivers_room_at : side ≡ Input k → new.receivers.items ≡ old.receivers.items → vec_len new.receivers + 1 ≤ vec_capacity new.receivers → length (list_at channels side) < room_at (set channels k new) side
  receivers_room_at e items room =
      let within : k < length channels = subst (IsThere (length channels)) e there in
      let l : length (list_at channels (Input k)) ≡ length old.receivers.items = ap (λ o. length (receivers_of o)) (slice_get_read channels (length channels) k old refl within is) in
      let r : room_at (set channels k new) (Input k) ≡ vec_capacity new.receivers = ap receivers_room (get_set_same channels k new within) in
      subst (λ s. length (list_at channels s) < room_at (set channels k new) s) (sym e) (omega (arith, l, r, room, ap (λ (x : List Mark). length x) items, new.receivers.ok.0))
