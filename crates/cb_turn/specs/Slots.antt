-- The rule of the table that a turn stands on. Its one slot is the value's place, and its one word is 0 while the value is there and 1 while a pass holds it.
use Rattle.std.specs.Prelude.{◌≡◌, ◌≢◌, ℕ, List, [], ◌∷◌, Option, Some}
use mathlib.Core.Option.{some, none}
use Rattle.atomic_table.specs.Table.{State, Me, Step}
use Rattle.cb_turn.specs.declared.view.View.{View}
use Rattle.cb_turn.specs.Views.{IsRuled, AnotherHolds, Takes, giving}

module _ {T P E : Type 0} (plan : T → P) (list : T → List E) where
  -- the word and the slot show the values that are in their place, one or none
  abbrev pub Shows : List T → State (Option T) (View P E) → Type 0
  Shows [] s = (s.words ≡ 1 ∷ []) × (s.homes ≡ none ∷ [])
  Shows (x ∷ []) s = (s.words ≡ 0 ∷ []) × (s.homes ≡ some (Some x) ∷ [])
  Shows (x ∷ y ∷ ys) s = ⊥

  -- the rule of the turn, for what the word and the slot show
  pub record IsKept (s : State (Option T) (View P E)) : Type 0 where
    pub items : List T
    pub shows : Shows items s
    pub ruled : IsRuled plan list items s.views

  -- what the exchange of the word tells: if it found 0, the pass has taken the value out of the slot, else another pass holds it
  abbrev pub Claims : Step (Option T) → Me (Option T) (View P E) → ℕ → Me (Option T) (View P E) → Type 0
  Claims step old found new = (found ≡ 0 → (x : T) × Takes plan list old.0 x new.0 × (new.1 ≡ (0, Some x) ∷ old.1)) × (found ≢ 0 → (new ≡ old) × AnotherHolds old.0)

  -- what the store of the word tells: the pass has given the value back that it had put into the slot
  abbrev pub Releases : Step (Option T) → Me (Option T) (View P E) → ℕ → Me (Option T) (View P E) → Type 0
  Releases step old found new = (x : T) → old.1 ≡ (0, Some x) ∷ [] → new ≡ (giving old.0 (list x), [])
