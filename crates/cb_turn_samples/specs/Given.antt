-- What a test says of an entry that a pass gave in.
use Rattle.std.specs.Prelude.{◌≡◌, ℕ, [], ◌∷◌, ◌++◌, slice_get, Some}
use Rattle.cb_turn.specs.declared.view.View.{View}

-- the pass has seen the entry, at a place that it has gained
abbrev pub HasGiven : {P E : Type 0} → View P E → E → View P E → Type 0
HasGiven old x new = (place : ℕ) × (new.mine ≡ old.mine ++ place ∷ []) × (slice_get new.seen place ≡ Some x)
