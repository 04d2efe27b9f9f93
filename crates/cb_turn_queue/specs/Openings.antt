-- A queue is made empty, so a turn on it begins with its first pass holding a value that was never there.
use Rattle.std.specs.Prelude.{◌≡◌, true, false, List, [], None}
use Rattle.cb_turn.specs.declared.view.View.{View}
use Rattle.cb_turn.specs.Views.{started}

-- the first pass before the value is in its place
abbrev pub opening : {P E : Type 0} → View P E
opening = record { spent = false; plan = None; seen = []; mine = []; holds = true; first = true; splits = 0 }

-- what the push of the first value tells
abbrev pub Starts : {T P E : Type 0} → (T → P) → (T → List E) → View P E → T → View P E → Type 0
Starts plan list old x new = new ≡ started (plan x) (list x)
