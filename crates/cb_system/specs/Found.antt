-- What a controller of a running value can do.
use Rattle.std.specs.Prelude.{ℕ, ◌≡◌, ◌⊎◌}
use Rattle.cb_spec.specs.declared.system.Channel.{Channel}
use Rattle.cb_spec.specs.States.{state_of}
use Rattle.cb_safety_laws.specs.Causes.{IsCall, Offers, Meet}
use Rattle.cb_system.specs.declared.firing.Firing.{Firing}
use Rattle.cb_system.specs.declared.firing.Firing.TheVariants.{Nothing, Calls, Passes}
use Rattle.cb_system.specs.Views.{RunView}
use Rattle.cb_system.specs.Steps.{HasNone}

-- a branch of the controller is a call
abbrev pub HasCall : RunView → (i b : ℕ) → Type 0
HasCall v i b = Offers IsCall (state_of v.state) i b

-- branches meet on a channel of the controller's own
abbrev pub HasMeeting : RunView → (i k sent got : ℕ) → Type 0
HasMeeting v i k sent got = (ch : Channel) × (Meet v.system (state_of v.state) k sent got ch × ((ch.sender ≡ i) ⊎ (ch.receiver ≡ i)))

abbrev pub CanFire : ℕ → RunView → Firing → Type 0
CanFire i v Nothing = HasNone i v
CanFire i v (Calls b) = HasCall v i b
CanFire i v (Passes k m n) = HasMeeting v i k m n
