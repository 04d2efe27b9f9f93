-- What is true of the controllers of a typed system, and of the whole.
use Rattle.std.specs.Prelude.{ℕ}
use Rattle.cb_spec.specs.declared.system.Controller.{Controller}
use Rattle.cb_spec.specs.declared.system.Machine.{Machine}
use Rattle.cb_spec.specs.declared.system.System.{System}
use Rattle.cb_spec.specs.States.{IsAt}
use Rattle.cb_spec.specs.Journals.{set_sizes, IsNumbered}
use Rattle.cb_spec.specs.Sound.{SoundController, Sound}
use Rattle.cb_spec.specs.Safe.{Safe}
use Rattle.cb_spec.specs.Typed.{Typed}
use Rattle.cb_typed.specs.Laws.{AllOwedKinded}
use Rattle.cb_obligations.specs.Owed.{machine_owes, AllOwedValid}
use Rattle.cb_conditions.specs.Conditions.{controller_owes}
use Rattle.cb_conditions.specs.Fitting.{PlainController}
use Rattle.cb_conditions.specs.Sufficing.{ControllerFits, ControllerKinded}

abbrev pub TypedControllersFit : Type 0
TypedControllersFit = (y : System) → Typed y → (i : ℕ) (c : Controller) → IsNumbered y i c → ControllerFits y c

-- their texts are as the walk needs them
abbrev pub TypedControllersArePlain : Type 0
TypedControllersArePlain = (y : System) → Typed y → (k : ℕ) (c : Controller) → IsAt y.controllers k c → PlainController y c

abbrev pub TypedControllersKinded : Type 0
TypedControllersKinded = (y : System) → Typed y → (i : ℕ) (c : Controller) → IsNumbered y i c → ControllerKinded y c

-- so valid obligations make each controller sound
abbrev pub TypedConditionsSuffice : Type 0
TypedConditionsSuffice = (y : System) → Typed y → (i : ℕ) (c : Controller) → IsNumbered y i c → AllOwedValid (set_sizes y) (controller_owes y c) → SoundController y c

-- each sequent that is owed for a controller is kinded
abbrev pub TypedSystemsOweKinded : Type 0
TypedSystemsOweKinded = (y : System) → Typed y → (k : ℕ) (c : Controller) → IsAt y.controllers k c → AllOwedKinded (set_sizes y) (controller_owes y c)

-- what each machine and each controller owes is valid
pub record OwesValid (y : System) : Type 0 where
  pub machines : (k : ℕ) (m : Machine) → IsAt y.machines k m → AllOwedValid (set_sizes y) (machine_owes m)
  pub controllers : (k : ℕ) (c : Controller) → IsAt y.controllers k c → AllOwedValid (set_sizes y) (controller_owes y c)

-- so a typed system is sound where all that it owes is valid
abbrev pub TypedSystemsAreSound : Type 0
TypedSystemsAreSound = (y : System) → Typed y → OwesValid y → Sound y

-- and safe
abbrev pub TypedSystemsAreSafe : Type 0
TypedSystemsAreSafe = (y : System) → Typed y → OwesValid y → Safe y
