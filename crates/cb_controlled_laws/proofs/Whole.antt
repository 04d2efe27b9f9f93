-- A typed system owes what is kinded; and where it is valid, the system is sound, and so safe.
use Rattle.std.proofs.Common.{ℕ}
use Rattle.cb_spec.specs.declared.system.Controller.{Controller}
use Rattle.cb_spec.specs.declared.system.System.{System}
use Rattle.cb_spec.specs.States.{IsAt}
use Rattle.cb_spec.specs.Journals.{IsNumbered}
use Rattle.cb_spec.specs.Typed.{Typed}
use Rattle.cb_obligations.proofs.Calls.{obligations_suffice}
use Rattle.cb_typed.proofs.Fitting.{fits_of_typed}
use Rattle.cb_safety_laws.proofs.Lists.{at_below}
use Rattle.cb_safety_laws.proofs.Runs.{sound_is_safe}
use Rattle.cb_conditions.proofs.Groups.{conditions_suffice}
use Rattle.cb_controlled_laws.specs.Laws.{TypedControllersArePlain, TypedConditionsSuffice, TypedSystemsOweKinded, TypedSystemsAreSound, TypedSystemsAreSafe}
use Rattle.cb_controlled_laws.proofs.Speaking.{typed_controllers_fit}
use Rattle.cb_controlled_laws.proofs.Arguing.{typed_controllers_kinded}
use Rattle.cb_controlled_laws.proofs.Owed.{all_fine}

pub typed_conditions_suffice : TypedConditionsSuffice
typed_conditions_suffice y t i c num v = conditions_suffice y c (typed_controllers_fit y t i c num) (typed_controllers_kinded y t i c num) v

-- each controller has a number
number_of : (y : System) → Typed y → (k : ℕ) (c : Controller) → IsAt y.controllers k c → (i : ℕ) × IsNumbered y i c
number_of y t k c at = let n = t.listed k (at_below y.controllers k c at) in (n.0, (k, (n.1, at)))

pub typed_controllers_are_plain : TypedControllersArePlain
typed_controllers_are_plain y t k c at = let n = number_of y t k c at in (typed_controllers_fit y t n.0 c n.1).plain

pub typed_systems_owe_kinded : TypedSystemsOweKinded
typed_systems_owe_kinded y t k c at = let n = number_of y t k c at in all_fine y t n.0 c n.1

pub typed_systems_are_sound : TypedSystemsAreSound
typed_systems_are_sound y t v = record {
  machines = λ k m at. obligations_suffice y m (fits_of_typed y t k m at) (v.machines k m at);
  controllers = λ k c at. let n = number_of y t k c at in typed_conditions_suffice y t n.0 c n.1 (v.controllers k c at);
}

pub typed_systems_are_safe : TypedSystemsAreSafe
typed_systems_are_safe y t v = sound_is_safe y t (typed_systems_are_sound y t v)
