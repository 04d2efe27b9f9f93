-- What is true of the machines of a typed system.
use Rattle.std.specs.Prelude.{ℕ, List, [], ◌∷◌, ⊤}
use Rattle.cb_seq.specs.Validity.{Kinded}
use Rattle.cb_spec.specs.declared.system.Machine.{Machine}
use Rattle.cb_spec.specs.declared.system.System.{System}
use Rattle.cb_spec.specs.Journals.{set_sizes}
use Rattle.cb_spec.specs.States.{IsAt}
use Rattle.cb_spec.specs.Typed.{Typed}
use Rattle.cb_obligations.specs.Owed.{Owed, machine_owes}
use Rattle.cb_obligations.specs.Sufficing.{MachineFits, KeepsKinds}

-- its obligations, where they are valid, make each machine sound
abbrev pub TypedMachinesFit : Type 0
TypedMachinesFit = (y : System) → Typed y → (k : ℕ) (m : Machine) → IsAt y.machines k m → MachineFits (set_sizes y) m

-- what is written to a variable is of the variable's kind
abbrev pub TypedMachinesKeepKinds : Type 0
TypedMachinesKeepKinds = (y : System) → Typed y → (k : ℕ) (m : Machine) → IsAt y.machines k m → KeepsKinds (set_sizes y) m

abbrev pub AllOwedKinded : List ℕ → List Owed → Type 0
AllOwedKinded sizes [] = ⊤
AllOwedKinded sizes (o ∷ os) = Kinded sizes o.claim × AllOwedKinded sizes os

-- each obligation is kinded
abbrev pub TypedMachinesOweKinded : Type 0
TypedMachinesOweKinded = (y : System) → Typed y → (k : ℕ) (m : Machine) → IsAt y.machines k m → AllOwedKinded (set_sizes y) (machine_owes m)
