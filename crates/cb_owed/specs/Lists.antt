-- All that a system owes, in order.
use Rattle.std.specs.Prelude.{◌≡◌, List, ◌++◌, map, flat_map}
use Rattle.cb_seq.specs.declared.sequent.Obligation.{Obligation}
use Rattle.cb_spec.specs.declared.system.Controller.{Controller}
use Rattle.cb_spec.specs.declared.system.System.{System}
use Rattle.cb_obligations.specs.Owed.{Owed, owed_of, machine_owes}
use Rattle.cb_conditions.specs.Conditions.{controller_owes}

abbrev pub controllers_owe : System → List Controller → List Owed
controllers_owe y cs = flat_map (λ (c : Controller). controller_owes y c) cs

-- each machine, and then each controller, in text order
abbrev pub system_owes : System → List Owed
system_owes y = flat_map machine_owes y.machines ++ controllers_owe y y.controllers

-- the obligations are those that the system owes
abbrev pub AreOwed : System → List Obligation → Type 0
AreOwed y os = map owed_of os ≡ system_owes y
