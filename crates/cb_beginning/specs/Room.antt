-- Names that get places in a store.
use Rattle.std.specs.Prelude.{◌≡◌, List, ◌++◌, flat_map}
use Rattle.cb_term.specs.declared.name.Name.{Name}
use Rattle.cb_spec.specs.declared.system.Machine.{Machine}
use Rattle.cb_spec.specs.declared.system.Operation.{Operation}
use Rattle.cb_spec.specs.Stores.{Writes, look_of}
use Rattle.cb_spec.specs.Bound.{names}
use Rattle.cb_settling.specs.Ops.{AllThere, KeepsNames}

-- the new store has each of the names and loses none, and names stand for what they did
pub record GivesPlaces (xs : List Name) (old new : Writes) : Type 0 where
  pub there : AllThere xs new
  pub names_kept : KeepsNames old new
  pub same : look_of new ≡ look_of old

-- the machine's variables, and the parameters of its operations
abbrev pub names_in : Machine → List Name
names_in m = names m.variables ++ flat_map (λ (o : Operation). names o.params) m.operations
