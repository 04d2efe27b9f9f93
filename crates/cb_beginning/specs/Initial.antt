-- The values with which machines begin.
use Rattle.std.specs.Prelude.{ℕ, List}
use Rattle.cb_spec.specs.declared.system.Machine.{Machine}
use Rattle.cb_spec.specs.Stores.{Writes, SameMap}
use Rattle.cb_spec.specs.Journals.{Begun}

-- the map has the values that one run of each machine's initialisation writes
pub record HaveBegun (sizes : List ℕ) (ms : List Machine) (d : Writes) : Type 0 where
  pub joined : Writes
  pub begun : Begun sizes ms joined
  pub same : SameMap d joined
