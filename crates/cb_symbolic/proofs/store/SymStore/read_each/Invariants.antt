use Rattle.std.proofs.Common.{◌≡◌, ◌++◌, drop}
use Rattle.cb_conditions.specs.Reading.{read_each}
use Rattle.cb_symbolic.specs.Stores.{meaning_of}
use Rattle.cb_symbolic.proofs.store.SymStore.read_each.Given as goal

abbrev pub invariant-loop-write : goal.invariant-loop-write
invariant-loop-write l = l.made ++ read_each (meaning_of l.self) (drop l.write-index l.writes) ≡ read_each (meaning_of l.self) l.writes
