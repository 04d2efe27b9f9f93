-- The enumerated sets of a system.
use Rattle.std.specs.Prelude.{ℕ, List, map, length}
use Rattle.cb_term.specs.declared.table.SetTable.{SetTable}

-- how many elements each set has
abbrev pub sizes_of : SetTable → List ℕ
sizes_of table = map (λ s. length s.elements) table.sets.items
