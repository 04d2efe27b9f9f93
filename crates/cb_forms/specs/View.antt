-- The names of a map with what they stand for.
use Rattle.std.specs.Prelude.{ℕ, List, map, Vec}
use Rattle.std.specs.declared.alloc.Global.{Global}

module _ {M : Type 0} where
  abbrev pub entries_of : List (Vec ℕ Global × M) → List (List ℕ × M)
  entries_of es = map (λ e. (e.0.items, e.1)) es
