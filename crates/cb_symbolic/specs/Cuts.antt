-- The conjuncts of what is read, and the limit of a sequent.
use Rattle.std.specs.Prelude.{ℕ, ◌≡◌, ◌<◌, List, ⊤}
use Rattle.cb_term.specs.declared.name.Name.{Name}
use Rattle.cb_term.specs.Tree.{FormulaTree}
use Rattle.cb_obligations.specs.Pieces.{conjuncts}
use Rattle.cb_wp.specs.declared.limits.MakeFault.{MakeFault}
use Rattle.cb_wp.specs.declared.limits.MakeFault.TheVariants as fault
use Rattle.cb_wp.specs.declared.limits.Which.TheVariants as which
use Rattle.cb_conditions.specs.Reading.{Meaning}
use Rattle.cb_symbolic.specs.Stores.{read_opened}

-- the conjuncts of the formula as it is read, with opened names in the places of the variables that are bound outside
abbrev pub conjuncts_read : Meaning → List Name → FormulaTree → List FormulaTree
conjuncts_read s ys f = conjuncts (read_opened s ys f)

-- the fault is that so many nodes are more than a sequent may have, or want of memory
abbrev pub IsPast : MakeFault → ℕ → Type 0
IsPast (fault.Limit w) n = (w ≡ which.Sequent) × (20000 < n)
IsPast fault.Memory n = ⊤
