-- Processes as plain trees.
use Rattle.std.specs.Prelude.{ℕ, List}
use Rattle.cb_term.specs.Tree.{TermTree, FormulaTree}
use Rattle.cb_spec.specs.declared.event.Event.{Event}

pub data ProcessTree : Type 0 where
  Stop : ProcessTree
  Skip : ProcessTree
  Call : ℕ → List TermTree → ProcessTree
  Prefix : Event → ProcessTree → ProcessTree
  Choice : ProcessTree → ProcessTree → ProcessTree
  Internal : ProcessTree → ProcessTree → ProcessTree
  If : FormulaTree → ProcessTree → ProcessTree → ProcessTree
