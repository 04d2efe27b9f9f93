-- Processes as they are written, as plain trees.
use Rattle.std.specs.Prelude.{ℕ, ◌+◌, List, [], ◌∷◌}
use Rattle.cb_lex.specs.declared.token.Place.{Place}
use Rattle.cb_lex.specs.declared.raw.event.RawCall.{RawCall}
use Rattle.cb_lex.specs.declared.raw.event.RawEvent.{RawEvent}
use Rattle.cb_lex.specs.RawTermTree.{RawFormulaTree}

mutual
  pub data RawProcessTree : Type 0 where
    Stop : Place → RawProcessTree
    Skip : Place → RawProcessTree
    Call : RawCall → RawProcessTree
    If : Place → RawFormulaTree → RawProcessTree → RawProcessTree → RawProcessTree
    Prefix : RawEvent → RawProcessTree → RawProcessTree
    External : RawProcesses → RawProcessTree
    Internal : RawProcesses → RawProcessTree

  -- the operands of a chain
  pub data RawProcesses : Type 0 where
    NoOperand : RawProcesses
    Operand : RawProcessTree → RawProcesses → RawProcesses

-- a list as the tree holds it
abbrev pub raw_processes : List RawProcessTree → RawProcesses
raw_processes [] = NoOperand
raw_processes (p ∷ ps) = Operand p (raw_processes ps)

-- how many nodes a tree has
abbrev mutual
  pub process_nodes : RawProcessTree → ℕ
  process_nodes (Stop q) = 1
  process_nodes (Skip q) = 1
  process_nodes (Call c) = 1
  process_nodes (If q f a b) = process_nodes a + process_nodes b + 1
  process_nodes (Prefix e a) = process_nodes a + 1
  process_nodes (External ps) = processes_nodes ps + 1
  process_nodes (Internal ps) = processes_nodes ps + 1

  pub processes_nodes : RawProcesses → ℕ
  processes_nodes NoOperand = 0
  processes_nodes (Operand p ps) = process_nodes p + processes_nodes ps
