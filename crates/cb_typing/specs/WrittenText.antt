-- What is so of each text of machines that is spelled: its parts are not empty, and not too many.
use Rattle.std.specs.Prelude.{ℕ, ◌<◌, ◌^◌, List, [], ◌∷◌, length, Option, Some, None, ⊤}
use Rattle.cb_lex.specs.declared.raw.text.RawMachine.{RawMachine}
use Rattle.cb_lex.specs.declared.raw.text.RawOperation.{RawOperation}
use Rattle.cb_lex.specs.declared.raw.text.RawSet.{RawSet}
use Rattle.cb_lex.specs.declared.raw.text.RawState.{RawState}
use Rattle.cb_lex.specs.RawTermTree.{RawFormulaTree}
use Rattle.cb_typing.specs.Depths.{formula_depth, subst_depth}
use Rattle.cb_typing.specs.Sides.{HasSides}
use Rattle.cb_types.specs.NormalMachines.{sets_of}

-- things that are told by numbers of 32 bits
abbrev pub FitsNumbers : ℕ → Type 0
FitsNumbers n = n < 2 ^ 32

abbrev pub AreWrittenSets : List RawSet → Type 0
AreWrittenSets [] = ⊤
AreWrittenSets (s ∷ ss) = (0 < length s.elements) × AreWrittenSets ss

abbrev pub IsWrittenFormula : Option RawFormulaTree → Type 0
IsWrittenFormula None = ⊤
IsWrittenFormula (Some f) = FitsNumbers (formula_depth f)

abbrev pub IsWrittenState : Option RawState → Type 0
IsWrittenState None = ⊤
IsWrittenState (Some s) = FitsNumbers (formula_depth s.invariant) × FitsNumbers (subst_depth s.initialisation) × HasSides s.initialisation

pub record IsWrittenOperation (o : RawOperation) : Type 0 where
  pub precondition : IsWrittenFormula o.precondition
  pub body : FitsNumbers (subst_depth o.body)
  pub sides : HasSides o.body

abbrev pub AreWrittenOperations : List RawOperation → Type 0
AreWrittenOperations [] = ⊤
AreWrittenOperations (o ∷ os) = IsWrittenOperation o × AreWrittenOperations os

pub record IsWrittenMachine (m : RawMachine) : Type 0 where
  pub sets : AreWrittenSets m.sets
  pub state : IsWrittenState m.state
  pub few_operations : FitsNumbers (length m.operations)
  pub operations : AreWrittenOperations m.operations

abbrev pub AreWrittenMachines : List RawMachine → Type 0
AreWrittenMachines [] = ⊤
AreWrittenMachines (m ∷ ms) = IsWrittenMachine m × AreWrittenMachines ms

pub record IsWrittenText (ms : List RawMachine) : Type 0 where
  pub few_machines : FitsNumbers (length ms)
  pub few_sets : FitsNumbers (length (sets_of ms))
  pub machines : AreWrittenMachines ms
