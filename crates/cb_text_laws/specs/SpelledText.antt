-- What is so of each text that is spelled: its parts are not empty, and not too many.
use Rattle.std.specs.Prelude.{ℕ, ◌+◌, ◌<◌, ◌≡◌, List, [], ◌∷◌, length, Option, Some, None, ⊤}
use Rattle.cb_lex.specs.declared.raw.event.RawEvent.{RawEvent}
use Rattle.cb_lex.specs.declared.raw.event.RawEvent.TheVariants as event
use Rattle.cb_lex.specs.declared.raw.name.RawName.{RawName}
use Rattle.cb_lex.specs.declared.raw.text.RawChannel.{RawChannel}
use Rattle.cb_lex.specs.declared.raw.text.RawController.{RawController}
use Rattle.cb_lex.specs.declared.raw.text.RawDefinition.{RawDefinition}
use Rattle.cb_lex.specs.declared.raw.text.RawText.{RawText}
use Rattle.cb_lex.specs.RawProcessTree.{RawProcessTree, Stop, Skip, Call, If, Prefix, External, Internal, RawProcesses, NoOperand, Operand}
use Rattle.cb_lex.specs.RawTermTree.{RawTermTree}
use Rattle.cb_typing.specs.Depths.{term_depth, formula_depth}
use Rattle.cb_typing.specs.WrittenText.{FitsNumbers, IsWrittenFormula, IsWrittenText}

abbrev pub AreWrittenTerms : List RawTermTree → Type 0
AreWrittenTerms [] = ⊤
AreWrittenTerms (t ∷ ts) = FitsNumbers (term_depth t) × AreWrittenTerms ts

abbrev pub IsWrittenEvent : RawEvent → Type 0
IsWrittenEvent (event.Output x ts said) = AreWrittenTerms ts × IsWrittenFormula said
IsWrittenEvent (event.Input x xs said) = IsWrittenFormula said
IsWrittenEvent (event.Operation m o ts xs) = AreWrittenTerms ts

-- a chain has two operands or more
abbrev pub IsChain : RawProcesses → Type 0
IsChain NoOperand = ⊥
IsChain (Operand p NoOperand) = ⊥
IsChain (Operand p (Operand q ps)) = ⊤

abbrev mutual
  pub IsWrittenProcess : RawProcessTree → Type 0
  IsWrittenProcess (Stop p) = ⊤
  IsWrittenProcess (Skip p) = ⊤
  IsWrittenProcess (Call c) = AreWrittenTerms c.arguments
  IsWrittenProcess (If p f a b) = FitsNumbers (formula_depth f) × IsWrittenProcess a × IsWrittenProcess b
  IsWrittenProcess (Prefix e a) = IsWrittenEvent e × IsWrittenProcess a
  IsWrittenProcess (External ps) = IsChain ps × AreWrittenProcesses ps
  IsWrittenProcess (Internal ps) = IsChain ps × AreWrittenProcesses ps

  pub AreWrittenProcesses : RawProcesses → Type 0
  AreWrittenProcesses NoOperand = ⊤
  AreWrittenProcesses (Operand p ps) = IsWrittenProcess p × AreWrittenProcesses ps

-- the prefixes in a process
abbrev mutual
  pub raw_prefixes : RawProcessTree → ℕ
  raw_prefixes (Stop p) = 0
  raw_prefixes (Skip p) = 0
  raw_prefixes (Call c) = 0
  raw_prefixes (If p f a b) = raw_prefixes a + raw_prefixes b
  raw_prefixes (Prefix e a) = 1 + raw_prefixes a
  raw_prefixes (External ps) = prefixes_of_each ps
  raw_prefixes (Internal ps) = prefixes_of_each ps

  pub prefixes_of_each : RawProcesses → ℕ
  prefixes_of_each NoOperand = 0
  prefixes_of_each (Operand p ps) = raw_prefixes p + prefixes_of_each ps

abbrev pub AreWrittenChannels : List RawChannel → Type 0
AreWrittenChannels [] = ⊤
AreWrittenChannels (c ∷ cs) = IsWrittenFormula c.condition × AreWrittenChannels cs

pub record IsWrittenDefinition (d : RawDefinition) : Type 0 where
  pub invariant : IsWrittenFormula d.invariant
  pub process : IsWrittenProcess d.process
  pub few_branches : FitsNumbers (raw_prefixes d.process)

abbrev pub AreWrittenDefinitions : List RawDefinition → Type 0
AreWrittenDefinitions [] = ⊤
AreWrittenDefinitions (d ∷ ds) = IsWrittenDefinition d × AreWrittenDefinitions ds

pub record IsWrittenController (c : RawController) : Type 0 where
  pub start : AreWrittenTerms c.start.arguments
  pub few_definitions : FitsNumbers (length c.definitions)
  pub definitions : AreWrittenDefinitions c.definitions

abbrev pub AreWrittenControllers : List RawController → Type 0
AreWrittenControllers [] = ⊤
AreWrittenControllers (c ∷ cs) = IsWrittenController c × AreWrittenControllers cs

-- a text without SYSTEM has machines alone
abbrev pub HasSystem : Option (List RawName) → List RawChannel → List RawController → Type 0
HasSystem None chs cs = (chs ≡ []) × (cs ≡ [])
HasSystem (Some xs) chs cs = 0 < length cs

pub record IsSpelledText (t : RawText) : Type 0 where
  pub machines : IsWrittenText t.machines
  pub few_channels : FitsNumbers (length t.channels)
  pub channels : AreWrittenChannels t.channels
  pub few_controllers : FitsNumbers (length t.controllers)
  pub controllers : AreWrittenControllers t.controllers
  pub system : HasSystem t.order t.channels t.controllers
