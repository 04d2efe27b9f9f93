-- Texts without what no text spells: machines alone without a machine, SYSTEM without a controller or a name, a controller without a
-- definition, and a chain of less than two operands.
use Rattle.std.specs.Prelude.{◌≡◌, true, List, Option, Some, None}
use Rattle.cb_lex.specs.declared.raw.name.RawName.{RawName}
use Rattle.cb_lex.specs.declared.raw.text.RawController.{RawController}
use Rattle.cb_lex.specs.declared.raw.text.RawText.{RawText}
use Rattle.cb_lex.specs.RawProcessTree.{RawProcessTree, RawProcesses}
use Rattle.cb_lex.specs.RawProcessTree as tree
use Rattle.cb_shapes.specs.Full.{some, AllOf, IsFull}

abbrev pub HasTwo : RawProcesses → Type 0
HasTwo tree.NoOperand = ⊥
HasTwo (tree.Operand p tree.NoOperand) = ⊥
HasTwo (tree.Operand p (tree.Operand q ps)) = Unit {0}

abbrev mutual
  pub IsChained : RawProcessTree → Type 0
  IsChained (tree.Stop p) = Unit {0}
  IsChained (tree.Skip p) = Unit {0}
  IsChained (tree.Call c) = Unit {0}
  IsChained (tree.If p f a b) = IsChained a × IsChained b
  IsChained (tree.Prefix e a) = IsChained a
  IsChained (tree.External ps) = HasTwo ps × AreChained ps
  IsChained (tree.Internal ps) = HasTwo ps × AreChained ps

  pub AreChained : RawProcesses → Type 0
  AreChained tree.NoOperand = Unit {0}
  AreChained (tree.Operand p ps) = IsChained p × AreChained ps

pub record IsWholeController (c : RawController) : Type 0 where
  pub defined : some c.definitions ≡ true
  pub chained : AllOf (λ d. IsChained d.process) c.definitions

pub record IsWholeSystem (controllers : List RawController) (order : List RawName) : Type 0 where
  pub controlled : some controllers ≡ true
  pub ordered : some order ≡ true
  pub each : AllOf IsWholeController controllers

abbrev pub IsWholeRest : RawText → Option (List RawName) → Type 0
IsWholeRest t None = some t.machines ≡ true
IsWholeRest t (Some order) = IsWholeSystem t.controllers order

pub record IsWholeText (t : RawText) : Type 0 where
  pub machines : AllOf IsFull t.machines
  pub rest : IsWholeRest t t.order
