-- Machines without what no text spells: a set without an element, VARIABLES without a name, CONSTANTS or PROPERTIES alone,
-- and a CHOICE of less than two sides.
use Rattle.std.specs.Prelude.{◌≡◌, ◌==◌, Bool, true, not, List, [], ◌∷◌, length, Option, Some, None}
use Rattle.cb_lex.specs.declared.raw.text.RawMachine.{RawMachine}
use Rattle.cb_lex.specs.declared.raw.text.RawState.{RawState}
use Rattle.cb_lex.specs.RawSubstTree.{RawSubstTree, RawSubsts}
use Rattle.cb_lex.specs.RawSubstTree as tree

-- whether a list has an entry
abbrev pub some : {X : Type 0} → List X → Bool
some xs = not (length xs == 0)

abbrev pub HasTwo : RawSubsts → Type 0
HasTwo tree.NoSide = ⊥
HasTwo (tree.Side s tree.NoSide) = ⊥
HasTwo (tree.Side s (tree.Side t ss)) = Unit {0}

abbrev mutual
  pub IsFullSubst : RawSubstTree → Type 0
  IsFullSubst tree.Skip = Unit {0}
  IsFullSubst (tree.Assign x t) = Unit {0}
  IsFullSubst (tree.Among x d) = Unit {0}
  IsFullSubst (tree.If f s) = IsFullSubst s
  IsFullSubst (tree.IfElse f s t) = IsFullSubst s × IsFullSubst t
  IsFullSubst (tree.Choice ss) = HasTwo ss × AreFullSides ss
  IsFullSubst (tree.Any x f s) = IsFullSubst s
  IsFullSubst (tree.Parallel s t) = IsFullSubst s × IsFullSubst t

  pub AreFullSides : RawSubsts → Type 0
  AreFullSides tree.NoSide = Unit {0}
  AreFullSides (tree.Side s ss) = IsFullSubst s × AreFullSides ss

abbrev pub AllOf : {X : Type 0} → (X → Type 0) → List X → Type 0
AllOf P [] = Unit {0}
AllOf P (x ∷ xs) = P x × AllOf P xs

abbrev pub IsFullState : Option RawState → Type 0
IsFullState None = Unit {0}
IsFullState (Some s) = (some s.variables ≡ true) × IsFullSubst s.initialisation

pub record IsFull (m : RawMachine) : Type 0 where
  pub sets : AllOf (λ s. some s.elements ≡ true) m.sets
  pub constants : some m.constants ≡ some m.properties
  pub state : IsFullState m.state
  pub operations : AllOf (λ o. IsFullSubst o.body) m.operations
