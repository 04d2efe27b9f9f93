-- Sequents as plain records; when a sequent is valid, and when it is kinded.
use Rattle.std.specs.Prelude.{ℕ, ◌≡◌, List, [], ◌∷◌, true, None, ⊤}
use Rattle.cb_term.specs.declared.name.Name.{Name}
use Rattle.cb_term.specs.declared.kind.Kind.{Kind}
use Rattle.cb_term.specs.Tree.{FormulaTree}
use Rattle.cb_term.specs.Values.{Look}
use Rattle.cb_term.specs.Holds.{Holds}
use Rattle.cb_seq.specs.declared.sequent.Sequent.{Sequent}
use Rattle.cb_seq.specs.Kinds.{kind_in, fits, Gives}

-- what a sequent says
pub record Claim : Type 0 where
  pub names : List (Name × Kind)
  pub hypotheses : List FormulaTree
  pub goal : FormulaTree

abbrev pub claim_of : Sequent → Claim
claim_of s = record { names = s.names.items; hypotheses = s.hypotheses.items; goal = s.goal }

abbrev pub AllHold : List ℕ → Look → List FormulaTree → Type 0
AllHold sizes look [] = ⊤
AllHold sizes look (f ∷ fs) = Holds sizes look f [] × AllHold sizes look fs

-- whatever gives each name a value of its kind, and makes the hypotheses true, makes the goal true. A look-up gives a value to
-- every name. Nothing is lost by that: each store of finitely many names extends to a look-up, and a name outside a kinded
-- sequent changes no truth in it
abbrev pub Valid : List ℕ → Claim → Type 0
Valid sizes q = (look : Look) → Gives sizes look q.names → AllHold sizes look q.hypotheses → Holds sizes look q.goal []

abbrev pub AllValid : List ℕ → List Claim → Type 0
AllValid sizes [] = ⊤
AllValid sizes (q ∷ qs) = Valid sizes q × AllValid sizes qs

-- no name stands twice
abbrev pub AreDifferent : List (Name × Kind) → Type 0
AreDifferent [] = ⊤
AreDifferent (n ∷ ns) = (kind_in ns n.0 ≡ None) × AreDifferent ns

abbrev pub AllFit : List ℕ → List (Name × Kind) → List FormulaTree → Type 0
AllFit sizes names [] = ⊤
AllFit sizes names (f ∷ fs) = (fits sizes names [] f ≡ true) × AllFit sizes names fs

-- the names differ, and in the formulas each free name is among them, no bound variable is loose, sets and elements are in the
-- table, and kinds agree
pub record Kinded (sizes : List ℕ) (q : Claim) : Type 0 where
  pub differ : AreDifferent q.names
  pub hypotheses : AllFit sizes q.names q.hypotheses
  pub goal : fits sizes q.names [] q.goal ≡ true

abbrev pub AllKinded : List ℕ → List Claim → Type 0
AllKinded sizes [] = ⊤
AllKinded sizes (q ∷ qs) = Kinded sizes q × AllKinded sizes qs
