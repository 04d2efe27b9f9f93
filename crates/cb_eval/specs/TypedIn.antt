-- Terms and formulas that are typed for what names stand for. Typing guarantees it of each that runs.
use Rattle.std.specs.Prelude.{ℕ, ◌≤◌, false, List, []}
use Rattle.cb_term.specs.declared.name.Name.{Name}
use Rattle.cb_term.specs.Tree.{TermTree, FormulaTree}
use Rattle.cb_term.specs.Values.{Look, size_of_set}
use Rattle.cb_spec.specs.Sound.{Agrees}
use Rattle.cb_spec.specs.TypedTerms.{Scope, TypedTerm, TypedFormula}

-- no enumerated set has more than 256 elements
abbrev pub AreSmallSets : List ℕ → Type 0
AreSmallSets sizes = (set : ℕ) → size_of_set sizes set ≤ 256

-- the formula is typed where what is known of names is true of what they stand for
pub record TypedIn (sizes : List ℕ) (look : Look) (f : FormulaTree) : Type 0 where
  pub scope : Scope
  pub taken : List Name
  pub agrees : Agrees sizes scope look
  pub small_sets : AreSmallSets sizes
  pub typed : TypedFormula sizes scope taken [] f

-- and so the term
pub record TypedTermIn (sizes : List ℕ) (look : Look) (t : TermTree) : Type 0 where
  pub scope : Scope
  pub taken : List Name
  pub agrees : Agrees sizes scope look
  pub small_sets : AreSmallSets sizes
  pub typed : TypedTerm sizes scope taken false [] t
