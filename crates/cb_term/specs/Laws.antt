-- What is true of every term and formula: of their values and truth, of trees that are the same, and of changed trees.
use Rattle.std.specs.Prelude.{◌≡◌, ℕ, ◌+◌, true, ◌↔◌, List, [], ◌∷◌, ◌++◌, length, slice_index_or}
use Rattle.cb_term.specs.declared.name.Name.{Name}
use Rattle.cb_term.specs.declared.value.Value.{Value}
use Rattle.cb_term.specs.Tree.{TermTree, FormulaTree}
use Rattle.cb_term.specs.Values.{Look, nothing, set_at}
use Rattle.cb_term.specs.Holds.{Holds, IsValue}
use Rattle.cb_term.specs.Free.{free_in_term, free_in}
use Rattle.cb_term.specs.Closed.{IsClosedTerm, IsClosed}
use Rattle.cb_term.specs.Change.{mapped_term, mapped_formula}
use Rattle.cb_term.specs.Same.{same_term, same}

-- a formula that cannot fail holds: so a proof may split on any formula
abbrev pub TruthIsStable : Type 0
TruthIsStable = (sizes : List ℕ) (look : Look) (f : FormulaTree) (env : List Value) → ¬ ¬ Holds sizes look f env → Holds sizes look f env

-- no term lacks a value
abbrev pub TermsHaveValues : Type 0
TermsHaveValues = (sizes : List ℕ) (look : Look) (t : TermTree) (env : List Value) → ¬ ((v : Value) → ¬ IsValue sizes look t env v)

-- no term has two values
abbrev pub ValuesAreUnique : Type 0
ValuesAreUnique = (sizes : List ℕ) (look : Look) (t : TermTree) (env : List Value) (v w : Value) →
    IsValue sizes look t env v → IsValue sizes look t env w → v ≡ w

-- a formula's truth depends on its free names alone
abbrev pub FreeNamesDecide : Type 0
FreeNamesDecide = (sizes : List ℕ) (look look' : Look) (f : FormulaTree) (env : List Value) →
    ((y : Name) → free_in y f ≡ true → look y ≡ look' y) → Holds sizes look f env ↔ Holds sizes look' f env

-- so does a term's value
abbrev pub FreeNamesDecideValue : Type 0
FreeNamesDecideValue = (sizes : List ℕ) (look look' : Look) (t : TermTree) (env : List Value) (v : Value) →
    ((y : Name) → free_in_term y t ≡ true → look y ≡ look' y) → IsValue sizes look t env v ↔ IsValue sizes look' t env v

-- a formula without loose bound variables does not read what surrounds it
abbrev pub ClosedStandsAlone : Type 0
ClosedStandsAlone = (sizes : List ℕ) (look : Look) (f : FormulaTree) (env env' : List Value) → IsClosed 0 f →
    Holds sizes look f env ↔ Holds sizes look f env'

-- neither does a term
abbrev pub ClosedValueStandsAlone : Type 0
ClosedValueStandsAlone = (sizes : List ℕ) (look : Look) (t : TermTree) (env env' : List Value) (v : Value) → IsClosedTerm 0 t →
    IsValue sizes look t env v ↔ IsValue sizes look t env' v

-- formulas that are the same, the written names of bound variables aside, hold alike
abbrev pub SameHoldAlike : Type 0
SameHoldAlike = (sizes : List ℕ) (look : Look) (f g : FormulaTree) (env : List Value) → same f g ≡ true →
    Holds sizes look f env ↔ Holds sizes look g env

-- terms that are the same have the same values
abbrev pub SameHaveSameValue : Type 0
SameHaveSameValue = (sizes : List ℕ) (look : Look) (t u : TermTree) (env : List Value) (v : Value) → same_term t u ≡ true →
    IsValue sizes look t env v ↔ IsValue sizes look u env v

-- at depth k, what stands for a name or a bound variable has its value
abbrev pub Fits : List ℕ → Look → Look → (ℕ → Name → TermTree) → (ℕ → ℕ → TermTree) → ℕ → List Value → List Value → Type 0
Fits sizes look look' names bounds k env env' =
    ((y : Name) → IsValue sizes look (names k y) env (look' y))
    × ((j : ℕ) → IsValue sizes look (bounds k j) env (slice_index_or env' j nothing))

-- a changed formula holds exactly where the formula holds with the values of what has been put in, if these fit also under
-- further binders, whatever the values of their variables
abbrev pub ChangeKeepsTruth : Type 0
ChangeKeepsTruth = (sizes : List ℕ) (look look' : Look) (names : ℕ → Name → TermTree) (bounds : ℕ → ℕ → TermTree) (k : ℕ) (env env' : List Value)
    (f : FormulaTree) → ((vs : List Value) → Fits sizes look look' names bounds (k + length vs) (vs ++ env) (vs ++ env')) →
    Holds sizes look (mapped_formula names bounds k f) env ↔ Holds sizes look' f env'

-- and a changed term has exactly the values that the term has so
abbrev pub ChangeKeepsValue : Type 0
ChangeKeepsValue = (sizes : List ℕ) (look look' : Look) (names : ℕ → Name → TermTree) (bounds : ℕ → ℕ → TermTree) (k : ℕ) (env env' : List Value)
    (t : TermTree) (v : Value) → ((vs : List Value) → Fits sizes look look' names bounds (k + length vs) (vs ++ env) (vs ++ env')) →
    IsValue sizes look (mapped_term names bounds k t) env v ↔ IsValue sizes look' t env' v

-- the new formula holds exactly where the old one holds with the term's value at the name
abbrev pub HoldsAt : FormulaTree → Name → TermTree → FormulaTree → Type 0
HoldsAt new x t old = (sizes : List ℕ) (look : Look) (env : List Value) (v : Value) → IsClosedTerm 0 t → IsValue sizes look t [] v →
    Holds sizes look new env ↔ Holds sizes (set_at look x v) old env

-- the new formula holds exactly where the old one holds with the term's value for the variable bound just outside it
abbrev pub HoldsInside : FormulaTree → TermTree → FormulaTree → Type 0
HoldsInside new t old = (sizes : List ℕ) (look : Look) (v : Value) → IsClosedTerm 0 t → IsValue sizes look t [] v →
    Holds sizes look new [] ↔ Holds sizes look old (v ∷ [])
