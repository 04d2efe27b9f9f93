-- What is true of terms and formulas that fit.
use Rattle.std.specs.Prelude.{ℕ, ◌≡◌, ◌≢◌, true, List, [], Some, None}
use Rattle.cb_term.specs.declared.name.Name.{Name}
use Rattle.cb_term.specs.declared.kind.Kind.{Kind}
use Rattle.cb_term.specs.declared.value.Value.{Value}
use Rattle.cb_term.specs.Tree.{TermTree, FormulaTree}
use Rattle.cb_term.specs.Free.{free_in_term, free_in}
use Rattle.cb_term.specs.Closed.{IsClosedTerm, IsClosed}
use Rattle.cb_term.specs.Values.{Look, IsOf}
use Rattle.cb_term.specs.Holds.{Meets}
use Rattle.cb_seq.specs.Kinds.{kind_in, kind_of, fits, Gives, AreOf}

-- a name without a kind stands nowhere in what fits
abbrev pub FittingNamesHaveKinds : Type 0
FittingNamesHaveKinds = (sizes : List ℕ) (names : List (Name × Kind)) (ks : List Kind) (f : FormulaTree) (x : Name) →
    fits sizes names ks f ≡ true → free_in x f ≡ true → kind_in names x ≢ None

-- nor in a term that has a kind
abbrev pub NamesOfTermsHaveKinds : Type 0
NamesOfTermsHaveKinds = (sizes : List ℕ) (names : List (Name × Kind)) (ks : List Kind) (t : TermTree) (k : Kind) (x : Name) →
    kind_of sizes names ks t ≡ Some k → free_in_term x t ≡ true → kind_in names x ≢ None

-- what fits outside every quantifier has no loose bound variable
abbrev pub FittingIsClosed : Type 0
FittingIsClosed = (sizes : List ℕ) (names : List (Name × Kind)) (f : FormulaTree) → fits sizes names [] f ≡ true → IsClosed 0 f

-- nor has a term that has a kind there
abbrev pub TermsWithKindsAreClosed : Type 0
TermsWithKindsAreClosed = (sizes : List ℕ) (names : List (Name × Kind)) (t : TermTree) (k : Kind) → kind_of sizes names [] t ≡ Some k → IsClosedTerm 0 t

-- where names and bound variables have values of their kinds, each term has a value of its kind
abbrev pub ValuesHaveKinds : Type 0
ValuesHaveKinds = (sizes : List ℕ) (look : Look) (names : List (Name × Kind)) (ks : List Kind) (env : List Value) (t : TermTree) (k : Kind) →
    Gives sizes look names → AreOf sizes ks env → kind_of sizes names ks t ≡ Some k → Meets sizes look t env (IsOf sizes k)
