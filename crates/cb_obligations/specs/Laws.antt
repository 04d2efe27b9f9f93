-- The laws of the transformer, of the liveness formula and of the pieces.
use Rattle.std.specs.Prelude.{ℕ, ◌≤◌, ◌↔◌, List, [], ◌∷◌, ⊤}
use Rattle.cb_term.specs.declared.name.Name.{Name}
use Rattle.cb_term.specs.declared.kind.Kind.{Kind}
use Rattle.cb_term.specs.declared.value.Value.{Value}
use Rattle.cb_term.specs.Tree.{FormulaTree}
use Rattle.cb_term.specs.Values.{Look}
use Rattle.cb_term.specs.Holds.{Holds}
use Rattle.cb_term.specs.Closed.{IsClosed}
use Rattle.cb_seq.specs.Kinds.{Gives}
use Rattle.cb_seq.specs.Validity.{AllHold, AllValid}
use Rattle.cb_spec.specs.SubstTree.{SubstTree}
use Rattle.cb_spec.specs.Stores.{Writes, over}
use Rattle.cb_spec.specs.Runs.{Runs, Live, Fits}
use Rattle.cb_obligations.specs.Written.{EachName, AsWritten}
use Rattle.cb_obligations.specs.Transform.{transformed, live}
use Rattle.cb_obligations.specs.Pieces.{pieces}

abbrev pub TransformIsRight : Type 0
TransformIsRight = (sizes : List ℕ) (s : SubstTree) (r : FormulaTree) → AsWritten s → Fits sizes s → IsClosed 0 r → (look : Look) (env : List Value) →
    Holds sizes look (transformed s r) env ↔ ((d : Writes) → Runs sizes s look d → Holds sizes (over d look) r [])

abbrev pub LiveIsRight : Type 0
LiveIsRight = (sizes : List ℕ) (s : SubstTree) → AsWritten s → Fits sizes s → (look : Look) (env : List Value) → Holds sizes look (live s) env ↔ Live sizes s look

-- no name of the formula has a number above n
abbrev pub UpTo : ℕ → Name → Type 0
UpTo n x = x.number ≤ n

abbrev pub NamesUpTo : ℕ → List (Name × Kind) → Type 0
NamesUpTo n [] = ⊤
NamesUpTo n (p ∷ ps) = UpTo n p.0 × NamesUpTo n ps

abbrev pub EachUpTo : ℕ → List FormulaTree → Type 0
EachUpTo n [] = ⊤
EachUpTo n (f ∷ fs) = EachName (UpTo n) f × EachUpTo n fs

abbrev pub PiecesSuffice : Type 0
PiecesSuffice = (sizes : List ℕ) (names : List (Name × Kind)) (hyps : List FormulaTree) (n : ℕ) (f : FormulaTree) →
    NamesUpTo n names → EachUpTo n hyps → EachName (UpTo n) f → AllValid sizes (pieces names hyps n f) →
    (look : Look) → Gives sizes look names → AllHold sizes look hyps → Holds sizes look f []

abbrev pub PiecesAreNeeded : Type 0
PiecesAreNeeded = (sizes : List ℕ) (names : List (Name × Kind)) (hyps : List FormulaTree) (n : ℕ) (f : FormulaTree) → NamesUpTo n names →
    ((look : Look) → Gives sizes look names → AllHold sizes look hyps → Holds sizes look f []) → AllValid sizes (pieces names hyps n f)
