-- What is true of every closed formula, of every domain that is gone over, and of every typed term.
use Rattle.std.specs.Prelude.{ℕ, ◌≡◌, ◌<◌, ◌≤◌, ◌^◌, pos, neg_ℤ, Bool, false, List, [], length, Some, ◌↔◌, IsTrue, ⊤}
use Rattle.cb_term.specs.declared.kind.Domain.{Domain}
use Rattle.cb_term.specs.declared.value.Value.{Value}
use Rattle.cb_term.specs.declared.value.Value.TheVariants as value
use Rattle.cb_term.specs.Tree.{TermTree, FormulaTree}
use Rattle.cb_term.specs.Values.{Look}
use Rattle.cb_term.specs.Holds.{Holds, IsValue}
use Rattle.cb_spec.specs.Domains.{Within, In}
use Rattle.cb_spec.specs.Forms.{Form}
use Rattle.cb_spec.specs.FormValues.{IsOfForm}
use Rattle.cb_spec.specs.Sound.{Agrees}
use Rattle.cb_spec.specs.TypedTerms.{Scope, IsChoosable, IsDomain, form_of, TypedTerm}
use Rattle.cb_term.specs.declared.name.Name.{Name}
use Rattle.cb_eval.specs.ClosedTruth.{closed_truth}
use Rattle.cb_eval.specs.Told.{IsTold}
use Rattle.cb_eval.specs.TypedIn.{AreSmallSets}
use Rattle.cb_eval.specs.Walks.{count_of, value_number, is_walkable}

-- a formula whose truth is told by its numbers and sets alone has that truth whatever names stand for
abbrev pub ClosedTruthIsTruth : Type 0
ClosedTruthIsTruth = (sizes : List ℕ) (look : Look) (env : List Value) (f : FormulaTree) (b : Bool) → closed_truth sizes f ≡ Some b →
    IsTrue b ↔ Holds sizes look f env

-- and it is told so exactly where no name, no loose variable and no quantifier stands in it, and its numbers and sets are small
abbrev pub ClosedTruthIsTold : Type 0
ClosedTruthIsTold = (sizes : List ℕ) (f : FormulaTree) → IsTold sizes f ↔ ((b : Bool) × (closed_truth sizes f ≡ Some b))

-- each number below their count gives a value of the domain, each value of the domain has such a number, and only one
abbrev pub DomainIsWalked : Type 0
DomainIsWalked = (sizes : List ℕ) (d : Domain) →
    ((i : ℕ) → i < count_of sizes d → In sizes d (value_number sizes d i))
    × ((v : Value) → In sizes d v → (i : ℕ) × ((i < count_of sizes d) × (value_number sizes d i ≡ v)))
    × ((i j : ℕ) → i < count_of sizes d → j < count_of sizes d → value_number sizes d i ≡ value_number sizes d j → i ≡ j)

-- a domain of which values are chosen is small enough to be gone over
abbrev pub ChoosableIsWalkable : Type 0
ChoosableIsWalkable = (sizes : List ℕ) (d : Domain) → AreSmallSets sizes → IsDomain sizes d → IsChoosable sizes d → IsTrue (is_walkable sizes d)

-- a number within 2^62, a set of at most 256 items
abbrev pub IsSmallValue : Value → Type 0
IsSmallValue (value.Int x) = Within (neg_ℤ (pos (2 ^ 62))) (pos (2 ^ 62)) x
IsSmallValue (value.Set xs) = length xs ≤ 256
IsSmallValue v = ⊤

-- where what names stand for agrees with what is known of them, a typed term's value is of its form, and small
abbrev pub TypedValuesAreOfForm : Type 0
TypedValuesAreOfForm = (sizes : List ℕ) (scope : Scope) (taken : List Name) (look : Look) (t : TermTree) (f : Form) (v : Value) →
    AreSmallSets sizes → Agrees sizes scope look → TypedTerm sizes scope taken false [] t → form_of sizes scope [] t ≡ Some f →
    IsValue sizes look t [] v → IsOfForm sizes f v × IsSmallValue v
