-- Tables of operations.
use Rattle.std.specs.Prelude.{ℕ, List, [], ◌∷◌}
use Rattle.cb_lex.specs.declared.raw.text.RawMachine.{RawMachine}
use Rattle.cb_lex.specs.declared.raw.text.RawOperation.{RawOperation}
use Rattle.cb_forms.specs.Find.{inside}
use Rattle.cb_judge.specs.declared.names.View.{View}
use Rattle.cb_judge.specs.Meanings.{Names}
use Rattle.cb_types.specs.Declares.{domains_of, inner_view, next}
use Rattle.cb_types.specs.MachineFaults.{inside_operation}
use Rattle.cb_text_laws.specs.Signatures.{Assigned, Callee, forms_of, assigned_after}
use Rattle.cb_signatures.specs.Kept.{results_of}

-- what the body of an operation assigns
abbrev pub body_assigns : View → Names → RawOperation → Assigned
body_assigns v names o = assigned_after v (inside_operation (domains_of v names o.precondition) o names) [] o.body

-- the operation with this number of the machine with this one
abbrev pub signature_of : View → Names → (machine number : ℕ) → RawOperation → Callee
signature_of v names machine number o = record {
  machine = machine;
  operation = number;
  parameters = forms_of (domains_of v names o.precondition) o.parameters;
  results = results_of (body_assigns v names o) o.results;
}

-- with the operations from this number on; the first of a name counts
abbrev pub entered_from : View → Names → (machine number : ℕ) → List (List ℕ × Callee) → List RawOperation → List (List ℕ × Callee)
entered_from v names machine number entered [] = entered
entered_from v names machine number entered (o ∷ os) =
    entered_from v names machine (next number) (inside o.name.text (signature_of v names machine number o) entered) os

abbrev pub own_operations : Names → Names → ℕ → RawMachine → List (List ℕ × Callee)
own_operations before names owner m = entered_from (inner_view before owner m) names owner 0 [] m.operations

-- the operations of the machines from the number `owner` on
abbrev pub operations_of : Names → Names → ℕ → List RawMachine → List (List (List ℕ × Callee))
operations_of before names owner [] = []
operations_of before names owner (m ∷ ms) = own_operations before names owner m ∷ operations_of before names (next owner) ms
