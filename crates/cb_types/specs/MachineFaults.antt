-- Faults of machines, but for those of their global names' declarations.
use Rattle.std.specs.Prelude.{ℕ, ◌+◌, ◌==◌, nat_lt, Bool, true, false, not, List, [], ◌∷◌, length, Option, Some, None, is_some, is_none}
use Rattle.cb_lex.specs.declared.token.Place.{Place}
use Rattle.cb_lex.specs.declared.raw.name.RawName.{RawName}
use Rattle.cb_lex.specs.declared.raw.text.RawMachine.{RawMachine}
use Rattle.cb_lex.specs.declared.raw.text.RawOperation.{RawOperation}
use Rattle.cb_lex.specs.declared.raw.text.RawProperty.{RawProperty}
use Rattle.cb_lex.specs.declared.raw.text.RawState.{RawState}
use Rattle.cb_lex.specs.RawTermTree.{RawFormulaTree}
use Rattle.cb_lex.specs.RawSubstTree.{RawSubstTree}
use Rattle.cb_forms.specs.Faults.{Faults, Nowhere, Both, fault_if}
use Rattle.cb_forms.specs.Find.{found, inside}
use Rattle.cb_judge.specs.declared.names.Entry.{Entry}
use Rattle.cb_judge.specs.declared.names.Meaning.{Meaning}
use Rattle.cb_judge.specs.declared.names.Meaning.TheVariants as meaning
use Rattle.cb_judge.specs.declared.names.View.{View}
use Rattle.cb_judge.specs.Meanings.{Names}
use Rattle.cb_judge.specs.Judged.{fault_of}
use Rattle.cb_judge.specs.Substs.{subst_fault}
use Rattle.cb_judge.specs.Writes.{shared, missing}
use Rattle.cb_types.specs.declared.declare.Sort.TheVariants as sort
use Rattle.cb_types.specs.Declares.{Domains, domains_of, declared, declare_fault, machine_number, view_of, inner_view, next}

-- names of one list, each with a place
abbrev pub Seen : Type 0
Seen = List (List ℕ × Place)

-- a name that stands twice in one list
abbrev pub again : Seen → RawName → Faults
again seen x = fault_if (is_some (found x.text seen)) 1 x.place

abbrev pub with_seen : RawName → Seen → Seen
with_seen x seen = inside x.text x.place seen

-- a machine that is seen twice, or is none
abbrev pub sees_fault : Names → Seen → List RawName → Faults
sees_fault known seen [] = Nowhere
sees_fault known seen (x ∷ xs) =
    Both (Both (again seen x) (fault_if (is_none (machine_number (found x.text known))) 2 x.place)) (sees_fault known (with_seen x seen) xs)

abbrev pub is_constant_of : ℕ → Meaning → Bool
is_constant_of owner (meaning.Constant other n) = owner == other
is_constant_of owner m = false

abbrev pub is_own_constant : ℕ → Option Entry → Bool
is_own_constant owner None = false
is_own_constant owner (Some e) = is_constant_of owner e.meaning

-- a property of what is no constant of the machine, or a second one of a constant
abbrev pub properties_fault : ℕ → Names → Seen → List RawProperty → Faults
properties_fault owner known seen [] = Nowhere
properties_fault owner known seen (p ∷ ps) =
    Both (Both (fault_if (not (is_own_constant owner (found p.name.text known))) 2 p.name.place) (fault_if (is_some (found p.name.text seen)) 4 p.name.place))
    (properties_fault owner known (with_seen p.name seen) ps)

-- two operations of one name
abbrev pub operation_names_fault : Seen → List RawOperation → Faults
operation_names_fault seen [] = Nowhere
operation_names_fault seen (o ∷ os) = Both (again seen o.name) (operation_names_fault (with_seen o.name seen) os)

-- what a body or an initialisation writes; `names` are known in it
unfoldable pub body_fault : View → Names → RawSubstTree → Option Place → List RawName → Faults
body_fault v names s at xs = Both (subst_fault v names [] s) (Both (shared names [] s) (missing s at xs))

abbrev pub state_fault : Names → Names → ℕ → RawMachine → Option RawState → Faults
state_fault known names owner m None = Nowhere
state_fault known names owner m (Some s) =
    Both (fault_of (inner_view known owner m) names s.invariant) (body_fault (view_of known owner m) names s.initialisation None s.variables)

abbrev pub maybe_fault : View → Names → Option RawFormulaTree → Faults
maybe_fault v names None = Nowhere
maybe_fault v names (Some f) = fault_of v names f

-- the names in an operation, whose parameters have these domains
abbrev pub with_results : RawOperation → Names → Names
with_results o names = declared sort.Result [] [] 0 names o.results

abbrev pub inside_operation : Domains → RawOperation → Names → Names
inside_operation ds o names = declared sort.Parameter [] ds 0 (with_results o names) o.parameters

unfoldable pub locals_fault : Domains → RawOperation → Names → Faults
locals_fault ds o names =
    Both (declare_fault sort.Result [] [] 0 names o.results)
    (Both (declare_fault sort.Parameter [] ds 0 (with_results o names) o.parameters) (fault_if (nat_lt 8 (length o.parameters + length o.results)) 22 o.name.place))

-- what an operation says, where `inside` are the names in it
unfoldable pub inside_fault : View → Names → RawOperation → Faults
inside_fault v inside o = Both (maybe_fault v inside o.precondition) (body_fault v inside o.body (Some o.name.place) o.results)

unfoldable pub operation_fault : View → Names → RawOperation → Faults
operation_fault v names o =
    Both (locals_fault (domains_of v names o.precondition) o names)
    (inside_fault v (inside_operation (domains_of v names o.precondition) o names) o)

abbrev pub operations_fault : View → Names → List RawOperation → Faults
operations_fault v names [] = Nowhere
operations_fault v names (o ∷ os) = Both (operation_fault v names o) (operations_fault v names os)

unfoldable pub machine_fault : Names → Names → ℕ → RawMachine → Faults
machine_fault known names owner m =
    Both (Both (sees_fault known [] m.sees) (properties_fault owner known [] m.properties))
    (Both (operation_names_fault [] m.operations)
    (Both (state_fault known names owner m m.state) (operations_fault (inner_view known owner m) names m.operations)))

abbrev pub machines_fault : Names → Names → ℕ → List RawMachine → Faults
machines_fault known names owner [] = Nowhere
machines_fault known names owner (m ∷ ms) = Both (machine_fault known names owner m) (machines_fault known names (next owner) ms)
