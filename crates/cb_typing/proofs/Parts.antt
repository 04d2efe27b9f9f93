-- The parts of machines' and operations' faults, none of which occurs where none of the whole does.
use Rattle.std.proofs.Common.{ℕ, ◌+◌, nat_lt, List, [], length, Option, Some}
use Rattle.cb_lex.specs.declared.token.Place.{Place}
use Rattle.cb_lex.specs.declared.raw.name.RawName.{RawName}
use Rattle.cb_lex.specs.declared.raw.text.RawMachine.{RawMachine}
use Rattle.cb_lex.specs.declared.raw.text.RawOperation.{RawOperation}
use Rattle.cb_lex.specs.RawSubstTree.{RawSubstTree}
use Rattle.cb_forms.specs.Faults.{fault_if}
use Rattle.cb_judge.specs.declared.names.View.{View}
use Rattle.cb_judge.specs.Meanings.{Names}
use Rattle.cb_judge.specs.Substs.{subst_fault}
use Rattle.cb_judge.specs.Writes.{shared, missing}
use Rattle.cb_types.specs.declared.declare.Sort.TheVariants as sort
use Rattle.cb_types.specs.Declares.{Domains, domains_of, declare_fault, inner_view}
use Rattle.cb_types.specs.MachineFaults.{operation_names_fault, body_fault, state_fault, maybe_fault, with_results, inside_operation, locals_fault, inside_fault, operation_fault, operations_fault, machine_fault}
use Rattle.cb_typing.proofs.Clean.{Clean}

pub body_parts : (v : View) (names : Names) (s : RawSubstTree) (at : Option Place) (xs : List RawName) → Clean (body_fault v names s at xs) → Clean (subst_fault v names [] s) × Clean (shared names [] s) × Clean (missing s at xs)
unfolding body_fault
body_parts v names s at xs h = (h.0, h.1.0, h.1.1)

pub locals_parts : (ds : Domains) (o : RawOperation) (names : Names) → Clean (locals_fault ds o names) →
    Clean (declare_fault sort.Result [] [] 0 names o.results) × Clean (declare_fault sort.Parameter [] ds 0 (with_results o names) o.parameters)
    × Clean (fault_if (nat_lt 8 (length o.parameters + length o.results)) 22 o.name.place)
unfolding locals_fault
locals_parts ds o names h = (h.0, h.1.0, h.1.1)

pub operation_parts : (v : View) (names : Names) (o : RawOperation) → Clean (operation_fault v names o) →
    Clean (locals_fault (domains_of v names o.precondition) o names)
    × Clean (maybe_fault v (inside_operation (domains_of v names o.precondition) o names) o.precondition)
    × Clean (body_fault v (inside_operation (domains_of v names o.precondition) o names) o.body (Some o.name.place) o.results)
unfolding operation_fault inside_fault
operation_parts v names o h = (h.0, h.1.0, h.1.1)

pub machine_parts : (known names : Names) (owner : ℕ) (m : RawMachine) → Clean (machine_fault known names owner m) →
    Clean (operation_names_fault [] m.operations) × Clean (state_fault known names owner m m.state) × Clean (operations_fault (inner_view known owner m) names m.operations)
unfolding machine_fault
machine_parts known names owner m h = (h.1.0, h.1.1.0, h.1.1.1)
