use Rattle.std.proofs.Common.{Option, ap, ◌∙◌}
use Rattle.cb_lex.specs.RawTermTree.{RawFormulaTree}
use Rattle.cb_lex.specs.declared.raw.text.RawOperation.{RawOperation}
use Rattle.cb_judge.specs.declared.names.View.{View}
use Rattle.cb_judge.specs.Meanings.{Names}
use Rattle.cb_spec.specs.declared.system.Operation.{Operation}
use Rattle.cb_types.specs.Declares.{Domains, domains_of}
use Rattle.cb_types.specs.MachineFaults.{inside_operation}
use Rattle.cb_types.specs.NormalMachines.{operation_inside, operation_in}
use Rattle.cb_types.proofs.system.declared_operation.Goals as goal

-- the operation, with the domains that this precondition gives
abbrev with_precondition : View → Names → RawOperation → Option RawFormulaTree → Operation
with_precondition v names o p = operation_inside v (domains_of v names p) (inside_operation (domains_of v names p) o names) o

pub returns-clause-operation : goal.returns-clause-operation
unfolding operation_in
returns-clause-operation c =
    c.in_ok-normal_inside.ensures.operation
    ∙ ap (λ (names : Names). operation_inside c.args.view.now c.in_ok-domains.domains names c.args.operation.now) c.in_ok-declare_locals.ensures.names
    ∙ ap (λ (ds : Domains). operation_inside c.args.view.now ds (inside_operation ds c.args.operation.now c.args.names.now) c.args.operation.now) c.in_ok-domains.ensures
    ∙ ap (with_precondition c.args.view.now c.args.names.now c.args.operation.now) c.as_ref.ensures.value
