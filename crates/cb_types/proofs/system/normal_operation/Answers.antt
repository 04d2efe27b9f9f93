use Rattle.std.proofs.Common.{ap, ◌∙◌, length, take}
use Rattle.cb_types.specs.Declares.{domains_of}
use Rattle.cb_types.proofs.Growing.{take_operation}
use Rattle.cb_types.proofs.system.normal_operation.Goals as goal

pub returns-clause-kept : goal.returns-clause-kept
returns-clause-kept c =
    c.leave.ensures
    ∙ ap (λ n. take n c.declared_operation.new.names) c.len-outside.ensures
    ∙ ap (take (length c.args.names.now)) c.in_ok-normal.ensures.names
    ∙ take_operation (domains_of c.args.view.now c.args.names.now c.args.operation.now.precondition) c.args.operation.now c.args.names.now
