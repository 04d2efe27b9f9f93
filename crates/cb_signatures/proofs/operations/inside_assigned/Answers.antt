use Rattle.std.proofs.Common.{ap, ◌∙◌, length, take}
use Rattle.cb_types.proofs.Growing.{take_operation}
use Rattle.cb_signatures.proofs.operations.inside_assigned.Goals as goal

pub returns-clause-kept : goal.returns-clause-kept
returns-clause-kept c =
    c.leave.ensures
    ∙ ap (λ n. take n c.assigned.new.names) c.len-outside.ensures
    ∙ ap (take (length c.args.names.now)) (c.in_ok-given.ensures.kept ∙ c.in_ok-declare_locals.ensures.names)
    ∙ take_operation c.args.domains.now c.args.operation.now c.args.names.now
