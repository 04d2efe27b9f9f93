use Rattle.std.proofs.Common.{ap, ◌∙◌, length, take}
use Rattle.cb_text_laws.specs.Signatures.{parameter_domains, parameter_names}
use Rattle.cb_controls.proofs.Fronts.{take_declared}
use Rattle.cb_systems.proofs.definitions.inside.Goals as goal

pub returns-clause-names : goal.returns-clause-names
returns-clause-names c =
    c.leave.ensures
    ∙ ap (λ n. take n c.invariant_and_body.new.names) c.len-outside.ensures
    ∙ ap (take (length c.args.names.now)) (c.in_ok-parts.ensures.names ∙ c.in_ok-declare_parameters.ensures.names)
    ∙ take_declared (parameter_domains c.args.around.now.view.now c.args.names.now c.args.definition.now) c.args.definition.now.name (parameter_names c.args.definition.now) c.args.names.now
