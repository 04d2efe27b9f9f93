use Rattle.std.proofs.Common.{ap, ◌∙◌, Some, None, [], get_or}
use Rattle.cb_text_laws.specs.Signatures.{parameters_of}
use Rattle.cb_controls.proofs.Kept.{looks_up}
use Rattle.cb_controls.proofs.definition.Definitions.parameters.Goals as goal

pub returns-in-None : goal.returns-in-None
returns-in-None c = ap parameters_of (looks_up c.self.inside.forms c.self.inside.heads c.args.self.now c.args.name.now None c.self.view_is c.in-None.ensures)

pub returns-in-Some : goal.returns-in-Some
returns-in-Some c =
    c.forms_at.ensures
    ∙ ap (λ forms. get_or forms c.in-Some.head.forms []) c.as_slice.ensures
    ∙ ap parameters_of (looks_up c.self.inside.forms c.self.inside.heads c.args.self.now c.args.name.now (Some c.in-Some.head) c.self.view_is c.in-Some.ensures)
