use Rattle.std.proofs.Common.{◌≡◌, ◌∙◌, ap, subst, IfOk, map}
use Rattle.cb_text_laws.specs.ControllerFaults.{table_of}
use Rattle.cb_text_laws.specs.NormalTexts.{definition_in}
use Rattle.cb_text_laws.specs.TextNames.{own_machines}
use Rattle.cb_systems.proofs.SameTables.{definitions_same}
use Rattle.cb_systems.proofs.controllers.controller_definitions.Goals as goal

pub returns-clause-form : goal.returns-clause-form
returns-clause-form c =
    let known = c.args.outside.now.known.now in
    let names = c.args.names.now in
    let ms = c.args.outside.now.machines.now in
    let channels = c.args.outside.now.channels.now in
    let ds = c.args.definitions.now in
    let reads = ap (λ v. v.reads) c.in_ok-reading.ensures in
    let own = ap (λ o. map (definition_in known names ms channels o ds) c.as_slice-list.result.now) reads in
    let all = ap (λ xs. map (definition_in known names ms channels (own_machines names c.args.controller.now) ds) xs) c.as_slice-list.ensures in
    let same = definitions_same known names ms channels (own_machines names c.args.controller.now) ds (table_of known names ms channels c.args.controller.now) c.requires.same c.args.controller.now.definitions in
    subst (λ w. IfOk c.normal_definitions.result (λ d. d ≡ w)) (own ∙ all ∙ same) c.normal_definitions.ensures.form
