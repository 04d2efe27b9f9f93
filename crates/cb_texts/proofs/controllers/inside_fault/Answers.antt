use Rattle.std.proofs.Common.{◌≡◌, ◌∙◌, ap, subst, IfOk}
use Rattle.cb_forms.specs.Faults.{first}
use Rattle.cb_text_laws.specs.ControllerFaults.{definitions_fault, table_of}
use Rattle.cb_text_laws.specs.TextNames.{own_machines}
use Rattle.cb_texts.proofs.SameTables.{definitions_same}
use Rattle.cb_texts.proofs.controllers.inside_fault.Goals as goal

pub returns-clause-fault : goal.returns-clause-fault
returns-clause-fault c =
    let known = c.args.outside.now.known.now in
    let names = c.args.names.now in
    let ms = c.args.outside.now.machines.now in
    let channels = c.args.outside.now.channels.now in
    let ds = c.args.definitions.now in
    let reads = ap (λ v. v.reads) c.in_ok-reading.ensures in
    let list = c.as_slice-list.ensures in
    let own = ap (λ o. first (definitions_fault known names ms channels o ds 0 c.as_slice-list.result.now)) reads in
    let all = ap (λ xs. first (definitions_fault known names ms channels (own_machines names c.args.controller.now) ds 0 xs)) list in
    let same = ap first (definitions_same known names ms channels (own_machines names c.args.controller.now) ds (table_of known names ms channels c.args.controller.now) c.requires.same 0 c.args.controller.now.definitions) in
    subst (λ w. IfOk c.definitions_fault.result (λ f. f ≡ w)) (own ∙ all ∙ same) c.definitions_fault.ensures.fault
