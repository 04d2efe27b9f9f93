use Rattle.std.proofs.Common.{◌≡◌, None, map}
use Rattle.std.proofs.lemmas.Result.{IfOk-weaker, on_ok_weaker, IfErr-weaker}
use Rattle.cb_obligations.specs.Owed.{owed_of}
use Rattle.cb_wp.specs.Limits.{Tells}
use Rattle.cb_conditions.specs.Conditions.{start_owes}
use Rattle.cb_owed.specs.Limits.{start_limit}
use Rattle.cb_owed.proofs.Listed.{at_place, of_controller}
use Rattle.cb_owed.proofs.alone.start_obligations.Goals as goal

pub start_of-requires : goal.start_of-requires
start_of-requires c =
    c.typed_controllers_are_plain.ensures c.args.system.now c.requires.typed c.args.controller c.index-as_slice-controller.result
    (at_place c.as_slice.result.now c.args.system.now.controllers c.args.controller c.index-as_slice-controller.result c.as_slice.ensures c.requires.there c.index-as_slice-controller.is)

pub returns-clause-list : goal.returns-clause-list
returns-clause-list c =
    let here = at_place c.as_slice.result.now c.args.system.now.controllers c.args.controller c.index-as_slice-controller.result c.as_slice.ensures c.requires.there c.index-as_slice-controller.is in
    IfOk-weaker c.start_of.result _ _
    (λ v p k there. of_controller (λ q. map owed_of v.items ≡ start_owes c.args.system.now q) c.args.system.now.controllers c.args.controller c.index-as_slice-controller.result k here p there)
    c.start_of.ensures.list

pub returns-clause-within : goal.returns-clause-within
returns-clause-within c =
    let here = at_place c.as_slice.result.now c.args.system.now.controllers c.args.controller c.index-as_slice-controller.result c.as_slice.ensures c.requires.there c.index-as_slice-controller.is in
    on_ok_weaker c.start_of.result
    (λ p k there. of_controller (λ q. start_limit c.args.used c.args.system.now q ≡ None) c.args.system.now.controllers c.args.controller c.index-as_slice-controller.result k here p there)
    c.start_of.ensures.within

pub returns-clause-fault : goal.returns-clause-fault
returns-clause-fault c =
    let here = at_place c.as_slice.result.now c.args.system.now.controllers c.args.controller c.index-as_slice-controller.result c.as_slice.ensures c.requires.there c.index-as_slice-controller.is in
    IfErr-weaker c.start_of.result _ _
    (λ e p k there. of_controller (λ q. Tells e (start_limit c.args.used c.args.system.now q)) c.args.system.now.controllers c.args.controller c.index-as_slice-controller.result k here p there)
    c.start_of.ensures.fault
