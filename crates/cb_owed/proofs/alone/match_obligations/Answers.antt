use Rattle.std.proofs.Common.{◌≡◌, None, map}
use Rattle.std.proofs.lemmas.Result.{IfOk-weaker, on_ok_weaker, IfErr-weaker}
use Rattle.cb_obligations.specs.Owed.{owed_of}
use Rattle.cb_wp.specs.Limits.{Tells}
use Rattle.cb_conditions.specs.Conditions.{match_owes}
use Rattle.cb_owed.specs.Limits.{match_limit}
use Rattle.cb_owed.proofs.Listed.{at_place, of_definition}
use Rattle.cb_owed.proofs.alone.match_obligations.Goals as goal

pub returns-clause-list : goal.returns-clause-list
returns-clause-list c =
    let own = c.index-as_slice-controller.result in
    let body = c.index-as_slice-definition.result in
    let here = at_place c.as_slice.result.now c.args.system.now.controllers c.args.controller own c.as_slice.ensures c.requires.there c.index-as_slice-controller.is in
    let inside = at_place c.as_slice-2.result.now own.definitions c.args.definition body c.as_slice-2.ensures (c.requires.own own here) c.index-as_slice-definition.is in
    IfOk-weaker c.match_of.result _ _
    (λ v p k d there within. of_definition (λ q e. map owed_of v.items ≡ match_owes c.args.system.now q e) c.args.system.now.controllers c.args.controller c.args.definition own k body d here inside p there within)
    c.match_of.ensures.list

pub returns-clause-within : goal.returns-clause-within
returns-clause-within c =
    let own = c.index-as_slice-controller.result in
    let body = c.index-as_slice-definition.result in
    let here = at_place c.as_slice.result.now c.args.system.now.controllers c.args.controller own c.as_slice.ensures c.requires.there c.index-as_slice-controller.is in
    let inside = at_place c.as_slice-2.result.now own.definitions c.args.definition body c.as_slice-2.ensures (c.requires.own own here) c.index-as_slice-definition.is in
    on_ok_weaker c.match_of.result
    (λ p k d there within. of_definition (λ q e. match_limit c.args.used c.args.system.now e ≡ None) c.args.system.now.controllers c.args.controller c.args.definition own k body d here inside p there within)
    c.match_of.ensures.within

pub returns-clause-fault : goal.returns-clause-fault
returns-clause-fault c =
    let own = c.index-as_slice-controller.result in
    let body = c.index-as_slice-definition.result in
    let here = at_place c.as_slice.result.now c.args.system.now.controllers c.args.controller own c.as_slice.ensures c.requires.there c.index-as_slice-controller.is in
    let inside = at_place c.as_slice-2.result.now own.definitions c.args.definition body c.as_slice-2.ensures (c.requires.own own here) c.index-as_slice-definition.is in
    IfErr-weaker c.match_of.result _ _
    (λ f p k d there within. of_definition (λ q e. Tells f (match_limit c.args.used c.args.system.now e)) c.args.system.now.controllers c.args.controller c.args.definition own k body d here inside p there within)
    c.match_of.ensures.fault
