use Rattle.std.proofs.Common.{◌++◌, ◌∷◌, [], get_or, take, sym, subst}
use Rattle.cb_term.specs.Table.{sizes_of}
use Rattle.cb_term.specs.Holds.{IsValue}
use Rattle.cb_spec.specs.Stores.{look_of}
use Rattle.cb_spec.specs.Settling.{AreValues}
use Rattle.cb_eval.specs.TypedIn.{TypedTermIn}
use Rattle.cb_settling.specs.Resolving.{AreTypedIn}
use Rattle.cb_settling.proofs.BindLemmas.{values_more, typed_at, take_more}
use Rattle.cb_settling.proofs.bind.values_of.Goals as goal

pub value_of-requires : goal.value_of-requires
value_of-requires c =
    let sizes = sizes_of c.args.sets.now in
    let look = look_of c.args.env.now in
    let all = subst (AreTypedIn sizes look) (sym c.as_slice-term-items.ensures) c.requires in
    subst (TypedTermIn sizes look) (sym c.term-item.is) (typed_at sizes look c.as_slice-term-items.result.now c.loop-term.term-index c.term-item.result all c.loop-term-test.true)

pub loop-term-preserved : goal.loop-term-preserved
loop-term-preserved c =
    let sizes = sizes_of c.args.sets.now in
    let look = look_of c.args.env.now in
    let items = c.as_slice-term-items.result.now in
    let k = c.loop-term.term-index in
    let v = c.in_ok-value_of.field-0 in
    let is : IsValue sizes look (get_or items k c.term-item.result) [] v = subst (λ t. IsValue sizes look t [] v) c.term-item.is c.in_ok-value_of.ensures in
    let more = values_more sizes look (take k items) c.loop-term.values (get_or items k c.term-item.result) v c.loop-term.invariant is in
    subst (λ ts. AreValues sizes look ts c.push.new.self) (sym (take_more items k c.term-item.result c.loop-term-test.true))
    (subst (AreValues sizes look (take k items ++ get_or items k c.term-item.result ∷ [])) (sym c.in_ok-push.ensures.ok) more)
