use Rattle.std.proofs.Common.{◌≡◌, ◌+◌, drop, slice_get, Some, None, sym, ap, ◌∙◌}
use Rattle.std.specs.Option.{option_copied}
use Rattle.cb_spec.specs.declared.system.Declared.{Declared}
use Rattle.cb_conditions.specs.Conditions.{declared_as}
use Rattle.cb_conditions.specs.Ways.{opening_each}
use Rattle.cb_symbolic.specs.Walks.{way_of}
use Rattle.cb_symbolic.proofs.WalkLemmas.{each_step, extends_through, declared_step, declared_none}
use Rattle.cb_symbolic.proofs.walk.open_each.Goals as goal

pub returns-in_default-clause-way : goal.returns-in_default-clause-way
returns-in_default-clause-way c =
    let none : slice_get c.args.values.now c.loop-place.place ≡ None = sym c.at.ensures ∙ ap option_copied c.in_default.is in
    ap (opening_each (way_of c.loop-place.reached c.loop-place.walk)) (sym (declared_none (drop c.loop-place.place c.args.names.now) c.args.values.now c.loop-place.place none))
    ∙ c.loop-place.invariant.way

pub loop-place-preserved : goal.loop-place-preserved
loop-place-preserved c =
    let i = c.loop-place.place in
    let x = c.index-names-place.result in
    let d : Declared = c.in-Some.value.now in
    let some : slice_get c.args.values.now i ≡ Some d = sym c.at.ensures ∙ ap option_copied c.in-Some.is in
    record {
      way = each_step (way_of c.in_ok-reached.reached c.open.new.walk) (way_of c.loop-place.reached c.loop-place.walk) _ (record { name = x; domain = d.domain }) c.kind_of.result
          (declared_as (drop i c.args.names.now) (drop i c.args.values.now)) (declared_as (drop (i + 1) c.args.names.now) (drop (i + 1) c.args.values.now))
          c.in_ok-reached.ensures.way c.kind_of.ensures
          (declared_step c.args.names.now c.args.values.now i x d c.loop-place-test.true c.index-names-place.is some)
          c.loop-place.invariant.way;
      extends = extends_through c.open.new.walk c.loop-place.walk c.args.walk.now c.in_ok-reached.ensures.extends c.loop-place.invariant.extends;
      reached = c.in_ok-reached.ensures.reached;
    }
