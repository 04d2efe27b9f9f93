use Rattle.std.proofs.Common.{◌<◌, ◌++◌, ◌∷◌, [], List, length, slice_set, refl, sym, subst, ap, ◌∙◌, arith}
use Rattle.std.proofs.lemmas.Grind.{common_steps}
use Rattle.cb_spec.specs.declared.state.Entry.{Entry}
use Rattle.cb_spec.specs.declared.state.Entry.TheVariants as entry
use Rattle.cb_spec.specs.States.{state_of}
use Rattle.cb_spec.specs.Journals.{events}
use Rattle.cb_spec.specs.declared.system.System.{System}
use Rattle.cb_code.specs.declared.place.Place.{Place}
use Rattle.cb_code.specs.declared.place.Place.TheVariants.{At}
use Rattle.cb_system.proofs.TabledLemmas.{tabled_set, tabled_over}
use Rattle.cb_spec.specs.declared.system.Channel.{Channel}
use Rattle.cb_safety_laws.specs.Causes.{Meet}
use Rattle.cb_system.specs.Views.{RunView, last_end}
use Rattle.cb_system.specs.Moves.{env_at}
use Rattle.cb_system.specs.Branches.{IsReady}
use Rattle.cb_system.specs.Firing.{CanPass}
use Rattle.cb_system.proofs.PlaceLemmas.{taken_is}
use Rattle.cb_system.proofs.FiredLemmas.{passed_fact, passed_few, sender_at, sender_within, receiver_within, step_passed_over}
use Rattle.cb_system.proofs.running.Running.pass_one.Goals as goal

pub passed_at-requires : goal.passed_at-requires
passed_at-requires c =
    let i = c.self.inside in
    let meet = subst (λ (r : RunView). (ch : Channel) × Meet r.system (state_of r.state) c.args.channel c.args.sent c.args.got ch) (sym c.self.view_is) c.requires.meet in
    let can : CanPass i.sound i.code i.places.items c.args.channel c.args.sent c.args.got = record {
      store = i.store;
      good = record { limit = i.limit; beginning = i.initial; journal = i.journal.items; good = c.self.invariant.0.0.good };
      prefixes = c.self.invariant.0.1.offered;
      channel = meet.0;
      meet = meet.1;
    } in
    subst (λ (y : System). CanPass y i.code c.as_slice.result.now c.args.channel c.args.sent c.args.got) (sym c.spec.ensures.system)
    (subst (λ (qs : List Place). CanPass i.sound i.code qs c.args.channel c.args.sent c.args.got) (sym c.as_slice.ensures.value) can)

pub overflow_add-self-2 : goal.overflow_add-self-2
overflow_add-self-2 c =
    let i = c.self.inside in
    let passed = passed_fact i.sound c.spec.result.now i.code i.places.items c.as_slice.result.now c.args.channel c.args.sent c.args.got c.in_ok-passed.passed c.in_ok-passed.ensures c.spec.ensures.system c.as_slice.ensures.value in
    let few = passed_few i.sound i.limit i.initial i.journal.items i.code i.store i.places.items i.bodies.items i.count i.end _ _ i.unsettled i.living c.self.invariant.0 c.args.channel c.args.sent c.args.got c.in_ok-passed.passed passed in
    omega (arith, few)

pub index_mut-requires : goal.index_mut-requires
index_mut-requires c =
    let i = c.self.inside in
    let passed = passed_fact i.sound c.spec.result.now i.code i.places.items c.as_slice.result.now c.args.channel c.args.sent c.args.got c.in_ok-passed.passed c.in_ok-passed.ensures c.spec.ensures.system c.as_slice.ensures.value in
    let low : c.in_ok-passed.passed.sender < length i.places.items = sender_within i.sound i.limit i.initial i.journal.items i.code i.store i.places.items i.bodies.items i.count i.end _ _ i.unsettled i.living c.self.invariant.0 c.args.channel c.args.sent c.args.got c.in_ok-passed.passed passed in
    grind (arith, common_steps)

pub env_of-requires : goal.env_of-requires
env_of-requires c =
    let i = c.self.inside in
    let passed = passed_fact i.sound c.spec.result.now i.code i.places.items c.as_slice.result.now c.args.channel c.args.sent c.args.got c.in_ok-passed.passed c.in_ok-passed.ensures c.spec.ensures.system c.as_slice.ensures.value in
    subst IsReady (sym (taken_is i.places.items c.in_ok-passed.passed.sender c.index_mut.result.now c.replace-place.result _ (sender_at i.sound i.limit i.initial i.journal.items i.code i.store i.places.items i.bodies.items i.count i.end _ _ i.unsettled i.living c.self.invariant.0 c.args.channel c.args.sent c.args.got c.in_ok-passed.passed passed) c.index_mut.ensures.value c.replace-place.ensures.value)) tt

pub index_mut-requires-2 : goal.index_mut-requires-2
index_mut-requires-2 c =
    let i = c.self.inside in
    let passed = passed_fact i.sound c.spec.result.now i.code i.places.items c.as_slice.result.now c.args.channel c.args.sent c.args.got c.in_ok-passed.passed c.in_ok-passed.ensures c.spec.ensures.system c.as_slice.ensures.value in
    let low : c.in_ok-passed.passed.sender < length i.places.items = sender_within i.sound i.limit i.initial i.journal.items i.code i.store i.places.items i.bodies.items i.count i.end _ _ i.unsettled i.living c.self.invariant.0 c.args.channel c.args.sent c.args.got c.in_ok-passed.passed passed in
    grind (arith, common_steps)

pub index_mut-requires-3 : goal.index_mut-requires-3
index_mut-requires-3 c =
    let i = c.self.inside in
    let passed = passed_fact i.sound c.spec.result.now i.code i.places.items c.as_slice.result.now c.args.channel c.args.sent c.args.got c.in_ok-passed.passed c.in_ok-passed.ensures c.spec.ensures.system c.as_slice.ensures.value in
    let low : c.in_ok-passed.passed.receiver < length i.places.items = receiver_within i.sound i.limit i.initial i.journal.items i.code i.store i.places.items i.bodies.items i.count i.end _ _ i.unsettled i.living c.self.invariant.0 c.args.channel c.args.sent c.args.got c.in_ok-passed.passed passed in
    grind (arith, common_steps)

pub invariant_of-self-2 : goal.invariant_of-self-2
invariant_of-self-2 c =
    let i = c.self.inside in
    let passed = passed_fact i.sound c.spec.result.now i.code i.places.items c.as_slice.result.now c.args.channel c.args.sent c.args.got c.in_ok-passed.passed c.in_ok-passed.ensures c.spec.ensures.system c.as_slice.ensures.value in
    let r = c.in_ok-passed.passed in
    let e : Entry = entry.Pass c.args.channel c.args.sent c.args.got r.values in
    let out = At r.out_next c.env_of.result in
    let sent = tabled_over i.sound i.code i.places.items i.offers c.self.invariant.1 r.sender c.replace-place.new.dest out [] c.clear.new.self c.clear.ensures refl in (
      step_passed_over i.sound i.limit i.initial i.journal.items i.code i.store i.places.items i.bodies.items i.count i.end _ _ i.unsettled i.living c.self.invariant.0 c.args.channel c.args.sent c.args.got c.in_ok-passed.passed passed _ _ _ _ c.push_reserved.new.self.items c.env_of.result c.replace-place.new.dest (ap (λ (r : RunView). last_end r.journal) c.self.view_is ∙ c.requires.open) (subst (λ (r : RunView). events r.journal < r.limit) (sym c.self.view_is) c.requires.more)
          (c.push_reserved.ensures.items ∙ ap (λ (l : List Entry). l ++ e ∷ []) c.in_ok-reserve.ensures.items)
          (c.env_of.ensures ∙ ap env_at (taken_is i.places.items r.sender c.index_mut.result.now c.replace-place.result _ (sender_at i.sound i.limit i.initial i.journal.items i.code i.store i.places.items i.bodies.items i.count i.end _ _ i.unsettled i.living c.self.invariant.0 c.args.channel c.args.sent c.args.got c.in_ok-passed.passed passed) c.index_mut.ensures.value c.replace-place.ensures.value)) (let p = c.push_reserved.ensures in let r = c.in_ok-reserve.ensures in omega (arith, p.len, p.capacity, r.len, r.capacity, r.ok)) refl refl,
      tabled_set i.sound i.code (slice_set (slice_set i.places.items r.sender c.replace-place.new.dest) r.sender out) c.clear.new.self sent r.receiver (At r.in_next r.env) [] c.clear-2.new.self c.clear-2.ensures refl,
    )
