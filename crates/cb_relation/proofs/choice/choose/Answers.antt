use Rattle.std.proofs.Common.{arith, ◌<◌, refl, subst}
use Rattle.cb_term.specs.Table.{sizes_of}
use Rattle.cb_eval.specs.Walks.{count_of}
use Rattle.cb_relation.specs.Trying.{look_in}
use Rattle.cb_relation.proofs.ChoiceLemmas.{tried_typed, tried_same, tried_more, tried_found, tried_all}
use Rattle.cb_relation.proofs.choice.choose.Goals as goal

pub meets-requires-clause-typed : goal.meets-requires-clause-typed
meets-requires-clause-typed c = tried_typed _ _ _ _ _ _ c.loop-number.invariant.same c.requires.typed

pub returns-then-branch : goal.returns-then-branch
returns-then-branch c =
    tried_found (sizes_of c.args.sets.now) c.args.name.now c.args.domain c.args.test.now (look_in c.args.known.now) (look_in c.loop-number.known) (look_in c.meets.new.known) c.loop-number.number c.in_ok-meets.field-0
    c.loop-number.invariant.same (subst (λ n. c.loop-number.number < n) c.value_count-number-end.ensures c.loop-number-test.true) c.in_ok-meets.ensures.known c.in_ok-meets.ensures.met c.if-branch.true

pub loop-number-preserved : goal.loop-number-preserved
loop-number-preserved c =
    tried_more (sizes_of c.args.sets.now) c.args.name.now c.args.domain c.args.test.now (look_in c.args.known.now) (look_in c.loop-number.known) (look_in c.meets.new.known) c.args.start c.loop-number.number c.in_ok-meets.field-0
    c.loop-number.invariant c.in_ok-meets.ensures.known c.in_ok-meets.ensures.met c.if-branch.false

pub meets-requires-in-loop-number-2-clause-typed :
    goal.meets-requires-in-loop-number-2-clause-typed
meets-requires-in-loop-number-2-clause-typed c = tried_typed _ _ _ _ _ _ c.loop-number-2.invariant.1.same c.requires.typed

pub returns-then-branch-2 : goal.returns-then-branch-2
returns-then-branch-2 c =
    let below : c.loop-number-2.number < count_of (sizes_of c.args.sets.now) c.args.domain = omega (arith, c.loop-number-2-test.true, c.requires.within) in
    tried_found (sizes_of c.args.sets.now) c.args.name.now c.args.domain c.args.test.now (look_in c.args.known.now) (look_in c.loop-number-2.known) (look_in c.meets-in-loop-number-2.new.known) c.loop-number-2.number c.in_ok-meets-2.field-0
    c.loop-number-2.invariant.1.same below c.in_ok-meets-2.ensures.known c.in_ok-meets-2.ensures.met c.if-branch-2.true

pub loop-number-2-preserved : goal.loop-number-2-preserved
loop-number-2-preserved c = (
  record {
    same = tried_same (sizes_of c.args.sets.now) c.args.name.now c.args.domain c.args.test.now (look_in c.args.known.now) (look_in c.loop-number-2.known) (look_in c.meets-in-loop-number-2.new.known) c.loop-number-2.number c.loop-number-2.invariant.0.same c.in_ok-meets-2.ensures.known;
    fail = c.loop-number-2.invariant.0.fail;
  },
  tried_more (sizes_of c.args.sets.now) c.args.name.now c.args.domain c.args.test.now (look_in c.args.known.now) (look_in c.loop-number-2.known) (look_in c.meets-in-loop-number-2.new.known) 0 c.loop-number-2.number c.in_ok-meets-2.field-0
      c.loop-number-2.invariant.1 c.in_ok-meets-2.ensures.known c.in_ok-meets-2.ensures.met c.if-branch-2.false,
)

pub unreachable-requires : goal.unreachable-requires
unreachable-requires c =
    tried_all (sizes_of c.args.sets.now) c.args.name.now c.args.domain c.args.test.now (look_in c.args.known.now) (look_in c.loop-number-2.known) (look_in c.loop-number-2.known) c.args.start (count_of (sizes_of c.args.sets.now) c.args.domain) c.loop-number-2.number
    c.requires.some refl c.loop-number-2.invariant.0 c.loop-number-2.invariant.1 c.loop-number-2-test.false
