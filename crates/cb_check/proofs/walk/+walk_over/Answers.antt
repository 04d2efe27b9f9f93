use Rattle.std.proofs.Common.{◌≡◌, ◌+◌, ◌<◌, drop, None, Some, sym, arith, refl, ◌∙◌}
use Rattle.cb_term.specs.Table.{sizes_of}
use Rattle.cb_seq.specs.Premises.{premise_of}
use Rattle.cb_seq.specs.Size.{cert_nodes}
use Rattle.cb_check.specs.Derives.{premises, first_bad}
use Rattle.cb_check.specs.Ways.{claim_on, IsFirstBad}
use Rattle.cb_check.proofs.WalkSteps.{before, unmet, miscounted, begun, inner_claim, counts_at, nodes_more, one_fewer, fine_step, bad_step}
use Rattle.cb_check.proofs.walk.+walk_over.Goals as goal

pub returns-then-len-children-clause-tells : goal.returns-then-len-children-clause-tells
returns-then-len-children-clause-tells t c =
    let q = claim_on c.args.way.now c.args.goal.now in
    let told = rw c.in-Some.is at c.in_ok-premises.ensures in
    let o : premises (sizes_of c.args.sets.now) c.cert.inside.rule q ≡ Some c.in-Some.premises = rw (← c.as_slice.ensures.value, ← c.as_slice-2.ensures) (sym told) in
    rw (← c.cert.view_is) (rw (← c.as_slice-children.ensures.value)
    (1, miscounted (sizes_of c.args.sets.now) c.cert.inside.rule c.as_slice-children.result.now q c.in-Some.premises o (λ e. c.if-len-children.true (c.len.ensures ∙ e)), refl))

pub loop-child-init : goal.loop-child-init
loop-child-init t c =
    let q = claim_on c.args.way.now c.args.goal.now in
    let told = rw c.in-Some.is at c.in_ok-premises.ensures in
    let o : premises (sizes_of c.args.sets.now) c.cert.inside.rule q ≡ Some c.in-Some.premises = rw (← c.as_slice.ensures.value, ← c.as_slice-2.ensures) (sym told) in
    record {
      bad = rw (← c.cert.view_is) (rw (← c.as_slice-children.ensures.value)
          (begun (sizes_of c.args.sets.now) c.cert.inside.rule c.as_slice-children.result.now q c.in-Some.premises o (sym c.len.ensures ∙ c.if-len-children.false)));
      count = rw (← c.cert.view_is) (rw (← c.as_slice-children.ensures.value) (omega arith));
      fewer = rw (← c.cert.view_is) (rw (← c.as_slice-children.ensures.value) (omega arith));
      as_many = omega (arith, c.len.ensures, c.if-len-children.false);
      kept = (refl, refl);
    }

pub walk_over-requires : goal.walk_over-requires
walk_over-requires t c =
    let q = claim_on c.args.way.now c.args.goal.now in
    let inner = inner_claim c.args.way.now c.loop-child.way c.enter.new.self c.args.goal.now c.aim.result.now c.in_ok-entered.entered.goal c.remove-premise.result
    c.loop-child.invariant.kept c.aim.ensures (c.in_ok-entered.ensures.claim c.args.goal.now) in
    let more = nodes_more (sizes_of c.args.sets.now) q c.as_slice-children.result.now c.loop-child.child-index c.child-item.result c.loop-child-test.true c.child-item.is in
    let whole : cert_nodes c.args.cert.now ≡ t = c.decreases in
    let fewer : cert_nodes c.child-item.result < t = omega (arith, more, c.loop-child.invariant.fewer, whole) in (
      fewer,
      counts_at c.of_premise-inner.result (claim_on c.enter.new.self c.aim.result.now) (premise_of q c.remove-premise.result) inner (c.of_premise-inner.ensures q c.requires),
    )

pub returns-in-Bad-clause-tells : goal.returns-in-Bad-clause-tells
returns-in-Bad-clause-tells t c =
    let q = claim_on c.args.way.now c.args.goal.now in
    let inner = inner_claim c.args.way.now c.loop-child.way c.enter.new.self c.args.goal.now c.aim.result.now c.in_ok-entered.entered.goal c.remove-premise.result
    c.loop-child.invariant.kept c.aim.ensures (c.in_ok-entered.ensures.claim c.args.goal.now) in
    let told : IsFirstBad (sizes_of c.args.sets.now) c.in-Bad.node c.child-item.result (claim_on c.enter.new.self c.aim.result.now) =
    rw c.in-Bad.is at c.in_ok-told.ensures.tells in
    let here : first_bad (sizes_of c.args.sets.now) c.child-item.result (premise_of q c.remove-premise.result) ≡ Some told.0 = rw (← inner) told.1 in
    let n = before c.args.cert.now (drop c.loop-child.child-index c.as_slice-children.result.now) in (
      n + told.0,
      c.loop-child.invariant.bad ∙ bad_step (sizes_of c.args.sets.now) q c.as_slice-children.result.now c.loop-child.child-index c.child-item.result c.loop-child-test.true c.child-item.is
          c.loop-child.premises c.remove-premise.result c.remove-premise.ensures.item n told.0 here,
      omega (arith, c.loop-child.invariant.count, told.2),
    )

pub loop-child-preserved : goal.loop-child-preserved
loop-child-preserved t c =
    let q = claim_on c.args.way.now c.args.goal.now in
    let inner = inner_claim c.args.way.now c.loop-child.way c.enter.new.self c.args.goal.now c.aim.result.now c.in_ok-entered.entered.goal c.remove-premise.result
    c.loop-child.invariant.kept c.aim.ensures (c.in_ok-entered.ensures.claim c.args.goal.now) in
    let told = rw c.in-Fine.is at c.in_ok-told.ensures.tells in
    let fine : first_bad (sizes_of c.args.sets.now) c.child-item.result (claim_on c.enter.new.self c.aim.result.now) ≡ None = told.0 in
    let here : first_bad (sizes_of c.args.sets.now) c.child-item.result (premise_of q c.remove-premise.result) ≡ None = rw (← inner) fine in
    let more = nodes_more (sizes_of c.args.sets.now) q c.as_slice-children.result.now c.loop-child.child-index c.child-item.result c.loop-child-test.true c.child-item.is in
    let n = before c.args.cert.now (drop c.loop-child.child-index c.as_slice-children.result.now) in
    let next : n + cert_nodes c.child-item.result ≡ before c.args.cert.now (drop (c.loop-child.child-index + 1) c.as_slice-children.result.now) =
    omega (arith, more, c.loop-child.invariant.fewer) in
    record {
      bad = rw c.remove-premise.ensures.rest (rw (← next) (c.loop-child.invariant.bad
          ∙ fine_step (sizes_of c.args.sets.now) q c.as_slice-children.result.now c.loop-child.child-index c.child-item.result c.loop-child-test.true c.child-item.is
          c.loop-child.premises c.remove-premise.result c.remove-premise.ensures.item n here));
      count = omega (arith, next, told.1, c.loop-child.invariant.count);
      fewer = omega (arith, more, c.loop-child.invariant.fewer);
      as_many = rw c.remove-premise.ensures.rest (omega (arith, one_fewer c.loop-child.premises c.remove-premise.result c.remove-premise.ensures.item, c.loop-child.invariant.as_many));
      kept = (
        rw (c.leave.ensures.names, ← c.in_ok-told.ensures.kept.0, c.in_ok-entered.ensures.before.0) c.loop-child.invariant.kept.0,
        rw (c.leave.ensures.hypotheses, ← c.in_ok-told.ensures.kept.1, c.in_ok-entered.ensures.before.1) c.loop-child.invariant.kept.1,
      );
    }

pub returns-in_default-clause-tells : goal.returns-in_default-clause-tells
returns-in_default-clause-tells t c =
    let q = claim_on c.args.way.now c.args.goal.now in
    let told = rw c.in_default.is at c.in_ok-premises.ensures in
    let o : premises (sizes_of c.args.sets.now) c.cert.inside.rule q ≡ None = rw (← c.as_slice.ensures.value, ← c.as_slice-2.ensures) (sym told) in
    rw (← c.cert.view_is) (1, unmet (sizes_of c.args.sets.now) c.cert.inside.rule _ q o, refl)
