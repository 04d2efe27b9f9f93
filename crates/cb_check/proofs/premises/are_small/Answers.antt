use Rattle.std.proofs.Common.{refl}
use Rattle.cb_seq.specs.Premises.{premise_of}
use Rattle.cb_check.proofs.WalkSteps.{small_more}
use Rattle.cb_check.proofs.premises.are_small.Goals as goal

pub returns-then-not-are_small : goal.returns-then-not-are_small
returns-then-not-are_small c q k =
    let item = c.premise-item.result in
    let told = c.are_small.ensures (premise_of q item) (c.of_premise.ensures q k) in
    let more = small_more q c.as_slice-premise-items.result.now c.loop-premise.premise-index item c.loop-premise-test.true in
    rw (← c.loop-premise.invariant q k, more, ← c.premise-item.is, ← told, c.if-not-are_small.true) refl

pub loop-premise-preserved : goal.loop-premise-preserved
loop-premise-preserved c q k =
    let item = c.premise-item.result in
    let told = c.are_small.ensures (premise_of q item) (c.of_premise.ensures q k) in
    let more = small_more q c.as_slice-premise-items.result.now c.loop-premise.premise-index item c.loop-premise-test.true in
    rw (← c.loop-premise.invariant q k, more, ← c.premise-item.is, ← told, c.if-not-are_small.false) refl
