use Rattle.std.proofs.Common.{refl}
use Rattle.cb_settling.proofs.OpSteps.{is_there, clear_one}
use Rattle.cb_settling.proofs.op.clear.Goals as goal

pub replace-old-requires : goal.replace-old-requires
replace-old-requires c = is_there c.args.params.now c.loop-left.left c.index-params-left.result c.loop-left-test.true c.loop-left.invariant.within c.args.store.now c.loop-left.store c.requires.there c.loop-left.invariant.names_kept

pub loop-left-preserved-in-loop-left : goal.loop-left-preserved-in-loop-left
loop-left-preserved-in-loop-left c =
    clear_one c.args.params.now c.loop-left.left c.index-params-left.result c.loop-left-test.true c.loop-left.invariant.within c.args.store.now c.loop-left.store c.replace-old.new.self _ refl c.replace-old.ensures.new c.loop-left.invariant

pub loop-left-preserved : goal.loop-left-preserved
loop-left-preserved c =
    clear_one c.args.params.now c.loop-left.left c.index-params-left.result c.loop-left-test.true c.loop-left.invariant.within c.args.store.now c.loop-left.store c.replace-old.new.self _ refl c.replace-old.ensures.new c.loop-left.invariant
