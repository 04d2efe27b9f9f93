use Rattle.cb_settling.proofs.OpSteps.{name_there, write_one}
use Rattle.cb_settling.proofs.op.replace_all.Goals as goal

pub replace-old-requires : goal.replace-old-requires
replace-old-requires c =
    name_there c.args.entries.now c.args.store.now c.loop-left.left c.index-entries-left.result c.loop-left-test.true c.loop-left.invariant.within c.loop-left.store c.loop-left.values c.requires.there c.loop-left.invariant

pub loop-left-preserved-in-Some : goal.loop-left-preserved-in-Some
loop-left-preserved-in-Some c =
    write_one c.args.entries.now c.args.store.now c.loop-left.left c.index-entries-left.result c.loop-left-test.true c.loop-left.invariant.within c.loop-left.store c.replace-old.new.self c.loop-left.values c.pop.new.self c.in-Some.value
    c.in-Some.ensures c.replace-old.ensures.new c.loop-left.invariant

pub loop-left-preserved-in-Some-2 : goal.loop-left-preserved-in-Some-2
loop-left-preserved-in-Some-2 c =
    write_one c.args.entries.now c.args.store.now c.loop-left.left c.index-entries-left.result c.loop-left-test.true c.loop-left.invariant.within c.loop-left.store c.replace-old.new.self c.loop-left.values c.pop.new.self c.in-Some.value
    c.in-Some.ensures c.replace-old.ensures.new c.loop-left.invariant
