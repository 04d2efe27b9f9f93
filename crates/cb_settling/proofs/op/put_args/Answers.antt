use Rattle.std.proofs.Common.{◌∙◌}
use Rattle.cb_settling.proofs.OpSteps.{is_there, put_one}
use Rattle.cb_settling.proofs.op.put_args.Goals as goal

pub replace-old-requires : goal.replace-old-requires
replace-old-requires c = is_there c.args.params.now c.loop-left.left c.index-params-left.result c.loop-left-test.true c.loop-left.invariant.within c.args.store.now c.loop-left.store c.requires.there c.loop-left.invariant.names_kept

pub loop-left-preserved-in_ok-value : goal.loop-left-preserved-in_ok-value
loop-left-preserved-in_ok-value c =
    put_one c.args.params.now c.loop-left.left c.index-params-left.result c.loop-left-test.true c.loop-left.invariant.within c.args.args.now c.args.store.now c.loop-left.store c.replace-old.new.self
    c.in_ok-value.value c.index-args-left.result c.requires.as_many (c.in_ok-value.ensures ∙ c.index-args-left.is) c.replace-old.ensures.new c.loop-left.invariant

pub loop-left-preserved : goal.loop-left-preserved
loop-left-preserved c =
    put_one c.args.params.now c.loop-left.left c.index-params-left.result c.loop-left-test.true c.loop-left.invariant.within c.args.args.now c.args.store.now c.loop-left.store c.replace-old.new.self
    c.in_ok-value.value c.index-args-left.result c.requires.as_many (c.in_ok-value.ensures ∙ c.index-args-left.is) c.replace-old.ensures.new c.loop-left.invariant
