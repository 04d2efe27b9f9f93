use Rattle.std.proofs.Common.{arith}
use Rattle.cb_offers.proofs.TableLemmas.{clear_none, clear_some, clear_more}
use Rattle.cb_offers.proofs.table.Table.clear.Goals as goal

pub loop-left-init : goal.loop-left-init
loop-left-init c = clear_none c.args.self.now c.args.controller c.index.result.now c.len-left.result c.requires.kept c.requires.range c.index.ensures c.len-left.ensures

pub withdraw-requires-clause-some : goal.withdraw-requires-clause-some
withdraw-requires-clause-some c = clear_some c.args.self.now c.loop-left.self c.args.controller c.loop-left.left c.requires.range c.loop-left.invariant.0 c.loop-left.invariant.1 (omega (arith, c.loop-left-test.true))

pub loop-left-preserved : goal.loop-left-preserved
loop-left-preserved c =
    clear_more c.args.self.now c.loop-left.self c.args.controller c.loop-left.left c.requires.range c.loop-left.invariant.0 c.loop-left.invariant.1 c.withdraw.new.self (omega (arith, c.loop-left-test.true)) c.withdraw.ensures
