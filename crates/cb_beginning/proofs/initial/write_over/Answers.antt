use Rattle.cb_beginning.proofs.InitialLemmas.{written_more}
use Rattle.cb_beginning.proofs.initial.write_over.Goals as goal

pub loop-left-preserved : goal.loop-left-preserved
loop-left-preserved c =
    written_more c.entries-entries.result.now c.args.store.now c.loop-left.store c.insert.new.self c.loop-left.left c.index-entries-left.result c.index-entries-left-in-loop-left.result c.in_ok-copy.field-0 c.in_ok-copy-2.field-0
    c.loop-left-test.true c.in_ok-copy.ensures c.in_ok-copy-2.ensures c.in_ok-insert.ensures.ok c.loop-left.invariant
