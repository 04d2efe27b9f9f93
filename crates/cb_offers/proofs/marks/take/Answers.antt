use Rattle.std.proofs.Common.{sym, ◌∙◌}
use Rattle.cb_offers.proofs.MarkLemmas.{take_here, take_apart, take_none}
use Rattle.cb_offers.proofs.marks.take.Goals as goal

pub returns-then-index-mark-clause-items : goal.returns-then-index-mark-clause-items
returns-then-index-mark-clause-items c = c.remove-mark.ensures.items ∙ sym (take_here _ _ c.deref.ensures.value _ c.args.mark c.in-Ok.ensures.here c.index.result.now c.index.ensures c.if-index-mark.true)

pub returns-else-index-mark-clause-items : goal.returns-else-index-mark-clause-items
returns-else-index-mark-clause-items c = sym (take_apart _ _ c.deref.ensures.value _ c.args.mark c.in-Ok.ensures.here c.index.result.now c.index.ensures c.if-index-mark.false)

pub returns-in-Err-clause-items : goal.returns-in-Err-clause-items
returns-in-Err-clause-items c = sym (take_none _ _ c.deref.ensures.value _ c.args.mark c.in-Err.ensures.gap)
