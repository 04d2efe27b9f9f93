use Rattle.std.proofs.Common.{sym, ◌∙◌, arith}
use Rattle.cb_offers.proofs.MarkLemmas.{put_here, put_between, put_longer}
use Rattle.cb_offers.proofs.marks.put.Goals as goal

pub unreachable-requires : goal.unreachable-requires
unreachable-requires c =
    let long = put_longer _ _ c.deref.ensures.value _ c.args.mark c.in-Err.ensures.gap in
    absurd (omega (arith, long, c.requires, c.in-Err-insert.ensures.full, c.args.marks.now.ok.0))

pub returns-in-Ok-clause-items : goal.returns-in-Ok-clause-items
returns-in-Ok-clause-items c = sym (put_here _ _ c.deref.ensures.value _ c.args.mark c.in-Ok.ensures.here)

pub returns-in-Ok-insert-clause-items : goal.returns-in-Ok-insert-clause-items
returns-in-Ok-insert-clause-items c = c.in-Ok-insert.ensures.items ∙ sym (put_between _ _ c.deref.ensures.value _ c.args.mark c.in-Err.ensures.gap)
