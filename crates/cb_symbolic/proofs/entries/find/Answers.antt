use Rattle.std.proofs.Common.{arith, ◌∙◌, sym}
use Rattle.cb_symbolic.proofs.EntryLemmas.{found_entry, passed_entry}
use Rattle.cb_symbolic.proofs.entries.find.Goals as goal

pub returns-then-is_same : goal.returns-then-is_same
returns-then-is_same c =
    c.loop-at.invariant.same ∙ found_entry c.args.entries.now c.loop-at.at c.index-entries-at.result c.entry.inside.name c.entry.inside.term c.args.name.now
    (omega arith) c.loop-at.invariant.within c.index-entries-at.is c.entry.view_is (sym c.is_same.ensures ∙ c.if-is_same.true)

pub loop-at-preserved : goal.loop-at-preserved
loop-at-preserved c = record {
  same = c.loop-at.invariant.same ∙ passed_entry c.args.entries.now c.loop-at.at c.index-entries-at.result c.entry.inside.name c.entry.inside.term c.args.name.now
      (omega arith) c.loop-at.invariant.within c.index-entries-at.is c.entry.view_is (sym c.is_same.ensures ∙ c.if-is_same.false);
  within = omega arith;
}
