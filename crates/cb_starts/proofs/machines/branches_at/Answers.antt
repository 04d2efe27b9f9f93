use Rattle.std.proofs.Common.{min, ◌*◌, get_or, ap, ◌∙◌, arith}
use Rattle.std.proofs.lemmas.List.{drop_more}
use Rattle.cb_starts.specs.Starts.{own_branches}
use Rattle.cb_starts.proofs.Together.{branches_step}
use Rattle.cb_starts.proofs.machines.branches_at.Goals as goal

pub loop-place-preserved : goal.loop-place-preserved
loop-place-preserved c = record {
  same = branches_step c.args.machines.now _ _ (get_or c.args.places.now c.loop-place.place-index 0) c.loop-place.count _ _
      (drop_more c.args.places.now c.loop-place.place-index 0 c.loop-place-test.true)
      (c.with_branches-count.ensures ∙ ap (λ o. min (c.loop-place.count * min (own_branches o) 257) 257) c.at.ensures)
      c.loop-place.invariant.same;
  most = omega (arith, c.with_branches-count.ensures);
}
