use Rattle.std.proofs.Common.{◌≤◌, ◌-◌, ◌∙◌, length, drop, sym, arith}
use Rattle.std.proofs.lemmas.List.{length-drop}
use Rattle.cb_eval.proofs.SetLemmas.{ascending_short}
use Rattle.cb_eval.proofs.widen.ascends.Goals as goal

pub returns : goal.returns
returns c =
    let short : length (drop (c.loop-at.at - 1) c.args.items.now) ≤ 1 = simp length-drop (omega arith) in
    sym (c.loop-at.invariant ∙ ascending_short _ short)
