use Rattle.std.proofs.Common.{◌≡◌, drop}
use Rattle.cb_lex.specs.RawSubstTree.{raw_substs}
use Rattle.cb_text_laws.specs.Signatures.{assigned_after_sides}
use Rattle.cb_signatures.specs.Kept.{formed}
use Rattle.cb_signatures.proofs.results.+assign_all.Given as goal

abbrev pub invariant-loop-side : goal.invariant-loop-side
invariant-loop-side l =
    (assigned_after_sides l.view l.fn.names (formed l.given) (raw_substs (drop l.side-index l.side-items)) ≡ assigned_after_sides l.view l.fn.names (formed l.fn.given) (raw_substs l.side-items))
    × (l.names ≡ l.fn.names)
