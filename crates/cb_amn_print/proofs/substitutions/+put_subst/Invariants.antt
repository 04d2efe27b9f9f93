use Rattle.std.proofs.Common.{◌≡◌, ◌++◌, drop, true}
use Rattle.cb_lex.specs.RawSubstTree.{raw_substs}
use Rattle.cb_amn_print.specs.Machines.{sides_text}
use Rattle.cb_amn_print.proofs.substitutions.+put_subst.Given as goal

abbrev pub invariant-loop-side : goal.invariant-loop-side
invariant-loop-side l = l.out.items ++ sides_text l.first (raw_substs (drop l.side-index l.side-items)) ≡ l.initial.out.items ++ sides_text true (raw_substs l.side-items)
