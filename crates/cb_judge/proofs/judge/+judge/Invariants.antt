use Rattle.std.proofs.Common.{◌≡◌, drop}
use Rattle.cb_lex.specs.RawTermTree.{raw_terms}
use Rattle.cb_spec.specs.Forms as form
use Rattle.cb_forms.specs.Faults.{least, first}
use Rattle.cb_forms.specs.Kinds.{form_of}
use Rattle.cb_judge.specs.Judged.{listed_from, fault_from}
use Rattle.cb_judge.proofs.judge.+judge.Given as goal

abbrev pub invariant-judge_term-loop-item : goal.invariant-judge_term-loop-item
invariant-judge_term-loop-item l =
    (listed_from l.view l.fn.names (form_of l.form) (raw_terms (drop l.item-index l.item-items)) ≡ listed_from l.view l.fn.names form.Empty (raw_terms l.item-items))
    × (least l.fault (first (fault_from l.view l.fn.names (form_of l.form) (raw_terms (drop l.item-index l.item-items)))) ≡ first (fault_from l.view l.fn.names form.Empty (raw_terms l.item-items)))
    × (l.names ≡ l.fn.names)
