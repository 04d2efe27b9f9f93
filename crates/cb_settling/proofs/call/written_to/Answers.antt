use Rattle.std.proofs.Common.{◌+◌, [], take, Some, ap, sym, subst, ◌∙◌}
use Rattle.std.specs.Option.{option_copied}
use Rattle.cb_spec.specs.Stores.{found, SameMap}
use Rattle.cb_spec.specs.Bound.{names, only}
use Rattle.cb_settling.proofs.CalledLemmas.{found_only, variable_kept, variable_passed}
use Rattle.cb_settling.proofs.call.written_to.Goals.{in-Some+in_ok-copy+in_ok-copy-2+in_ok-insert, in_default}
use Rattle.cb_settling.proofs.call.written_to.Goals as goal

pub loop-variable-init : goal.loop-variable-init
loop-variable-init c y = ap (λ d. found d y) c.new-own.ensures ∙ sym (found_only [] c.args.written.now y)

pub loop-variable-preserved : goal.loop-variable-preserved
loop-variable-preserved c =
    let items = c.as_slice-variable-items.result.now in
    let k = c.loop-variable.variable-index in
    let all = c.args.written.now in
    elim c.match-get.branch [
      | in-Some+in_ok-copy+in_ok-copy-2+in_ok-insert w ↦ subst (λ own. SameMap own (only (names (take (k + 1) items)) all)) (sym w.own-is)
          (variable_kept items k c.variable-item.result all c.loop-variable.own c.loop-variable-test.true c.variable-item.is c.loop-variable.invariant w.insert.new.self w.in_ok-copy.field-0 w.in_ok-copy-2.field-0
          w.in_ok-copy.ensures (sym c.get.ensures ∙ ap option_copied w.in-Some.is ∙ ap Some (sym w.in_ok-copy-2.ensures)) w.in_ok-insert.ensures.ok)
      | in_default w ↦ subst (λ own. SameMap own (only (names (take (k + 1) items)) all)) (sym w.own-is)
          (variable_passed items k c.variable-item.result all c.loop-variable.own c.loop-variable-test.true c.variable-item.is c.loop-variable.invariant (sym c.get.ensures ∙ ap option_copied w.in_default.is))
    ]
