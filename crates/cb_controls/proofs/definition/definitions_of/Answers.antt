use Rattle.std.proofs.Common.{◌≡◌, ◌∙◌, ap, ℕ, List, length}
use Rattle.cb_forms.specs.Find.{inside}
use Rattle.cb_controls.specs.declared.definition.Head.{Head}
use Rattle.cb_controls.proofs.Kept.{keeps_step}
use Rattle.cb_controls.proofs.definition.definitions_of.Goals as goal

pub loop-definition-preserved : goal.loop-definition-preserved
loop-definition-preserved c =
    let l = c.loop-definition in
    let d = c.definition-item.result in
    let head : ℕ → Head = λ n. record { number = l.number; forms = n } in
    let kept = keeps_step c.args.view.now c.args.names.now c.args.definitions.now l.definition-index l.number d c.loop-definition-test.true c.definition-item.is l.forms l.heads c.in_ok-own.own c.in_ok-own.ensures l.invariant in
    let heads : c.enter.new.self ≡ inside d.name.text (head (length l.forms)) l.heads =
    c.in_ok-enter.ensures
    ∙ ap (λ (x : List ℕ). inside x (head c.len.result) l.heads) c.as_slice.ensures
    ∙ ap (λ (n : ℕ). inside d.name.text (head n) l.heads) c.len.ensures in
    rw (c.in_ok-push.ensures.ok, heads, c.next_number-number.ensures) kept
