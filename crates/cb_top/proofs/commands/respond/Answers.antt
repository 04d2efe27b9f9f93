use Rattle.std.proofs.Common.{refl, ◌≡◌, ◌≤◌, inl, inr, ◌⊎◌, arith}
use Rattle.cb_edge.proofs.Told.{appends_nothing}
use Rattle.cb_top.proofs.Answered.{text_answers, fault_answers, unread_answers, along}
use Rattle.cb_top.proofs.Sure.{text_taken, line_taken}
use Rattle.cb_top.specs.Sure.{of_outcome, of_file, of_memory}
use Rattle.cb_top.specs.Outcome.{ending_status, refusal_status}
use Rattle.cb_top.specs.declared.outcome.Ending.{Ending}
use Rattle.cb_top.specs.declared.outcome.Ending.TheVariants.{Done, Open}
use Rattle.cb_top.specs.declared.outcome.Refusal.{Refusal}
use Rattle.cb_top.specs.declared.outcome.Refusal.TheVariants.{IllFormed, Limit}
use Rattle.cb_top.proofs.commands.respond.Goals as goal

endings : (e : Ending) → ending_status e ≤ 1
endings Done = omega arith
endings Open = omega arith

refusals : (r : Refusal) → (refusal_status r ≡ 2) ⊎ (refusal_status r ≡ 7)
refusals IllFormed = inl refl
refusals Limit = inr refl

pub returns-in-Ok-Text-clause-answers : goal.returns-in-Ok-Text-clause-answers
returns-in-Ok-Text-clause-answers g c =
    along _ _ _ _ _ _ _ c.file_names.ensures
    (text_answers _ _ _ _ _ _ (ending_status c.in-Ok-Text.ending) c.in-Ok-Text.text.items (endings c.in-Ok-Text.ending)
    (rw c.in-Ok-Text.field-0-is at c.in-Ok-Text.ensures.outcome) (rw (c.deref.ensures.value, c.status_of_ending.ensures) at c.print_text.ensures.printed))

pub returns-in-Ok-Fault-clause-answers : goal.returns-in-Ok-Fault-clause-answers
returns-in-Ok-Fault-clause-answers g c =
    along _ _ _ _ _ _ _ c.file_names.ensures
    (fault_answers _ _ _ _ _ _ (refusal_status c.in-Ok-Fault.refusal) c.in-Ok-Fault.line.items (refusals c.in-Ok-Fault.refusal)
    (appends_nothing _) refl (rw c.in-Ok-Fault.field-0-is at c.in-Ok-Fault.ensures.outcome) (rw (c.deref-in-Ok-Fault.ensures.value, c.status_of_refusal.ensures) at c.print_line.ensures.printed))

pub returns-in-Err-Unread-clause-answers : goal.returns-in-Err-Unread-clause-answers
returns-in-Err-Unread-clause-answers g c =
    along _ _ _ _ _ _ _ c.file_names.ensures
    (unread_answers _ _ _ _ _ _ c.in-Err-Unread.line.items (appends_nothing _) refl (rw c.in-Err-Unread.field-0-is at c.in-Err-Unread.ensures.unread) (rw c.deref-in-Err-Unread.ensures.value at c.print_line-in-Err-Unread.ensures.printed))

no_write : (r : Refusal) → refusal_status r ≡ 5 → ⊥
no_write IllFormed h = omega (arith, h)
no_write Limit h = omega (arith, h)

pub returns-in-Ok-Text-clause-writes : goal.returns-in-Ok-Text-clause-writes
returns-in-Ok-Text-clause-writes g c = λ out err.
    text_taken _ _ _ _ _ _ (ending_status c.in-Ok-Text.ending) _ c.in-Ok-Text.text.items c.file_names.ensures (endings c.in-Ok-Text.ending)
    (rw c.in-Ok-Text.field-0-is at c.in-Ok-Text.ensures.outcome) (rw (c.deref.ensures.value, c.status_of_ending.ensures) at c.print_text.ensures.sure) out

pub returns-in-Ok-Fault-clause-writes : goal.returns-in-Ok-Fault-clause-writes
returns-in-Ok-Fault-clause-writes g c = λ out err.
    line_taken _ _ _ _ _ _ (refusal_status c.in-Ok-Fault.refusal) _ c.in-Ok-Fault.line.items c.file_names.ensures (no_write c.in-Ok-Fault.refusal)
    (of_outcome _ (rw c.in-Ok-Fault.field-0-is at c.in-Ok-Fault.ensures.outcome) refl)
    (rw (c.deref-in-Ok-Fault.ensures.value, c.status_of_refusal.ensures) at c.print_line.ensures.sure) err

pub returns-in-Err-Unread-clause-writes : goal.returns-in-Err-Unread-clause-writes
returns-in-Err-Unread-clause-writes g c = λ out err.
    let unread = rw c.in-Err-Unread.field-0-is at c.in-Err-Unread.ensures.unread in
    line_taken _ _ _ _ _ _ 4 _ c.in-Err-Unread.line.items c.file_names.ensures (λ h. omega (arith, h))
    (of_file unread.0 unread.1.within unread.2)
    (rw c.deref-in-Err-Unread.ensures.value at c.print_line-in-Err-Unread.ensures.sure) err

pub returns-in-Err-Memory-clause-writes : goal.returns-in-Err-Memory-clause-writes
returns-in-Err-Memory-clause-writes g c = λ out err.
    line_taken _ _ _ _ _ _ 6 _ _ c.file_names.ensures (λ h. omega (arith, h)) (of_memory refl) c.print_line-in-Err-Memory.ensures.sure err
