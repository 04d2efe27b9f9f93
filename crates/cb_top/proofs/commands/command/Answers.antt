use Rattle.std.proofs.Common.{refl, sym, subst, ◌∙◌, ◌≡◌, ◌≢◌, [], List, ℕ, inl, inr, arith, MatchOption, Some, None}
use Rattle.std.proofs.lemmas.Option.{same_Some}
use Rattle.std.specs.declared.option.Option.{Option}
use Rattle.cb_edge.proofs.Told.{appends_nothing}
use Rattle.cb_top.proofs.Answered.{words_answers, memory_answers}
use Rattle.cb_top.specs.Change.{Change, Sources, Wrote}
use Rattle.cb_top.specs.Answers.{Answers, WordsAnswers}
use Rattle.cb_top.specs.Outcome.{memory_line}
use Rattle.cb_top.specs.Printed as printed
use Rattle.cb_top.specs.Printed.{PrintedLine}
use Rattle.cb_top.specs.Request.{names_of, TakesAccepted}
use Rattle.cb_top.specs.Accepted.{HoldsAccepted}
use Rattle.cb_top.specs.Sure.{of_memory}
use Rattle.cb_top.proofs.Sure.{taken_surely, taken_along}
use Rattle.cb_words.specs.declared.request.Request.{Request}
use Rattle.cb_top.proofs.commands.command.Goals as goal

-- want of memory, whether a request is spelled or not
either : (spelled : Option Request) (files : Sources) (out err : Change) (status : ℕ) →
    Wrote out [] → out.faults_after ≡ out.faults_before → PrintedLine memory_line 6 err status →
    MatchOption spelled (WordsAnswers out err status) (λ r. Answers r (names_of r) files out err status)
either None files out err status still same line = words_answers out err status 6 memory_line (inr (refl, refl)) still same line
either (Some r) files out err status still same line = memory_answers r (names_of r) files out err status memory_line still same refl line

pub returns-in-Err-Memory-clause-answers : goal.returns-in-Err-Memory-clause-answers
returns-in-Err-Memory-clause-answers g c = either _ _ _ _ _ (appends_nothing _) refl c.print_line-in-Err-Memory.ensures.printed

-- a printed line of a fault doesn't end with status 0
not_done : (line : List ℕ) (wanted : ℕ) (err : Change) (status : ℕ) → 0 ≢ wanted → PrintedLine line wanted err status → 0 ≢ status
not_done line wanted err status apart (printed.whole e w) z = apart (z ∙ e)
not_done line wanted err status apart (printed.cut e f w) z = omega (arith, z, e)

accepted_along : (a b : Request) (held : List ℕ → Option (List ℕ)) (status : ℕ) → a ≡ b →
    (TakesAccepted a → status ≡ 0 → HoldsAccepted a (names_of a) held) → TakesAccepted b → status ≡ 0 → HoldsAccepted b (names_of b) held
accepted_along a b held status same accepted =
    let P : Request → Type 0 = λ r. TakesAccepted r → status ≡ 0 → HoldsAccepted r (names_of r) held in subst P same accepted

pub returns-in-Ok-clause-accepted : goal.returns-in-Ok-clause-accepted
returns-in-Ok-clause-accepted g c = λ request is.
    let told = rw c.in-Ok.is at c.words_of.ensures.request in
    accepted_along _ _ _ _ (same_Some _ _ (sym told ∙ is)) c.quiet_command.ensures.accepted

pub returns-in-Err-Words-clause-accepted : goal.returns-in-Err-Words-clause-accepted
returns-in-Err-Words-clause-accepted g c = λ request is takes zero. absurd (not_done _ _ _ _ (λ h. omega (arith, h)) c.print_line.ensures.printed (sym zero))

pub returns-in-Err-Memory-clause-accepted : goal.returns-in-Err-Memory-clause-accepted
returns-in-Err-Memory-clause-accepted g c = λ request is takes zero. absurd (not_done _ _ _ _ (λ h. omega (arith, h)) c.print_line-in-Err-Memory.ensures.printed (sym zero))

pub returns-in-Ok-clause-writes : goal.returns-in-Ok-clause-writes
returns-in-Ok-clause-writes g c = λ request is.
    let told = rw c.in-Ok.is at c.words_of.ensures.request in
    taken_along _ _ _ _ _ _ _ _ (same_Some _ _ (sym told ∙ is)) c.quiet_command.ensures.writes

pub returns-in-Err-Memory-clause-writes : goal.returns-in-Err-Memory-clause-writes
returns-in-Err-Memory-clause-writes g c = λ request is out err.
    taken_surely _ _ _ _ 6 _ (λ h. omega (arith, h)) (of_memory refl) c.print_line-in-Err-Memory.ensures.sure err

pub returns-in-Err-Words-clause-writes_words : goal.returns-in-Err-Words-clause-writes_words
returns-in-Err-Words-clause-writes_words g c = λ is err.
    taken_surely _ _ _ _ 3 _ (λ h. omega (arith, h)) (inl refl) c.print_line.ensures.sure err

pub returns-in-Err-Memory-clause-writes_words : goal.returns-in-Err-Memory-clause-writes_words
returns-in-Err-Memory-clause-writes_words g c = λ is err.
    taken_surely _ _ _ _ 6 _ (λ h. omega (arith, h)) (inr refl) c.print_line-in-Err-Memory.ensures.sure err
