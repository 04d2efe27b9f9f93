-- What is answered to a text that is judged, listed or run, or refused.
use Rattle.std.proofs.Common.{◌≡◌, ◌≢◌, ℕ, ◌≤◌, List, [], length, ap, ◌∙◌, subst}
use Rattle.cb_lex.specs.declared.lexer.LexFault.TheVariants as lex
use Rattle.cb_grammar.specs.declared.reading.SyntaxFault.{SyntaxFault}
use Rattle.cb_grammar.specs.declared.reading.SyntaxFault.TheVariants as syntax
use Rattle.cb_seq.specs.declared.sequent.Obligation.{Obligation}
use Rattle.cb_spec.specs.declared.system.System.{System}
use Rattle.cb_trace.specs.Texts.{listing_text, open_count}
use Rattle.cb_run_text.specs.RunTexts.{IsRunText}
use Rattle.cb_verdicts.specs.declared.places.ProofFault.TheVariants as wrong
use Rattle.cb_judged.specs.declared.judge.JudgeFault.TheVariants as judging
use Rattle.cb_judged.specs.Kept.{JudgedView}
use Rattle.cb_accept.specs.Accepting.{IsJudgedText, IsListedText, IsMisread, in_text, in_proofs, IsTextFault}
use Rattle.cb_accept.specs.declared.read.TextFault.{TextFault}
use Rattle.cb_accept.specs.declared.read.TextFault.TheVariants as fault
use Rattle.cb_words.specs.declared.request.Request.{Request}
use Rattle.cb_words.specs.declared.request.Request.TheVariants as request
use Rattle.cb_top.specs.Outcome.{Answer, verdict_answer, IsSyntaxAnswer, IsRefusal, IsOutcome, lexical, cut, refused_text, refused_proofs, spelled, ill, limited, answered, wrong_proof, right_proofs, IsRunAnswer, unproved, ran}
use Rattle.cb_top.specs.declared.TheConstants.{MAX_BYTES}

module _ (asked : Request) (bytes : List ℕ) (fits : length bytes ≤ MAX_BYTES) (answer : Answer) where
  of_misread : (f : SyntaxFault) → IsMisread bytes f → IsSyntaxAnswer f answer → IsOutcome asked bytes answer
  of_misread f (in_text tokens cuts m) a = cut fits tokens cuts (refused_text f m a)
  of_misread f (in_proofs tokens cuts at t spells m) a = cut fits tokens cuts (refused_proofs at t spells f m a)

  -- to one that is not judged, its first fault
  pub refused : (e : TextFault) → IsTextFault bytes e → IsRefusal e answer → IsOutcome asked bytes answer
  refused (fault.Lex (lex.BadByte p)) told a = lexical fits (lex.BadByte p) told a
  refused (fault.Lex (lex.LongNumber p)) told a = lexical fits (lex.LongNumber p) told a
  refused (fault.Lex (lex.OpenComment p)) told a = lexical fits (lex.OpenComment p) told a
  refused (fault.Lex (lex.Memory m)) told a = absurd told
  refused (fault.Syntax (syntax.Syntax p)) told a = of_misread (syntax.Syntax p) told a
  refused (fault.Syntax (syntax.Mixed p)) told a = of_misread (syntax.Mixed p) told a
  refused (fault.Syntax (syntax.Deep p)) told a = of_misread (syntax.Deep p) told a
  refused (fault.Syntax syntax.Memory) told a = absurd told
  refused (fault.Ill code place) told a =
      cut fits told.read.tokens told.read.cut (spelled told.read.at told.text told.read.text told.proofs told.read.proofs
      (ill (record { code = code; place = place }) told.first a))
  refused (fault.Judge (judging.Limit w)) told a =
      cut fits told.read.tokens told.read.cut (spelled told.read.at told.text told.read.text told.proofs told.read.proofs
      (limited told.system told.well w told.cause a))
  refused (fault.Judge (judging.UnknownProof n)) told a =
      cut fits told.read.tokens told.read.cut (spelled told.read.at told.text told.read.text told.proofs told.read.proofs
      (answered told.system told.well told.cause.within told.cause.owed told.cause.are_owed (wrong_proof (wrong.Unknown n) told.cause.wrong a)))
  refused (fault.Judge (judging.DoubleProof n)) told a =
      cut fits told.read.tokens told.read.cut (spelled told.read.at told.text told.read.text told.proofs told.read.proofs
      (answered told.system told.well told.cause.within told.cause.owed told.cause.are_owed (wrong_proof (wrong.Double n) told.cause.wrong a)))
  refused (fault.Judge judging.Memory) told a = absurd told
  refused fault.Memory told a = absurd a

module _ (files : List (List ℕ)) (bytes : List ℕ) (fits : length bytes ≤ MAX_BYTES) (answer : Answer) where
  -- to one that is listed, what its system owes
  pub listed : (y : System) (os : List Obligation) → IsListedText bytes y os → answer ≡ record { status = 0; out = listing_text y.sets.sets.items os; err = [] } →
      IsOutcome (request.List files) bytes answer
  listed y os l e =
      cut fits l.read.tokens l.read.cut (spelled l.read.at l.text l.read.text l.proofs l.read.proofs
      (answered y l.well l.within os l.owed (right_proofs l.right e)))

  -- to one that is judged, its verdicts
  pub judged : (j : JudgedView) → IsJudgedText bytes j → answer ≡ verdict_answer j.lines → IsOutcome (request.Check files) bytes answer
  judged j told e =
      cut fits told.read.tokens told.read.cut (spelled told.read.at told.text told.read.text told.proofs told.read.proofs
      (answered j.system told.well told.judged.within told.judged.owed told.judged.are_owed (right_proofs told.judged.right (e ∙ ap verdict_answer told.judged.found))))

module _ (files : List (List ℕ)) (limit seed : ℕ) (bytes : List ℕ) (fits : length bytes ≤ MAX_BYTES) (answer : Answer) (j : JudgedView) (told : IsJudgedText bytes j) where
  of_run : IsRunAnswer j.system limit j.lines answer → IsOutcome (request.Sim files limit seed) bytes answer
  of_run a =
      cut fits told.read.tokens told.read.cut (spelled told.read.at told.text told.read.text told.proofs told.read.proofs
      (answered j.system told.well told.judged.within told.judged.owed told.judged.are_owed
      (right_proofs told.judged.right (subst (λ ls. IsRunAnswer j.system limit ls answer) told.judged.found a))))

  -- to one that is run though something isn't proved, its verdicts
  pub not_run : open_count j.lines ≢ 0 → answer ≡ verdict_answer j.lines → IsOutcome (request.Sim files limit seed) bytes answer
  not_run h e = of_run (unproved h e)

  -- and else what a run prints
  pub has_run : open_count j.lines ≡ 0 → (text : List ℕ) → IsRunText j.system limit text → answer ≡ record { status = 0; out = text; err = [] } →
      IsOutcome (request.Sim files limit seed) bytes answer
  has_run h text runs e = of_run (ran h text runs e)
