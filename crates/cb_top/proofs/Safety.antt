-- A text on which `check` or `sim` ends with status 0 is accepted, and its system is safe.
use Rattle.std.proofs.Common.{◌≡◌, ℕ, zero, suc, ◌≤◌, List, length, Ok, refl, sym, ap, ◌∙◌, arith}
use Rattle.cb_lex.specs.Lexes.{Lexes, start}
use Rattle.cb_lex.specs.declared.lexer.LexFault.{LexFault}
use Rattle.cb_lex.specs.declared.lexer.LexFault.TheVariants.{BadByte, LongNumber, OpenComment, Memory}
use Rattle.cb_lex.specs.declared.raw.proof.RawProof.{RawProof}
use Rattle.cb_lex.specs.declared.raw.text.RawText.{RawText}
use Rattle.cb_lex.specs.declared.token.Token.{Token}
use Rattle.cb_grammar.specs.declared.reading.SyntaxFault.{SyntaxFault}
use Rattle.cb_grammar.specs.declared.reading.SyntaxFault.TheVariants as syntax
use Rattle.cb_seq.specs.declared.sequent.Obligation.{Obligation}
use Rattle.cb_spec.specs.declared.system.System.{System}
use Rattle.cb_spec.specs.Journals.{set_sizes}
use Rattle.cb_obligations.specs.Sufficing.{ObligationsSuffice, SoundIsCallSafe}
use Rattle.cb_typed.specs.Laws.{TypedMachinesFit, TypedMachinesKeepKinds, TypedMachinesOweKinded}
use Rattle.cb_controlled_laws.specs.Laws.{TypedSystemsOweKinded, TypedSystemsAreSafe}
use Rattle.cb_text_laws.specs.Laws.{TextIsTyped, EndsAreMore}
use Rattle.cb_spelled.specs.Laws.{TokensAreBytes}
use Rattle.cb_spelled_texts.specs.Laws.{SpelledIsSpelledText}
use Rattle.cb_check.specs.Laws.{DerivedIsValid, DerivesWithoutBad}
use Rattle.cb_arguments.specs.Scopes.{symbols_of}
use Rattle.cb_trace.specs.Texts.{open_count}
use Rattle.cb_verdicts.specs.Verdicts.{verdicts}
use Rattle.cb_verdicts.specs.declared.places.ProofFault.{ProofFault}
use Rattle.cb_verdicts.specs.declared.places.ProofFault.TheVariants as wrong
use Rattle.cb_judged.proofs.Keeping.{system_tells, owes_valid}
use Rattle.cb_words.specs.declared.request.Request.{Request}
use Rattle.cb_words.specs.declared.request.Request.TheVariants as request
use Rattle.cb_top.specs.Accepted.{Accepted, DoneIsAccepted}
use Rattle.cb_top.specs.Request.{TakesAccepted}
use Rattle.cb_top.specs.Outcome.{Answer, too_long, lexical, cut, refused_text, refused_proofs, spelled, IsJudged, ill, limited, answered, wrong_proof, right_proofs, IsAnswer, unproved, ran, open_status, IsLexicalAnswer, IsSyntaxAnswer, IsProofAnswer}
use Rattle.cb_accept.specs.Accepting.{SpellsText, SpellsProofs}
use Rattle.cb_accept.proofs.Spelled.{read_typed}
use Rattle.cb_top.specs.declared.TheConstants.{MAX_BYTES}

-- ---- verdicts

no_status : (n : ℕ) → open_status n ≡ 0 → n ≡ 0
no_status zero e = refl
no_status (suc n) e = absurd (omega (arith, e))

-- ---- other answers

status_of : {a b : Answer} → a ≡ b → a.status ≡ 0 → b.status ≡ 0
status_of e s = sym (ap (λ (x : Answer). x.status) e) ∙ s

not_lexical : (f : LexFault) (answer : Answer) → IsLexicalAnswer f answer → answer.status ≡ 0 → ⊥
not_lexical (BadByte p) answer e s = omega (arith, status_of e s)
not_lexical (LongNumber p) answer e s = omega (arith, status_of e s)
not_lexical (OpenComment p) answer e s = omega (arith, status_of e s)
not_lexical (Memory m) answer e s = e

not_syntax : (f : SyntaxFault) (answer : Answer) → IsSyntaxAnswer f answer → answer.status ≡ 0 → ⊥
not_syntax (syntax.Syntax p) answer e s = omega (arith, status_of e s)
not_syntax (syntax.Mixed p) answer e s = omega (arith, status_of e s)
not_syntax (syntax.Deep p) answer e s = omega (arith, status_of e s)
not_syntax syntax.Memory answer e s = e

not_proof : (f : ProofFault) (answer : Answer) → IsProofAnswer f answer → answer.status ≡ 0 → ⊥
not_proof (wrong.Unknown n) answer e s = omega (arith, status_of e s)
not_proof (wrong.Double n) answer e s = omega (arith, status_of e s)
not_proof wrong.Memory answer e s = e

-- ---- the theorem

-- with status 0 nothing is open, whatever was asked that takes accepted texts alone
all_proved : (asked : Request) (y : System) (os : List Obligation) (ps : List RawProof) (answer : Answer) → TakesAccepted asked →
    IsAnswer asked y os ps answer → answer.status ≡ 0 → open_count (verdicts (set_sizes y) (symbols_of y) ps os) ≡ 0
all_proved (request.List files) y os ps answer takes e s = absurd takes
all_proved (request.Check files) y os ps answer takes e s = no_status _ (status_of e s)
all_proved (request.Sim files limit seed) y os ps answer takes (unproved h e) s = no_status _ (status_of e s)
all_proved (request.Sim files limit seed) y os ps answer takes (ran h text runs e) s = h

module _ (valid : DerivedIsValid) (no_bad : DerivesWithoutBad) (machines : TypedMachinesOweKinded) (controllers : TypedSystemsOweKinded) (fit : TypedMachinesFit)
    (keep : TypedMachinesKeepKinds) (suffice : ObligationsSuffice) (sound : SoundIsCallSafe) (safe : TypedSystemsAreSafe) (shaped : SpelledIsSpelledText)
    (counted : TokensAreBytes) (more : EndsAreMore) (typed : TextIsTyped) where
  judged_accepted : (asked : Request) → TakesAccepted asked → (bytes : List ℕ) → length bytes ≤ MAX_BYTES → (tokens : List Token) → Lexes bytes start (Ok tokens) → (at : ℕ) (t : RawText) → SpellsText tokens at t →
      (ps : List RawProof) → SpellsProofs tokens at ps → (answer : Answer) → IsJudged asked t ps answer → answer.status ≡ 0 → Accepted bytes
  judged_accepted asked takes bytes fits tokens cuts at t spells ps proves answer (ill f h e) s = absurd (omega (arith, status_of e s))
  judged_accepted asked takes bytes fits tokens cuts at t spells ps proves answer (limited y w l h e) s = absurd (omega (arith, status_of e s))
  judged_accepted asked takes bytes fits tokens cuts at t spells ps proves answer (answered y w n os owed (wrong_proof f h e)) s = absurd (not_proof f answer e s)
  judged_accepted asked takes bytes fits tokens cuts at t spells ps proves answer (answered y w n os owed (right_proofs h e)) s =
      let y_typed = read_typed counted shaped more typed bytes fits t ps (record { tokens = tokens; cut = cuts; at = at; text = spells; proofs = proves }) y w in
      let none = all_proved asked y os ps answer takes e s in
      let owes = owes_valid y (verdicts (set_sizes y) (symbols_of y) ps os) (system_tells valid no_bad machines controllers y y_typed ps os owed) none in
      record {
        tokens = tokens;
        cut = cuts;
        at = at;
        text = t;
        text_spelled = spells;
        proofs = ps;
        proofs_spelled = proves;
        system = y;
        well = w;
        within = n;
        obligations = os;
        owed = owed;
        right = h;
        proved = none;
        safe = safe y y_typed owes;
        machines_safe = λ k m at. sound y m (keep y y_typed k m at) (suffice y m (fit y y_typed k m at) (owes.machines k m at));
      }

  pub done_accepted : DoneIsAccepted
  done_accepted asked bytes answer takes (too_long h e) s = absurd (omega (arith, status_of e s))
  done_accepted asked bytes answer takes (lexical l f h e) s = absurd (not_lexical f answer e s)
  done_accepted asked bytes answer takes (cut l tokens cuts (refused_text f h e)) s = absurd (not_syntax f answer e s)
  done_accepted asked bytes answer takes (cut l tokens cuts (refused_proofs at t spells f h e)) s = absurd (not_syntax f answer e s)
  done_accepted asked bytes answer takes (cut l tokens cuts (spelled at t spells ps proves j)) s =
      judged_accepted asked takes bytes l tokens cuts at t spells ps proves answer j s
