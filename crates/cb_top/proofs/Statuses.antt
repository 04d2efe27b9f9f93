-- The status of each outcome.
use Rattle.std.proofs.Common.{◌≡◌, ◌⊎◌, inl, inr, ℕ, zero, suc, ◌≤◌, List, refl, sym, ap, subst, arith}
use Rattle.cb_lex.specs.declared.lexer.LexFault.{LexFault}
use Rattle.cb_lex.specs.declared.lexer.LexFault.TheVariants.{BadByte, LongNumber, OpenComment, Memory}
use Rattle.cb_lex.specs.declared.raw.proof.RawProof.{RawProof}
use Rattle.cb_lex.specs.declared.raw.text.RawText.{RawText}
use Rattle.cb_grammar.specs.declared.reading.SyntaxFault.{SyntaxFault}
use Rattle.cb_grammar.specs.declared.reading.SyntaxFault.TheVariants as syntax
use Rattle.cb_seq.specs.declared.sequent.ObName.{ObName}
use Rattle.cb_seq.specs.declared.sequent.Obligation.{Obligation}
use Rattle.cb_spec.specs.declared.system.System.{System}
use Rattle.cb_trace.specs.declared.verdict.Verdict.{Verdict}
use Rattle.cb_verdicts.specs.declared.places.ProofFault.{ProofFault}
use Rattle.cb_verdicts.specs.declared.places.ProofFault.TheVariants as wrong
use Rattle.cb_words.specs.declared.request.Request.{Request}
use Rattle.cb_words.specs.declared.request.Request.TheVariants as request
use Rattle.cb_top.specs.Outcome.{Answer, IsLexicalAnswer, IsSyntaxAnswer, IsProofAnswer, IsRunAnswer, unproved, ran, IsAnswer, IsAnswered, IsJudged, OutcomesHaveStatuses, open_status, too_long, lexical, cut, refused_text, refused_proofs, spelled, ill, limited, answered, wrong_proof, right_proofs}

abbrev HasStatus : Answer → Type 0
HasStatus answer = (answer.status ≤ 2) ⊎ (answer.status ≡ 7)

status_of : {a b : Answer} → a ≡ b → a.status ≡ b.status
status_of e = ap (λ (x : Answer). x.status) e

is_ill : {a b : Answer} → a ≡ b → b.status ≡ 2 → HasStatus a
is_ill e s = inl (omega (arith, status_of e, s))

of_lexical : (f : LexFault) (answer : Answer) → IsLexicalAnswer f answer → HasStatus answer
of_lexical (BadByte p) answer e = is_ill e refl
of_lexical (LongNumber p) answer e = is_ill e refl
of_lexical (OpenComment p) answer e = is_ill e refl
of_lexical (Memory m) answer e = absurd e

of_syntax : (f : SyntaxFault) (answer : Answer) → IsSyntaxAnswer f answer → HasStatus answer
of_syntax (syntax.Syntax p) answer e = is_ill e refl
of_syntax (syntax.Mixed p) answer e = is_ill e refl
of_syntax (syntax.Deep p) answer e = is_ill e refl
of_syntax syntax.Memory answer e = absurd e

of_proof : (f : ProofFault) (answer : Answer) → IsProofAnswer f answer → HasStatus answer
of_proof (wrong.Unknown n) answer e = is_ill e refl
of_proof (wrong.Double n) answer e = is_ill e refl
of_proof wrong.Memory answer e = absurd e

low_open : (n : ℕ) → open_status n ≤ 2
low_open zero = omega arith
low_open (suc n) = omega arith

of_run : (y : System) (limit : ℕ) (ls : List (ObName × Verdict)) (answer : Answer) → IsRunAnswer y limit ls answer → HasStatus answer
of_run y limit ls answer (unproved h e) = inl (subst (λ k. k ≤ 2) (sym (status_of e)) (low_open _))
of_run y limit ls answer (ran h text runs e) = inl (omega (arith, status_of e))

of_answer : (asked : Request) (y : System) (os : List Obligation) (ps : List RawProof) (answer : Answer) → IsAnswer asked y os ps answer → HasStatus answer
of_answer (request.List files) y os ps answer e = inl (omega (arith, status_of e))
of_answer (request.Check files) y os ps answer e = inl (subst (λ k. k ≤ 2) (sym (status_of e)) (low_open _))
of_answer (request.Sim files limit seed) y os ps answer a = of_run y limit _ answer a

of_answered : (asked : Request) (y : System) (os : List Obligation) (ps : List RawProof) (answer : Answer) → IsAnswered asked y os ps answer → HasStatus answer
of_answered asked y os ps answer (wrong_proof f h e) = of_proof f answer e
of_answered asked y os ps answer (right_proofs h e) = of_answer asked y os ps answer e

of_judged : (asked : Request) (t : RawText) (ps : List RawProof) (answer : Answer) → IsJudged asked t ps answer → HasStatus answer
of_judged asked t ps answer (ill f h e) = is_ill e refl
of_judged asked t ps answer (limited y w l h e) = inr (status_of e)
of_judged asked t ps answer (answered y w n os owed a) = of_answered asked y os ps answer a

pub have_statuses : OutcomesHaveStatuses
have_statuses asked bytes answer (too_long h e) = inr (status_of e)
have_statuses asked bytes answer (lexical l f h e) = of_lexical f answer e
have_statuses asked bytes answer (cut l tokens cuts (refused_text f h e)) = of_syntax f answer e
have_statuses asked bytes answer (cut l tokens cuts (refused_proofs at t spells f h e)) = of_syntax f answer e
have_statuses asked bytes answer (cut l tokens cuts (spelled at t spells ps proves j)) = of_judged asked t ps answer j
