-- What bytes spell, what is found of it, and why nothing is.
use Rattle.std.specs.Prelude.{◌≡◌, ℕ, ◌+◌, List, [], drop, false, true, Ok, Err, None, ⊤}
use Rattle.cb_lex.specs.Lexes.{Lexes, start}
use Rattle.cb_lex.specs.declared.lexer.LexFault.{LexFault}
use Rattle.cb_lex.specs.declared.lexer.LexFault.TheVariants as lex
use Rattle.cb_lex.specs.declared.raw.proof.RawProof.{RawProof}
use Rattle.cb_lex.specs.declared.raw.text.RawText.{RawText}
use Rattle.cb_lex.specs.declared.token.Token.{Token}
use Rattle.cb_grammar.specs.Misreadings.{Misread}
use Rattle.cb_grammar.specs.declared.parts.Part.TheVariants as part
use Rattle.cb_grammar.specs.declared.reading.SyntaxFault.{SyntaxFault}
use Rattle.cb_grammar.specs.declared.reading.SyntaxFault.TheVariants as syntax
use Rattle.cb_amn_parse.specs.Processes.{text_out}
use Rattle.cb_amn_parse.specs.Proofs.{proofs_out}
use Rattle.cb_amn_parse.specs.Spelling.{SpellsFrom}
use Rattle.cb_csp_parse.specs.Laws.{StandsAlone}
use Rattle.cb_forms.specs.declared.fault.Fault.{Fault}
use Rattle.cb_spec.specs.declared.system.System.{System}
use Rattle.cb_text_laws.specs.WholeText.{WellFormed, FirstFault, IsSystemOf}
use Rattle.cb_seq.specs.declared.sequent.Obligation.{Obligation}
use Rattle.cb_owed.specs.Lists.{AreOwed}
use Rattle.cb_owed.specs.Limits.{first_limit}
use Rattle.cb_verdicts.specs.Proofs.{keys_of, first_wrong}
use Rattle.cb_judged.specs.declared.judge.JudgeFault.{JudgeFault}
use Rattle.cb_judged.specs.declared.judge.JudgeFault.TheVariants as judging
use Rattle.cb_judged.specs.Judging.{AreJudged, IsUnjudged}
use Rattle.cb_judged.specs.Kept.{JudgedView}
use Rattle.cb_accept.specs.declared.read.TextFault.{TextFault}
use Rattle.cb_accept.specs.declared.read.TextFault.TheVariants as fault

-- ---- what bytes spell

-- the tokens before this place spell the text: with the one there, which is the first PROOF or the end, nothing more of it is begun. A
-- text without SYSTEM is its machines alone
pub record SpellsText (tokens : List Token) (at : ℕ) (t : RawText) : Type 0 where
  pub spelled : SpellsFrom part.Text 0 false tokens 0 (at + 1) (text_out t)
  pub alone : StandsAlone t

-- the tokens from there on spell the proofs, in which opened names may stand
abbrev pub SpellsProofs : List Token → ℕ → List RawProof → Type 0
SpellsProofs tokens at ps = (to : ℕ) × SpellsFrom part.Proofs 0 true tokens at to (proofs_out ps)

-- the bytes spell a text with its proofs
pub record IsRead (bytes : List ℕ) (t : RawText) (ps : List RawProof) : Type 0 where
  pub tokens : List Token
  pub cut : Lexes bytes start (Ok tokens)
  pub at : ℕ
  pub text : SpellsText tokens at t
  pub proofs : SpellsProofs tokens at ps

-- the text is well formed, and a system is made of it
pub record IsWell (t : RawText) (y : System) : Type 0 where
  pub well_formed : WellFormed t
  pub system : IsSystemOf t y

-- ---- what is found of it

-- the bytes spell a text and proofs, of the system of which these are the verdicts
pub record IsJudgedText (bytes : List ℕ) (j : JudgedView) : Type 0 where
  pub text : RawText
  pub proofs : List RawProof
  pub read : IsRead bytes text proofs
  pub well : IsWell text j.system
  pub judged : AreJudged j.system proofs j.lines

-- what the system owes, no limit being passed and no proof wrong
pub record IsListedText (bytes : List ℕ) (y : System) (os : List Obligation) : Type 0 where
  pub text : RawText
  pub proofs : List RawProof
  pub read : IsRead bytes text proofs
  pub well : IsWell text y
  pub within : first_limit y ≡ None
  pub owed : AreOwed y os
  pub right : first_wrong (keys_of os) [] proofs ≡ None

-- ---- why nothing is

-- a first fault of the syntax: the text's, or that of its proofs
pub data IsMisread (bytes : List ℕ) (f : SyntaxFault) : Type 0 where
  in_text : (tokens : List Token) → Lexes bytes start (Ok tokens) → Misread part.Text 0 false tokens f → IsMisread bytes f
  in_proofs : (tokens : List Token) → Lexes bytes start (Ok tokens) → (at : ℕ) (t : RawText) → SpellsText tokens at t →
      Misread part.Proofs 0 true (drop at tokens) f → IsMisread bytes f

-- the text that the bytes spell has this first fault
pub record IsIll (bytes : List ℕ) (f : Fault) : Type 0 where
  pub text : RawText
  pub proofs : List RawProof
  pub read : IsRead bytes text proofs
  pub first : FirstFault text f

-- of its system there are no verdicts, for this cause
pub record IsUnjudgedText (bytes : List ℕ) (f : JudgeFault) : Type 0 where
  pub text : RawText
  pub proofs : List RawProof
  pub read : IsRead bytes text proofs
  pub system : System
  pub well : IsWell text system
  pub cause : IsUnjudged system proofs f

-- want of memory has no cause, and is told as that alone
abbrev pub IsTextFault : List ℕ → TextFault → Type 0
IsTextFault bytes (fault.Lex (lex.Memory m)) = ⊥
IsTextFault bytes (fault.Lex f) = Lexes bytes start (Err f)
IsTextFault bytes (fault.Syntax syntax.Memory) = ⊥
IsTextFault bytes (fault.Syntax f) = IsMisread bytes f
IsTextFault bytes (fault.Ill code place) = IsIll bytes (record { code = code; place = place })
IsTextFault bytes (fault.Judge judging.Memory) = ⊥
IsTextFault bytes (fault.Judge f) = IsUnjudgedText bytes f
IsTextFault bytes fault.Memory = ⊤
