-- What a request answers on the bytes of its files: a status, and what is printed.
use Rattle.std.specs.Prelude.{◌≡◌, ◌≢◌, ◌⊎◌, ℕ, zero, suc, ◌==◌, ◌≤◌, ◌<◌, false, true, List, [], ◌∷◌, ◌++◌, length, drop, codes, Ok, Err, Option, Some, None, if◌then◌else◌}
use Rattle.std.specs.Fmt.{decimal}
use Rattle.cb_term.specs.Table.{sizes_of}
use Rattle.cb_lex.specs.Lexes.{Lexes, start}
use Rattle.cb_lex.specs.declared.lexer.LexFault.{LexFault}
use Rattle.cb_lex.specs.declared.lexer.LexFault.TheVariants.{BadByte, LongNumber, OpenComment, Memory}
use Rattle.cb_lex.specs.declared.raw.proof.RawProof.{RawProof}
use Rattle.cb_lex.specs.declared.raw.text.RawText.{RawText}
use Rattle.cb_lex.specs.declared.token.Place.{Place}
use Rattle.cb_lex.specs.declared.token.Token.{Token}
use Rattle.cb_grammar.specs.Misreadings.{Misread}
use Rattle.cb_grammar.specs.declared.parts.Part.TheVariants as part
use Rattle.cb_grammar.specs.declared.reading.SyntaxFault.{SyntaxFault}
use Rattle.cb_grammar.specs.declared.reading.SyntaxFault.TheVariants as syntax
use Rattle.cb_forms.specs.declared.fault.Fault.{Fault}
use Rattle.cb_spec.specs.declared.system.System.{System}
use Rattle.cb_text_laws.specs.WholeText.{FirstFault}
use Rattle.cb_seq.specs.declared.sequent.ObName.{ObName}
use Rattle.cb_seq.specs.declared.sequent.Obligation.{Obligation}
use Rattle.cb_wp.specs.declared.limits.Which.{Which}
use Rattle.cb_wp.specs.declared.limits.Which.TheVariants as which
use Rattle.cb_arguments.specs.Scopes.{symbols_of}
use Rattle.cb_trace.specs.Texts.{obligation_text, listing_text, open_count, verdict_text}
use Rattle.cb_trace.specs.declared.verdict.Verdict.{Verdict}
use Rattle.cb_run_text.specs.RunTexts.{IsRunText}
use Rattle.cb_verdicts.specs.declared.places.ProofFault.{ProofFault}
use Rattle.cb_verdicts.specs.declared.places.ProofFault.TheVariants as wrong
use Rattle.cb_owed.specs.Lists.{AreOwed}
use Rattle.cb_owed.specs.Limits.{first_limit}
use Rattle.cb_verdicts.specs.Proofs.{keys_of, first_wrong}
use Rattle.cb_verdicts.specs.Verdicts.{verdicts}
use Rattle.cb_judged.specs.declared.judge.JudgeFault.TheVariants as judging
use Rattle.cb_accept.specs.Accepting.{SpellsText, SpellsProofs, IsWell}
use Rattle.cb_accept.specs.declared.read.TextFault.{TextFault}
use Rattle.cb_accept.specs.declared.read.TextFault.TheVariants as fault
use Rattle.cb_words.specs.declared.request.Request.{Request}
use Rattle.cb_words.specs.declared.request.Request.TheVariants as request
use Rattle.cb_top.specs.declared.outcome.Ending.{Ending}
use Rattle.cb_top.specs.declared.outcome.Ending.TheVariants.{Done, Open}
use Rattle.cb_top.specs.declared.outcome.Refusal.{Refusal}
use Rattle.cb_top.specs.declared.outcome.Refusal.TheVariants.{IllFormed, Limit}
use Rattle.cb_top.specs.declared.outcome.Outcome.{Outcome}
use Rattle.cb_top.specs.declared.outcome.Outcome.TheVariants as outcome
use Rattle.cb_top.specs.Joined.{Agree}
use Rattle.cb_top.specs.Request.{bytes_of}
use Rattle.cb_top.specs.declared.TheConstants.{MAX_BYTES}

-- the status, the bytes for `out` and the bytes for `err`
pub record Answer : Type 0 where
  pub status : ℕ
  pub out : List ℕ
  pub err : List ℕ

abbrev pub ending_status : Ending → ℕ
ending_status Done = 0
ending_status Open = 1

abbrev pub refusal_status : Refusal → ℕ
refusal_status IllFormed = 2
refusal_status Limit = 7

abbrev pub answer_of : Outcome → Answer
answer_of (outcome.Text ending text) = record { status = ending_status ending; out = text.items; err = [] }
answer_of (outcome.Fault refusal line) = record { status = refusal_status refusal; out = []; err = line.items }

abbrev pub line_of : List ℕ → List ℕ
line_of text = text ++ 10 ∷ []

-- the lines that are no part of an outcome
abbrev pub words_line : List ℕ
words_line = line_of (codes "fault words")

abbrev pub write_line : List ℕ
write_line = line_of (codes "fault write")

abbrev pub memory_line : List ℕ
memory_line = line_of (codes "fault memory")

abbrev pub read_line : List ℕ → List ℕ
read_line name = line_of (codes "fault read " ++ name)

-- the answer to a text that is ill formed, with its code and what the code is about
abbrev pub ill_formed : List ℕ → List ℕ → Answer
ill_formed code subject = record { status = 2; out = []; err = line_of (codes "fault " ++ code ++ subject) }

-- a place as it is printed
abbrev pub place_text : Place → List ℕ
place_text place = decimal place.line ++ 58 ∷ decimal place.col

-- the answer to a lexical fault; want of memory has none
abbrev pub IsLexicalAnswer : LexFault → Answer → Type 0
IsLexicalAnswer (BadByte place) answer = answer ≡ ill_formed (codes "BadByte ") (place_text place)
IsLexicalAnswer (LongNumber place) answer = answer ≡ ill_formed (codes "LongNumber ") (place_text place)
IsLexicalAnswer (OpenComment place) answer = answer ≡ ill_formed (codes "OpenComment ") (place_text place)
IsLexicalAnswer (Memory e) answer = ⊥

-- the answer to a fault of the syntax; want of memory has none
abbrev pub IsSyntaxAnswer : SyntaxFault → Answer → Type 0
IsSyntaxAnswer (syntax.Syntax place) answer = answer ≡ ill_formed (codes "Syntax ") (place_text place)
IsSyntaxAnswer (syntax.Mixed place) answer = answer ≡ ill_formed (codes "Mixed ") (place_text place)
IsSyntaxAnswer (syntax.Deep place) answer = answer ≡ ill_formed (codes "Deep ") (place_text place)
IsSyntaxAnswer syntax.Memory answer = ⊥

-- ---- faults of texts

-- the names of the codes
abbrev pub code_names : List (ℕ × List ℕ)
code_names =
    (1, codes "DoubleName") ∷ (2, codes "UnknownName") ∷ (3, codes "NoDomain") ∷ (4, codes "DoubleDomain") ∷ (5, codes "KindClash")
    ∷ (6, codes "TooWide") ∷ (7, codes "BadDivisor") ∷ (8, codes "SharedWrite") ∷ (9, codes "MissingResult") ∷ (10, codes "DoubleResult")
    ∷ (11, codes "BigDomain") ∷ (12, codes "BigSet") ∷ (13, codes "NotLater") ∷ (14, codes "BadOperand") ∷ (15, codes "NoSender")
    ∷ (16, codes "TwoSenders") ∷ (17, codes "NoReceiver") ∷ (18, codes "TwoReceivers") ∷ (19, codes "SelfChannel") ∷ (20, codes "MachineShared")
    ∷ (21, codes "MachineUnowned") ∷ (22, codes "ArgCount") ∷ (23, codes "TooManySilent") ∷ (24, codes "BadStart") ∷ []

abbrev pub name_in : List (ℕ × List ℕ) → ℕ → List ℕ
name_in [] k = []
name_in (n ∷ ns) k = if k == n.0 then n.1 else name_in ns k

-- the code as it is printed, as `W8 SharedWrite `
abbrev pub code_text : ℕ → List ℕ
code_text k = codes "W" ++ decimal k ++ codes " " ++ name_in code_names k ++ codes " "

abbrev pub ill_answer : Fault → Answer
ill_answer f = ill_formed (code_text f.code) (place_text f.place)

abbrev pub which_word : Which → List ℕ
which_word which.Controllers = codes "controllers"
which_word which.Branches = codes "branches"
which_word which.Visits = codes "visits"
which_word which.Obligations = codes "obligations"
which_word which.Sequent = codes "sequent"
which_word which.Nodes = codes "nodes"

abbrev pub limit_answer : List ℕ → Answer
limit_answer word = record { status = 7; out = []; err = line_of (codes "fault limit " ++ word) }

-- the answer to a proof that is of no obligation, or of one that an earlier proof is of; want of memory has none
abbrev pub IsProofAnswer : ProofFault → Answer → Type 0
IsProofAnswer (wrong.Unknown n) answer = answer ≡ ill_formed (codes "UnknownProof ") (obligation_text n)
IsProofAnswer (wrong.Double n) answer = answer ≡ ill_formed (codes "DoubleProof ") (obligation_text n)
IsProofAnswer wrong.Memory answer = ⊥

-- the answer to a text that is not judged; want of memory has none
abbrev pub IsRefusal : TextFault → Answer → Type 0
IsRefusal (fault.Lex f) answer = IsLexicalAnswer f answer
IsRefusal (fault.Syntax f) answer = IsSyntaxAnswer f answer
IsRefusal (fault.Ill code place) answer = answer ≡ ill_answer (record { code = code; place = place })
IsRefusal (fault.Judge (judging.Limit w)) answer = answer ≡ limit_answer (which_word w)
IsRefusal (fault.Judge (judging.UnknownProof n)) answer = IsProofAnswer (wrong.Unknown n) answer
IsRefusal (fault.Judge (judging.DoubleProof n)) answer = IsProofAnswer (wrong.Double n) answer
IsRefusal (fault.Judge judging.Memory) answer = ⊥
IsRefusal fault.Memory answer = ⊥

-- 0 where none is open, else 1
abbrev pub open_status : ℕ → ℕ
open_status zero = 0
open_status (suc k) = 1

abbrev pub verdict_answer : List (ObName × Verdict) → Answer
verdict_answer ls = record { status = open_status (open_count ls); out = verdict_text ls; err = [] }

-- what may be answered to a run of a system with these verdicts: they, where one isn't proved; else what a run of it prints
pub data IsRunAnswer (y : System) (limit : ℕ) (ls : List (ObName × Verdict)) (answer : Answer) : Type 0 where
  unproved : open_count ls ≢ 0 → answer ≡ verdict_answer ls → IsRunAnswer y limit ls answer
  ran : open_count ls ≡ 0 → (text : List ℕ) → IsRunText y limit text → answer ≡ record { status = 0; out = text; err = [] } →
      IsRunAnswer y limit ls answer

-- what may be answered on these obligations of a system, each with at most one proof
abbrev pub IsAnswer : Request → System → List Obligation → List RawProof → Answer → Type 0
IsAnswer (request.List files) y os ps answer = answer ≡ record { status = 0; out = listing_text y.sets.sets.items os; err = [] }
IsAnswer (request.Check files) y os ps answer = answer ≡ verdict_answer (verdicts (sizes_of y.sets) (symbols_of y) ps os)
IsAnswer (request.Sim files limit seed) y os ps answer = IsRunAnswer y limit (verdicts (sizes_of y.sets) (symbols_of y) ps os) answer

-- the first wrong proof is told; else all are judged
pub data IsAnswered (asked : Request) (y : System) (os : List Obligation) (ps : List RawProof) (answer : Answer) : Type 0 where
  wrong_proof : (f : ProofFault) → first_wrong (keys_of os) [] ps ≡ Some f → IsProofAnswer f answer → IsAnswered asked y os ps answer
  right_proofs : first_wrong (keys_of os) [] ps ≡ None → IsAnswer asked y os ps answer → IsAnswered asked y os ps answer

-- what may be answered on a text with its proofs: its first fault, the first limit, or what is said of all that its system owes
pub data IsJudged (asked : Request) (t : RawText) (ps : List RawProof) (answer : Answer) : Type 0 where
  ill : (f : Fault) → FirstFault t f → answer ≡ ill_answer f → IsJudged asked t ps answer
  limited : (y : System) → IsWell t y → (w : Which) → first_limit y ≡ Some w → answer ≡ limit_answer (which_word w) → IsJudged asked t ps answer
  answered : (y : System) → IsWell t y → first_limit y ≡ None → (os : List Obligation) → AreOwed y os → IsAnswered asked y os ps answer →
      IsJudged asked t ps answer

-- what may be answered to a request on these tokens: the first fault of the text's syntax, or of its proofs', or what is judged of them
pub data IsReadAndJudged (asked : Request) (tokens : List Token) (answer : Answer) : Type 0 where
  refused_text : (fault : SyntaxFault) → Misread part.Text 0 false tokens fault → IsSyntaxAnswer fault answer → IsReadAndJudged asked tokens answer
  refused_proofs : (at : ℕ) (t : RawText) → SpellsText tokens at t → (fault : SyntaxFault) → Misread part.Proofs 0 true (drop at tokens) fault →
      IsSyntaxAnswer fault answer → IsReadAndJudged asked tokens answer
  spelled : (at : ℕ) (t : RawText) → SpellsText tokens at t → (ps : List RawProof) → SpellsProofs tokens at ps → IsJudged asked t ps answer →
      IsReadAndJudged asked tokens answer

-- what may be answered to a request on these bytes
pub data IsOutcome (asked : Request) (bytes : List ℕ) (answer : Answer) : Type 0 where
  too_long : MAX_BYTES < length bytes → answer ≡ limit_answer (codes "bytes") → IsOutcome asked bytes answer
  lexical : length bytes ≤ MAX_BYTES → (fault : LexFault) → Lexes bytes start (Err fault) → IsLexicalAnswer fault answer → IsOutcome asked bytes answer
  cut : length bytes ≤ MAX_BYTES → (tokens : List Token) → Lexes bytes start (Ok tokens) → IsReadAndJudged asked tokens answer → IsOutcome asked bytes answer

-- what may be answered to a request whose files have these names: there are contents, those that are told where they are told, with this outcome
pub record IsOutcomeOf (asked : Request) (names : List (List ℕ)) (held : List ℕ → Option (List ℕ)) (answer : Answer) : Type 0 where
  pub contents : List (List ℕ)
  pub agree : Agree held names contents
  pub outcome : IsOutcome asked (bytes_of asked contents) answer

-- the status of each outcome is 0, 1, 2 or 7
abbrev pub OutcomesHaveStatuses : Type 0
OutcomesHaveStatuses = (asked : Request) (bytes : List ℕ) (answer : Answer) → IsOutcome asked bytes answer → (answer.status ≤ 2) ⊎ (answer.status ≡ 7)
