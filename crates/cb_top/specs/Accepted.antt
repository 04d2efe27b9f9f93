-- Accepted texts, and what is promised of them.
use Rattle.std.specs.Prelude.{◌≡◌, ℕ, List, [], Ok, None}
use Rattle.std.specs.declared.option.Option.{Option}
use Rattle.cb_lex.specs.Lexes.{Lexes, start}
use Rattle.cb_lex.specs.declared.raw.proof.RawProof.{RawProof}
use Rattle.cb_lex.specs.declared.raw.text.RawText.{RawText}
use Rattle.cb_lex.specs.declared.token.Token.{Token}
use Rattle.cb_seq.specs.declared.sequent.Obligation.{Obligation}
use Rattle.cb_spec.specs.declared.system.Machine.{Machine}
use Rattle.cb_spec.specs.declared.system.System.{System}
use Rattle.cb_spec.specs.Journals.{set_sizes}
use Rattle.cb_spec.specs.Machines.{CallSafe}
use Rattle.cb_spec.specs.Safe.{Safe}
use Rattle.cb_spec.specs.States.{IsAt}
use Rattle.cb_arguments.specs.Scopes.{symbols_of}
use Rattle.cb_trace.specs.Texts.{open_count}
use Rattle.cb_owed.specs.Lists.{AreOwed}
use Rattle.cb_owed.specs.Limits.{first_limit}
use Rattle.cb_verdicts.specs.Proofs.{keys_of, first_wrong}
use Rattle.cb_verdicts.specs.Verdicts.{verdicts}
use Rattle.cb_words.specs.declared.request.Request.{Request}
use Rattle.cb_top.specs.Joined.{Agree}
use Rattle.cb_accept.specs.Accepting.{IsWell, SpellsText, SpellsProofs}
use Rattle.cb_top.specs.Outcome.{Answer, IsOutcome}
use Rattle.cb_top.specs.Request.{bytes_of, TakesAccepted}

-- however a machine starts and whatever is called within the preconditions, its invariant holds at the start and after each call
abbrev pub MachinesAreSafe : System → Type 0
MachinesAreSafe y = (k : ℕ) (m : Machine) → IsAt y.machines k m → CallSafe (set_sizes y) m

-- the bytes spell a text that is well formed, with proofs that prove all that its system owes; and what that promises: the system is safe,
-- whatever its controllers do and in whatever order
pub record Accepted (bytes : List ℕ) : Type 0 where
  pub tokens : List Token
  pub cut : Lexes bytes start (Ok tokens)
  pub at : ℕ
  pub text : RawText
  pub text_spelled : SpellsText tokens at text
  pub proofs : List RawProof
  pub proofs_spelled : SpellsProofs tokens at proofs
  pub system : System
  pub well : IsWell text system
  pub within : first_limit system ≡ None
  pub obligations : List Obligation
  pub owed : AreOwed system obligations
  pub right : first_wrong (keys_of obligations) [] proofs ≡ None
  pub proved : open_count (verdicts (set_sizes system) (symbols_of system) proofs obligations) ≡ 0
  pub safe : Safe system
  pub machines_safe : MachinesAreSafe system

-- a request that takes accepted texts alone ends with status 0 on no other
abbrev pub DoneIsAccepted : Type 0
DoneIsAccepted = (asked : Request) (bytes : List ℕ) (answer : Answer) → TakesAccepted asked → IsOutcome asked bytes answer → answer.status ≡ 0 → Accepted bytes

-- the files have contents, those that are told where they are told, that are accepted
pub record HoldsAccepted (asked : Request) (names : List (List ℕ)) (held : List ℕ → Option (List ℕ)) : Type 0 where
  pub contents : List (List ℕ)
  pub agree : Agree held names contents
  pub accepted : Accepted (bytes_of asked contents)
