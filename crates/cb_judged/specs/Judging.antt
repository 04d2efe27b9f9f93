-- What is found of a system by the proofs of a text, and why nothing is.
use Rattle.std.specs.Prelude.{◌≡◌, List, [], Some, None, ⊤}
use Rattle.cb_lex.specs.declared.raw.proof.RawProof.{RawProof}
use Rattle.cb_term.specs.Table.{sizes_of}
use Rattle.cb_seq.specs.declared.sequent.ObName.{ObName}
use Rattle.cb_seq.specs.declared.sequent.Obligation.{Obligation}
use Rattle.cb_spec.specs.declared.system.System.{System}
use Rattle.cb_arguments.specs.Scopes.{symbols_of}
use Rattle.cb_trace.specs.declared.verdict.Verdict.{Verdict}
use Rattle.cb_verdicts.specs.declared.places.ProofFault.{ProofFault}
use Rattle.cb_verdicts.specs.declared.places.ProofFault.TheVariants as wrong
use Rattle.cb_judged.specs.declared.judge.JudgeFault.{JudgeFault}
use Rattle.cb_judged.specs.declared.judge.JudgeFault.TheVariants as fault
use Rattle.cb_owed.specs.Lists.{AreOwed}
use Rattle.cb_owed.specs.Limits.{first_limit}
use Rattle.cb_verdicts.specs.Proofs.{keys_of, first_wrong}
use Rattle.cb_verdicts.specs.Verdicts.{verdicts}

-- no limit is passed and no proof is wrong, and these are the verdicts on what is owed
pub record AreJudged (y : System) (ps : List RawProof) (lines : List (ObName × Verdict)) : Type 0 where
  pub owed : List Obligation
  pub are_owed : AreOwed y owed
  pub within : first_limit y ≡ None
  pub right : first_wrong (keys_of owed) [] ps ≡ None
  pub found : lines ≡ verdicts (sizes_of y.sets) (symbols_of y) ps owed

-- no limit is passed, and this is the first wrong proof
pub record IsFirstWrong (y : System) (ps : List RawProof) (f : ProofFault) : Type 0 where
  pub owed : List Obligation
  pub are_owed : AreOwed y owed
  pub within : first_limit y ≡ None
  pub wrong : first_wrong (keys_of owed) [] ps ≡ Some f

-- why there are no verdicts; want of memory has no cause
abbrev pub IsUnjudged : System → List RawProof → JudgeFault → Type 0
IsUnjudged y ps (fault.Limit w) = first_limit y ≡ Some w
IsUnjudged y ps (fault.UnknownProof n) = IsFirstWrong y ps (wrong.Unknown n)
IsUnjudged y ps (fault.DoubleProof n) = IsFirstWrong y ps (wrong.Double n)
IsUnjudged y ps fault.Memory = ⊤
