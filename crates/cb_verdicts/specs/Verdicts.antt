-- The verdict on each obligation.
use Rattle.std.specs.Prelude.{ℕ, List, map, Option, Some, None}
use Rattle.cb_lex.specs.declared.raw.proof.RawProof.{RawProof}
use Rattle.cb_lex.specs.RawCertTree.{RawCertTree}
use Rattle.cb_seq.specs.declared.sequent.ObName.{ObName}
use Rattle.cb_seq.specs.declared.sequent.Obligation.{Obligation}
use Rattle.cb_seq.specs.Validity.{Claim, claim_of}
use Rattle.cb_check.specs.Derives.{first_bad}
use Rattle.cb_check.specs.Ways.{capped}
use Rattle.cb_trace.specs.Texts.{obligation_text}
use Rattle.cb_trace.specs.declared.verdict.Verdict.{Verdict}
use Rattle.cb_trace.specs.declared.verdict.Verdict.TheVariants as verdict
use Rattle.cb_arguments.specs.Scopes.{Symbols}
use Rattle.cb_verdicts.specs.Certificates.{cert_of}
use Rattle.cb_verdicts.specs.Proofs.{proof_of}

abbrev pub verdict_by : Option ℕ → Verdict
verdict_by None = verdict.Proved
verdict_by (Some node) = verdict.Bad (capped node)

-- without a proof it is missing; else it is proved, or the first bad node is told
abbrev pub verdict_on : List ℕ → Symbols → Claim → Option RawCertTree → Verdict
verdict_on sizes symbols q None = verdict.Missing
verdict_on sizes symbols q (Some c) = verdict_by (first_bad sizes (cert_of symbols c) q)

abbrev pub verdict_of : List ℕ → Symbols → List RawProof → Obligation → Verdict
verdict_of sizes symbols ps o = verdict_on sizes symbols (claim_of o.sequent) (proof_of (obligation_text o.name) ps)

abbrev pub verdicts : List ℕ → Symbols → List RawProof → List Obligation → List (ObName × Verdict)
verdicts sizes symbols ps os = map (λ (o : Obligation). (o.name, verdict_of sizes symbols ps o)) os
