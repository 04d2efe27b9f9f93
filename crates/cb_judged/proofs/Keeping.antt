-- What a judged system keeps, and that it is sound where all is proved.
use Rattle.std.proofs.Common.{◌≡◌, ℕ, zero, suc, List, [], ◌∷◌, ◌++◌, map, flat_map, Option, Some, None, refl, sym, subst, arith}
use Rattle.std.proofs.lemmas.Option.{same_Some}
use Rattle.cb_lex.specs.declared.raw.proof.RawProof.{RawProof}
use Rattle.cb_lex.specs.RawCertTree.{RawCertTree}
use Rattle.cb_seq.specs.declared.sequent.ObName.{ObName}
use Rattle.cb_seq.specs.declared.sequent.Obligation.{Obligation}
use Rattle.cb_seq.specs.Validity.{claim_of, Valid, Kinded}
use Rattle.cb_spec.specs.declared.system.Controller.{Controller}
use Rattle.cb_spec.specs.declared.system.System.{System}
use Rattle.cb_spec.specs.Journals.{set_sizes}
use Rattle.cb_spec.specs.States.{IsAt}
use Rattle.cb_spec.specs.Typed.{Typed}
use Rattle.cb_obligations.specs.Owed.{Owed, owed_of, machine_owes, AllOwedValid}
use Rattle.cb_typed.specs.Laws.{AllOwedKinded, TypedMachinesOweKinded}
use Rattle.cb_conditions.specs.Conditions.{controller_owes}
use Rattle.cb_controlled_laws.specs.Laws.{TypedSystemsOweKinded, OwesValid}
use Rattle.cb_check.specs.Derives.{first_bad}
use Rattle.cb_check.specs.Laws.{DerivedIsValid, DerivesWithoutBad}
use Rattle.cb_arguments.specs.Scopes.{Symbols, symbols_of}
use Rattle.cb_trace.specs.Texts.{obligation_text, openness, open_count}
use Rattle.cb_trace.specs.declared.verdict.Verdict.{Verdict}
use Rattle.cb_trace.specs.declared.verdict.Verdict.TheVariants as verdict
use Rattle.cb_verdicts.specs.Certificates.{cert_of}
use Rattle.cb_verdicts.specs.Proofs.{proof_of}
use Rattle.cb_verdicts.specs.Verdicts.{verdict_by, verdict_on, verdict_of, verdicts}
use Rattle.cb_owed.specs.Lists.{system_owes, controllers_owe, AreOwed}
use Rattle.cb_judged.specs.Judging.{AreJudged}
use Rattle.cb_judged.specs.Kept.{Tells}

-- ---- lists

module _ (sizes : List ℕ) where
  kinded_both : (xs ys : List Owed) → AllOwedKinded sizes xs → AllOwedKinded sizes ys → AllOwedKinded sizes (xs ++ ys)
  kinded_both [] ys a b = b
  kinded_both (x ∷ xs) ys a b = (a.0, kinded_both xs ys a.1 b)

  valid_parts : (xs ys : List Owed) → AllOwedValid sizes (xs ++ ys) → AllOwedValid sizes xs × AllOwedValid sizes ys
  valid_parts [] ys a = (tt, a)
  valid_parts (x ∷ xs) ys a = let r = valid_parts xs ys a.1 in ((a.0, r.0), r.1)

  module _ {A : Type 0} (owes : A → List Owed) where
    all_kinded : (items : List A) → ((k : ℕ) (a : A) → IsAt items k a → AllOwedKinded sizes (owes a)) → AllOwedKinded sizes (flat_map owes items)
    all_kinded [] h = tt
    all_kinded (a ∷ items) h = kinded_both (owes a) (flat_map owes items) (h 0 a refl) (all_kinded items (λ k b at. h (suc k) b at))

    valid_at : (items : List A) → AllOwedValid sizes (flat_map owes items) → (k : ℕ) (a : A) → IsAt items k a → AllOwedValid sizes (owes a)
    valid_at [] v k a at = cc
    valid_at (b ∷ items) v zero a at = subst (λ a. AllOwedValid sizes (owes a)) (same_Some _ _ at) (valid_parts (owes b) (flat_map owes items) v).0
    valid_at (b ∷ items) v (suc k) a at = valid_at items (valid_parts (owes b) (flat_map owes items) v).1 k a at

-- ---- lines

module _ (valid : DerivedIsValid) (no_bad : DerivesWithoutBad) (sizes : List ℕ) (symbols : Symbols) (ps : List RawProof) where
  valid_where_proved : (o : Obligation) → verdict_of sizes symbols ps o ≡ verdict.Proved → Kinded sizes (claim_of o.sequent) → Valid sizes (claim_of o.sequent)
  valid_where_proved o e k = by_proof (proof_of (obligation_text o.name) ps) e
    where
      by_node : (c : RawCertTree) (b : Option ℕ) → first_bad sizes (cert_of symbols c) (claim_of o.sequent) ≡ b → verdict_by b ≡ verdict.Proved → Valid sizes (claim_of o.sequent)
      by_node c None b e = valid sizes (cert_of symbols c) (claim_of o.sequent) k ((no_bad sizes (cert_of symbols c) (claim_of o.sequent)).1 b)
      by_node c (Some n) b e = cc

      by_proof : (p : Option RawCertTree) → verdict_on sizes symbols (claim_of o.sequent) p ≡ verdict.Proved → Valid sizes (claim_of o.sequent)
      by_proof None e = cc
      by_proof (Some c) e = by_node c (first_bad sizes (cert_of symbols c) (claim_of o.sequent)) refl e

  verdicts_tell : (os : List Obligation) → AllOwedKinded sizes (map owed_of os) → Tells sizes (map owed_of os) (verdicts sizes symbols ps os)
  verdicts_tell [] k = tt
  verdicts_tell (o ∷ os) k = (refl, (λ e. valid_where_proved o e k.0), verdicts_tell os k.1)

module _ (valid : DerivedIsValid) (no_bad : DerivesWithoutBad) (machines : TypedMachinesOweKinded) (controllers : TypedSystemsOweKinded) (y : System) (t : Typed y) where
  system_kinded : AllOwedKinded (set_sizes y) (system_owes y)
  system_kinded =
      kinded_both (set_sizes y) (flat_map machine_owes y.machines) (controllers_owe y y.controllers)
      (all_kinded (set_sizes y) machine_owes y.machines (λ k m at. machines y t k m at))
      (all_kinded (set_sizes y) (λ (c : Controller). controller_owes y c) y.controllers (λ k c at. controllers y t k c at))

  -- the verdicts on what is owed tell so
  pub system_tells : (ps : List RawProof) (os : List Obligation) → AreOwed y os → Tells (set_sizes y) (system_owes y) (verdicts (set_sizes y) (symbols_of y) ps os)
  system_tells ps os owed =
      subst (λ owes. Tells (set_sizes y) owes (verdicts (set_sizes y) (symbols_of y) ps os)) owed
      (verdicts_tell valid no_bad (set_sizes y) (symbols_of y) ps os (subst (AllOwedKinded (set_sizes y)) (sym owed) system_kinded))

  pub judged_tells : (ps : List RawProof) (lines : List (ObName × Verdict)) → AreJudged y ps lines → Tells (set_sizes y) (system_owes y) lines
  judged_tells ps lines j = subst (Tells (set_sizes y) (system_owes y)) (sym j.found) (system_tells ps j.owed j.are_owed)

-- ---- where none is open

all_valid : (sizes : List ℕ) (os : List Owed) (lines : List (ObName × Verdict)) → Tells sizes os lines → open_count lines ≡ 0 → AllOwedValid sizes os
all_valid sizes [] [] h none = tt
all_valid sizes [] (l ∷ ls) h none = absurd h
all_valid sizes (o ∷ os) [] h none = absurd h
all_valid sizes (o ∷ os) (l ∷ ls) h none = by_verdict l.1 refl (all_valid sizes os ls h.2)
  where
    by_verdict : (v : Verdict) → l.1 ≡ v → (open_count ls ≡ 0 → AllOwedValid sizes os) → Valid sizes o.claim × AllOwedValid sizes os
    by_verdict verdict.Proved e rest = (h.1 e, rest (omega (arith, none)))
    by_verdict verdict.Missing e rest = absurd (omega (arith, none, subst (λ v. openness v ≡ 1) (sym e) refl))
    by_verdict (verdict.Bad n) e rest = absurd (omega (arith, none, subst (λ v. openness v ≡ 1) (sym e) refl))

pub owes_valid : (y : System) (lines : List (ObName × Verdict)) → Tells (set_sizes y) (system_owes y) lines → open_count lines ≡ 0 → OwesValid y
owes_valid y lines h none =
    let parts = valid_parts (set_sizes y) (flat_map machine_owes y.machines) (controllers_owe y y.controllers) (all_valid (set_sizes y) (system_owes y) lines h none) in
    record {
      machines = λ k m at. valid_at (set_sizes y) machine_owes y.machines parts.0 k m at;
      controllers = λ k c at. valid_at (set_sizes y) (λ (c : Controller). controller_owes y c) y.controllers parts.1 k c at;
    }
