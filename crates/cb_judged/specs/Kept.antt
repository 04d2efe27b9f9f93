-- What a judged system keeps.
use Rattle.std.specs.Prelude.{◌≡◌, ℕ, List, [], ◌∷◌, ⊤, refl}
use Rattle.std.specs.Coded.{Coded, code_by, coded×, coded_list}
use Rattle.cb_seq.specs.Validity.{Valid}
use Rattle.cb_seq.specs.declared.sequent.ObName.{ObName}
use Rattle.cb_seq.specs.contracts.sequent.ObName as name
use Rattle.cb_spec.specs.declared.system.System.{System}
use Rattle.cb_spec.specs.Journals.{set_sizes}
use Rattle.cb_spec.specs.SystemCode.{coded_system}
use Rattle.cb_spec.specs.Typed.{Typed}
use Rattle.cb_obligations.specs.Owed.{Owed}
use Rattle.cb_owed.specs.Lists.{system_owes}
use Rattle.cb_trace.specs.contracts.verdict.Verdict as verdict_row
use Rattle.cb_trace.specs.declared.verdict.Verdict.{Verdict}
use Rattle.cb_trace.specs.declared.verdict.Verdict.TheVariants as verdict

-- the lines have the names of what is owed, in order, and what is owed under a line that says proved is valid
abbrev pub Tells : List ℕ → List Owed → List (ObName × Verdict) → Type 0
Tells sizes [] [] = ⊤
Tells sizes [] (l ∷ ls) = ⊥
Tells sizes (o ∷ os) [] = ⊥
Tells sizes (o ∷ os) (l ∷ ls) = (l.0 ≡ o.name) × (l.1 ≡ verdict.Proved → Valid sizes o.claim) × Tells sizes os ls

-- what contracts see of a judged system
pub record JudgedView : Type 0 where
  pub system : System
  pub lines : List (ObName × Verdict)

abbrev pub coded_judged : Coded JudgedView
coded_judged =
    code_by (System × List (ObName × Verdict)) (coded× coded_system (coded_list (coded× name.the_row.coded verdict_row.the_row.coded)))
    (λ j. (j.system, j.lines)) (λ p. record { system = p.0; lines = p.1 }) (λ _. refl)

-- what it keeps
pub record Keeps (y : System) (lines : List (ObName × Verdict)) : Type 0 where
  pub typed : Typed y
  pub tells : Tells (set_sizes y) (system_owes y) lines
