-- The names of a whole text, as a machine sees them, stand for what the names of typed terms stand for.
use Rattle.std.proofs.Common.{◌≡◌, ℕ, zero, suc, ◌+◌, List, [], ◌∷◌, length, Some, subst, arith, slice_get}
use Rattle.std.proofs.lemmas.Option.{same_Some}
use Rattle.cb_lex.specs.declared.raw.name.RawName.{RawName}
use Rattle.cb_lex.specs.declared.raw.text.RawMachine.{RawMachine}
use Rattle.cb_forms.specs.Find.{found}
use Rattle.cb_judge.specs.Meanings.{Names}
use Rattle.cb_types.specs.declared.declare.Sort.TheVariants as sort
use Rattle.cb_types.specs.Declares.{next, after_sets, own_domains, variables_of, with_statics, with_variables, globals_fault, names_fault, domain_faults}
use Rattle.cb_typing.specs.WrittenText.{FitsNumbers}
use Rattle.cb_typing.proofs.Clean.{Clean}
use Rattle.cb_typing.proofs.Entries.{next_is}
use Rattle.cb_typing.proofs.Members.{Has, member_sort}

-- ---- the declarations of one machine of a text

-- the machine's global names have no fault, where some names stand before them
pub record Declares (known : Names) (owner : ℕ) (m : RawMachine) : Type 0 where
  pub sets_before : ℕ
  pub before : Names
  pub clean : Clean (globals_fault known owner sets_before before m)

pub machine_declares : (known : Names) (ms : List RawMachine) (owner k : ℕ) (w : Names) → FitsNumbers (owner + length ms) → Clean (names_fault known owner k w ms) → (i : ℕ) (m : RawMachine) → slice_get ms i ≡ Some m → Declares known (owner + i) m
machine_declares known [] owner k w f h i m e = let no : ⊥ = cc in absurd no
machine_declares known (n ∷ ms) owner k w f h zero m e =
    let q : owner ≡ owner + 0 = omega arith in
    let j : n ≡ m = same_Some n m e in
    subst (λ o. Declares known o m) q (record { sets_before = k; before = w; clean = subst (λ n. Clean (globals_fault known owner k w n)) j h.0 })
machine_declares known (n ∷ ms) owner k w f h (suc i) m e =
    let s : next owner ≡ owner + 1 = next_is owner (owner + length (n ∷ ms)) (omega arith) f in
    let q : next owner + i ≡ owner + suc i = omega (arith, s) in
    subst (λ o. Declares known o m) q (machine_declares known ms (next owner) (after_sets k n.sets) (with_variables known owner (with_statics owner k w n) n) (omega (arith, f, s)) h.1 i m e)

pub variable_clean : (known : Names) (owner : ℕ) (m : RawMachine) → Declares known owner m → (x : RawName) → Has (variables_of m.state) x → Clean (domain_faults (found x.text (own_domains known owner m)) x.place)
variable_clean known owner m d x h = member_sort (sort.Variable owner) [] (own_domains known owner m) (variables_of m.state) 0 (with_statics owner d.sets_before d.before m) d.clean.1 x h
