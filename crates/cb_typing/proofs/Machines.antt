-- The machines of a text without a fault are typed.
use Rattle.std.proofs.Common.{◌≡◌, ℕ, zero, suc, true, List, [], ◌∷◌, map, Option, Some, None, is_some, refl, sym, ap, ◌∙◌, subst, true≢false, arith}
use Rattle.std.proofs.lemmas.Option.{same_Some}
use Rattle.cb_lex.specs.declared.token.Place.{Place}
use Rattle.cb_lex.specs.declared.raw.text.RawOperation.{RawOperation}
use Rattle.cb_spec.specs.declared.system.Operation.{Operation}
use Rattle.cb_spec.specs.States.{IsAt}
use Rattle.cb_spec.specs.TypedProcesses.{AreNew}
use Rattle.cb_forms.specs.Find.{found}
use Rattle.cb_judge.specs.declared.names.View.{View}
use Rattle.cb_judge.specs.Meanings.{Names}
use Rattle.cb_normal.specs.Normal.{written}
use Rattle.cb_types.specs.MachineFaults.{Seen, with_seen, operation_names_fault, operation_fault, operations_fault}
use Rattle.cb_types.specs.NormalMachines.{operation_inside, operation_in, operation_with}
use Rattle.cb_typing.specs.WrittenText.{IsWrittenOperation, AreWrittenOperations}
use Rattle.cb_typing.proofs.Clean.{Clean, not_bad}
use Rattle.cb_typing.proofs.Lookups.{inside_new}
use Rattle.cb_typing.proofs.Counts.{count, texts, AllNew, new_distinct, times, AreWritten, are_new}
use Rattle.cb_typing.proofs.Globals.{hit_same}

-- ---- operations' names

abbrev name_entries : List RawOperation → Seen
name_entries [] = []
name_entries (o ∷ os) = (o.name.text, o.name.place) ∷ name_entries os

names_new : (os : List RawOperation) (seen : Seen) → Clean (operation_names_fault seen os) → AllNew seen (name_entries os)
names_new [] seen h = tt
names_new (o ∷ os) seen h = by (names_new os (with_seen o.name seen) h.1) (found o.name.text seen) refl
  where
    by : AllNew (with_seen o.name seen) (name_entries os) → (r : Option Place) → found o.name.text seen ≡ r → AllNew seen (name_entries (o ∷ os))
    by n None q = (q, subst (λ s. AllNew s (name_entries os)) (inside_new o.name.text o.name.place seen q) n)
    by n (Some p) q = let k : is_some (found o.name.text seen) ≡ true = ap is_some q in absurd (true≢false (sym k ∙ not_bad _ 1 o.name.place h.0))

module _ (v : View) (ns : Names) where
  operations_times : (x : List ℕ) (os : List RawOperation) → times x (map (λ (o : Operation). o.name) (map (operation_in v ns) os)) ≡ count x (texts (name_entries os))
  unfolding operation_in operation_inside operation_with
  operations_times x [] = refl
  operations_times x (o ∷ os) = omega (arith, hit_same x o.name.text, operations_times x os)

  operations_written : (os : List RawOperation) → AreWritten (map (λ (o : Operation). o.name) (map (operation_in v ns) os))
  unfolding operation_in operation_inside operation_with
  operations_written [] = tt
  operations_written (o ∷ os) = (refl, operations_written os)

  pub operations_new : (os : List RawOperation) → Clean (operation_names_fault [] os) → AreNew [] (map (λ (o : Operation). o.name) (map (operation_in v ns) os))
  operations_new os h = are_new [] (map (λ (o : Operation). o.name) (map (operation_in v ns) os)) (operations_written os)
      (λ x. let a = new_distinct [] (name_entries os) (λ x. omega arith) (names_new os [] h) x in let b = operations_times x os in omega (arith, a, b))

  -- the operation at a place is that of the text there
  pub record AtOperation (os : List RawOperation) (o : Operation) : Type 0 where
    pub raw : RawOperation
    pub is : operation_in v ns raw ≡ o
    pub written : IsWrittenOperation raw
    pub clean : Clean (operation_fault v ns raw)

  pub operation_at : (os : List RawOperation) → AreWrittenOperations os → Clean (operations_fault v ns os) → (j : ℕ) (o : Operation) → IsAt (map (operation_in v ns) os) j o → AtOperation os o
  operation_at [] w h j o e = let no : ⊥ = cc in absurd no
  operation_at (r ∷ os) w h zero o e = record { raw = r; is = same_Some _ _ e; written = w.0; clean = h.0 }
  operation_at (r ∷ os) w h (suc j) o e = let k = operation_at os w.1 h.1 j o e in record { raw = k.raw; is = k.is; written = k.written; clean = k.clean }
