-- A text without a fault is a typed system.
use Rattle.std.proofs.Common.{◌≡◌, ℕ, zero, suc, ◌+◌, ◌≤◌, ◌<◌, List, [], ◌∷◌, ◌++◌, map, length, Some, refl, sym, ap, ◌∙◌, subst, arith, slice_get}
use Rattle.std.proofs.lemmas.Bool.{ltb-false}
use Rattle.std.proofs.lemmas.Option.{same_Some}
use Rattle.cb_lex.specs.declared.raw.text.RawMachine.{RawMachine}
use Rattle.cb_lex.specs.declared.raw.text.RawSet.{RawSet}
use Rattle.cb_term.specs.declared.table.SetNames.{SetNames}
use Rattle.cb_spec.specs.declared.system.Machine.{Machine}
use Rattle.cb_spec.specs.States.{IsAt}
use Rattle.cb_judge.specs.Meanings.{Names}
use Rattle.cb_types.specs.declared.declare.Sort.TheVariants as sort
use Rattle.cb_types.specs.Declares.{next, declared, with_set_name, with_machine_name, with_statics, with_variables, after_sets, sets_fault, names_fault}
use Rattle.cb_types.specs.MachineFaults.{machine_fault, machines_fault}
use Rattle.cb_types.specs.NormalMachines.{set_in, sets_of, machine_in, machines_in}
use Rattle.cb_typing.specs.WrittenText.{FitsNumbers, AreWrittenSets, IsWrittenMachine, AreWrittenMachines}
use Rattle.cb_typing.proofs.Clean.{Clean, not_bad}
use Rattle.cb_typing.proofs.Entries.{set_length, next_is}

-- ---- sizes of sets

abbrev pub HasSize : SetNames → Type 0
HasSize s = (0 < length s.elements) × (length s.elements ≤ 256)

abbrev pub HaveSizes : List SetNames → Type 0
HaveSizes [] = Unit {0}
HaveSizes (s ∷ ss) = HasSize s × HaveSizes ss

sizes_append : (a b : List SetNames) → HaveSizes a → HaveSizes b → HaveSizes (a ++ b)
sizes_append [] b h k = k
sizes_append (s ∷ a) b h k = (h.0, sizes_append a b h.1 k)

pub size_at : (ss : List SetNames) → HaveSizes ss → (k : ℕ) (s : SetNames) → IsAt ss k s → HasSize s
size_at [] h k s e = let no : ⊥ = cc in absurd no
size_at (t ∷ ss) h zero s e = let j : t ≡ s = same_Some t s e in subst HasSize j h.0
size_at (t ∷ ss) h (suc k) s e = size_at ss h.1 k s e

machine_sizes : (owner : ℕ) (ss : List RawSet) (k : ℕ) (w : Names) → AreWrittenSets ss → Clean (sets_fault owner k w ss) → HaveSizes (map set_in ss)
machine_sizes owner [] k w a h = tt
machine_sizes owner (s ∷ ss) k w a h =
    let q = set_length s in
    let l = ltb-false 256 (length s.elements) (not_bad _ 12 s.name.place h.0.0.1) in
    let p = a.0 in
    ((omega (arith, q, p), omega (arith, q, l)), machine_sizes owner ss (next k) (declared (sort.Element owner k) [] [] 0 (with_set_name owner k s w) s.elements) a.1 h.1)

pub text_sizes : (known : Names) (ms : List RawMachine) (owner k : ℕ) (w : Names) → AreWrittenMachines ms → Clean (names_fault known owner k w ms) → HaveSizes (sets_of ms)
text_sizes known [] owner k w a h = tt
text_sizes known (m ∷ ms) owner k w a h =
    sizes_append (map set_in m.sets) (sets_of ms) (machine_sizes owner m.sets k (with_machine_name owner m.name w) a.0.sets h.0.0.1.0)
    (text_sizes known ms (next owner) (after_sets k m.sets) (with_variables known owner (with_statics owner k w m) m) a.1 h.1)

-- ---- machines

-- the machine at a place is that of the text there
pub record AtMachine (known all : Names) (ms : List RawMachine) (owner i : ℕ) (m : Machine) : Type 0 where
  pub raw : RawMachine
  pub there : slice_get ms i ≡ Some raw
  pub is : machine_in known all (owner + i) raw ≡ m
  pub written : IsWrittenMachine raw
  pub clean : Clean (machine_fault known all (owner + i) raw)

pub machine_at : (known all : Names) (ms : List RawMachine) (owner : ℕ) → FitsNumbers (owner + length ms) → AreWrittenMachines ms → Clean (machines_fault known all owner ms) →
    (i : ℕ) (m : Machine) → IsAt (machines_in known all owner ms) i m → AtMachine known all ms owner i m
machine_at known all [] owner f w h i m e = let no : ⊥ = cc in absurd no
machine_at known all (r ∷ ms) owner f w h zero m e =
    let q : owner ≡ owner + 0 = omega arith in
    record {
      raw = r;
      there = refl;
      is = ap (λ o. machine_in known all o r) (sym q) ∙ same_Some _ _ e;
      written = w.0;
      clean = subst (λ o. Clean (machine_fault known all o r)) q h.0;
    }
machine_at known all (r ∷ ms) owner f w h (suc i) m e =
    let s : next owner ≡ owner + 1 = next_is owner (owner + length (r ∷ ms)) (omega arith) f in
    let q : next owner + i ≡ owner + suc i = omega (arith, s) in
    let k = machine_at known all ms (next owner) (omega (arith, f, s)) w.1 h.1 i m e in
    record {
      raw = k.raw;
      there = k.there;
      is = ap (λ o. machine_in known all o k.raw) (sym q) ∙ k.is;
      written = k.written;
      clean = subst (λ o. Clean (machine_fault known all o k.raw)) q k.clean;
    }

pub machines_count : (known all : Names) (owner : ℕ) (ms : List RawMachine) → length (machines_in known all owner ms) ≡ length ms
machines_count known all owner [] = refl
machines_count known all owner (m ∷ ms) = ap suc (machines_count known all (next owner) ms)
