-- The names of a text, one after another.
use Rattle.std.proofs.Common.{◌≡◌, ℕ, List, [], ◌∷◌, ◌++◌, length, None, refl, sym, ap, ◌∙◌, subst, append_assoc}
use Rattle.cb_lex.specs.declared.raw.name.RawName.{RawName}
use Rattle.cb_lex.specs.declared.raw.text.RawMachine.{RawMachine}
use Rattle.cb_lex.specs.declared.raw.text.RawSet.{RawSet}
use Rattle.cb_forms.specs.Find.{found, inside, beside}
use Rattle.cb_judge.specs.declared.names.Meaning.{Meaning}
use Rattle.cb_judge.specs.declared.names.Meaning.TheVariants as meaning
use Rattle.cb_judge.specs.Meanings.{Names}
use Rattle.cb_judge.specs.Judged.{entry}
use Rattle.cb_types.specs.declared.declare.Sort.{Sort}
use Rattle.cb_types.specs.declared.declare.Sort.TheVariants as sort
use Rattle.cb_types.specs.Declares.{Numbers, Domains, next, numbers_from, meaning_of, with_entry, with_name, declared, declare_fault, with_set_name, with_sets, sets_fault, after_sets, with_machine_name, with_statics, statics_fault, own_domains, variables_of, with_variables, names_of, globals_fault, names_fault}
use Rattle.cb_typing.proofs.Clean.{Clean}
use Rattle.cb_typing.proofs.Lookups.{inside_new, beside_new}
use Rattle.cb_typing.proofs.Under.{new_name}
use Rattle.cb_typing.proofs.Counts.{AllNew, new_append}

-- ---- the entries that declarations add

abbrev pub entries : Sort → Numbers → Domains → ℕ → List RawName → Names
entries s ns ds i [] = []
entries s ns ds i (x ∷ xs) = (x.text, entry (meaning_of s ns ds i x) x.place) ∷ entries s ns ds (next i) xs

abbrev pub set_entries : ℕ → ℕ → List RawSet → Names
set_entries owner k [] = []
set_entries owner k (s ∷ ss) =
    (s.name.text, entry (meaning.Set owner k (length s.elements)) s.name.place) ∷ (entries (sort.Element owner k) [] [] 0 s.elements ++ set_entries owner (next k) ss)

abbrev pub constant_entries : ℕ → RawMachine → Names
constant_entries owner m = entries (sort.Constant owner) (numbers_from [] m.properties) [] 0 m.constants

abbrev pub static_entries : ℕ → ℕ → RawMachine → Names
static_entries owner k m = (m.name.text, entry (meaning.Machine owner) m.name.place) ∷ (set_entries owner k m.sets ++ constant_entries owner m)

abbrev pub variable_entries : Names → ℕ → RawMachine → Names
variable_entries known owner m = entries (sort.Variable owner) [] (own_domains known owner m) 0 (variables_of m.state)

abbrev pub machine_entries : Names → ℕ → ℕ → RawMachine → Names
machine_entries known owner k m = static_entries owner k m ++ variable_entries known owner m

abbrev pub text_entries : Names → ℕ → ℕ → List RawMachine → Names
text_entries known owner k [] = []
text_entries known owner k (m ∷ ms) = machine_entries known owner k m ++ text_entries known (next owner) (after_sets k m.sets) ms

abbrev pub statics_entries : ℕ → ℕ → List RawMachine → Names
statics_entries owner k [] = []
statics_entries owner k (m ∷ ms) = static_entries owner k m ++ statics_entries (next owner) (after_sets k m.sets) ms

-- ---- where each name is new, the entries are added

nothing : {A : Type 0} (xs : List A) → xs ++ [] ≡ xs
nothing [] = refl
nothing (x ∷ xs) = ap (λ ys. x ∷ ys) (nothing xs)

-- the table is the other with these entries, each of which is new
pub record Adds (w w' D : Names) : Type 0 where
  pub is : w' ≡ w ++ D
  pub new : AllNew w D

pub adds_none : (w : Names) → Adds w w []
adds_none w = record { is = sym (nothing w); new = tt }

pub adds_one : (w : Names) (x : RawName) (m : Meaning) → found x.text w ≡ None → Adds w (inside x.text (entry m x.place) w) ((x.text, entry m x.place) ∷ [])
adds_one w x m h = record { is = inside_new x.text (entry m x.place) w h; new = (h, tt) }

-- a name of any sort
adds_entry : (s : Sort) (w : Names) (x : RawName) (m : Meaning) → found x.text w ≡ None → Adds w (with_entry s x.text (entry m x.place) w) ((x.text, entry m x.place) ∷ [])
adds_entry s w x m h = record { is = by s; new = (h, tt) }
  where
    global : inside x.text (entry m x.place) w ≡ w ++ (x.text, entry m x.place) ∷ []
    global = inside_new x.text (entry m x.place) w h

    local : beside x.text (entry m x.place) w ≡ w ++ (x.text, entry m x.place) ∷ []
    local = beside_new x.text (entry m x.place) w h

    by : (s : Sort) → with_entry s x.text (entry m x.place) w ≡ w ++ (x.text, entry m x.place) ∷ []
    by (sort.Element owner set) = global
    by (sort.Constant owner) = global
    by (sort.Variable owner) = global
    by sort.Parameter = local
    by sort.Result = local

pub adds_then : (w w' w'' D E : Names) → Adds w w' D → Adds w' w'' E → Adds w w'' (D ++ E)
adds_then w w' w'' D E a b = record {
  is = b.is ∙ ap (λ v. v ++ E) a.is ∙ append_assoc w D E;
  new = new_append w D E a.new (subst (λ v. AllNew v E) a.is b.new);
}

pub declared_adds : (s : Sort) (ns : Numbers) (ds : Domains) (xs : List RawName) (i : ℕ) (w : Names) → Clean (declare_fault s ns ds i w xs) → Adds w (declared s ns ds i w xs) (entries s ns ds i xs)
declared_adds s ns ds [] i w h = adds_none w
declared_adds s ns ds (x ∷ xs) i w h =
    adds_then w (with_name s ns ds i x w) (declared s ns ds (next i) (with_name s ns ds i x w) xs) ((x.text, entry (meaning_of s ns ds i x) x.place) ∷ []) (entries s ns ds (next i) xs)
    (adds_entry s w x (meaning_of s ns ds i x) (new_name w x h.0.0)) (declared_adds s ns ds xs (next i) (with_name s ns ds i x w) h.1)

pub sets_add : (owner : ℕ) (ss : List RawSet) (k : ℕ) (w : Names) → Clean (sets_fault owner k w ss) → Adds w (with_sets owner k w ss) (set_entries owner k ss)
sets_add owner [] k w h = adds_none w
sets_add owner (s ∷ ss) k w h =
    let one = adds_one w s.name (meaning.Set owner k (length s.elements)) (new_name w s.name h.0.0.0) in
    let some = declared_adds (sort.Element owner k) [] [] s.elements 0 (with_set_name owner k s w) h.0.1 in
    let rest = sets_add owner ss (next k) (declared (sort.Element owner k) [] [] 0 (with_set_name owner k s w) s.elements) h.1 in
    adds_then w (with_set_name owner k s w) (with_sets owner k w (s ∷ ss)) ((s.name.text, entry (meaning.Set owner k (length s.elements)) s.name.place) ∷ [])
    (entries (sort.Element owner k) [] [] 0 s.elements ++ set_entries owner (next k) ss) one
    (adds_then (with_set_name owner k s w) (declared (sort.Element owner k) [] [] 0 (with_set_name owner k s w) s.elements) (with_sets owner k w (s ∷ ss))
    (entries (sort.Element owner k) [] [] 0 s.elements) (set_entries owner (next k) ss) some rest)

pub statics_add : (owner k : ℕ) (w : Names) (m : RawMachine) → Clean (statics_fault owner k w m) → Adds w (with_statics owner k w m) (static_entries owner k m)
statics_add owner k w m h =
    let one = adds_one w m.name (meaning.Machine owner) (new_name w m.name h.0) in
    let sets = sets_add owner m.sets k (with_machine_name owner m.name w) h.1.0 in
    let constants = declared_adds (sort.Constant owner) (numbers_from [] m.properties) [] m.constants 0 (with_sets owner k (with_machine_name owner m.name w) m.sets) h.1.1 in
    adds_then w (with_machine_name owner m.name w) (with_statics owner k w m) ((m.name.text, entry (meaning.Machine owner) m.name.place) ∷ []) (set_entries owner k m.sets ++ constant_entries owner m) one
    (adds_then (with_machine_name owner m.name w) (with_sets owner k (with_machine_name owner m.name w) m.sets) (with_statics owner k w m) (set_entries owner k m.sets) (constant_entries owner m) sets constants)

pub machine_adds : (known : Names) (owner k : ℕ) (w : Names) (m : RawMachine) → Clean (globals_fault known owner k w m) →
    Adds w (with_variables known owner (with_statics owner k w m) m) (machine_entries known owner k m)
machine_adds known owner k w m h =
    adds_then w (with_statics owner k w m) (with_variables known owner (with_statics owner k w m) m) (static_entries owner k m) (variable_entries known owner m) (statics_add owner k w m h.0)
    (declared_adds (sort.Variable owner) [] (own_domains known owner m) (variables_of m.state) 0 (with_statics owner k w m) h.1)

pub text_adds : (known : Names) (ms : List RawMachine) (owner k : ℕ) (w : Names) → Clean (names_fault known owner k w ms) → Adds w (names_of known owner k w ms) (text_entries known owner k ms)
text_adds known [] owner k w h = adds_none w
text_adds known (m ∷ ms) owner k w h =
    adds_then w (with_variables known owner (with_statics owner k w m) m) (names_of known owner k w (m ∷ ms)) (machine_entries known owner k m) (text_entries known (next owner) (after_sets k m.sets) ms)
    (machine_adds known owner k w m h.0) (text_adds known ms (next owner) (after_sets k m.sets) (with_variables known owner (with_statics owner k w m) m) h.1)
