-- What is so of each entry of a text's names.
use Rattle.std.proofs.Common.{◌≡◌, ℕ, zero, suc, ◌+◌, ◌-◌, ◌≤◌, ◌<◌, ◌^◌, nat_lt, ℤ, Bool, true, false, List, [], ◌∷◌, ◌++◌, map, length, Some, is_some, refl, sym, ap, ◌∙◌, subst, if◌then◌else◌, arith, slice_get}
use Rattle.std.proofs.lemmas.Option.{same_Some, slice_get_within}
use Rattle.std.proofs.lemmas.Bool.{ltb-false}
use Rattle.std.proofs.lemmas.List.{length-map}
use Rattle.cb_lex.specs.declared.raw.name.RawName.{RawName}
use Rattle.cb_lex.specs.declared.raw.text.RawMachine.{RawMachine}
use Rattle.cb_lex.specs.declared.raw.text.RawSet.{RawSet}
use Rattle.cb_term.specs.declared.table.SetNames.{SetNames}
use Rattle.cb_forms.specs.Find.{found, inside}
use Rattle.cb_judge.specs.declared.names.Entry.{Entry}
use Rattle.cb_judge.specs.declared.names.Meaning.TheVariants as meaning
use Rattle.cb_judge.specs.Meanings.{Names}
use Rattle.cb_judge.specs.Judged.{entry}
use Rattle.cb_types.specs.declared.declare.Sort.{Sort}
use Rattle.cb_types.specs.declared.declare.Sort.TheVariants as sort
use Rattle.cb_types.specs.Declares.{Numbers, Domains, next, or_zero, numbers_from, meaning_of, with_entry, with_name, declared, with_set_name, with_sets, after_sets, with_machine_name, with_statics, statics_of}
use Rattle.cb_types.specs.NormalMachines.{written_name, set_in, sets_of}
use Rattle.cb_typing.specs.WrittenText.{FitsNumbers, AreWrittenSets, AreWrittenMachines}
use Rattle.cb_typing.proofs.Counts.{Each, each_append}
use Rattle.cb_typing.proofs.Declared.{entries, set_entries, constant_entries, static_entries, variable_entries, machine_entries, text_entries, statics_entries}

-- ---- entries of a list, and of machines

pub each_entries : (P : List ℕ → Entry → Type 0) (s : Sort) (ns : Numbers) (ds : Domains) → ((i : ℕ) (x : RawName) → P x.text (entry (meaning_of s ns ds i x) x.place)) → (i : ℕ) (xs : List RawName) → Each P (entries s ns ds i xs)
each_entries P s ns ds h i [] = tt
each_entries P s ns ds h i (x ∷ xs) = (h i x, each_entries P s ns ds h (next i) xs)

module _ (P : List ℕ → Entry → Type 0) where
  pub each_front : (a b : Names) → Each P (a ++ b) → Each P a
  each_front [] b h = tt
  each_front (e ∷ a) b h = (h.0, each_front a b h.1)

  pub each_back : (a b : Names) → Each P (a ++ b) → Each P b
  each_back [] b h = h
  each_back (e ∷ a) b h = each_back a b h.1

  -- statics are a part
  pub each_static : (known : Names) (owner k : ℕ) (ms : List RawMachine) → Each P (text_entries known owner k ms) → Each P (statics_entries owner k ms)
  each_static known owner k [] h = tt
  each_static known owner k (m ∷ ms) h =
      let a = each_front (machine_entries known owner k m) (text_entries known (next owner) (after_sets k m.sets) ms) h in
      let b = each_back (machine_entries known owner k m) (text_entries known (next owner) (after_sets k m.sets) ms) h in
      each_append P (static_entries owner k m) (statics_entries (next owner) (after_sets k m.sets) ms) (each_front (static_entries owner k m) (variable_entries known owner m) a)
      (each_static known (next owner) (after_sets k m.sets) ms b)

  -- a table with more names, each of which is so
  inside_each : (x : List ℕ) (e : Entry) (w : Names) → P x e → Each P w → Each P (inside x e w)
  inside_each x e w p h = by (is_some (found x w))
    where
      by : (b : Bool) → Each P (if b then w else w ++ (x, e) ∷ [])
      by true = h
      by false = each_append P w ((x, e) ∷ []) h (p, tt)

  declared_each : (s : Sort) (ns : Numbers) (ds : Domains) → ((x : List ℕ) (e : Entry) (w : Names) → with_entry s x e w ≡ inside x e w) → (xs : List RawName) (i : ℕ) (w : Names) →
      Each P w → Each P (entries s ns ds i xs) → Each P (declared s ns ds i w xs)
  declared_each s ns ds global [] i w h k = h
  declared_each s ns ds global (x ∷ xs) i w h k =
      let e = entry (meaning_of s ns ds i x) x.place in
      declared_each s ns ds global xs (next i) (with_name s ns ds i x w) (subst (Each P) (sym (global x.text e w)) (inside_each x.text e w k.0 h)) k.1

  sets_each : (owner : ℕ) (ss : List RawSet) (k : ℕ) (w : Names) → Each P w → Each P (set_entries owner k ss) → Each P (with_sets owner k w ss)
  sets_each owner [] k w h p = h
  sets_each owner (s ∷ ss) k w h p =
      let a = inside_each s.name.text (entry (meaning.Set owner k (length s.elements)) s.name.place) w p.0 h in
      let b = declared_each (sort.Element owner k) [] [] (λ x e w. refl) s.elements 0 (with_set_name owner k s w) a (each_front (entries (sort.Element owner k) [] [] 0 s.elements) (set_entries owner (next k) ss) p.1) in
      sets_each owner ss (next k) (declared (sort.Element owner k) [] [] 0 (with_set_name owner k s w) s.elements) b (each_back (entries (sort.Element owner k) [] [] 0 s.elements) (set_entries owner (next k) ss) p.1)

  pub statics_each : (owner k : ℕ) (w : Names) (m : RawMachine) → Each P w → Each P (static_entries owner k m) → Each P (with_statics owner k w m)
  statics_each owner k w m h p =
      let a = inside_each m.name.text (entry (meaning.Machine owner) m.name.place) w p.0 h in
      let b = sets_each owner m.sets k (with_machine_name owner m.name w) a (each_front (set_entries owner k m.sets) (constant_entries owner m) p.1) in
      declared_each (sort.Constant owner) (numbers_from [] m.properties) [] (λ x e w. refl) m.constants 0 (with_sets owner k (with_machine_name owner m.name w) m.sets) b (each_back (set_entries owner k m.sets) (constant_entries owner m) p.1)

  pub known_each : (ms : List RawMachine) (owner k : ℕ) (w : Names) → Each P w → Each P (statics_entries owner k ms) → Each P (statics_of owner k w ms)
  known_each [] owner k w h p = h
  known_each (m ∷ ms) owner k w h p =
      known_each ms (next owner) (after_sets k m.sets) (with_statics owner k w m) (statics_each owner k w m h (each_front (static_entries owner k m) (statics_entries (next owner) (after_sets k m.sets) ms) p))
      (each_back (static_entries owner k m) (statics_entries (next owner) (after_sets k m.sets) ms) p)

-- ---- numbers of sets

pub next_is : (k n : ℕ) → k < n → FitsNumbers n → next k ≡ k + 1
next_is k n h f = by (nat_lt k (2 ^ 32 - 1)) refl
  where
    by : (b : Bool) → nat_lt k (2 ^ 32 - 1) ≡ b → (if b then k + 1 else k) ≡ k + 1
    by true e = refl
    by false e = absurd (omega (arith, h, f, ltb-false k (2 ^ 32 - 1) e))

next_small : (k : ℕ) → next k ≤ k + 1
next_small k = by (nat_lt k (2 ^ 32 - 1))
  where
    by : (b : Bool) → (if b then k + 1 else k) ≤ k + 1
    by true = omega arith
    by false = omega arith

-- ---- the entries of a text by their kinds

-- the sets of the text have these sizes
abbrev pub lengths : List SetNames → List ℕ
lengths ss = map (λ (s : SetNames). length s.elements) ss

pub record Sets (P : List ℕ → Entry → Type 0) (sizes : List ℕ) : Type 0 where
  pub set : (x : RawName) (owner k size : ℕ) → slice_get sizes k ≡ Some size → 0 < size → P x.text (entry (meaning.Set owner k size) x.place)
  pub element : (x : RawName) (owner k size i : ℕ) → slice_get sizes k ≡ Some size → i < size → P x.text (entry (meaning.Element owner k i) x.place)

-- from place k on, the list is the other
abbrev pub Window : List ℕ → ℕ → List ℕ → Type 0
Window sizes k ns = (i n : ℕ) → slice_get ns i ≡ Some n → slice_get sizes (k + i) ≡ Some n

window_head : (sizes : List ℕ) (k n : ℕ) (ns : List ℕ) → Window sizes k (n ∷ ns) → slice_get sizes k ≡ Some n
window_head sizes k n ns w = let q : k + 0 ≡ k = omega arith in ap (slice_get sizes) (sym q) ∙ w 0 n refl

window_tail : (sizes : List ℕ) (k n : ℕ) (ns : List ℕ) → Window sizes k (n ∷ ns) → Window sizes (k + 1) ns
window_tail sizes k n ns w i m e = let q : k + 1 + i ≡ k + suc i = omega arith in ap (slice_get sizes) q ∙ w (suc i) m e

window_front : (sizes : List ℕ) (k : ℕ) (a b : List ℕ) → Window sizes k (a ++ b) → Window sizes k a
window_front sizes k [] b w i n e = let no : ⊥ = cc in absurd no
window_front sizes k (x ∷ a) b w zero n e = w 0 n e
window_front sizes k (x ∷ a) b w (suc i) n e =
    let q : k + suc i ≡ k + 1 + i = omega arith in
    ap (slice_get sizes) q ∙ window_front sizes (k + 1) a b (window_tail sizes k x (a ++ b) w) i n e

window_back : (sizes : List ℕ) (k : ℕ) (a b : List ℕ) → Window sizes k (a ++ b) → Window sizes (k + length a) b
window_back sizes k [] b w i n e = let q : k + 0 + i ≡ k + i = omega arith in ap (slice_get sizes) q ∙ w i n e
window_back sizes k (x ∷ a) b w i n e =
    let q : k + suc (length a) + i ≡ k + 1 + length a + i = omega arith in
    ap (slice_get sizes) q ∙ window_back sizes (k + 1) a b (window_tail sizes k x (a ++ b) w) i n e

lengths_parts : (a b : List SetNames) → lengths (a ++ b) ≡ lengths a ++ lengths b
lengths_parts [] b = refl
lengths_parts (s ∷ a) b = ap (λ ns. length s.elements ∷ ns) (lengths_parts a b)

lengths_count : (ss : List RawSet) → length (lengths (map set_in ss)) ≡ length ss
lengths_count [] = refl
lengths_count (s ∷ ss) = ap suc (lengths_count ss)

pub set_length : (s : RawSet) → length (set_in s).elements ≡ length s.elements
unfolding set_in
set_length s = length-map s.elements written_name

module _ (P : List ℕ → Entry → Type 0) (sizes : List ℕ) (fits : FitsNumbers (length sizes)) (p : Sets P sizes) where
  elements_each : (owner k size : ℕ) → slice_get sizes k ≡ Some size → (xs : List RawName) (i : ℕ) → i + length xs ≤ size → Each P (entries (sort.Element owner k) [] [] i xs)
  elements_each owner k size e [] i l = tt
  elements_each owner k size e (x ∷ xs) i l = (p.element x owner k size i e (omega (arith, l)), elements_each owner k size e xs (next i) (omega (arith, l, next_small i)))

  next_set : (k n : ℕ) → slice_get sizes k ≡ Some n → next k ≡ k + 1
  next_set k n e = next_is k (length sizes) (slice_get_within sizes k n e) fits

  set_each : (owner : ℕ) (ss : List RawSet) (k : ℕ) → Window sizes k (lengths (map set_in ss)) → AreWrittenSets ss → Each P (set_entries owner k ss)
  set_each owner [] k w a = tt
  set_each owner (s ∷ ss) k w a =
      let e : slice_get sizes k ≡ Some (length s.elements) = window_head sizes k (length (set_in s).elements) (lengths (map set_in ss)) w ∙ ap Some (set_length s) in
      let t = window_tail sizes k (length (set_in s).elements) (lengths (map set_in ss)) w in (
        p.set s.name owner k (length s.elements) e a.0,
        each_append P (entries (sort.Element owner k) [] [] 0 s.elements) (set_entries owner (next k) ss) (elements_each owner k (length s.elements) e s.elements 0 (omega arith))
            (set_each owner ss (next k) (subst (λ j. Window sizes j (lengths (map set_in ss))) (sym (next_set k (length s.elements) e)) t) a.1),
      )

  after_is : (ss : List RawSet) (k : ℕ) → Window sizes k (lengths (map set_in ss)) → after_sets k ss ≡ k + length ss
  after_is [] k w = omega arith
  after_is (s ∷ ss) k w =
      let e = window_head sizes k (length (set_in s).elements) (lengths (map set_in ss)) w in
      let t = window_tail sizes k (length (set_in s).elements) (lengths (map set_in ss)) w in
      let q = next_set k (length (set_in s).elements) e in
      let r = after_is ss (next k) (subst (λ j. Window sizes j (lengths (map set_in ss))) (sym q) t) in
      omega (arith, q, r)

  -- machines and constants are so, and so are the variables of each machine
  pub record Rest (known : Names) (owner : ℕ) (ms : List RawMachine) : Type 0 where
    pub machine : (x : RawName) (owner : ℕ) → P x.text (entry (meaning.Machine owner) x.place)
    pub constant : (x : RawName) (owner : ℕ) (n : ℤ) → P x.text (entry (meaning.Constant owner n) x.place)
    pub variables : (i : ℕ) (m : RawMachine) → slice_get ms i ≡ Some m → Each P (variable_entries known (owner + i) m)

  pub text_each : (known : Names) (ms : List RawMachine) (owner k : ℕ) → Window sizes k (lengths (sets_of ms)) → FitsNumbers (owner + length ms) → AreWrittenMachines ms → Rest known owner ms → Each P (text_entries known owner k ms)
  text_each known [] owner k w f a r = tt
  text_each known (m ∷ ms) owner k w f a r =
      let v : Window sizes k (lengths (map set_in m.sets) ++ lengths (sets_of ms)) = subst (Window sizes k) (lengths_parts (map set_in m.sets) (sets_of ms)) w in
      let first = window_front sizes k (lengths (map set_in m.sets)) (lengths (sets_of ms)) v in
      let rest = window_back sizes k (lengths (map set_in m.sets)) (lengths (sets_of ms)) v in
      let n : next owner ≡ owner + 1 = next_is owner (owner + length (m ∷ ms)) (omega arith) f in
      let c : k + length (lengths (map set_in m.sets)) ≡ after_sets k m.sets = omega (arith, after_is m.sets k first, lengths_count m.sets) in
      let zero_is : owner + 0 ≡ owner = omega arith in
      let vars : Each P (variable_entries known owner m) = subst (λ o. Each P (variable_entries known o m)) zero_is (r.variables 0 m refl) in
      let own : Each P (machine_entries known owner k m) =
      each_append P (static_entries owner k m) (variable_entries known owner m) (
        r.machine m.name owner,
        each_append P (set_entries owner k m.sets) (constant_entries owner m) (set_each owner m.sets k first a.0.sets)
            (each_entries P (sort.Constant owner) (numbers_from [] m.properties) [] (λ i x. r.constant x owner (or_zero (found x.text (numbers_from [] m.properties)))) 0 m.constants),
      ) vars in
      each_append P (machine_entries known owner k m) (text_entries known (next owner) (after_sets k m.sets) ms) own
      (text_each known ms (next owner) (after_sets k m.sets) (subst (λ j. Window sizes j (lengths (sets_of ms))) c rest) (omega (arith, f, n)) a.1 (record {
        machine = r.machine;
        constant = r.constant;
        variables = λ i m' e.
            let q : owner + suc i ≡ next owner + i = omega (arith, n) in
            subst (λ o. Each P (variable_entries known o m')) q (r.variables (suc i) m' e);
      }))

-- what is so of each entry of a text is so of the variables of each machine
pub each_machine : (P : List ℕ → Entry → Type 0) (known : Names) (ms : List RawMachine) (owner k : ℕ) → FitsNumbers (owner + length ms) → Each P (text_entries known owner k ms) → (i : ℕ) (m : RawMachine) → slice_get ms i ≡ Some m →
    Each P (variable_entries known (owner + i) m)
each_machine P known [] owner k f h i m e = let no : ⊥ = cc in absurd no
each_machine P known (n ∷ ms) owner k f h zero m e =
    let q : owner ≡ owner + 0 = omega arith in
    let j : n ≡ m = same_Some n m e in
    let a = each_front P (machine_entries known owner k n) (text_entries known (next owner) (after_sets k n.sets) ms) h in
    subst (λ o. Each P (variable_entries known o m)) q (subst (λ n. Each P (variable_entries known owner n)) j (each_back P (static_entries owner k n) (variable_entries known owner n) a))
each_machine P known (n ∷ ms) owner k f h (suc i) m e =
    let s : next owner ≡ owner + 1 = next_is owner (owner + length (n ∷ ms)) (omega arith) f in
    let q : next owner + i ≡ owner + suc i = omega (arith, s) in
    subst (λ o. Each P (variable_entries known o m)) q
    (each_machine P known ms (next owner) (after_sets k n.sets) (omega (arith, f, s)) (each_back P (machine_entries known owner k n) (text_entries known (next owner) (after_sets k n.sets) ms) h) i m e)
