-- No global name of a text without a fault stands twice.
use Rattle.std.proofs.Common.{◌≡◌, ℕ, ◌+◌, ◌≤◌, ℤ, Bool, true, false, List, [], ◌∷◌, ◌++◌, map, flat_map, refl, sym, ap, ◌∙◌, subst, arith, bytes_eq, append_assoc}
use Rattle.cb_lex.specs.declared.raw.name.RawName.{RawName}
use Rattle.cb_lex.specs.declared.raw.text.RawMachine.{RawMachine}
use Rattle.cb_lex.specs.declared.raw.text.RawSet.{RawSet}
use Rattle.cb_term.specs.declared.name.Name.{Name}
use Rattle.cb_term.specs.declared.table.SetNames.{SetNames}
use Rattle.cb_term.specs.Names.{same_name}
use Rattle.cb_spec.specs.declared.system.Machine.{Machine}
use Rattle.cb_spec.specs.Bound.{names}
use Rattle.cb_judge.specs.Meanings.{Names}
use Rattle.cb_normal.specs.Normal.{written}
use Rattle.cb_types.specs.declared.declare.Sort.{Sort}
use Rattle.cb_types.specs.declared.declare.Sort.TheVariants as sort
use Rattle.cb_types.specs.Declares.{Numbers, Domains, next, numbers_from, own_domains, variables_of, after_sets, reserved}
use Rattle.cb_types.specs.NormalMachines.{written_name, declared_name, machine_in, machines_in, set_in, constant_in, sets_of, constants_of, machine_with}
use Rattle.cb_typing.proofs.Under.{same_written}
use Rattle.cb_typing.proofs.Counts.{hit, count, count_append, Distinct, texts, texts_append, times, times_append, AreWritten, written_append}
use Rattle.cb_typing.proofs.Declared.{entries, set_entries, constant_entries, static_entries, variable_entries, machine_entries, text_entries}

pub hit_same : (x y : List ℕ) → hit (same_name (written x) (written y)) ≡ hit (bytes_eq x y)
hit_same x y = ap hit (same_written x y)

-- ---- names of one list

names_times : (x : List ℕ) (s : Sort) (ns : Numbers) (ds : Domains) (i : ℕ) (xs : List RawName) → times x (map written_name xs) ≡ count x (texts (entries s ns ds i xs))
names_times x s ns ds i [] = refl
names_times x s ns ds i (y ∷ ys) = omega (arith, hit_same x y.text, names_times x s ns ds (next i) ys)

constants_times : (x : List ℕ) (ns : Numbers) (owner : ℕ) (i : ℕ) (xs : List RawName) → times x (map (λ (c : Name × ℤ). c.0) (map (constant_in ns) xs)) ≡ count x (texts (entries (sort.Constant owner) ns [] i xs))
unfolding constant_in
constants_times x ns owner i [] = refl
constants_times x ns owner i (y ∷ ys) = omega (arith, hit_same x y.text, constants_times x ns owner (next i) ys)

variables_times : (x : List ℕ) (ds : Domains) (owner : ℕ) (i : ℕ) (xs : List RawName) → times x (names (map (declared_name ds) xs)) ≡ count x (texts (entries (sort.Variable owner) [] ds i xs))
unfolding declared_name
variables_times x ds owner i [] = refl
variables_times x ds owner i (y ∷ ys) = omega (arith, hit_same x y.text, variables_times x ds owner (next i) ys)

pub count_parts : (x : List ℕ) (a b : Names) → count x (texts (a ++ b)) ≡ count x (texts a) + count x (texts b)
count_parts x a b = ap (count x) (texts_append a b) ∙ count_append x (texts a) (texts b)

abbrev pub set_name_list : List SetNames → List Name
set_name_list ss = map (λ (s : SetNames). s.name) ss

abbrev pub element_list : List SetNames → List Name
element_list ss = flat_map (λ (s : SetNames). s.elements) ss

sets_times : (x : List ℕ) (owner k : ℕ) (ss : List RawSet) → times x (set_name_list (map set_in ss)) + times x (element_list (map set_in ss)) ≡ count x (texts (set_entries owner k ss))
unfolding set_in
sets_times x owner k [] = refl
sets_times x owner k (s ∷ ss) =
    let a = names_times x (sort.Element owner k) [] [] 0 s.elements in
    let b = times_append x (map written_name s.elements) (element_list (map set_in ss)) in
    let c = count_parts x (entries (sort.Element owner k) [] [] 0 s.elements) (set_entries owner (next k) ss) in
    omega (arith, hit_same x s.name.text, a, b, c, sets_times x owner (next k) ss)

-- ---- lists in parts

module _ {A : Type 0} {B : Type 0} where
  map_parts : (f : A → B) (xs ys : List A) → map f (xs ++ ys) ≡ map f xs ++ map f ys
  map_parts f [] ys = refl
  map_parts f (x ∷ xs) ys = ap (λ zs. f x ∷ zs) (map_parts f xs ys)

set_names_parts : (x : List ℕ) (a b : List SetNames) → times x (set_name_list (a ++ b)) ≡ times x (set_name_list a) + times x (set_name_list b)
set_names_parts x [] b = omega arith
set_names_parts x (s ∷ a) b = omega (arith, set_names_parts x a b)

elements_parts : (x : List ℕ) (a b : List SetNames) → times x (element_list (a ++ b)) ≡ times x (element_list a) + times x (element_list b)
elements_parts x [] b = omega arith
elements_parts x (s ∷ a) b = omega (arith, times_append x s.elements (element_list (a ++ b)), times_append x s.elements (element_list a), elements_parts x a b)

constants_parts : (x : List ℕ) (a b : List (Name × ℤ)) → times x (map (λ (c : Name × ℤ). c.0) (a ++ b)) ≡ times x (map (λ (c : Name × ℤ). c.0) a) + times x (map (λ (c : Name × ℤ). c.0) b)
constants_parts x [] b = omega arith
constants_parts x (c ∷ a) b = omega (arith, constants_parts x a b)

-- ---- the whole text

abbrev pub machine_name_list : List Machine → List Name
machine_name_list ms = map (λ (m : Machine). m.name) ms

abbrev pub variable_list : List Machine → List Name
variable_list ms = flat_map (λ (m : Machine). names m.variables) ms

pub text_times : (x : List ℕ) (known all : Names) (owner k : ℕ) (ms : List RawMachine) →
    times x (set_name_list (sets_of ms)) + times x (element_list (sets_of ms)) + times x (map (λ (c : Name × ℤ). c.0) (constants_of ms))
    + times x (machine_name_list (machines_in known all owner ms)) + times x (variable_list (machines_in known all owner ms)) ≡ count x (texts (text_entries known owner k ms))
unfolding machine_in machine_with
text_times x known all owner k [] = refl
text_times x known all owner k (m ∷ ms) =
    let rest = text_times x known all (next owner) (after_sets k m.sets) ms in
    let a = set_names_parts x (map set_in m.sets) (sets_of ms) in
    let b = elements_parts x (map set_in m.sets) (sets_of ms) in
    let c = constants_parts x (map (constant_in (numbers_from [] m.properties)) m.constants) (constants_of ms) in
    let d = times_append x (names (map (declared_name (own_domains known owner m)) (variables_of m.state))) (variable_list (machines_in known all (next owner) ms)) in
    let e = sets_times x owner k m.sets in
    let f = constants_times x (numbers_from [] m.properties) owner 0 m.constants in
    let g = variables_times x (own_domains known owner m) owner 0 (variables_of m.state) in
    let h = count_parts x (machine_entries known owner k m) (text_entries known (next owner) (after_sets k m.sets) ms) in
    let i = count_parts x (static_entries owner k m) (variable_entries known owner m) in
    let j = count_parts x (set_entries owner k m.sets) (constant_entries owner m) in
    omega (arith, hit_same x m.name.text, rest, a, b, c, d, e, f, g, h, i, j)

-- ---- written names

names_written : (xs : List RawName) → AreWritten (map written_name xs)
names_written [] = tt
names_written (x ∷ xs) = (refl, names_written xs)

sets_written : (ss : List RawSet) → AreWritten (set_name_list (map set_in ss))
unfolding set_in
sets_written [] = tt
sets_written (s ∷ ss) = (refl, sets_written ss)

pub all_sets_written : (ms : List RawMachine) → AreWritten (set_name_list (sets_of ms))
all_sets_written [] = tt
all_sets_written (m ∷ ms) = subst AreWritten (sym (map_parts (λ (s : SetNames). s.name) (map set_in m.sets) (sets_of ms))) (written_append (set_name_list (map set_in m.sets)) (set_name_list (sets_of ms)) (sets_written m.sets) (all_sets_written ms))

flat_parts : (a b : List SetNames) → element_list (a ++ b) ≡ element_list a ++ element_list b
flat_parts [] b = refl
flat_parts (s ∷ a) b = ap (λ ns. s.elements ++ ns) (flat_parts a b) ∙ sym (append_assoc s.elements (element_list a) (element_list b))

elements_written : (ss : List RawSet) → AreWritten (element_list (map set_in ss))
unfolding set_in
elements_written [] = tt
elements_written (s ∷ ss) = written_append (map written_name s.elements) (element_list (map set_in ss)) (names_written s.elements) (elements_written ss)

pub all_elements_written : (ms : List RawMachine) → AreWritten (element_list (sets_of ms))
all_elements_written [] = tt
all_elements_written (m ∷ ms) = subst AreWritten (sym (flat_parts (map set_in m.sets) (sets_of ms))) (written_append (element_list (map set_in m.sets)) (element_list (sets_of ms)) (elements_written m.sets) (all_elements_written ms))

constants_written : (ns : Numbers) (xs : List RawName) → AreWritten (map (λ (c : Name × ℤ). c.0) (map (constant_in ns) xs))
unfolding constant_in
constants_written ns [] = tt
constants_written ns (x ∷ xs) = (refl, constants_written ns xs)

pub all_constants_written : (ms : List RawMachine) → AreWritten (map (λ (c : Name × ℤ). c.0) (constants_of ms))
all_constants_written [] = tt
all_constants_written (m ∷ ms) =
    subst AreWritten (sym (map_parts (λ (c : Name × ℤ). c.0) (map (constant_in (numbers_from [] m.properties)) m.constants) (constants_of ms)))
    (written_append (map (λ (c : Name × ℤ). c.0) (map (constant_in (numbers_from [] m.properties)) m.constants)) (map (λ (c : Name × ℤ). c.0) (constants_of ms))
    (constants_written (numbers_from [] m.properties) m.constants) (all_constants_written ms))

pub machines_written : (known all : Names) (owner : ℕ) (ms : List RawMachine) → AreWritten (machine_name_list (machines_in known all owner ms))
unfolding machine_in machine_with
machines_written known all owner [] = tt
machines_written known all owner (m ∷ ms) = (refl, machines_written known all (next owner) ms)

pub declared_written : (ds : Domains) (xs : List RawName) → AreWritten (names (map (declared_name ds) xs))
unfolding declared_name
declared_written ds [] = tt
declared_written ds (x ∷ xs) = (refl, declared_written ds xs)

pub variables_written : (known all : Names) (owner : ℕ) (ms : List RawMachine) → AreWritten (variable_list (machines_in known all owner ms))
unfolding machine_in machine_with
variables_written known all owner [] = tt
variables_written known all owner (m ∷ ms) =
    written_append (names (map (declared_name (own_domains known owner m)) (variables_of m.state))) (variable_list (machines_in known all (next owner) ms))
    (declared_written (own_domains known owner m) (variables_of m.state)) (variables_written known all (next owner) ms)

hit_small : (b : Bool) → hit b ≤ 1
hit_small true = omega arith
hit_small false = omega arith

pub reserved_distinct : Distinct (texts reserved)
reserved_distinct x = let h = hit_small (bytes_eq x (97 ∷ 110 ∷ 121 ∷ [])) in omega (arith, h)
