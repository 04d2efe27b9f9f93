-- Names at values: parameters, inputs, results.
use Rattle.std.specs.Prelude.{ℕ, Bool, false, ◌||◌, if◌then◌else◌, List, [], ◌∷◌, map, ⊤}
use Rattle.cb_term.specs.declared.name.Name.{Name}
use Rattle.cb_term.specs.declared.kind.Kind.{Kind}
use Rattle.cb_term.specs.declared.value.Value.{Value}
use Rattle.cb_term.specs.Names.{same_name}
use Rattle.cb_term.specs.Values.{Look, nothing, IsOf}
use Rattle.cb_spec.specs.declared.system.Declared.{Declared}
use Rattle.cb_spec.specs.Stores.{Writes, over, empty}
use Rattle.cb_spec.specs.Domains.{kind_of_domain, In}

abbrev pub names : List Declared → List Name
names ds = map (λ (d : Declared). d.name) ds

abbrev pub result_names : List (Name × Kind) → List Name
result_names rs = map (λ (r : Name × Kind). r.0) rs

-- whether the name is listed
abbrev pub is_among : Name → List Name → Bool
is_among x [] = false
is_among x (y ∷ ys) = same_name x y || is_among x ys

-- the names at the values, in order
abbrev pub bind : List Name → List Value → Writes
bind [] vs = []
bind (x ∷ xs) [] = (x, nothing) ∷ bind xs []
bind (x ∷ xs) (v ∷ vs) = (x, v) ∷ bind xs vs

-- these names at the values, and no others
abbrev pub bound_look : List Name → List Value → Look
bound_look xs vs = over (bind xs vs) empty

-- the part of what is written that is written to these names
abbrev pub only : {A : Type 0} → List Name → List (Name × A) → List (Name × A)
only xs [] = []
only xs (p ∷ d) = if is_among p.0 xs then p ∷ only xs d else only xs d

-- one value for each declared name, of its kind
abbrev pub AreOfKinds : List ℕ → List Declared → List Value → Type 0
AreOfKinds sizes [] [] = ⊤
AreOfKinds sizes [] (v ∷ vs) = ⊥
AreOfKinds sizes (p ∷ ps) [] = ⊥
AreOfKinds sizes (p ∷ ps) (v ∷ vs) = IsOf sizes (kind_of_domain p.domain) v × AreOfKinds sizes ps vs

-- one value for each declared name, in its domain
abbrev pub AreIn : List ℕ → List Declared → List Value → Type 0
AreIn sizes [] [] = ⊤
AreIn sizes [] (v ∷ vs) = ⊥
AreIn sizes (p ∷ ps) [] = ⊥
AreIn sizes (p ∷ ps) (v ∷ vs) = In sizes p.domain v × AreIn sizes ps vs

-- each declared name has a value of its kind
abbrev pub GivesKinds : List ℕ → List Declared → Look → Type 0
GivesKinds sizes [] look = ⊤
GivesKinds sizes (p ∷ ps) look = IsOf sizes (kind_of_domain p.domain) (look p.name) × GivesKinds sizes ps look
