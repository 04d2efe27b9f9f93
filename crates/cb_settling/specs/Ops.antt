-- Stores in which parameters have places.
use Rattle.std.specs.Prelude.{ℕ, ◌≡◌, ◌≤◌, true, false, List, length, drop, take, map, IsSome}
use Rattle.cb_term.specs.declared.name.Name.{Name}
use Rattle.cb_term.specs.Values.{Look, nothing}
use Rattle.cb_term.specs.declared.value.Value.{Value}
use Rattle.cb_spec.specs.declared.system.Declared.{Declared}
use Rattle.cb_spec.specs.Stores.{Writes, found, over, look_of}
use Rattle.cb_spec.specs.Bound.{is_among, names, bind}

-- the store has each of the names
abbrev pub AllThere : List Name → Writes → Type 0
AllThere xs d = (x : Name) → is_among x xs ≡ true → IsSome (found d x)

-- other names stand for the same
abbrev pub SameBut : List Name → Look → Look → Type 0
SameBut xs old new = (x : Name) → is_among x xs ≡ false → new x ≡ old x

-- the names stand for 0, as if the store did not have them
abbrev pub AllNothing : List Name → Look → Type 0
AllNothing xs look = (x : Name) → is_among x xs ≡ true → look x ≡ nothing

-- parameters have places in the store, at rest
pub record HasRoom (xs : List Name) (d : Writes) : Type 0 where
  pub there : AllThere xs d
  pub at_rest : AllNothing xs (look_of d)

-- no name is lost
abbrev pub KeepsNames : Writes → Writes → Type 0
KeepsNames old new = (x : Name) → IsSome (found old x) → IsSome (found new x)

-- the parameters from `left` on have the arguments' values
pub record PutFrom (ps : List Declared) (args : List Value) (start now : Writes) (left : ℕ) : Type 0 where
  pub within : left ≤ length ps
  pub put : look_of now ≡ over (bind (names (drop left ps)) (drop left args)) (look_of start)
  pub others : SameBut (names ps) (look_of start) (look_of now)
  pub names_kept : KeepsNames start now

-- they stand for 0
pub record ClearedFrom (ps : List Declared) (start now : Writes) (left : ℕ) : Type 0 where
  pub within : left ≤ length ps
  pub zero : AllNothing (names (drop left ps)) (look_of now)
  pub others : SameBut (names ps) (look_of start) (look_of now)
  pub names_kept : KeepsNames start now

-- the entries from `left` on are written over
pub record WrittenFrom (es : Writes) (start now : Writes) (values : List Value) (left : ℕ) : Type 0 where
  pub within : left ≤ length es
  pub look : look_of now ≡ over (drop left es) (look_of start)
  pub names_kept : KeepsNames start now
  pub rest : values ≡ map (λ (e : Name × Value). e.1) (take left es)
