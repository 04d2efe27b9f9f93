-- Maps from names to values, as lists: of two pairs with one name the first counts. What a name stands for in a map, and
-- where it is written over a look-up.
use Rattle.std.specs.Prelude.{◌≡◌, Option, None, Some, List, [], ◌∷◌, if◌then◌else◌, ⊤}
use Rattle.std.specs.declared.cmp.Ordering.TheVariants.{Less}
use Rattle.std.specs.declared.cmp.Ordering.{Ordering}
use Rattle.std.specs.Ordering.{ordering_then, nat_cmp}
use Rattle.std.specs.Cmp.Lexicographic.{slice_cmp}
use Rattle.cb_term.specs.declared.name.Name.{Name}
use Rattle.cb_term.specs.declared.value.Value.{Value}
use Rattle.cb_term.specs.Names.{same_name}
use Rattle.cb_term.specs.Values.{Look, nothing, set_at}

-- names with values
abbrev pub Writes : Type 0
Writes = List (Name × Value)

-- the value that the map has for the name
abbrev pub found : Writes → Name → Option Value
found [] y = None
found (p ∷ d) y = if same_name y p.0 then Some p.1 else found d y

-- the look-up with the map written over it
abbrev pub over : Writes → Look → Look
over [] look = look
over (p ∷ d) look = set_at (over d look) p.0 p.1

-- without names, each counts as the number 0
abbrev pub empty : Look
empty y = nothing

abbrev pub look_of : Writes → Look
look_of d = over d empty

-- the maps have the same values for the same names
abbrev pub SameMap : Writes → Writes → Type 0
SameMap d e = (y : Name) → found d y ≡ found e y

-- the map `new` has v for x, and else what `old` has
pub record Puts (old new : Writes) (x : Name) (v : Value) : Type 0 where
  pub found_is : (y : Name) → found new y ≡ (if same_name y x then Some v else found old y)
  pub look_is : look_of new ≡ set_at (look_of old) x v

-- ---- the order of a store: by the names' letters, then by their numbers

abbrev pub name_order : Name → Name → Ordering
name_order x y = ordering_then (slice_cmp nat_cmp x.text y.text) (nat_cmp x.number y.number)

-- each name of the map comes after x
abbrev pub AllAfter : Name → Writes → Type 0
AllAfter x [] = ⊤
AllAfter x (p ∷ d) = (name_order x p.0 ≡ Less) × AllAfter x d

-- each name comes before those that stand behind it
abbrev pub IsAscending : Writes → Type 0
IsAscending [] = ⊤
IsAscending (p ∷ d) = AllAfter p.0 d × IsAscending d
