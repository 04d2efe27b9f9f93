-- Marks: which controllers have a branch of one kind, in their order, and at which of their branches the first is.
use Rattle.std.specs.Prelude.{ℕ, suc, ◌<◌, ◌≤◌, ◌≡◌, Bool, ltb, eqb, ◌&&◌, Option, None, Some, List, [], ◌∷◌, if◌then◌else◌, length}
use Rattle.std.specs.List.{AllWithin, HoldsAt}
use Rattle.cb_offers.specs.declared.offers.Side.{Side}
use Rattle.cb_offers.specs.declared.marks.Mark.{Mark}
use Rattle.cb_offers.specs.Tables.{first_in}

abbrev pub mark_on : ℕ → Option ℕ → List Mark → List Mark
mark_on i None marks = marks
mark_on i (Some b) marks = record { controller = i; branch = b } ∷ marks

-- the marks of the rows, the first of which is controller i's
abbrev pub marks_from : ℕ → (Side → Bool) → List (List Side) → List Mark
marks_from i test [] = []
marks_from i test (row ∷ rows) = mark_on i (first_in test row) (marks_from (suc i) test rows)

-- the marks with this one at its place, unless its controller has one
abbrev pub put_mark : Mark → List Mark → List Mark
put_mark m [] = m ∷ []
put_mark m (n ∷ ns) = if ltb n.controller m.controller then n ∷ put_mark m ns else (if eqb n.controller m.controller then n ∷ ns else m ∷ n ∷ ns)

-- the marks without this one
abbrev pub take_mark : Mark → List Mark → List Mark
take_mark m [] = []
take_mark m (n ∷ ns) = if ltb n.controller m.controller then n ∷ take_mark m ns else (if eqb n.controller m.controller && eqb n.branch m.branch then ns else n ∷ ns)

-- the controller's mark stands there
pub record IsHere (c : ℕ) (marks : List Mark) (p : ℕ) : Type 0 where
  pub before : AllWithin (λ m. m.controller < c) marks 0 p
  pub within : p < length marks
  pub here : HoldsAt (λ m. m.controller ≡ c) marks p

-- it would stand there, and the marks have none
pub record IsGap (c : ℕ) (marks : List Mark) (p : ℕ) : Type 0 where
  pub before : AllWithin (λ m. m.controller < c) marks 0 p
  pub within : p ≤ length marks
  pub after : p < length marks → HoldsAt (λ m. c < m.controller) marks p
