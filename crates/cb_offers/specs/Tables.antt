-- What each controller offers, and which branches meet on a channel.
use Rattle.std.specs.Prelude.{ℕ, suc, ◌<◌, ◌≡◌, ◌≢◌, eqb, Bool, false, Option, None, Some, List, [], ◌∷◌, slice_get, unwrap_or, ⊤, if◌then◌else◌}
use Rattle.cb_offers.specs.declared.offers.Side.{Side}
use Rattle.cb_offers.specs.declared.offers.Side.TheVariants.{Output, Input, Call}

-- how many channels there are, and what each controller offers, by their numbers
pub record OffersView : Type 0 where
  pub channels : ℕ
  pub rows : List (List Side)

-- the branch sends on the channel
abbrev pub sends : ℕ → Side → Bool
sends k (Output j) = eqb j k
sends k (Input j) = false
sends k Call = false

abbrev pub receives : ℕ → Side → Bool
receives k (Output j) = false
receives k (Input j) = eqb j k
receives k Call = false

abbrev pub next : Option ℕ → Option ℕ
next None = None
next (Some n) = Some (suc n)

-- the number of the first such branch of a row
abbrev pub first_in : (Side → Bool) → List Side → Option ℕ
first_in test [] = None
first_in test (s ∷ row) = if test s then Some 0 else next (first_in test row)

abbrev pub or_else : Option ℕ → Option ℕ → Option ℕ
or_else None n = n
or_else (Some m) n = Some m

-- that of the least controller that has such a branch
abbrev pub first_of : (Side → Bool) → List (List Side) → Option ℕ
first_of test [] = None
first_of test (row ∷ rows) = or_else (first_in test row) (first_of test rows)

abbrev pub both : Option ℕ → Option ℕ → Option (ℕ × ℕ)
both None n = None
both (Some m) None = None
both (Some m) (Some n) = Some (m, n)

-- the branches that meet on the channel: the first output of the least controller that offers one, and the first input likewise
abbrev pub meeting : List (List Side) → ℕ → Option (ℕ × ℕ)
meeting rows k = both (first_of (sends k) rows) (first_of (receives k) rows)

-- something can come of the branch: it is a call, or its channel's both sides are offered
abbrev pub Fires : List (List Side) → Side → Type 0
Fires rows (Output k) = meeting rows k ≢ None
Fires rows (Input k) = meeting rows k ≢ None
Fires rows Call = ⊤

-- the controller's branch with this number is the side
abbrev pub IsOffered : List (List Side) → (i b : ℕ) → Side → Type 0
IsOffered rows i b side = slice_get (unwrap_or (slice_get rows i) []) b ≡ Some side

-- nothing can come of what the controller offers
abbrev pub IsIdle : List (List Side) → ℕ → Type 0
IsIdle rows i = (b : ℕ) (side : Side) → IsOffered rows i b side → ¬ Fires rows side

-- nothing can come of what anybody offers
abbrev pub AreIdle : List (List Side) → Type 0
AreIdle rows = (i : ℕ) → IsIdle rows i

-- the sides' channels are there
abbrev pub AreWithin : ℕ → List Side → Type 0
AreWithin n [] = ⊤
AreWithin n (Output k ∷ row) = (k < n) × AreWithin n row
AreWithin n (Input k ∷ row) = (k < n) × AreWithin n row
AreWithin n (Call ∷ row) = AreWithin n row

-- the branch can fire, if one is told, and else none of the controller's can
abbrev pub IsFiring : List (List Side) → ℕ → Option ℕ → Type 0
IsFiring rows i None = IsIdle rows i
IsFiring rows i (Some b) = (side : Side) × (IsOffered rows i b side × Fires rows side)
