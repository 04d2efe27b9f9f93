-- The rendezvous table of a running value, and what is found in it.
use Rattle.std.specs.Prelude.{ℕ, ◌≡◌, ◌<◌, ◌⊎◌, Some, List, length}
use Rattle.cb_spec.specs.declared.system.System.{System}
use Rattle.cb_spec.specs.ProcessTree.{ProcessTree}
use Rattle.cb_spec.specs.Stores.{Writes}
use Rattle.cb_code.specs.declared.place.Place.{Place}
use Rattle.cb_offers.specs.declared.offers.Side.{Side}
use Rattle.cb_offers.specs.declared.offers.Side.TheVariants as side
use Rattle.cb_offers.specs.Tables.{OffersView, meeting, IsOffered, IsIdle}
use Rattle.cb_system.specs.declared.firing.Firing.{Firing}
use Rattle.cb_system.specs.declared.firing.Firing.TheVariants.{Nothing, Calls, Passes}
use Rattle.cb_system.specs.Branches.{AreOffered}
use Rattle.cb_system.specs.Moves.{AreGood}
use Rattle.cb_system.specs.Rows.{rows_at}

-- the table has what each controller offers
pub record IsTabled (y : System) (ps : List ProcessTree) (places : List Place) (offers : OffersView) : Type 0 where
  pub rows_are : offers.rows ≡ rows_at ps places
  pub channels_are : offers.channels ≡ length y.channels

-- the table is one of a good state, and has the controller
pub record CanLook (ps : List ProcessTree) (places : List Place) (offers : OffersView) (i : ℕ) : Type 0 where
  pub system : System
  pub store : Writes
  pub good : AreGood system ps store places
  pub prefixes : AreOffered ps places
  pub tabled : IsTabled system ps places offers
  pub range : i < length places

-- these branches meet on the channel
abbrev pub IsMeeting : List (List Side) → ℕ → Firing → Type 0
IsMeeting rows k Nothing = ⊥
IsMeeting rows k (Calls b) = ⊥
IsMeeting rows k (Passes j m n) = (j ≡ k) × (meeting rows k ≡ Some (m, n))

-- what is found in the rows is what the controller can do
abbrev pub IsFound : List (List Side) → ℕ → Firing → Type 0
IsFound rows i Nothing = IsIdle rows i
IsFound rows i (Calls b) = IsOffered rows i b side.Call
IsFound rows i (Passes k m n) = (meeting rows k ≡ Some (m, n)) × ((b : ℕ) × (IsOffered rows i b (side.Output k) ⊎ IsOffered rows i b (side.Input k)))
