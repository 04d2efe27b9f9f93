-- What a table keeps of its rows: marks on each channel, and counts. An end of a channel is told by a side: that of its senders by an output.
use Rattle.std.specs.Prelude.{ℕ, ◌+◌, ◌^◌, ◌<◌, ◌≤◌, ◌≡◌, Bool, false, Option, None, Some, List, [], ◌∷◌, map, length, slice_get, slice_set, unwrap_or, sum_by, replicate, Vec, vec_capacity, ⊤, if◌then◌else◌}
use Rattle.std.specs.declared.alloc.Global.{Global}
use Rattle.cb_offers.specs.declared.offers.Side.{Side}
use Rattle.cb_offers.specs.declared.offers.Side.TheVariants.{Output, Input, Call}
use Rattle.cb_offers.specs.declared.marks.Mark.{Mark}
use Rattle.cb_offers.specs.declared.channels.Channel.{Channel}
use Rattle.cb_offers.specs.declared.table.Table.{Table}
use Rattle.cb_offers.specs.Tables.{sends, receives, AreWithin}
use Rattle.cb_offers.specs.Marks.{marks_from}

-- ---- ends of channels

-- the second side is at the end that the first tells
abbrev pub tests : Side → Side → Bool
tests (Output k) s = sends k s
tests (Input k) s = receives k s
tests Call s = false

abbrev pub senders_of : Option Channel → List Mark
senders_of None = []
senders_of (Some channel) = channel.senders.items

abbrev pub receivers_of : Option Channel → List Mark
receivers_of None = []
receivers_of (Some channel) = channel.receivers.items

-- the marks that stand at an end
abbrev pub list_at : List Channel → Side → List Mark
list_at channels (Output k) = senders_of (slice_get channels k)
list_at channels (Input k) = receivers_of (slice_get channels k)
list_at channels Call = []

abbrev pub senders_room : Option Channel → ℕ
senders_room None = 0
senders_room (Some channel) = vec_capacity channel.senders

abbrev pub receivers_room : Option Channel → ℕ
receivers_room None = 0
receivers_room (Some channel) = vec_capacity channel.receivers

-- how many marks have room at an end
abbrev pub room_at : List Channel → Side → ℕ
room_at channels (Output k) = senders_room (slice_get channels k)
room_at channels (Input k) = receivers_room (slice_get channels k)
room_at channels Call = 1

-- the side's channel is there
abbrev pub IsThere : ℕ → Side → Type 0
IsThere n (Output k) = k < n
IsThere n (Input k) = k < n
IsThere n Call = ⊤

-- ---- how many channels are met

abbrev pub both_of : List Mark → List Mark → ℕ
both_of [] ns = 0
both_of (m ∷ ms) [] = 0
both_of (m ∷ ms) (n ∷ ns) = 1

-- 1 if both ends of the channel are offered, else 0
abbrev pub met_of : Channel → ℕ
met_of channel = both_of channel.senders.items channel.receivers.items

abbrev pub met_in : Option Channel → ℕ
met_in None = 0
met_in (Some channel) = met_of channel

abbrev pub met_at : List Channel → Side → ℕ
met_at channels (Output k) = met_in (slice_get channels k)
met_at channels (Input k) = met_in (slice_get channels k)
met_at channels Call = 0

abbrev pub met_count : List Channel → ℕ
met_count channels = sum_by met_of channels

-- the channels after a change at one end, where these marks are now
pub record Changed (old new : List Channel) (side : Side) (marks : List Mark) : Type 0 where
  pub as_many : length new ≡ length old
  pub lists : (t : Side) → list_at new t ≡ (if tests t side then marks else list_at old t)
  pub room : (t : Side) → room_at old t ≤ room_at new t
  pub met : met_count new + met_at old side ≡ met_count old + met_at new side

-- ---- rows

abbrev pub call_of : Side → ℕ
call_of (Output k) = 0
call_of (Input k) = 0
call_of Call = 1

abbrev pub calls_in : List Side → ℕ
calls_in row = sum_by call_of row

abbrev pub rows_of : Table → List (List Side)
rows_of table = map (λ (row : Vec Side Global). row.items) table.rows.items

abbrev pub row_at : Table → ℕ → List Side
row_at table c = unwrap_or (slice_get (rows_of table) c) []

abbrev pub row_room_in : Option (Vec Side Global) → ℕ
row_room_in None = 0
row_room_in (Some row) = vec_capacity row

abbrev pub row_room : Table → ℕ → ℕ
row_room table c = row_room_in (slice_get table.rows.items c)

-- the rows' channels are among n, and their branches have numbers of 32 bits
abbrev pub AreRows : ℕ → List (List Side) → Type 0
AreRows n [] = ⊤
AreRows n (row ∷ rows) = (AreWithin n row × (length row < 2 ^ 32)) × AreRows n rows

pub record IsKept (table : Table) : Type 0 where
  pub marked : (t : Side) → list_at table.channels.items t ≡ marks_from 0 (tests t) (rows_of table)
  pub within : AreRows (length table.channels.items) (rows_of table)
  pub counted : table.met ≡ met_count table.channels.items
  pub called : table.calls ≡ sum_by calls_in (rows_of table)
  pub few_channels : length table.channels.items < 2 ^ 32
  pub few_rows : length (rows_of table) < 2 ^ 32

-- the table with another row for one controller
pub record Steps (c : ℕ) (old new : Table) (row : List Side) : Type 0 where
  pub kept : IsKept new
  pub as_many : length new.channels.items ≡ length old.channels.items
  pub rows : rows_of new ≡ slice_set (rows_of old) c row
  pub room : (t : Side) → room_at old.channels.items t ≤ room_at new.channels.items t
  pub own_room : row_room old c ≤ row_room new c

-- there is room for a mark of the controller at this end
abbrev pub HasMarkRoom : Table → ℕ → Side → Type 0
HasMarkRoom table c t = length (marks_from 0 (tests t) (slice_set (rows_of table) c [])) < room_at table.channels.items t

-- there is room for all that the sides want, as the controller's row
pub record HasRoom (table : Table) (c : ℕ) (sides : List Side) : Type 0 where
  pub row : length sides ≤ row_room table c
  pub marks : (b : ℕ) (t : Side) → slice_get sides b ≡ Some t → HasMarkRoom table c t

-- the side can be added to the controller's row
pub record CanOffer (table : Table) (c : ℕ) (side : Side) : Type 0 where
  pub range : c < length (rows_of table)
  pub there : IsThere (length table.channels.items) side
  pub few : length (row_at table c) + 1 < 2 ^ 32
  pub row : length (row_at table c) < row_room table c
  pub marks : HasMarkRoom table c side

-- ---- what can fire

-- the side is a call, or both ends of its channel are offered
abbrev pub Ready : List Channel → Side → Type 0
Ready channels (Output k) = met_at channels (Output k) ≡ 1
Ready channels (Input k) = met_at channels (Input k) ≡ 1
Ready channels Call = ⊤

-- no side of the row from `low` on and below `high` is ready
abbrev pub NoneReady : List Channel → List Side → (low high : ℕ) → Type 0
NoneReady channels row low high = (k : ℕ) (s : Side) → low ≤ k → k < high → slice_get row k ≡ Some s → ¬ Ready channels s

-- that at k is
abbrev pub IsReadyAt : List Channel → List Side → ℕ → Type 0
IsReadyAt channels row k = (s : Side) × ((slice_get row k ≡ Some s) × Ready channels s)

-- ---- beginnings

-- no list of the channels has a mark
abbrev pub AreFresh : List Channel → Type 0
AreFresh [] = ⊤
AreFresh (channel ∷ channels) = ((channel.senders.items ≡ []) × (channel.receivers.items ≡ [])) × AreFresh channels

-- the table of so many channels and controllers, without offers
pub record IsNew (channels controllers : ℕ) (table : Table) : Type 0 where
  pub kept : IsKept table
  pub as_many : length table.channels.items ≡ channels
  pub rows : rows_of table ≡ replicate controllers []
