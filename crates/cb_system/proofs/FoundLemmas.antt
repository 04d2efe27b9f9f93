-- What is found in the rendezvous table is what a controller can do.
use Rattle.std.proofs.Common.{◌≡◌, ℕ, ◌<◌, List, Some, sym, ap, subst, ◌∙◌, ◌⊎◌, inl, inr}
use Rattle.cb_spec.specs.declared.event.Event.{Event}
use Rattle.cb_spec.specs.declared.state.Entry.{Entry}
use Rattle.cb_spec.specs.declared.system.Channel.{Channel}
use Rattle.cb_spec.specs.declared.system.System.{System}
use Rattle.cb_spec.specs.ProcessTree.{ProcessTree}
use Rattle.cb_spec.specs.Stores.{Writes}
use Rattle.cb_spec.specs.States.{IsAt, StateView, state_of}
use Rattle.cb_safety_laws.specs.Causes.{Meet}
use Rattle.cb_safety_laws.proofs.Lists.{two_at, at_below}
use Rattle.cb_code.specs.declared.place.Place.{Place}
use Rattle.cb_code.specs.Nodes.{part}
use Rattle.cb_offers.specs.declared.offers.Side.{Side}
use Rattle.cb_offers.specs.declared.offers.Side.TheVariants as side
use Rattle.cb_offers.specs.Tables.{OffersView, meeting, Fires, IsOffered, IsFiring}
use Rattle.cb_beginning.specs.Placed.{state_in}
use Rattle.cb_system.specs.declared.firing.Firing.{Firing}
use Rattle.cb_system.specs.declared.firing.Firing.TheVariants.{Nothing, Calls, Passes}
use Rattle.cb_system.specs.Branches.{AreOffered, HasBranch, IsBranch}
use Rattle.cb_system.specs.Moves.{AreGood}
use Rattle.cb_system.specs.Rows.{side_of, rows_at}
use Rattle.cb_system.specs.Tabled.{CanLook, IsMeeting, IsFound}
use Rattle.cb_system.specs.Found.{CanFire}
use Rattle.cb_system.proofs.RowLemmas.{branch_of_side, side_of_branch}
use Rattle.cb_system.proofs.CauseLemmas.{idle_there, call_there, meet_there, output_there, input_there, sender_is, receiver_is, sender_takes_part, receiver_takes_part}

-- what code finds
module _ (ps : List ProcessTree) (places : List Place) (all : AreOffered ps places) (i b : ℕ) (fires : IsFiring (rows_at ps places) i (Some b)) where
  pub branch_has : HasBranch places i b
  branch_has =
      let r = branch_of_side ps places all i b fires.0 fires.1.0 in
      record { prefixes = r.3.prefixes; env = r.2; prefix = r.3.prefix; at = r.3.at; listed = r.3.listed }

  module _ (e : Event) (next : ℕ) (env : Writes) (branch : IsBranch ps places i b e next env) where
    pub event_offered : IsOffered (rows_at ps places) i b (side_of e)
    event_offered = side_of_branch ps places all i b e (part ps next) env branch.shown

    pub event_fires : Fires (rows_at ps places) (side_of e)
    event_fires = subst (Fires (rows_at ps places)) (let same : Some fires.0 ≡ Some (side_of e) = sym fires.1.0 ∙ event_offered in cc) fires.1.1

module _ (y : System) (ps : List ProcessTree) (store : Writes) (places : List Place) (good : AreGood y ps store places) (all : AreOffered ps places) where
  abbrev state : StateView
  state = state_of (state_in ps store places)

  pub output_below : (k i b : ℕ) → IsOffered (rows_at ps places) i b (side.Output k) → (ch : Channel) × IsAt y.channels k ch
  output_below k i b at = let c = sender_is y ps store places good all k i b (output_there y ps store places good all k i b at) in (c.0, c.1)

  pub input_below : (k i b : ℕ) → IsOffered (rows_at ps places) i b (side.Input k) → (ch : Channel) × IsAt y.channels k ch
  input_below k i b at = let c = receiver_is y ps store places good all k i b (input_there y ps store places good all k i b at) in (c.0, c.1)

  meeting_found : (i k m n b : ℕ) → meeting (rows_at ps places) k ≡ Some (m, n) → IsOffered (rows_at ps places) i b (side.Output k) ⊎ IsOffered (rows_at ps places) i b (side.Input k) →
      (ch : Channel) × (Meet y state k m n ch × ((ch.sender ≡ i) ⊎ (ch.receiver ≡ i)))
  meeting_found i k m n b e at = let c = meet_there y ps store places good all k m n e in let p = part_of at in (c.0, (c.1, subst (λ (ch : Channel). (ch.sender ≡ i) ⊎ (ch.receiver ≡ i)) (two_at y.channels k p.0 c.0 p.1.0 c.1.its) p.1.1))
    where
      part_of : IsOffered (rows_at ps places) i b (side.Output k) ⊎ IsOffered (rows_at ps places) i b (side.Input k) → (ch : Channel) × (IsAt y.channels k ch × ((ch.sender ≡ i) ⊎ (ch.receiver ≡ i)))
      part_of (inl at) = sender_takes_part y ps store places good all k i b at
      part_of (inr at) = receiver_takes_part y ps store places good all k i b at

  -- so it is in the state
  pub found_there : (limit : ℕ) (s0 : Writes) (es : List Entry) (i : ℕ) (f : Firing) → IsFound (rows_at ps places) i f →
      CanFire i (record { system = y; limit = limit; initial = s0; journal = es; state = state_in ps store places }) f
  found_there limit s0 es i Nothing h = idle_there y ps store places good all i h
  found_there limit s0 es i (Calls b) h = call_there y ps store places good all i b h
  found_there limit s0 es i (Passes k m n) h = meeting_found i k m n h.1.0 h.0 h.1.1

pub found_output : (rows : List (List Side)) (i b k : ℕ) (f : Firing) → IsOffered rows i b (side.Output k) → IsMeeting rows k f → IsFound rows i f
found_output rows i b k Nothing at h = absurd h
found_output rows i b k (Calls c) at h = absurd h
found_output rows i b k (Passes j m n) at h = (ap (meeting rows) h.0 ∙ h.1, (b, inl (subst (λ z. IsOffered rows i b (side.Output z)) (sym h.0) at)))

pub found_input : (rows : List (List Side)) (i b k : ℕ) (f : Firing) → IsOffered rows i b (side.Input k) → IsMeeting rows k f → IsFound rows i f
found_input rows i b k Nothing at h = absurd h
found_input rows i b k (Calls c) at h = absurd h
found_input rows i b k (Passes j m n) at h = (ap (meeting rows) h.0 ∙ h.1, (b, inr (subst (λ z. IsOffered rows i b (side.Input z)) (sym h.0) at)))

-- what code finds in a table
module _ (ps : List ProcessTree) (places : List Place) (offers : OffersView) (i : ℕ) (can : CanLook ps places offers i) (b : ℕ) (fires : IsFiring offers.rows i (Some b)) where
  fires_there : IsFiring (rows_at ps places) i (Some b)
  fires_there = subst (λ (rows : List (List Side)). IsFiring rows i (Some b)) can.tabled.rows_are fires

  pub has_there : HasBranch places i b
  has_there = branch_has ps places can.prefixes i b fires_there

  module _ (e f : Event) (next : ℕ) (env : Writes) (branch : IsBranch ps places i b e next env) (is : e ≡ f) where
    pub side_offered : IsOffered offers.rows i b (side_of f)
    side_offered = subst (λ (rows : List (List Side)). IsOffered rows i b (side_of f)) (sym can.tabled.rows_are) (subst (λ g. IsOffered (rows_at ps places) i b (side_of g)) is (event_offered ps places can.prefixes i b fires_there e next env branch))

    pub side_fires : Fires offers.rows (side_of f)
    side_fires = subst (λ (rows : List (List Side)). Fires rows (side_of f)) (sym can.tabled.rows_are) (subst (λ g. Fires (rows_at ps places) (side_of g)) is (event_fires ps places can.prefixes i b fires_there e next env branch))

  pub output_within : (k : ℕ) → IsOffered offers.rows i b (side.Output k) → k < offers.channels
  output_within k at =
      let c = output_below can.system ps can.store places can.good can.prefixes k i b (subst (λ (rows : List (List Side)). IsOffered rows i b (side.Output k)) can.tabled.rows_are at) in
      subst (λ n. k < n) (sym can.tabled.channels_are) (at_below can.system.channels k c.0 c.1)

  pub input_within : (k : ℕ) → IsOffered offers.rows i b (side.Input k) → k < offers.channels
  input_within k at =
      let c = input_below can.system ps can.store places can.good can.prefixes k i b (subst (λ (rows : List (List Side)). IsOffered rows i b (side.Input k)) can.tabled.rows_are at) in
      subst (λ n. k < n) (sym can.tabled.channels_are) (at_below can.system.channels k c.0 c.1)
