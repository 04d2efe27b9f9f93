-- When a controller can do nothing, and when nobody can, told from what is offered.
use Rattle.std.specs.Prelude.{ℕ, ◌≡◌, ◌⊎◌, ◌↔◌, List, ⊤}
use Rattle.cb_spec.specs.declared.event.Event.{Event}
use Rattle.cb_spec.specs.declared.event.Event.TheVariants as event
use Rattle.cb_spec.specs.declared.system.Channel.{Channel}
use Rattle.cb_spec.specs.declared.system.System.{System}
use Rattle.cb_spec.specs.declared.state.Entry.{Entry}
use Rattle.cb_spec.specs.declared.state.Entry.TheVariants as entry
use Rattle.cb_spec.specs.States.{IsAt, BranchView, ControlView, Offering, StateView}
use Rattle.cb_spec.specs.Journals.{Leads, IsStill}
use Rattle.cb_spec.specs.Typed.{Typed}
use Rattle.cb_spec.specs.Sound.{Sound, FitState}

abbrev pub IsOutput : ℕ → Event → Type 0
IsOutput k (event.Output j ts said) = j ≡ k
IsOutput k (event.Input j xs said) = ⊥
IsOutput k (event.Call m j ts xs) = ⊥

abbrev pub IsInput : ℕ → Event → Type 0
IsInput k (event.Output j ts said) = ⊥
IsInput k (event.Input j xs said) = j ≡ k
IsInput k (event.Call m j ts xs) = ⊥

abbrev pub IsCall : Event → Type 0
IsCall (event.Output j ts said) = ⊥
IsCall (event.Input j xs said) = ⊥
IsCall (event.Call m j ts xs) = ⊤

-- the branch at this place of what the controller with this number offers is such an event
abbrev pub Offers : (Event → Type 0) → StateView → (i b : ℕ) → Type 0
Offers P s i b = (bs : List BranchView) × (branch : BranchView) × IsAt s.controls i (Offering bs) × IsAt bs b branch × P branch.event

-- the channel's sender and its receiver both offer it
pub record Meet (y : System) (s : StateView) (k sent got : ℕ) (ch : Channel) : Type 0 where
  pub its : IsAt y.channels k ch
  pub out : Offers (IsOutput k) s ch.sender sent
  pub into : Offers (IsInput k) s ch.receiver got

-- the controller has a part in the event
abbrev pub TakesPart : System → ℕ → Entry → Type 0
TakesPart y i (entry.Settle j bits) = ⊥
TakesPart y i (entry.Op j b k o args results written) = j ≡ i
TakesPart y i (entry.Pass k sent got vs) = (ch : Channel) × (IsAt y.channels k ch × ((ch.sender ≡ i) ⊎ (ch.receiver ≡ i)))
TakesPart y i (entry.End c) = ⊥

-- it offers no call, and on no channel of its own do both sides meet
pub record HasNothingToDo (y : System) (s : StateView) (i : ℕ) : Type 0 where
  pub calls : (b : ℕ) → ¬ Offers IsCall s i b
  pub meets : (k sent got : ℕ) (ch : Channel) → (ch.sender ≡ i) ⊎ (ch.receiver ≡ i) → ¬ Meet y s k sent got ch

-- so nothing can happen in which it has a part; and where that holds of all, nothing can happen
pub record ScansAreExact : Type 0 where
  pub idle : (y : System) (s : StateView) (i : ℕ) → HasNothingToDo y s i → (e : Entry) (t : StateView) → TakesPart y i e → ¬ Leads y s e t
  pub still : (y : System) (s : StateView) → ((i : ℕ) (k : ControlView) → IsAt s.controls i k → HasNothingToDo y s i) → IsStill y s

-- not each event in which it has a part is out of question
abbrev pub CanAct : System → StateView → ℕ → Type 0
CanAct y s i = ¬ ((e : Entry) (t : StateView) → TakesPart y i e → ¬ Leads y s e t)

-- and where a call is offered, or both sides of a channel meet, there is something to do
pub record OffersCanAct : Type 0 where
  pub calls : (y : System) → Typed y → Sound y → (s : StateView) → FitState y s → (i b : ℕ) → Offers IsCall s i b → CanAct y s i
  pub meets : (y : System) (s : StateView) (i k sent got : ℕ) (ch : Channel) → (ch.sender ≡ i) ⊎ (ch.receiver ≡ i) → Meet y s k sent got ch → CanAct y s i
  pub stirs : (y : System) (s : StateView) (i : ℕ) → CanAct y s i → ¬ IsStill y s

-- nobody has anything to do
abbrev pub NobodyHas : System → StateView → Type 0
NobodyHas y s = (i : ℕ) (k : ControlView) → IsAt s.controls i k → HasNothingToDo y s i

-- so a scan decides both questions
pub record ScansDecide : Type 0 where
  pub idle : (y : System) → Typed y → Sound y → (s : StateView) → FitState y s → (i : ℕ) →
      HasNothingToDo y s i ↔ ((e : Entry) (t : StateView) → TakesPart y i e → ¬ Leads y s e t)
  pub still : (y : System) → Typed y → Sound y → (s : StateView) → FitState y s → NobodyHas y s ↔ IsStill y s
