-- What the rendezvous table tells of a good state: what can happen, and when nothing can.
use Rattle.std.proofs.Common.{◌≡◌, ℕ, ◌≢◌, List, slice_get, Option, Some, None, refl, sym, ap, subst, ◌∙◌, ◌⊎◌, inl, inr}
use Rattle.cb_term.specs.declared.name.Name.{Name}
use Rattle.cb_spec.specs.declared.event.Event.{Event}
use Rattle.cb_spec.specs.declared.event.Event.TheVariants as event
use Rattle.cb_spec.specs.declared.state.Entry.{Entry}
use Rattle.cb_spec.specs.declared.system.Channel.{Channel}
use Rattle.cb_spec.specs.declared.system.Controller.{Controller}
use Rattle.cb_spec.specs.declared.system.System.{System}
use Rattle.cb_spec.specs.ProcessTree.{ProcessTree, Prefix}
use Rattle.cb_spec.specs.Stores.{Writes}
use Rattle.cb_spec.specs.States.{IsAt, StateView, state_of}
use Rattle.cb_spec.specs.Journals.{IsStill, Leads}
use Rattle.cb_spec.specs.TypedTerms.{Scope}
use Rattle.cb_spec.specs.TypedProcesses.{TypedProcess}
use Rattle.cb_spec.specs.Typed.{global_names}
use Rattle.cb_typed.proofs.Erasing.{some_and}
use Rattle.cb_safety_laws.specs.Causes.{IsOutput, IsInput, IsCall, Offers, Meet, TakesPart, HasNothingToDo}
use Rattle.cb_safety_laws.proofs.Lists.{two_at}
use Rattle.cb_safety_laws.proofs.Scans.{scans_are_exact, offers_can_act}
use Rattle.cb_safety_laws.proofs.Steps.{offered_is_fine}
use Rattle.cb_code.specs.declared.place.Place.{Place}
use Rattle.cb_offers.specs.declared.offers.Side.{Side}
use Rattle.cb_offers.specs.declared.offers.Side.TheVariants as side
use Rattle.cb_offers.specs.Tables.{meeting, Fires, IsOffered, IsIdle, AreIdle}
use Rattle.cb_beginning.specs.Placed.{state_in}
use Rattle.cb_system.specs.Branches.{AreOffered}
use Rattle.cb_system.specs.Moves.{AreGood}
use Rattle.cb_system.specs.Rows.{side_of, rows_at}
use Rattle.cb_system.proofs.BranchLemmas.{offers_place, event_is, offered_so}
use Rattle.cb_system.proofs.RowLemmas.{both_meet, met, shown_so, branch_of_side, side_of_branch}

-- ---- events and their sides

call_event : (e : Event) → side_of e ≡ side.Call → IsCall e
call_event (event.Output k ts said) e = absurd (cc)
call_event (event.Input k xs said) e = absurd (cc)
call_event (event.Call k j ts xs) e = tt

output_event : (k : ℕ) (e : Event) → side_of e ≡ side.Output k → IsOutput k e
output_event k (event.Output j ts said) e = cc
output_event k (event.Input j xs said) e = absurd (cc)
output_event k (event.Call m j ts xs) e = absurd (cc)

input_event : (k : ℕ) (e : Event) → side_of e ≡ side.Input k → IsInput k e
input_event k (event.Output j ts said) e = absurd (cc)
input_event k (event.Input j xs said) e = cc
input_event k (event.Call m j ts xs) e = absurd (cc)

call_side : (e : Event) → IsCall e → side_of e ≡ side.Call
call_side (event.Output k ts said) h = absurd h
call_side (event.Input k xs said) h = absurd h
call_side (event.Call k j ts xs) h = refl

output_side : (k : ℕ) (e : Event) → IsOutput k e → side_of e ≡ side.Output k
output_side k (event.Output j ts said) h = ap side.Output h
output_side k (event.Input j xs said) h = absurd h
output_side k (event.Call m j ts xs) h = absurd h

input_side : (k : ℕ) (e : Event) → IsInput k e → side_of e ≡ side.Input k
input_side k (event.Output j ts said) h = absurd h
input_side k (event.Input j xs said) h = ap side.Input h
input_side k (event.Call m j ts xs) h = absurd h

-- ---- the ends of channels

module _ (y : System) (i k : ℕ) (c : Controller) (scope : Scope) (taken : List Name) (q : ProcessTree) where
  typed_sender : (e : Event) → IsOutput k e → TypedProcess y (global_names y) i c scope taken (Prefix e q) → (ch : Channel) × IsAt y.channels k ch × (ch.sender ≡ i)
  typed_sender (event.Output j ts said) h t = let f = some_and (slice_get y.channels j) _ t.0 in (f.0, subst (λ n. IsAt y.channels n f.0) h f.1, f.2.0)
  typed_sender (event.Input j xs said) h t = absurd h
  typed_sender (event.Call m j ts xs) h t = absurd h

  typed_receiver : (e : Event) → IsInput k e → TypedProcess y (global_names y) i c scope taken (Prefix e q) → (ch : Channel) × IsAt y.channels k ch × (ch.receiver ≡ i)
  typed_receiver (event.Output j ts said) h t = absurd h
  typed_receiver (event.Input j xs said) h t = let f = some_and (slice_get y.channels j) _ t.1 in (f.0, subst (λ n. IsAt y.channels n f.0) h f.1, f.2.0)
  typed_receiver (event.Call m j ts xs) h t = absurd h

module _ (y : System) (ps : List ProcessTree) (store : Writes) (places : List Place) (good : AreGood y ps store places) (all : AreOffered ps places) where
  abbrev state : StateView
  state = state_of (state_in ps store places)

  abbrev rows : List (List Side)
  rows = rows_at ps places

  pub sender_is : (k i b : ℕ) → Offers (IsOutput k) state i b → (ch : Channel) × IsAt y.channels k ch × (ch.sender ≡ i)
  sender_is k i b o =
      let f = offered_is_fine y good.good.typed good.good.sound state good.good.fit i b o.0 o.1 o.2 o.3 in
      typed_sender y i k f.0 f.2.scope f.2.taken o.1.next o.1.event o.4 f.2.typed

  pub receiver_is : (k i b : ℕ) → Offers (IsInput k) state i b → (ch : Channel) × IsAt y.channels k ch × (ch.receiver ≡ i)
  receiver_is k i b o =
      let f = offered_is_fine y good.good.typed good.good.sound state good.good.fit i b o.0 o.1 o.2 o.3 in
      typed_receiver y i k f.0 f.2.scope f.2.taken o.1.next o.1.event o.4 f.2.typed

  -- ---- from the rows to the state

  pub call_there : (i b : ℕ) → IsOffered rows i b side.Call → Offers IsCall state i b
  call_there i b at = let r = branch_of_side ps places all i b side.Call at in offered_so ps store places i b r.0 r.1 r.2 r.3 IsCall (call_event r.0 r.4)

  pub output_there : (k i b : ℕ) → IsOffered rows i b (side.Output k) → Offers (IsOutput k) state i b
  output_there k i b at = let r = branch_of_side ps places all i b (side.Output k) at in offered_so ps store places i b r.0 r.1 r.2 r.3 (IsOutput k) (output_event k r.0 r.4)

  pub input_there : (k i b : ℕ) → IsOffered rows i b (side.Input k) → Offers (IsInput k) state i b
  input_there k i b at = let r = branch_of_side ps places all i b (side.Input k) at in offered_so ps store places i b r.0 r.1 r.2 r.3 (IsInput k) (input_event k r.0 r.4)

  -- branches that meet in the table meet in the state
  pub meet_there : (k m n : ℕ) → meeting rows k ≡ Some (m, n) → (ch : Channel) × Meet y state k m n ch
  meet_there k m n e =
      let p = met rows k m n e in
      let out = output_there k p.0.0 m p.0.1 in
      let into = input_there k p.1.0 n p.1.1 in
      let s = sender_is k p.0.0 m out in
      let r = receiver_is k p.1.0 n into in
      let same : r.0 ≡ s.0 = two_at y.channels k r.0 s.0 r.1 s.1 in (
        s.0,
        record {
          its = s.1;
          out = subst (λ z. Offers (IsOutput k) state z m) (sym s.2) out;
          into = subst (λ z. Offers (IsInput k) state z n) (sym r.2 ∙ ap (λ (ch : Channel). ch.receiver) same) into;
        },
      )

  -- the controller whose side of a channel is offered has a part in what passes there
  pub sender_takes_part : (k i b : ℕ) → IsOffered rows i b (side.Output k) → (ch : Channel) × (IsAt y.channels k ch × ((ch.sender ≡ i) ⊎ (ch.receiver ≡ i)))
  sender_takes_part k i b at = let s = sender_is k i b (output_there k i b at) in (s.0, (s.1, inl s.2))

  pub receiver_takes_part : (k i b : ℕ) → IsOffered rows i b (side.Input k) → (ch : Channel) × (IsAt y.channels k ch × ((ch.sender ≡ i) ⊎ (ch.receiver ≡ i)))
  receiver_takes_part k i b at = let s = receiver_is k i b (input_there k i b at) in (s.0, (s.1, inr s.2))

  -- ---- from the state to the rows

  side_there : (P : Event → Type 0) (i b : ℕ) → Offers P state i b → (e : Event) × P e × IsOffered rows i b (side_of e)
  side_there P i b o =
      let has = offers_place ps store places i b P o in
      let r = shown_so ps places all i b has in
      (r.0, event_is ps store places i b r.0 r.1 has.env r.2 P o, side_of_branch ps places all i b r.0 r.1 has.env r.2)

  nothing_there : (i : ℕ) → IsIdle rows i → HasNothingToDo y state i
  nothing_there i idle = record {
    calls = λ b o. let r = side_there IsCall i b o in idle b side.Call (subst (IsOffered rows i b) (call_side r.0 r.1) r.2) tt;
    meets = λ k sent rec ch part m.
        let a = side_there (IsOutput k) ch.sender sent m.out in
        let b = side_there (IsInput k) ch.receiver rec m.into in
        let out : IsOffered rows ch.sender sent (side.Output k) = subst (IsOffered rows ch.sender sent) (output_side k a.0 a.1) a.2 in
        let into : IsOffered rows ch.receiver rec (side.Input k) = subst (IsOffered rows ch.receiver rec) (input_side k b.0 b.1) b.2 in
        by k sent rec ch part out into (both_meet rows k ch.sender sent ch.receiver rec out into);
  }
    where
      by : (k sent rec : ℕ) (ch : Channel) → (ch.sender ≡ i) ⊎ (ch.receiver ≡ i) → IsOffered rows ch.sender sent (side.Output k) → IsOffered rows ch.receiver rec (side.Input k) → meeting rows k ≢ None → ⊥
      by k sent rec ch (inl e) out into fires = idle sent (side.Output k) (subst (λ z. IsOffered rows z sent (side.Output k)) e out) fires
      by k sent rec ch (inr e) out into fires = idle rec (side.Input k) (subst (λ z. IsOffered rows z rec (side.Input k)) e into) fires

  -- ---- what the table decides

  -- where nothing can come of what the controller offers, nothing lawful has it
  pub idle_there : (i : ℕ) → IsIdle rows i → (e : Entry) (t : StateView) → TakesPart y i e → ¬ Leads y state e t
  idle_there i idle = scans_are_exact.idle y state i (nothing_there i idle)

  pub still_there : AreIdle rows → IsStill y state
  still_there idle = scans_are_exact.still y state (λ i k at. nothing_there i (idle i))

  meets_stir : (k : ℕ) (o : Option (ℕ × ℕ)) → meeting rows k ≡ o → meeting rows k ≢ None → ¬ IsStill y state
  meets_stir k None e fires still = fires e
  meets_stir k (Some p) e fires still =
      let m = meet_there k p.0 p.1 e in
      offers_can_act.stirs y state m.0.sender (offers_can_act.meets y state m.0.sender k p.0 p.1 m.0 (inl refl) m.1) still

  fires_stirs : (i b : ℕ) (s : Side) → IsOffered rows i b s → Fires rows s → ¬ IsStill y state
  fires_stirs i b (side.Output k) at fires = meets_stir k (meeting rows k) refl fires
  fires_stirs i b (side.Input k) at fires = meets_stir k (meeting rows k) refl fires
  fires_stirs i b side.Call at fires = offers_can_act.stirs y state i (offers_can_act.calls y good.good.typed good.good.sound state good.good.fit i b (call_there i b at))

  pub stirs_there : (¬ AreIdle rows) → ¬ IsStill y state
  stirs_there busy still = busy (λ i b s at fires. fires_stirs i b s at fires still)
