-- A running value keeps what it keeps where a branch fires: the steps over plain values.
use Rattle.std.proofs.Common.{◌≡◌, ℕ, ◌+◌, ◌<◌, ◌^◌, List, [], ◌∷◌, ◌++◌, length, slice_set, Option, None, refl, sym, ap, subst, ◌∙◌, arith}
use Rattle.std.proofs.lemmas.Option.{slice_get_within}
use Rattle.cb_term.specs.Values.{Look}
use Rattle.cb_spec.specs.declared.state.Entry.{Entry}
use Rattle.cb_spec.specs.declared.state.Entry.TheVariants as entry
use Rattle.cb_spec.specs.declared.state.End.{End}
use Rattle.cb_spec.specs.declared.system.System.{System}
use Rattle.cb_spec.specs.ProcessTree.{ProcessTree}
use Rattle.cb_spec.specs.Bound.{names, bind}
use Rattle.cb_spec.specs.Stores.{Writes, over, look_of}
use Rattle.cb_spec.specs.States.{IsAt, ControlView, AtProcess, StateView, state_of}
use Rattle.cb_spec.specs.Journals.{events, Step, Operating, Passing}
use Rattle.cb_safety_laws.proofs.Lists.{set_length}
use Rattle.cb_code.specs.declared.place.Place.{Place}
use Rattle.cb_code.specs.declared.place.Place.TheVariants.{At, Ready}
use Rattle.cb_code.specs.Nodes.{part}
use Rattle.cb_settling.specs.Ops.{KeepsNames}
use Rattle.cb_settling.specs.Calling.{IsRoomy}
use Rattle.cb_settling.proofs.CalledLemmas.{kept_own}
use Rattle.cb_settling.proofs.RoomLemmas.{room_called, room_written}
use Rattle.cb_settling.proofs.GoodLemmas.{operating}
use Rattle.cb_beginning.specs.Placed.{state_in, Laid}
use Rattle.cb_system.specs.declared.perform.Performed.{Performed}
use Rattle.cb_system.specs.declared.pass.Passed.{Passed}
use Rattle.cb_system.specs.Views.{last_end}
use Rattle.cb_system.specs.Kept.{Keeps, is_unsettled, is_living, AreCounted}
use Rattle.cb_system.specs.Firing.{IsPerformed, IsPassed}
use Rattle.cb_system.proofs.JournalLemmas.{is_open, keeps_more, keeps_same}
use Rattle.cb_system.proofs.PlaceLemmas.{seen, controls_set, laid_set, sum_set, set_twice, other_at}
use Rattle.cb_system.proofs.BranchLemmas.{from_place, branch_there}
use Rattle.cb_system.proofs.CountLemmas.{few_unsettled}

-- what was found of the fields
pub performed_fact : (y z : System) (ps : List ProcessTree) (places slice : List Place) (look : Look) (i b : ℕ) (r : Performed) → IsPerformed z ps slice look i b r → z ≡ y → slice ≡ places → IsPerformed y ps places look i b r
performed_fact y z ps places slice look i b r h same sliced = subst (λ (w : System). IsPerformed w ps places look i b r) same (subst (λ (ls : List Place). IsPerformed z ps ls look i b r) sliced h)

pub passed_fact : (y z : System) (ps : List ProcessTree) (places slice : List Place) (k sent rec : ℕ) (r : Passed) → IsPassed z ps slice k sent rec r → z ≡ y → slice ≡ places → IsPassed y ps places k sent rec r
passed_fact y z ps places slice k sent rec r h same sliced = subst (λ (w : System). IsPassed w ps places k sent rec r) same (subst (λ (ls : List Place). IsPassed z ps ls k sent rec r) sliced h)

module _ (y : System) (limit : ℕ) (s0 : Writes) (es : List Entry) (ps : List ProcessTree) (store : Writes) (places : List Place) (bodies : List (List ℕ)) (count : ℕ) (end : Option End) (len room unsettled living : ℕ)
    (h : Keeps y limit s0 es (state_in ps store places) count end len room × Laid y ps places bodies × IsRoomy y store × AreCounted places unsettled living) where
  abbrev now : StateView
  now = state_of (state_in ps store places)

  -- where a branch of the controller has fired, it is at a process
  module _ (i b : ℕ) (next : ℕ) (ks : List ℕ) (here env : Writes) (at : IsAt places i (Ready ks here)) (within : next < length ps) where
    fired_laid : Laid y ps (slice_set places i (At next env)) bodies
    fired_laid = laid_set y ps places bodies i (At next env) within h.1

    fired_counts : (u : ℕ) → u ≡ unsettled + 1 → AreCounted (slice_set places i (At next env)) u living
    fired_counts u e =
        let a = sum_set is_unsettled places i (At next env) (Ready ks here) at in
        let b = sum_set is_living places i (At next env) (Ready ks here) at in
        let p = h.3.unsettled_is in
        let q = h.3.living_is in
        record { unsettled_is = omega (arith, a, p, e); living_is = omega (arith, b, q) }

  -- numbers of 32 bits tell how many controllers are unsettled
  few_counted : (qs : List Place) (u l : ℕ) → AreCounted qs u l → length qs ≡ length places → u < 2 ^ 32
  few_counted qs u l c same =
      let a = c.unsettled_is in
      let b = few_unsettled qs in
      let m = h.1.many in
      let n = h.0.good.typed.numbers in
      let few = h.0.good.typed.few_controllers in
      omega (arith, a, b, m, n, few, same)

  -- ---- an operation is called

  module _ (i b : ℕ) (r : Performed) (performed : IsPerformed y ps places (look_of store) i b r) where
    pub performed_few : unsettled + 1 < 2 ^ 32
    performed_few =
        let p = performed.branch in
        few_counted (slice_set places i (At r.next r.env)) (unsettled + 1) living (fired_counts i b r.next p.shown.prefixes performed.here r.env p.shown.at p.within (unsettled + 1) refl) (set_length places i (At r.next r.env))

    pub caller_within : i < length places
    caller_within = slice_get_within places i (Ready performed.branch.shown.prefixes performed.here) performed.branch.shown.at

    pub step_performed : (len' room' count' unsettled' : ℕ) (new : List Entry) (left : Writes) → last_end es ≡ None → events es < limit →
        new ≡ es ++ entry.Op i b r.machine r.operation r.args r.called.results r.called.written ∷ [] → look_of left ≡ over r.called.written (look_of store) → KeepsNames store left →
        len' < room' → count' ≡ count + 1 → unsettled' ≡ unsettled + 1 →
        Keeps y limit s0 new (state_in ps left (slice_set places i (At r.next r.env))) count' end len' room' × Laid y ps (slice_set places i (At r.next r.env)) bodies
        × IsRoomy y left × AreCounted (slice_set places i (At r.next r.env)) unsettled' living
    step_performed len' room' count' unsettled' new left none few is store_is keeps fits count_is unsettled_is =
        let p = performed in
        let last = At r.next r.env in
        let t = state_in ps left (slice_set places i last) in
        let e = entry.Op i b r.machine r.operation r.args r.called.results r.called.written in
        let to : ControlView = AtProcess (part ps r.next) (over (bind p.targets r.called.results) (look_of p.here)) in
        let seen_is : seen ps last ≡ to = ap (AtProcess (part ps r.next)) p.bound in
        let controls : slice_set now.controls i to ≡ (state_of t).controls = ap (slice_set now.controls i) (sym seen_is) ∙ sym (controls_set ps places i last) in
        let from = operating y now i b r.machine r.operation _ p.terms p.targets (part ps r.next) (look_of p.here) r.args p.machine p.operation r.called (from_place ps store places i b _ _ p.here p.branch.shown)
        (branch_there ps store places i b _ _ p.here p.branch.shown) p.arguments p.its p.listed p.called in
        let lawful : Operating y now i b r.machine r.operation r.args r.called.results r.called.written (state_of t) =
        subst (λ (l : Look). Operating y now i b r.machine r.operation r.args r.called.results r.called.written (record { store = l; controls = (state_of t).controls })) (sym store_is)
        (subst (λ (cs : List ControlView). Operating y now i b r.machine r.operation r.args r.called.results r.called.written (record { store = over r.called.written (look_of store); controls = cs })) controls from) in
        let step : Step y limit es now e (state_of t) = (is_open _ _ _ _ _ _ _ _ _ h.0 none, few, lawful) in
        let journal : Keeps y limit s0 new t count' end len' room' =
        subst (λ (o : Option End). Keeps y limit s0 new t count' o len' room') (sym (h.0.end_is ∙ none))
        (keeps_more _ _ _ _ _ _ _ _ _ h.0 e t new count' len' room' none step is (omega (arith, count_is)) (λ n. fits)) in
        let roomy = room_written y h.0.good.typed r.machine p.machine p.its r.called.written (kept_own (names p.machine.variables) r.called.written p.called.0 p.called.1.2) store left keeps store_is h.2 in
        (journal, fired_laid i b r.next p.branch.shown.prefixes p.here r.env p.branch.shown.at p.branch.within, roomy, fired_counts i b r.next p.branch.shown.prefixes p.here r.env p.branch.shown.at p.branch.within unsettled' unsettled_is)

  -- after want of memory
  pub step_failed : (len' room' : ℕ) (left : Writes) → look_of left ≡ look_of store → KeepsNames store left → (end ≡ None → len' < room') →
      Keeps y limit s0 es (state_in ps left places) count end len' room' × Laid y ps places bodies × IsRoomy y left × AreCounted places unsettled living
  step_failed len' room' left same keeps fits = (
    keeps_same _ _ _ _ _ _ _ _ _ h.0 (state_in ps left places) len' room' (ap (λ (l : Look). let t : StateView = record { store = l; controls = now.controls } in t) same) fits,
    h.1,
    room_called y store left keeps same h.2,
    h.3,
  )

  -- ---- values pass

  module _ (k sent rec : ℕ) (r : Passed) (passed : IsPassed y ps places k sent rec r) where
    -- sender and receiver are two
    pub ends_differ : r.sender ≡ r.receiver → ⊥
    ends_differ e =
        let p = passed in
        let c = h.0.good.typed.channels k p.channel p.its in
        let all = c.two_ends (sym p.sender ∙ e ∙ p.receiver) in
        let low = slice_get_within places p.channel.sender _ p.out.shown.at in
        let m = h.1.many in
        let n = h.0.good.typed.numbers in
        omega (arith, all, low, m, n)

    pub sender_at : IsAt places r.sender (Ready passed.out.shown.prefixes passed.out_env)
    sender_at = subst (λ n. IsAt places n (Ready passed.out.shown.prefixes passed.out_env)) (sym passed.sender) passed.out.shown.at

    receiver_at : IsAt places r.receiver (Ready passed.into.shown.prefixes passed.in_env)
    receiver_at = subst (λ n. IsAt places n (Ready passed.into.shown.prefixes passed.in_env)) (sym passed.receiver) passed.into.shown.at

    pub sender_within : r.sender < length places
    sender_within = slice_get_within places r.sender _ sender_at

    pub receiver_within : r.receiver < length places
    receiver_within = slice_get_within places r.receiver _ receiver_at

    passed_counts : (out into : Place) → is_unsettled out ≡ 1 → is_unsettled into ≡ 1 → is_living out ≡ 1 → is_living into ≡ 1 → AreCounted (slice_set (slice_set places r.sender out) r.receiver into) (unsettled + 2) living
    passed_counts out into eo ei lo li =
        let mid = slice_set places r.sender out in
        let at = other_at places r.sender r.receiver out ends_differ ∙ receiver_at in
        let a = sum_set is_unsettled places r.sender out (Ready passed.out.shown.prefixes passed.out_env) sender_at in
        let b = sum_set is_living places r.sender out (Ready passed.out.shown.prefixes passed.out_env) sender_at in
        let c = sum_set is_unsettled mid r.receiver into (Ready passed.into.shown.prefixes passed.in_env) at in
        let d = sum_set is_living mid r.receiver into (Ready passed.into.shown.prefixes passed.in_env) at in
        let u = h.3.unsettled_is in
        let l = h.3.living_is in
        record { unsettled_is = omega (arith, a, c, u, eo, ei); living_is = omega (arith, b, d, l, lo, li) }

    pub passed_few : unsettled + 2 < 2 ^ 32
    passed_few =
        let out = At r.out_next passed.out_env in
        let into = At r.in_next r.env in
        let mid = slice_set places r.sender out in
        few_counted (slice_set mid r.receiver into) (unsettled + 2) living (passed_counts out into refl refl refl refl) (set_length mid r.receiver into ∙ set_length places r.sender out)

    passing : (t : StateView) → t.store ≡ look_of store → t.controls ≡ slice_set (slice_set now.controls passed.channel.sender (AtProcess (part ps r.out_next) (look_of passed.out_env))) passed.channel.receiver
        (AtProcess (part ps r.in_next) (over (bind passed.targets r.values) (look_of passed.in_env))) → Passing y now k sent rec r.values t
    passing t store_is controls_are =
        let p = passed in
        record {
          channel = p.channel;
          its = p.its;
          outs = _;
          sender = from_place ps store places p.channel.sender sent _ _ p.out_env p.out.shown;
          terms = p.terms;
          guarantee = p.guarantee;
          out_next = part ps r.out_next;
          out_env = look_of p.out_env;
          out = branch_there ps store places p.channel.sender sent _ _ p.out_env p.out.shown;
          ins = _;
          receiver = from_place ps store places p.channel.receiver rec _ _ p.in_env p.into.shown;
          targets = p.targets;
          assume = p.assume;
          in_next = part ps r.in_next;
          in_env = look_of p.in_env;
          into = branch_there ps store places p.channel.receiver rec _ _ p.in_env p.into.shown;
          sent_values = p.values;
          after = λ j. record { store = store_is j; controls = controls_are j };
        }

    pub step_passed : (len' room' count' unsettled' : ℕ) (new : List Entry) (out_env : Writes) → last_end es ≡ None → events es < limit → new ≡ es ++ entry.Pass k sent rec r.values ∷ [] →
        out_env ≡ passed.out_env → len' < room' → count' ≡ count + 1 → unsettled' ≡ unsettled + 2 →
        Keeps y limit s0 new (state_in ps store (slice_set (slice_set places r.sender (At r.out_next out_env)) r.receiver (At r.in_next r.env))) count' end len' room'
        × Laid y ps (slice_set (slice_set places r.sender (At r.out_next out_env)) r.receiver (At r.in_next r.env)) bodies
        × IsRoomy y store × AreCounted (slice_set (slice_set places r.sender (At r.out_next out_env)) r.receiver (At r.in_next r.env)) unsettled' living
    step_passed len' room' count' unsettled' new out_env none few is env_is fits count_is unsettled_is =
        let p = passed in
        let out = At r.out_next out_env in
        let into = At r.in_next r.env in
        let mid = slice_set places r.sender out in
        let last = slice_set mid r.receiver into in
        let t = state_in ps store last in
        let e = entry.Pass k sent rec r.values in
        let seen_out : seen ps out ≡ AtProcess (part ps r.out_next) (look_of p.out_env) = ap (λ d. AtProcess (part ps r.out_next) (look_of d)) env_is in
        let seen_into : seen ps into ≡ AtProcess (part ps r.in_next) (over (bind p.targets r.values) (look_of p.in_env)) = ap (AtProcess (part ps r.in_next)) p.bound in
        let controls : (state_of t).controls ≡ slice_set (slice_set now.controls p.channel.sender (AtProcess (part ps r.out_next) (look_of p.out_env))) p.channel.receiver
        (AtProcess (part ps r.in_next) (over (bind p.targets r.values) (look_of p.in_env))) =
        controls_set ps mid r.receiver into ∙ ap (λ (cs : List ControlView). slice_set cs r.receiver (seen ps into)) (controls_set ps places r.sender out)
        ∙ (λ j. slice_set (slice_set now.controls (p.sender j) (seen_out j)) (p.receiver j) (seen_into j)) in
        let step : Step y limit es now e (state_of t) = (is_open _ _ _ _ _ _ _ _ _ h.0 none, few, passing (state_of t) refl controls) in
        let journal : Keeps y limit s0 new t count' end len' room' =
        subst (λ (o : Option End). Keeps y limit s0 new t count' o len' room') (sym (h.0.end_is ∙ none))
        (keeps_more _ _ _ _ _ _ _ _ _ h.0 e t new count' len' room' none step is (omega (arith, count_is)) (λ n. fits)) in (
          journal,
          laid_set y ps mid bodies r.receiver into p.into.within (laid_set y ps places bodies r.sender out p.out.within h.1),
          h.2,
          subst (λ n. AreCounted last n living) (sym unsettled_is) (passed_counts out into refl refl refl refl),
        )

    -- the same, where something stood between in the sender's place
    pub step_passed_over : (len' room' count' unsettled' : ℕ) (new : List Entry) (out_env : Writes) (between : Place) → last_end es ≡ None → events es < limit → new ≡ es ++ entry.Pass k sent rec r.values ∷ [] →
        out_env ≡ passed.out_env → len' < room' → count' ≡ count + 1 → unsettled' ≡ unsettled + 2 →
        Keeps y limit s0 new (state_in ps store (slice_set (slice_set (slice_set places r.sender between) r.sender (At r.out_next out_env)) r.receiver (At r.in_next r.env))) count' end len' room'
        × Laid y ps (slice_set (slice_set (slice_set places r.sender between) r.sender (At r.out_next out_env)) r.receiver (At r.in_next r.env)) bodies
        × IsRoomy y store × AreCounted (slice_set (slice_set (slice_set places r.sender between) r.sender (At r.out_next out_env)) r.receiver (At r.in_next r.env)) unsettled' living
    step_passed_over len' room' count' unsettled' new out_env between none few is env_is fits count_is unsettled_is =
        subst (λ (qs : List Place). Keeps y limit s0 new (state_in ps store (slice_set qs r.receiver (At r.in_next r.env))) count' end len' room'
        × Laid y ps (slice_set qs r.receiver (At r.in_next r.env)) bodies × IsRoomy y store × AreCounted (slice_set qs r.receiver (At r.in_next r.env)) unsettled' living)
        (sym (set_twice places r.sender between (At r.out_next out_env))) (step_passed len' room' count' unsettled' new out_env none few is env_is fits count_is unsettled_is)
