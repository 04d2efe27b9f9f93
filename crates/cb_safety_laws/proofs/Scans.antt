-- A scan of what is offered that finds nothing tells that nothing can happen.
use Rattle.std.proofs.Common.{◌≡◌, ℕ, Bool, true, false, List, [], ◌∷◌, Option, slice_get, slice_set, refl, sym, ap, ◌∙◌, subst, ◌⊎◌, inl, if◌then◌else◌}
use Rattle.cb_term.specs.declared.name.Name.{Name}
use Rattle.cb_term.specs.Tree.{TermTree, FormulaTree}
use Rattle.cb_term.specs.Values.{Look}
use Rattle.cb_term.specs.declared.value.Value.{Value}
use Rattle.cb_spec.specs.declared.event.Event.TheVariants as event
use Rattle.cb_spec.specs.declared.system.Channel.{Channel}
use Rattle.cb_spec.specs.declared.system.System.{System}
use Rattle.cb_spec.specs.declared.state.Entry.{Entry}
use Rattle.cb_spec.specs.declared.state.Entry.TheVariants as entry
use Rattle.cb_spec.specs.declared.event.Event.{Event}
use Rattle.cb_spec.specs.ProcessTree.{ProcessTree}
use Rattle.cb_spec.specs.Stores.{Writes, found, over}
use Rattle.cb_spec.specs.Bound.{names, is_among, bind, only}
use Rattle.cb_spec.specs.Machines.{with_args}
use Rattle.cb_spec.specs.States.{IsAt, BranchView, ControlView, AtProcess, Offering, StateView}
use Rattle.cb_spec.specs.Journals.{set_sizes, results_after, Passing, IsEvent, Leads, IsStill}
use Rattle.cb_spec.specs.Typed.{Typed}
use Rattle.cb_spec.specs.Sound.{Sound, FitState}
use Rattle.cb_spec.proofs.RunLemmas.{live_runs}
use Rattle.cb_typed.proofs.Erasing.{some_and}
use Rattle.cb_safety_laws.specs.Causes.{IsOutput, IsInput, IsCall, Offers, Meet, TakesPart, HasNothingToDo, ScansAreExact, CanAct, OffersCanAct, ScansDecide}
use Rattle.cb_safety_laws.proofs.Lists.{two_at}
use Rattle.cb_safety_laws.proofs.Resolving.{values_are}
use Rattle.cb_safety_laws.proofs.Steps.{offered_is_fine, offered_is_ready}

pub meeting : (y : System) (s : StateView) (k sent rec : ℕ) (vs : List Value) (t : StateView) (r : Passing y s k sent rec vs t) → Meet y s k sent rec r.channel
meeting y s k sent rec vs t r = record {
  its = r.its;
  out = (r.outs, record { event = event.Output k r.terms r.guarantee; next = r.out_next; env = r.out_env }, r.sender, r.out, refl);
  into = (r.ins, record { event = event.Input k r.targets r.assume; next = r.in_next; env = r.in_env }, r.receiver, r.into, refl);
}

idle : (y : System) (s : StateView) (i : ℕ) → HasNothingToDo y s i → (e : Entry) (t : StateView) → TakesPart y i e → ¬ Leads y s e t
idle y s i n (entry.Settle j bits) t p r = p
idle y s i n (entry.Op j b k o args results written) t p r =
    n.calls b (r.branches, record { event = event.Call k o r.terms r.targets; next = r.next; env = r.env }, subst (λ z. IsAt s.controls z (Offering r.branches)) p r.from, r.offered, tt)
idle y s i n (entry.Pass k sent rec vs) t p r =
    n.meets k sent rec r.channel (subst (λ (ch : Channel). (ch.sender ≡ i) ⊎ (ch.receiver ≡ i)) (two_at y.channels k p.0 r.channel p.1.0 r.its) p.1.1) (meeting y s k sent rec vs t r)
idle y s i n (entry.End c) t p r = p

still : (y : System) (s : StateView) → ((i : ℕ) (k : ControlView) → IsAt s.controls i k → HasNothingToDo y s i) → IsStill y s
still y s n (entry.Settle i bits) t p r = p
still y s n (entry.Op i b k o args results written) t p r = idle y s i (n i (Offering r.branches) r.from) (entry.Op i b k o args results written) t refl r
still y s n (entry.Pass k sent rec vs) t p r =
    idle y s r.channel.sender (n r.channel.sender (Offering r.outs) r.sender) (entry.Pass k sent rec vs) t (r.channel, (r.its, inl refl)) r
still y s n (entry.End c) t p r = p

pub scans_are_exact : ScansAreExact
scans_are_exact = record { idle = idle; still = still }

-- ---- what is offered can happen

only_twice : (xs : List Name) (d : Writes) → only xs (only xs d) ≡ only xs d
only_twice xs [] = refl
only_twice xs (p ∷ d) = by (is_among p.0 xs) refl (only_twice xs d)
  where
    by : (b : Bool) → is_among p.0 xs ≡ b → only xs (only xs d) ≡ only xs d → only xs (if b then p ∷ only xs d else only xs d) ≡ (if b then p ∷ only xs d else only xs d)
    by true i r = ap (λ b. if b then p ∷ only xs (only xs d) else only xs (only xs d)) i ∙ ap (λ z. p ∷ z) r
    by false i r = r

call_at : (bs : List BranchView) (b : ℕ) (ev : Event) (next : ProcessTree) (env : Look) → IsAt bs b (record { event = ev; next = next; env = env }) → IsCall ev →
    (k : ℕ) × (j : ℕ) × (ts : List TermTree) × (xs : List Name) × IsAt bs b (record { event = event.Call k j ts xs; next = next; env = env })
call_at bs b (event.Output k ts said) next env at c = absurd c
call_at bs b (event.Input k xs said) next env at c = absurd c
call_at bs b (event.Call k j ts xs) next env at c = (k, j, ts, xs, at)

out_at : (k : ℕ) (bs : List BranchView) (b : ℕ) (ev : Event) (next : ProcessTree) (env : Look) → IsAt bs b (record { event = ev; next = next; env = env }) → IsOutput k ev →
    (ts : List TermTree) × (said : Option FormulaTree) × IsAt bs b (record { event = event.Output k ts said; next = next; env = env })
out_at k bs b (event.Output j ts said) next env at o = (ts, said, subst (λ z. IsAt bs b (record { event = event.Output z ts said; next = next; env = env })) o at)
out_at k bs b (event.Input j xs said) next env at o = absurd o
out_at k bs b (event.Call m j ts xs) next env at o = absurd o

in_at : (k : ℕ) (bs : List BranchView) (b : ℕ) (ev : Event) (next : ProcessTree) (env : Look) → IsAt bs b (record { event = ev; next = next; env = env }) → IsInput k ev →
    (xs : List Name) × (said : Option FormulaTree) × IsAt bs b (record { event = event.Input k xs said; next = next; env = env })
in_at k bs b (event.Output j ts said) next env at o = absurd o
in_at k bs b (event.Input j xs said) next env at o = (xs, said, subst (λ z. IsAt bs b (record { event = event.Input z xs said; next = next; env = env })) o at)
in_at k bs b (event.Call m j ts xs) next env at o = absurd o

call_acts : (y : System) → Typed y → Sound y → (s : StateView) → FitState y s → (i b k j : ℕ) (bs : List BranchView) (ts : List TermTree) (xs : List Name) (next : ProcessTree) (env : Look) →
    IsAt s.controls i (Offering bs) → IsAt bs b (record { event = event.Call k j ts xs; next = next; env = env }) → CanAct y s i
call_acts y typed sound s fit i b k j bs ts xs next env from offered none =
    let fine = (offered_is_fine y typed sound s fit i b bs (record { event = event.Call k j ts xs; next = next; env = env }) from offered).2 in
    let km = some_and (slice_get y.machines k) _ fine.typed.2 in
    let jo = some_and (slice_get km.0.operations j) _ km.2 in
    let m = km.0 in
    let o = jo.0 in
    let fits = ((typed.machines k m km.1).operations j o jo.1).body_fits in
    values_are (set_sizes y) env ts (λ args are.
    let ready = offered_is_ready y typed sound s fit i b k j bs ts xs next env from offered m o km.1 jo.1 args are in
    live_runs (set_sizes y) o.body (with_args o args s.store) fits ready.live (λ d run.
    let written = only (names m.variables) d in
    let t : StateView = record { store = over written s.store; controls = slice_set s.controls i (AtProcess next (over (bind xs (results_after o d)) env)) } in
    none (entry.Op i b k j args (results_after o d) written) t refl (record {
      branches = bs;
      from = from;
      terms = ts;
      targets = xs;
      next = next;
      env = env;
      offered = offered;
      machine = m;
      its = km.1;
      operation = o;
      listed = jo.1;
      arguments = are;
      own = λ x. ap (λ w. found w x) (sym (only_twice (names m.variables) d));
      runs = λ h. (d, (run, refl, (λ x. refl)));
      after = refl;
    })))

calls_act : (y : System) → Typed y → Sound y → (s : StateView) → FitState y s → (i b : ℕ) → Offers IsCall s i b → CanAct y s i
calls_act y typed sound s fit i b offers =
    let c = call_at offers.0 b offers.1.event offers.1.next offers.1.env offers.3 offers.4 in
    call_acts y typed sound s fit i b c.0 c.1 offers.0 c.2 c.3 offers.1.next offers.1.env offers.2 c.4

meets_act : (y : System) (s : StateView) (i k sent rec : ℕ) (ch : Channel) → (ch.sender ≡ i) ⊎ (ch.receiver ≡ i) → Meet y s k sent rec ch → CanAct y s i
meets_act y s i k sent rec ch part m none =
    let a = out_at k m.out.0 sent m.out.1.event m.out.1.next m.out.1.env m.out.3 m.out.4 in
    let b = in_at k m.into.0 rec m.into.1.event m.into.1.next m.into.1.env m.into.3 m.into.4 in
    values_are (set_sizes y) m.out.1.env a.0 (λ vs are.
    let t : StateView = record {
      store = s.store;
      controls = slice_set (slice_set s.controls ch.sender (AtProcess m.out.1.next m.out.1.env)) ch.receiver (AtProcess m.into.1.next (over (bind b.0 vs) m.into.1.env));
    } in
    none (entry.Pass k sent rec vs) t (ch, (m.its, part)) (record {
      channel = ch;
      its = m.its;
      outs = m.out.0;
      sender = m.out.2;
      terms = a.0;
      guarantee = a.1;
      out_next = m.out.1.next;
      out_env = m.out.1.env;
      out = a.2;
      ins = m.into.0;
      receiver = m.into.2;
      targets = b.0;
      assume = b.1;
      in_next = m.into.1.next;
      in_env = m.into.1.env;
      into = b.2;
      sent_values = are;
      after = refl;
    }))

part_is_event : (y : System) (i : ℕ) (e : Entry) → TakesPart y i e → IsEvent e
part_is_event y i (entry.Settle j bits) p = p
part_is_event y i (entry.Op j b k o args results written) p = tt
part_is_event y i (entry.Pass k sent rec vs) p = tt
part_is_event y i (entry.End c) p = p

pub offers_can_act : OffersCanAct
offers_can_act = record { calls = calls_act; meets = meets_act; stirs = λ y s i acts still. acts (λ e t p. still e t (part_is_event y i e p)) }

-- ---- both ways

idle_decides : (y : System) → Typed y → Sound y → (s : StateView) → FitState y s → (i : ℕ) → ((e : Entry) (t : StateView) → TakesPart y i e → ¬ Leads y s e t) → HasNothingToDo y s i
idle_decides y typed sound s fit i none = record {
  calls = λ b offers. calls_act y typed sound s fit i b offers none;
  meets = λ k sent rec ch part m. meets_act y s i k sent rec ch part m none;
}

pub scans_decide : ScansDecide
scans_decide = record {
  idle = λ y typed sound s fit i. ((λ n. idle y s i n), (λ none. idle_decides y typed sound s fit i none));
  still = λ y typed sound s fit. ((λ n. still y s n), (λ none i k at. idle_decides y typed sound s fit i (λ e t p. none e t (part_is_event y i e p))));
}
