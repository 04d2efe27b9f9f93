-- What is true where a state is good: processes can be resolved, and calls performed.
use Rattle.std.proofs.Common.{ℕ, List, ◌++◌, slice_get, slice_set, Option, refl}
use Rattle.cb_term.specs.declared.name.Name.{Name}
use Rattle.cb_term.specs.declared.value.Value.{Value}
use Rattle.cb_term.specs.Tree.{TermTree, FormulaTree}
use Rattle.cb_term.specs.Values.{Look}
use Rattle.cb_spec.specs.declared.event.Event.TheVariants as event
use Rattle.cb_spec.specs.declared.system.Controller.{Controller}
use Rattle.cb_spec.specs.declared.system.Machine.{Machine}
use Rattle.cb_spec.specs.declared.system.Operation.{Operation}
use Rattle.cb_spec.specs.declared.system.System.{System}
use Rattle.cb_spec.specs.declared.state.Entry.{Entry}
use Rattle.cb_spec.specs.ProcessTree.{ProcessTree}
use Rattle.cb_spec.specs.Stores.{Writes, over, look_of}
use Rattle.cb_spec.specs.States.{IsAt, BranchView, AtProcess, Offering, StateView}
use Rattle.cb_spec.specs.Settling.{AreValues}
use Rattle.cb_spec.specs.Journals.{set_sizes, IsNumbered, Settling, Operating}
use Rattle.cb_spec.specs.TypedProcesses.{scope_in}
use Rattle.cb_spec.specs.Typed.{targets_of, global_names}
use Rattle.cb_spec.specs.Bound.{names, result_names, bind}
use Rattle.cb_spec.specs.Sound.{Good}
use Rattle.cb_typed.proofs.Erasing.{some_and}
use Rattle.cb_safety_laws.proofs.Forms.{small_sets}
use Rattle.cb_safety_laws.proofs.Safety.{own_hold}
use Rattle.cb_safety_laws.proofs.Steps.{offered_is_fine, offered_is_ready}
use Rattle.cb_settling.specs.declared.call.Called.{Called}
use Rattle.cb_settling.specs.declared.settle.Outcome.{Outcome}
use Rattle.cb_settling.specs.Resolving.{AreTypedIn, CanResolve, IsSettled, outcome_of}
use Rattle.cb_settling.specs.Calling.{IsCalled, CanCall}
use Rattle.cb_settling.proofs.BindLemmas.{args_typed, kinds_as_many}
use Rattle.cb_settling.proofs.CalledLemmas.{kept_own}

module _ (y : System) (limit : ℕ) (s0 : Writes) (es : List Entry) (s : StateView) (good : Good y limit s0 es s) where
  -- each process at which a controller is can be resolved
  pub can_resolve : (i : ℕ) (c : Controller) → IsNumbered y i c → (p : ProcessTree) (env : Look) → IsAt s.controls i (AtProcess p env) → CanResolve y c p env
  can_resolve i c its p env at = record {
    typed = good.typed;
    sound = good.sound;
    number = i;
    its = its;
    store = s.store;
    own = own_hold y good.typed good.sound s good.fit c;
    fine = good.fit.controls i c (AtProcess p env) its at;
  }

  module _ (i b : ℕ) (bs : List BranchView) (next : ProcessTree) (env : Look) (at : IsAt s.controls i (Offering bs)) where
    -- the terms of an output that is offered have values
    pub output_typed : (k : ℕ) (ts : List TermTree) (said : Option FormulaTree) → IsAt bs b (record { event = event.Output k ts said; next = next; env = env }) → AreTypedIn (set_sizes y) env ts
    output_typed k ts said listed =
        let here = offered_is_fine y good.typed good.sound s good.fit i b bs _ at listed in
        let f = here.2 in
        let ch = some_and (slice_get y.channels k) _ f.typed.0 in
        args_typed (set_sizes y) f.scope f.taken env ch.0.values ts f.agrees (small_sets y good.typed) ch.2.1

    module _ (k j : ℕ) (ts : List TermTree) (xs : List Name) (listed : IsAt bs b (record { event = event.Call k j ts xs; next = next; env = env })) where
      -- and so have the arguments of a call
      pub call_typed : AreTypedIn (set_sizes y) env ts
      call_typed =
          let here = offered_is_fine y good.typed good.sound s good.fit i b bs _ at listed in
          let f = here.2 in
          let m = some_and (slice_get y.machines k) _ f.typed.2 in
          let o = some_and (slice_get m.0.operations j) _ m.2 in
          args_typed (set_sizes y) f.scope f.taken env o.0.params ts f.agrees (small_sets y good.typed) o.2.0

      -- with these values it can be performed
      pub can_call : (args : List Value) → AreValues (set_sizes y) env ts args → CanCall y k j args s.store
      can_call args are =
          let here = offered_is_fine y good.typed good.sound s good.fit i b bs _ at listed in
          let f = here.2 in
          let m = some_and (slice_get y.machines k) _ f.typed.2 in
          let o = some_and (slice_get m.0.operations j) _ m.2 in
          let ready = offered_is_ready y good.typed good.sound s good.fit i b k j bs ts xs next env at listed m.0 o.0 m.1 o.1 args are in
          let typed = (good.typed.machines k m.0 m.1).operations j o.0 o.1 in
          record {
            machine = m.0;
            its = m.1;
            operation = o.0;
            listed = o.1;
            as_many = kinds_as_many (set_sizes y) o.0.params args ready.kinds;
            kinds = ready.kinds;
            precondition = ready.precondition;
            can = record {
              targets = o.0.results ++ targets_of m.0.variables;
              scope = scope_in m.0 o.0;
              taken = names o.0.params ++ result_names o.0.results ++ global_names y;
              agrees = ready.agrees;
              small_sets = small_sets y good.typed;
              typed = typed.body;
              fits = typed.body_fits;
              live = ready.live;
            };
          }

-- ---- entries

-- a process is resolved
pub settling : (y : System) (s : StateView) (i : ℕ) (c : Controller) (ps : List ProcessTree) (p : ProcessTree) (env : Writes) (outcome : Outcome) (bits : ℕ) → IsNumbered y i c →
    IsAt s.controls i (AtProcess p (look_of env)) → IsSettled y c ps p env outcome bits →
    Settling y s i bits (record { store = s.store; controls = slice_set s.controls i (outcome_of ps env outcome) })
settling y s i c ps p env outcome bits its from r = record {
  controller = c;
  its = its;
  process = p;
  env = look_of env;
  from = from;
  outcome = outcome_of ps env outcome;
  depth = r.depth;
  sides = r.sides;
  settles = r.settles;
  bits_are = r.bits_are;
  after = refl;
}

-- an operation is called
pub operating : (y : System) (s : StateView) (i b k j : ℕ) (bs : List BranchView) (ts : List TermTree) (xs : List Name) (next : ProcessTree) (env : Look) (args : List Value) (m : Machine) (o : Operation) (c : Called) →
    IsAt s.controls i (Offering bs) → IsAt bs b (record { event = event.Call k j ts xs; next = next; env = env }) → AreValues (set_sizes y) env ts args →
    IsAt y.machines k m → IsAt m.operations j o → IsCalled (set_sizes y) m o args s.store c →
    Operating y s i b k j args c.results c.written (record { store = over c.written s.store; controls = slice_set s.controls i (AtProcess next (over (bind xs c.results) env)) })
operating y s i b k j bs ts xs next env args m o c from offered are its listed r = record {
  branches = bs;
  from = from;
  terms = ts;
  targets = xs;
  next = next;
  env = env;
  offered = offered;
  machine = m;
  its = its;
  operation = o;
  listed = listed;
  arguments = are;
  own = kept_own (names m.variables) c.written r.0 r.1.2;
  runs = λ pre. (r.0, (r.1.0, r.1.1, r.1.2));
  after = refl;
}
