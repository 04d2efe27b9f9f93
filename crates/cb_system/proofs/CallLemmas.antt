-- A call that a controller offers: what performing it asks, and what comes of it.
use Rattle.std.proofs.Common.{◌≡◌, ℕ, ◌<◌, List, length, get_or, map, Option, Some, ◌⊎◌, inl, inr, sym, ap, subst, ◌∙◌}
use Rattle.std.proofs.lemmas.Option.{slice_get-get_or}
use Rattle.cb_term.specs.declared.name.Name.{Name}
use Rattle.cb_term.specs.declared.value.Value.{Value}
use Rattle.cb_term.specs.Tree.{TermTree, FormulaTree}
use Rattle.cb_spec.specs.declared.event.Event.{Event}
use Rattle.cb_spec.specs.declared.event.Event.TheVariants as event
use Rattle.cb_spec.specs.declared.system.Machine.{Machine}
use Rattle.cb_spec.specs.declared.system.Operation.{Operation}
use Rattle.cb_spec.specs.declared.system.System.{System}
use Rattle.cb_spec.specs.ProcessTree.{ProcessTree}
use Rattle.cb_spec.specs.Bound.{names, bind}
use Rattle.cb_spec.specs.Machines.{with_args}
use Rattle.cb_spec.specs.Stores.{Writes, over, look_of}
use Rattle.cb_spec.specs.States.{IsAt}
use Rattle.cb_spec.specs.Settling.{AreValues}
use Rattle.cb_spec.specs.Journals.{set_sizes}
use Rattle.cb_relation.specs.Performing.{CanRun}
use Rattle.cb_safety_laws.specs.Causes.{IsCall}
use Rattle.cb_safety_laws.proofs.Lists.{two_at, at_below}
use Rattle.cb_code.specs.declared.place.Place.{Place}
use Rattle.cb_settling.specs.declared.call.Called.{Called}
use Rattle.cb_settling.specs.Ops.{AllThere, HasRoom, KeepsNames}
use Rattle.cb_settling.specs.Calling.{IsCalled, CanCall}
use Rattle.cb_settling.specs.Resolving.{AreTypedIn}
use Rattle.cb_settling.proofs.CalledLemmas.{kept_own}
use Rattle.cb_settling.proofs.RoomLemmas.{room_called, written_there}
use Rattle.cb_system.specs.declared.perform.Performed.{Performed}
use Rattle.cb_system.specs.Branches.{IsBranch}
use Rattle.cb_system.specs.Firing.{CanPerform, IsPerformed}
use Rattle.cb_system.proofs.FireLemmas.{call_args, call_can, targets_many}

-- the event that was read is the call
pub call_branch : (ps : List ProcessTree) (places : List Place) (i b : ℕ) (e : Event) (k j : ℕ) (ts : List TermTree) (xs : List Name) (next : ℕ) (env : Writes) → e ≡ event.Call k j ts xs → IsBranch ps places i b e next env →
    IsBranch ps places i b (event.Call k j ts xs) next env
call_branch ps places i b e k j ts xs next env is r = subst (λ z. IsBranch ps places i b z next env) is r

pub call_apart : (e : Event) → IsCall e → ((k : ℕ) × (ts : List TermTree) × (said : Option FormulaTree) × (e ≡ event.Output k ts said)) ⊎ ((k : ℕ) × (xs : List Name) × (said : Option FormulaTree) × (e ≡ event.Input k xs said)) → ⊥
call_apart e h (inl r) = subst IsCall r.3 h
call_apart e h (inr r) = subst IsCall r.3 h

module _ (y : System) (ps : List ProcessTree) (store : Writes) (places : List Place) (i b : ℕ) (can : CanPerform y ps store places i b) (k j : ℕ) (ts : List TermTree) (xs : List Name) (next : ℕ) (env : Writes)
    (branch : IsBranch ps places i b (event.Call k j ts xs) next env) where
  pub terms_typed : AreTypedIn (set_sizes y) (look_of env) ts
  terms_typed = call_args y ps store places can.good i b k j ts xs next env branch

  module _ (args : List Value) (are : AreValues (set_sizes y) (look_of env) ts args) where
    call : CanCall y k j args (look_of store)
    call = call_can y ps store places can.good i b k j ts xs next env branch args are

    pub machine_within : k < length y.machines
    machine_within = at_below y.machines k call.machine call.its

    pub machine_at : (ms : List Machine) (m : Machine) → ms ≡ y.machines → m ≡ get_or ms k m → IsAt y.machines k m
    machine_at ms m same is = slice_get-get_or y.machines k m machine_within ∙ ap Some (sym (is ∙ ap (λ l. get_or l k m) same))

    module _ (m : Machine) (at : IsAt y.machines k m) where
      its_operation : IsAt m.operations j call.operation
      its_operation = subst (λ (n : Machine). IsAt n.operations j call.operation) (two_at y.machines k call.machine m call.its at) call.listed

      pub operation_within : j < length m.operations
      operation_within = at_below m.operations j call.operation its_operation

      pub operation_at : (os : List Operation) (o : Operation) → os ≡ m.operations → o ≡ get_or os j o → IsAt m.operations j o
      operation_at os o same is = slice_get-get_or m.operations j o operation_within ∙ ap Some (sym (is ∙ ap (λ l. get_or l j o) same))

      module _ (o : Operation) (listed : IsAt m.operations j o) where
        same : call.operation ≡ o
        same = two_at m.operations j call.operation o its_operation listed

        pub as_many : length o.params ≡ length args
        as_many = subst (λ (p : Operation). length p.params ≡ length args) same call.as_many

        pub can_run : CanRun (set_sizes y) (with_args o args (look_of store)) o.body
        can_run = subst (λ (p : Operation). CanRun (set_sizes y) (with_args p args (look_of store)) p.body) same call.can

        pub has_room : HasRoom (names o.params) store
        has_room = can.room.params k j m o at listed

        module _ (c : Called) (called : IsCalled (set_sizes y) m o args (look_of store) c) where
          pub as_many_targets : length xs ≡ length c.results
          as_many_targets = targets_many y ps store places can.good i b k j ts xs next env branch m o args c at listed called

          -- what is written may be written over the store as the call leaves it
          pub all_there : (left : Writes) → KeepsNames store left → look_of left ≡ look_of store → AllThere (map (λ (e : Name × Value). e.0) c.written) left
          all_there left keeps is = written_there y can.good.good.typed k m at c.written (kept_own (names m.variables) c.written called.0 called.1.2) left (room_called y store left keeps is can.room)

          pub performed_is : (r : Performed) → r.machine ≡ k → r.operation ≡ j → r.args ≡ args → r.called ≡ c → r.next ≡ next → look_of r.env ≡ over (bind xs c.results) (look_of env) → IsPerformed y ps places (look_of store) i b r
          performed_is r rk rj ra rc rn bound = record {
            here = env;
            terms = ts;
            targets = xs;
            branch = subst (λ n. IsBranch ps places i b (event.Call n r.operation ts xs) r.next env) (sym rk)
                (subst (λ n. IsBranch ps places i b (event.Call k n ts xs) r.next env) (sym rj) (subst (λ n. IsBranch ps places i b (event.Call k j ts xs) n env) (sym rn) branch));
            arguments = subst (AreValues (set_sizes y) (look_of env) ts) (sym ra) are;
            machine = m;
            its = subst (λ n. IsAt y.machines n m) (sym rk) at;
            operation = o;
            listed = subst (λ n. IsAt m.operations n o) (sym rj) listed;
            called = subst (λ vs. IsCalled (set_sizes y) m o vs (look_of store) r.called) (sym ra) (subst (λ (d : Called). IsCalled (set_sizes y) m o args (look_of store) d) (sym rc) called);
            bound = bound ∙ ap (λ (d : Called). over (bind xs d.results) (look_of env)) (sym rc);
          }
