-- What the terms and names of an offered branch are, and what comes of it.
use Rattle.std.proofs.Common.{◌≡◌, ℕ, suc, List, [], ◌∷◌, length, slice_get, Option, refl, sym, ap, subst, ◌∙◌}
use Rattle.cb_term.specs.declared.name.Name.{Name}
use Rattle.cb_term.specs.declared.value.Value.{Value}
use Rattle.cb_term.specs.Tree.{TermTree, FormulaTree}
use Rattle.cb_term.specs.Values.{Look}
use Rattle.cb_spec.specs.declared.event.Event.TheVariants as event
use Rattle.cb_spec.specs.declared.system.Channel.{Channel}
use Rattle.cb_spec.specs.declared.system.Declared.{Declared}
use Rattle.cb_spec.specs.declared.system.Machine.{Machine}
use Rattle.cb_spec.specs.declared.system.Operation.{Operation}
use Rattle.cb_spec.specs.declared.system.System.{System}
use Rattle.cb_spec.specs.ProcessTree.{ProcessTree}
use Rattle.cb_spec.specs.Stores.{Writes, look_of}
use Rattle.cb_spec.specs.States.{IsAt, StateView, state_of}
use Rattle.cb_spec.specs.Settling.{AreValues}
use Rattle.cb_spec.specs.Journals.{set_sizes, results_after}
use Rattle.cb_spec.specs.TypedTerms.{Scope}
use Rattle.cb_spec.specs.TypedProcesses.{TypedArgs, kinds_of}
use Rattle.cb_typed.proofs.Erasing.{some_and}
use Rattle.cb_safety_laws.proofs.Lists.{map_length, two_at}
use Rattle.cb_safety_laws.proofs.Steps.{offered_is_fine}
use Rattle.cb_code.specs.declared.place.Place.{Place}
use Rattle.cb_code.specs.Nodes.{part}
use Rattle.cb_settling.specs.declared.call.Called.{Called}
use Rattle.cb_settling.specs.Calling.{IsCalled, CanCall}
use Rattle.cb_settling.specs.Resolving.{AreTypedIn}
use Rattle.cb_settling.proofs.GoodLemmas.{call_typed, can_call, output_typed}
use Rattle.cb_beginning.specs.Placed.{state_in}
use Rattle.cb_system.specs.Branches.{IsBranch}
use Rattle.cb_system.specs.Moves.{AreGood}
use Rattle.cb_system.proofs.BranchLemmas.{from_place, branch_there}

pub values_many : (sizes : List ℕ) (look : Look) (ts : List TermTree) (vs : List Value) → AreValues sizes look ts vs → length ts ≡ length vs
values_many sizes look [] [] h = refl
values_many sizes look [] (v ∷ vs) h = absurd h
values_many sizes look (t ∷ ts) [] h = absurd h
values_many sizes look (t ∷ ts) (v ∷ vs) h = ap suc (values_many sizes look ts vs h.1)

args_many : (sizes : List ℕ) (scope : Scope) (taken : List Name) (ds : List Declared) (ts : List TermTree) → TypedArgs sizes scope taken (kinds_of ds) ts → length ts ≡ length ds
args_many sizes scope taken [] [] h = refl
args_many sizes scope taken [] (t ∷ ts) h = absurd h
args_many sizes scope taken (d ∷ ds) [] h = absurd h
args_many sizes scope taken (d ∷ ds) (t ∷ ts) h = ap suc (args_many sizes scope taken ds ts h.1)

module _ (y : System) (ps : List ProcessTree) (store : Writes) (places : List Place) (good : AreGood y ps store places) where
  abbrev state : StateView
  state = state_of (state_in ps store places)

  module _ (i b k j : ℕ) (ts : List TermTree) (xs : List Name) (next : ℕ) (env : Writes) (r : IsBranch ps places i b (event.Call k j ts xs) next env) where
    pub call_args : AreTypedIn (set_sizes y) (look_of env) ts
    call_args = call_typed y good.limit good.beginning good.journal state good.good i b _ (part ps next) (look_of env) (from_place ps store places i b _ _ env r.shown) k j ts xs (branch_there ps store places i b _ _ env r.shown)

    pub call_can : (args : List Value) → AreValues (set_sizes y) (look_of env) ts args → CanCall y k j args (look_of store)
    call_can args are = can_call y good.limit good.beginning good.journal state good.good i b _ (part ps next) (look_of env) (from_place ps store places i b _ _ env r.shown) k j ts xs (branch_there ps store places i b _ _ env r.shown) args are

    -- a call gives as many results as it has names for them
    pub targets_many : (m : Machine) (o : Operation) (args : List Value) (c : Called) → IsAt y.machines k m → IsAt m.operations j o → IsCalled (set_sizes y) m o args (look_of store) c → length xs ≡ length c.results
    targets_many m o args c at listed called =
        let here = offered_is_fine y good.good.typed good.good.sound state good.good.fit i b _ _ (from_place ps store places i b _ _ env r.shown) (branch_there ps store places i b _ _ env r.shown) in
        let f = here.2 in
        let km = some_and (slice_get y.machines k) _ f.typed.2 in
        let jo = some_and (slice_get km.0.operations j) _ km.2 in
        let m_is : km.0 ≡ m = two_at y.machines k km.0 m km.1 at in
        let o_is : jo.0 ≡ o = two_at m.operations j jo.0 o (subst (λ (n : Machine). IsAt n.operations j jo.0) m_is jo.1) listed in
        let many : length xs ≡ length o.results = jo.2.1 ∙ ap (λ (p : Operation). length p.results) o_is in
        let given : length c.results ≡ length (results_after o called.0) = ap length called.1.1 in
        many ∙ sym (given ∙ (results_many o called.0))
      where
        results_many : (o : Operation) (d : Writes) → length (results_after o d) ≡ length o.results
        results_many o d = map_length (look_of d) _ ∙ map_length _ o.results

  module _ (i b k : ℕ) (ts : List TermTree) (said : Option FormulaTree) (next : ℕ) (env : Writes) (r : IsBranch ps places i b (event.Output k ts said) next env) where
    pub output_args : AreTypedIn (set_sizes y) (look_of env) ts
    output_args = output_typed y good.limit good.beginning good.journal state good.good i b _ (part ps next) (look_of env) (from_place ps store places i b _ _ env r.shown) k ts said (branch_there ps store places i b _ _ env r.shown)

    -- the controller is the channel's sender, and it sends as many values as the channel has
    pub sends_so : (ch : Channel) → IsAt y.channels k ch → (ch.sender ≡ i) × (length ts ≡ length ch.values)
    sends_so ch at =
        let here = offered_is_fine y good.good.typed good.good.sound state good.good.fit i b _ _ (from_place ps store places i b _ _ env r.shown) (branch_there ps store places i b _ _ env r.shown) in
        let c = some_and (slice_get y.channels k) _ here.2.typed.0 in
        let same : c.0 ≡ ch = two_at y.channels k c.0 ch c.1 at in
        (ap (λ (d : Channel). d.sender) (sym same) ∙ c.2.0, args_many _ _ _ c.0.values ts c.2.1 ∙ ap (λ (d : Channel). length d.values) same)

  module _ (i b k : ℕ) (xs : List Name) (said : Option FormulaTree) (next : ℕ) (env : Writes) (r : IsBranch ps places i b (event.Input k xs said) next env) where
    -- the controller is the channel's receiver, and it has as many names as the channel has values
    pub receives_so : (ch : Channel) → IsAt y.channels k ch → (ch.receiver ≡ i) × (length xs ≡ length ch.values)
    receives_so ch at =
        let here = offered_is_fine y good.good.typed good.good.sound state good.good.fit i b _ _ (from_place ps store places i b _ _ env r.shown) (branch_there ps store places i b _ _ env r.shown) in
        let c = some_and (slice_get y.channels k) _ here.2.typed.1 in
        let same : c.0 ≡ ch = two_at y.channels k c.0 ch c.1 at in
        (ap (λ (d : Channel). d.receiver) (sym same) ∙ c.2.0, c.2.1 ∙ ap (λ (d : Channel). length d.values) same)
