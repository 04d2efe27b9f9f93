-- When a system is sound: what its obligations say, read over what names stand for. And what is true of each state of a run then.
use Rattle.std.specs.Prelude.{ℕ, ◌≡◌, true, Option, None, Some, List, [], ◌∷◌, length, slice_get, IsSomeAnd, Contains, ⊤}
use Rattle.cb_term.specs.declared.name.Name.{Name}
use Rattle.cb_term.specs.declared.value.Value.{Value}
use Rattle.cb_term.specs.Tree.{FormulaTree}
use Rattle.cb_term.specs.Values.{Look}
use Rattle.cb_term.specs.Holds.{Holds}
use Rattle.cb_spec.specs.declared.event.Event.TheVariants as event
use Rattle.cb_spec.specs.declared.system.Channel.{Channel}
use Rattle.cb_spec.specs.declared.system.Controller.{Controller}
use Rattle.cb_spec.specs.declared.system.Definition.{Definition}
use Rattle.cb_spec.specs.declared.system.Machine.{Machine}
use Rattle.cb_spec.specs.declared.system.Operation.{Operation}
use Rattle.cb_spec.specs.declared.system.System.{System}
use Rattle.cb_spec.specs.declared.state.Entry.{Entry}
use Rattle.cb_spec.specs.ProcessTree.{ProcessTree, Stop, Skip, Call, Prefix, Choice, Internal, If}
use Rattle.cb_spec.specs.Stores.{Writes, over, empty}
use Rattle.cb_spec.specs.Bound.{names, is_among, bind, bound_look, AreOfKinds, AreIn, GivesKinds}
use Rattle.cb_spec.specs.Runs.{Runs, Live}
use Rattle.cb_spec.specs.Machines.{with_args, kept}
use Rattle.cb_spec.specs.States.{IsAt, BranchView, ControlView, AtProcess, Offering, Done, StateView}
use Rattle.cb_spec.specs.Settling.{AreValues}
use Rattle.cb_spec.specs.Journals.{set_sizes, IsNumbered, results_after, Run}
use Rattle.cb_spec.specs.Safe.{Invariants}
use Rattle.cb_spec.specs.Silent.{OperandsFit, FewSilent, FewSilentAfter, FewBranches}
use Rattle.cb_spec.specs.Forms.{Form}
use Rattle.cb_spec.specs.TypedTerms.{Scope, form_in}
use Rattle.cb_spec.specs.TypedProcesses.{TypedProcess}
use Rattle.cb_spec.specs.Typed.{global_names, Typed}
use Rattle.cb_spec.specs.FormValues.{IsOfForm}

-- what a sender owes of the values: its annotation, or the channel's assertion
abbrev pub Guaranteed : System → Channel → Option FormulaTree → List Value → Type 0
Guaranteed y ch None vs = Holds (set_sizes y) (bound_look (names ch.values) vs) ch.assertion []
Guaranteed y ch (Some f) vs = Holds (set_sizes y) (bound_look (names ch.values) vs) f []

-- what a receiver may build on: the channel's assertion, or the domains and its annotation over its own names
abbrev pub Assumed : System → Channel → List Name → Option FormulaTree → List Value → Type 0
Assumed y ch xs None vs = AreOfKinds (set_sizes y) ch.values vs × Holds (set_sizes y) (bound_look (names ch.values) vs) ch.assertion []
Assumed y ch xs (Some f) vs = AreIn (set_sizes y) ch.values vs × Holds (set_sizes y) (bound_look xs vs) f []

-- the process of the controller may go on, where its names stand for what `env` says and machine variables for what `store` says
abbrev pub Sat : System → Controller → ProcessTree → (env store : Look) → Type 0
Sat y c Stop env store = ⊤
Sat y c Skip env store = ⊤
Sat y c (Call k ts) env store = IsSomeAnd (slice_get c.definitions k) (λ d. (vs : List Value) → AreValues (set_sizes y) env ts vs →
    AreIn (set_sizes y) d.params vs × Holds (set_sizes y) (over (bind (names d.params) vs) store) d.invariant [])
Sat y c (Prefix (event.Output k ts note) p) env store =
    IsSomeAnd (slice_get y.channels k) (λ ch. (vs : List Value) → AreValues (set_sizes y) env ts vs → Guaranteed y ch note vs) × Sat y c p env store
Sat y c (Prefix (event.Input k xs note) p) env store =
    IsSomeAnd (slice_get y.channels k) (λ ch. (vs : List Value) → Assumed y ch xs note vs → Sat y c p (over (bind xs vs) env) store)
Sat y c (Prefix (event.Call k j ts xs) p) env store =
    IsSomeAnd (slice_get y.machines k) (λ m. IsSomeAnd (slice_get m.operations j) (λ o. (vs : List Value) → AreValues (set_sizes y) env ts vs →
    Holds (set_sizes y) (with_args o vs store) o.pre []
    × ((d : Writes) → Runs (set_sizes y) o.body (with_args o vs store) d → Holds (set_sizes y) (kept m d store) m.invariant []
    → Sat y c p (over (bind xs (results_after o d)) env) (kept m d store))))
Sat y c (Choice p q) env store = Sat y c p env store × Sat y c q env store
Sat y c (Internal p q) env store = Sat y c p env store × Sat y c q env store
Sat y c (If f p q) env store = (Holds (set_sizes y) env f [] → Sat y c p env store) × ((¬ Holds (set_sizes y) env f []) → Sat y c q env store)

-- the written annotations agree with the channels
abbrev pub Matched : System → ProcessTree → Type 0
Matched y Stop = ⊤
Matched y Skip = ⊤
Matched y (Call k ts) = ⊤
Matched y (Prefix (event.Output k ts None) p) = Matched y p
Matched y (Prefix (event.Output k ts (Some f)) p) =
    ((ch : Channel) → IsAt y.channels k ch → (vs : List Value) → AreOfKinds (set_sizes y) ch.values vs →
    Holds (set_sizes y) (bound_look (names ch.values) vs) f [] → Holds (set_sizes y) (bound_look (names ch.values) vs) ch.assertion [])
    × Matched y p
Matched y (Prefix (event.Input k xs None) p) = Matched y p
Matched y (Prefix (event.Input k xs (Some f)) p) =
    ((ch : Channel) → IsAt y.channels k ch → (vs : List Value) → AreOfKinds (set_sizes y) ch.values vs →
    Holds (set_sizes y) (bound_look (names ch.values) vs) ch.assertion [] → Holds (set_sizes y) (bound_look xs vs) f [])
    × Matched y p
Matched y (Prefix (event.Call k j ts xs) p) = Matched y p
Matched y (Choice p q) = Matched y p × Matched y q
Matched y (Internal p q) = Matched y p × Matched y q
Matched y (If f p q) = Matched y p × Matched y q

-- the controller's machines have values of their variables' kinds, and their invariants hold
pub record OwnHold (y : System) (c : Controller) (store : Look) : Type 0 where
  pub kinds : (k : ℕ) (m : Machine) → Contains c.machines k → IsAt y.machines k m → GivesKinds (set_sizes y) m.variables store
  pub invariants : (k : ℕ) (m : Machine) → Contains c.machines k → IsAt y.machines k m → Holds (set_sizes y) store m.invariant []

-- on the machine's variables, the store is as a run of its initialisation leaves it
abbrev pub StartsOn : System → Machine → Look → Type 0
StartsOn y m store = (d : Writes) × (Runs (set_sizes y) m.init empty d × ((x : Name) → is_among x (names m.variables) ≡ true → store x ≡ kept m d empty x))

-- what the obligations of a machine say
pub record SoundMachine (y : System) (m : Machine) : Type 0 where
  pub init : (d : Writes) → Runs (set_sizes y) m.init empty d → Holds (set_sizes y) (kept m d empty) m.invariant []
  pub init_live : Live (set_sizes y) m.init empty
  pub op : (j : ℕ) (o : Operation) → IsAt m.operations j o → (store : Look) (vs : List Value) (d : Writes) →
      GivesKinds (set_sizes y) m.variables store → AreOfKinds (set_sizes y) o.params vs →
      Holds (set_sizes y) store m.invariant [] → Holds (set_sizes y) (with_args o vs store) o.pre [] →
      Runs (set_sizes y) o.body (with_args o vs store) d → Holds (set_sizes y) (kept m d store) m.invariant []
  pub op_live : (j : ℕ) (o : Operation) → IsAt m.operations j o → (store : Look) (vs : List Value) →
      GivesKinds (set_sizes y) m.variables store → AreOfKinds (set_sizes y) o.params vs →
      Holds (set_sizes y) store m.invariant [] → Holds (set_sizes y) (with_args o vs store) o.pre [] →
      Live (set_sizes y) o.body (with_args o vs store)

-- and those of a controller
pub record SoundController (y : System) (c : Controller) : Type 0 where
  pub start : (store : Look) → ((k : ℕ) (m : Machine) → Contains c.machines k → IsAt y.machines k m → StartsOn y m store) →
      OwnHold y c store → Sat y c (Call c.start c.start_args) empty store
  pub loop : (j : ℕ) (d : Definition) → IsAt c.definitions j d → (store : Look) (vs : List Value) → AreIn (set_sizes y) d.params vs →
      OwnHold y c store → Holds (set_sizes y) (over (bind (names d.params) vs) store) d.invariant [] →
      Sat y c d.body (bound_look (names d.params) vs) store
  pub match : (j : ℕ) (d : Definition) → IsAt c.definitions j d → Matched y d.body

pub record Sound (y : System) : Type 0 where
  pub machines : (k : ℕ) (m : Machine) → IsAt y.machines k m → SoundMachine y m
  pub controllers : (k : ℕ) (c : Controller) → IsAt y.controllers k c → SoundController y c

-- ---- each state of a run of a sound system

-- what names stand for agrees with what is known of them
abbrev pub Agrees : List ℕ → Scope → Look → Type 0
Agrees sizes scope env = (x : Name) (form : Form) → form_in scope x ≡ Some form → IsOfForm sizes form (env x)

-- a process at which the controller with the number i may be
pub record FineProcess (y : System) (i : ℕ) (c : Controller) (p : ProcessTree) (env store : Look) : Type 0 where
  pub scope : Scope
  pub taken : List Name
  pub typed : TypedProcess y (global_names y) i c scope taken p
  pub agrees : Agrees (set_sizes y) scope env
  -- so it can be resolved, and numbers tell how
  pub operands : OperandsFit p
  pub few_silent : FewSilent c.definitions p
  pub few_silent_after : FewSilentAfter c.definitions p
  pub few_branches : FewBranches p
  pub matched : Matched y p
  pub sat : Sat y c p env store

abbrev pub FineBranches : System → ℕ → Controller → List BranchView → Look → Type 0
FineBranches y i c [] store = ⊤
FineBranches y i c (b ∷ bs) store = FineProcess y i c (Prefix b.event b.next) b.env store × FineBranches y i c bs store

abbrev pub FineControl : System → ℕ → Controller → ControlView → Look → Type 0
FineControl y i c (AtProcess p env) store = FineProcess y i c p env store
FineControl y i c (Offering bs) store = FineBranches y i c bs store
FineControl y i c Done store = ⊤

-- what holds of each state that is reached
pub record FitState (y : System) (s : StateView) : Type 0 where
  -- each number has a control
  pub placed : length s.controls ≡ length y.order
  pub kinds : (k : ℕ) (m : Machine) → IsAt y.machines k m → GivesKinds (set_sizes y) m.variables s.store
  pub invariants : Invariants y s.store
  pub controls : (i : ℕ) (c : Controller) (k : ControlView) → IsNumbered y i c → IsAt s.controls i k → FineControl y i c k s.store

-- a run of a typed and sound system has led to the state
pub record Good (y : System) (limit : ℕ) (s0 : Writes) (es : List Entry) (s : StateView) : Type 0 where
  pub typed : Typed y
  pub sound : Sound y
  pub run : Run y limit s0 es s
  pub fit : FitState y s

-- the same, without a word on the reasons: so a type may keep it
abbrev pub IsTyped : System → Type 0
IsTyped y = ∥ Typed y ∥₁

abbrev pub IsSound : System → Type 0
IsSound y = ∥ Sound y ∥₁

-- what a specification of a sound system keeps
pub record Sure (y : System) : Type 0 where
  pub typed : Typed y
  pub sound : Sound y
