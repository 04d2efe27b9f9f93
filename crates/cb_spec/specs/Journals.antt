-- What may happen in a system, and where it leads. A journal is the list of entries so far.
use Rattle.std.specs.Prelude.{ℕ, ◌+◌, ◌<◌, ◌≡◌, ◌≢◌, Bool, Option, Some, None, List, [], ◌∷◌, ◌++◌, map, slice_get, slice_set, ⊤}
use Rattle.cb_term.specs.declared.name.Name.{Name}
use Rattle.cb_term.specs.declared.value.Value.{Value}
use Rattle.cb_term.specs.Table.{sizes_of}
use Rattle.cb_term.specs.Tree.{TermTree, FormulaTree}
use Rattle.cb_term.specs.Values.{Look}
use Rattle.cb_term.specs.Holds.{Holds}
use Rattle.cb_spec.specs.declared.event.Event.TheVariants as event
use Rattle.cb_spec.specs.declared.system.Channel.{Channel}
use Rattle.cb_spec.specs.declared.system.Controller.{Controller}
use Rattle.cb_spec.specs.declared.system.Machine.{Machine}
use Rattle.cb_spec.specs.declared.system.Operation.{Operation}
use Rattle.cb_spec.specs.declared.system.System.{System}
use Rattle.cb_spec.specs.declared.state.End.{End}
use Rattle.cb_spec.specs.declared.state.End.TheVariants.{Ended, Limit, Quiet, Memory}
use Rattle.cb_spec.specs.declared.state.Entry.{Entry}
use Rattle.cb_spec.specs.declared.state.Entry.TheVariants as entry
use Rattle.cb_spec.specs.ProcessTree.{ProcessTree, Call}
use Rattle.cb_spec.specs.Stores.{Writes, over, empty, look_of, SameMap}
use Rattle.cb_spec.specs.Bound.{names, result_names, bind, only}
use Rattle.cb_spec.specs.Runs.{Runs}
use Rattle.cb_spec.specs.Machines.{with_args}
use Rattle.cb_spec.specs.States.{IsAt, BranchView, ControlView, AtProcess, Offering, Done, StateView}
use Rattle.cb_spec.specs.Settling.{AreValues, number_of, Settles}

abbrev pub set_sizes : System → List ℕ
set_sizes y = sizes_of y.sets

-- the controller with this number
abbrev pub IsNumbered : System → ℕ → Controller → Type 0
IsNumbered y i c = (k : ℕ) × (IsAt y.order i k × IsAt y.controllers k c)

-- what an operation gives back after a run
abbrev pub results_after : Operation → Writes → List Value
results_after o d = map (look_of d) (result_names o.results)

-- ---- what an entry asks of the state, and what it leaves

-- a controller's process is resolved
pub record Settling (y : System) (s : StateView) (i bits : ℕ) (t : StateView) : Type 0 where
  pub controller : Controller
  pub its : IsNumbered y i controller
  pub process : ProcessTree
  pub env : Look
  pub from : IsAt s.controls i (AtProcess process env)
  pub outcome : ControlView
  pub depth : ℕ
  pub sides : List Bool
  pub settles : Settles (set_sizes y) controller.definitions depth process env sides outcome
  pub bits_are : bits ≡ number_of sides
  pub after : t ≡ record { store = s.store; controls = slice_set s.controls i outcome }

-- an operation is called
pub record Operating (y : System) (s : StateView) (i b k j : ℕ) (args results : List Value) (written : Writes) (t : StateView) : Type 0 where
  pub branches : List BranchView
  pub from : IsAt s.controls i (Offering branches)
  pub terms : List TermTree
  pub targets : List Name
  pub next : ProcessTree
  pub env : Look
  pub offered : IsAt branches b (record { event = event.Call k j terms targets; next = next; env = env })
  pub machine : Machine
  pub its : IsAt y.machines k machine
  pub operation : Operation
  pub listed : IsAt machine.operations j operation
  pub arguments : AreValues (set_sizes y) env terms args
  -- it writes to the machine's variables alone
  pub own : SameMap written (only (names machine.variables) written)
  -- where the precondition holds the body runs; else the results and what is written are any
  pub runs : Holds (set_sizes y) (with_args operation args s.store) operation.pre []
      → (d : Writes) × (Runs (set_sizes y) operation.body (with_args operation args s.store) d
      × (results ≡ results_after operation d) × SameMap written (only (names machine.variables) d))
  pub after : t ≡ record {
    store = over written s.store;
    controls = slice_set s.controls i (AtProcess next (over (bind targets results) env));
  }

-- values pass a channel
pub record Passing (y : System) (s : StateView) (k sent got : ℕ) (vs : List Value) (t : StateView) : Type 0 where
  pub channel : Channel
  pub its : IsAt y.channels k channel
  pub outs : List BranchView
  pub sender : IsAt s.controls channel.sender (Offering outs)
  pub terms : List TermTree
  pub guarantee : Option FormulaTree
  pub out_next : ProcessTree
  pub out_env : Look
  pub out : IsAt outs sent (record { event = event.Output k terms guarantee; next = out_next; env = out_env })
  pub ins : List BranchView
  pub receiver : IsAt s.controls channel.receiver (Offering ins)
  pub targets : List Name
  pub assume : Option FormulaTree
  pub in_next : ProcessTree
  pub in_env : Look
  pub into : IsAt ins got (record { event = event.Input k targets assume; next = in_next; env = in_env })
  pub sent_values : AreValues (set_sizes y) out_env terms vs
  pub after : t ≡ record {
    store = s.store;
    controls = slice_set (slice_set s.controls channel.sender (AtProcess out_next out_env)) channel.receiver (AtProcess in_next (over (bind targets vs) in_env));
  }

-- the entry leads from the state to the other
abbrev pub Leads : System → StateView → Entry → StateView → Type 0
Leads y s (entry.Settle i bits) t = Settling y s i bits t
Leads y s (entry.Op i b k j args results written) t = Operating y s i b k j args results written t
Leads y s (entry.Pass k sent got vs) t = Passing y s k sent got vs t
Leads y s (entry.End c) t = t ≡ s

-- ---- when a run ends

-- an event is a call or a pass
abbrev pub IsEvent : Entry → Type 0
IsEvent (entry.Settle i bits) = ⊥
IsEvent (entry.Op i b k j args results written) = ⊤
IsEvent (entry.Pass k sent got vs) = ⊤
IsEvent (entry.End c) = ⊥

-- how many events there were
abbrev pub events : List Entry → ℕ
events [] = 0
events (entry.Settle i bits ∷ es) = events es
events (entry.Op i b k j args results written ∷ es) = 1 + events es
events (entry.Pass k sent got vs ∷ es) = 1 + events es
events (entry.End c ∷ es) = events es

-- the journal has no end
abbrev pub IsOpen : List Entry → Type 0
IsOpen [] = ⊤
IsOpen (entry.Settle i bits ∷ es) = IsOpen es
IsOpen (entry.Op i b k j args results written ∷ es) = IsOpen es
IsOpen (entry.Pass k sent got vs ∷ es) = IsOpen es
IsOpen (entry.End c ∷ es) = ⊥

abbrev pub AllEnded : List ControlView → Type 0
AllEnded [] = ⊤
AllEnded (AtProcess p env ∷ cs) = ⊥
AllEnded (Offering bs ∷ cs) = ⊥
AllEnded (Done ∷ cs) = AllEnded cs

abbrev pub AllSettled : List ControlView → Type 0
AllSettled [] = ⊤
AllSettled (AtProcess p env ∷ cs) = ⊥
AllSettled (Offering bs ∷ cs) = AllSettled cs
AllSettled (Done ∷ cs) = AllSettled cs

-- no event can happen in the state
abbrev pub IsStill : System → StateView → Type 0
IsStill y s = (e : Entry) (t : StateView) → IsEvent e → ¬ Leads y s e t

-- the cause is due where it is the first that fits
abbrev pub Due : System → (limit : ℕ) → List Entry → StateView → End → Type 0
Due y limit past s Ended = AllEnded s.controls
Due y limit past s Limit = (¬ AllEnded s.controls) × (events past ≡ limit)
Due y limit past s Quiet = (¬ AllEnded s.controls) × (events past ≢ limit) × AllSettled s.controls × IsStill y s
Due y limit past s Memory = ⊥

-- want of memory may end a run at any time
abbrev pub MayEnd : System → (limit : ℕ) → List Entry → StateView → End → Type 0
MayEnd y limit past s Memory = ⊤
MayEnd y limit past s c = Due y limit past s c

-- ---- journals

-- the entry may stand after the past ones, and leads from the state to the other
abbrev pub Step : System → (limit : ℕ) → List Entry → StateView → Entry → StateView → Type 0
Step y limit past s (entry.End c) t = IsOpen past × MayEnd y limit past s c × Leads y s (entry.End c) t
Step y limit past s e t = IsOpen past × (events past < limit) × Leads y s e t

-- the entry is lawful in the state, after the past ones
abbrev pub Lawful : System → (limit : ℕ) → List Entry → StateView → Entry → Type 0
Lawful y limit past s e = (t : StateView) × Step y limit past s e t

-- the entries lead from the state, where the past ones have led, to the other
abbrev pub Goes : System → (limit : ℕ) → List Entry → StateView → List Entry → StateView → Type 0
Goes y limit past s [] t = t ≡ s
Goes y limit past s (e ∷ es) t = (mid : StateView) × (Step y limit past s e mid × Goes y limit (past ++ e ∷ []) mid es t)

-- the map joins one of a run of each machine's initialisation
abbrev pub Begun : List ℕ → List Machine → Writes → Type 0
Begun sizes [] d = d ≡ []
Begun sizes (m ∷ ms) d = (dm : Writes) × ((rest : Writes) × (Runs sizes m.init empty dm × Begun sizes ms rest × (d ≡ dm ++ rest)))

-- a controller begins with its START call
abbrev pub begin_at : Option Controller → ControlView
begin_at None = Done
begin_at (Some c) = AtProcess (Call c.start c.start_args) empty

-- the state at the beginning, where machine variables have the values of the map
abbrev pub beginning : System → Writes → StateView
beginning y d = record {
  store = look_of d;
  controls = map (λ k. begin_at (slice_get y.controllers k)) y.order;
}

-- from the beginning with the values of s0, the journal leads to the state
abbrev pub Run : System → (limit : ℕ) → Writes → List Entry → StateView → Type 0
Run y limit s0 es s = (d : Writes) × (Begun (set_sizes y) y.machines d × SameMap s0 d × Goes y limit [] (beginning y s0) es s)

-- there is such a run, without a word on which
abbrev pub IsRun : System → (limit : ℕ) → Writes → List Entry → StateView → Type 0
IsRun y limit s0 es s = ∥ Run y limit s0 es s ∥₁

-- its last entry ends the journal by a cause that was due
abbrev pub IsComplete : List Entry → Type 0
IsComplete [] = ⊥
IsComplete (entry.End Ended ∷ []) = ⊤
IsComplete (entry.End Limit ∷ []) = ⊤
IsComplete (entry.End Quiet ∷ []) = ⊤
IsComplete (e ∷ es) = IsComplete es
