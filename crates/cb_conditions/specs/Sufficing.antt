-- What is asked of a system so that valid obligations make a controller sound, and what they give.
use Rattle.std.specs.Prelude.{ℕ, ◌≡◌, ◌⊎◌, Bool, true, false, List, [], ◌∷◌, length, Option, Some, None, if◌then◌else◌, Contains, ⊤}
use Rattle.cb_term.specs.declared.name.Name.{Name}
use Rattle.cb_term.specs.declared.value.Value.{Value}
use Rattle.cb_term.specs.Tree.{TermTree, FormulaTree}
use Rattle.cb_term.specs.Values.{Look}
use Rattle.cb_term.specs.Holds.{Holds}
use Rattle.cb_spec.specs.declared.event.Event.TheVariants as event
use Rattle.cb_spec.specs.declared.system.Channel.{Channel}
use Rattle.cb_spec.specs.declared.system.Controller.{Controller}
use Rattle.cb_spec.specs.declared.system.Definition.{Definition}
use Rattle.cb_spec.specs.declared.system.Machine.{Machine}
use Rattle.cb_spec.specs.declared.system.Operation.{Operation}
use Rattle.cb_spec.specs.declared.system.System.{System}
use Rattle.cb_spec.specs.ProcessTree.{ProcessTree, Stop, Skip, Call, Prefix, Choice, Internal, If}
use Rattle.cb_spec.specs.Stores.{Writes, over, empty}
use Rattle.cb_spec.specs.Bound.{names, is_among, bind, bound_look, AreOfKinds, AreIn, GivesKinds}
use Rattle.cb_spec.specs.Runs.{Runs, reads, writes, Fits}
use Rattle.cb_spec.specs.Machines.{with_args, kept}
use Rattle.cb_spec.specs.Journals.{set_sizes, results_after}
use Rattle.cb_spec.specs.Settling.{AreValues}
use Rattle.cb_spec.specs.States.{IsAt}
use Rattle.cb_spec.specs.Sound.{Sat, SoundController}
use Rattle.cb_obligations.specs.Written.{EachNameOfTerm, EachName}
use Rattle.cb_obligations.specs.Owed.{AllOwedValid}
use Rattle.cb_obligations.specs.Sufficing.{Differ, IsVariable, MachineFits}
use Rattle.cb_conditions.specs.Conditions.{machines_of, variables_of, beginnings, wc, controller_owes}
use Rattle.cb_conditions.specs.Fitting.{PlainProcess, PlainController}

-- ---- which names texts speak of

abbrev pub Among : List Name → Name → Type 0
Among xs x = is_among x xs ≡ true

-- whether the name is a variable of one of the controller's machines
abbrev pub is_own : System → Controller → Name → Bool
is_own y c x = is_among x (names (variables_of (machines_of y c)))

abbrev pub IsOther : System → Controller → Name → Type 0
IsOther y c x = is_own y c x ≡ false

abbrev pub EachIsOther : System → Controller → List Name → Type 0
EachIsOther y c [] = ⊤
EachIsOther y c (x ∷ xs) = IsOther y c x × EachIsOther y c xs

abbrev pub OfOthers : System → Controller → List TermTree → Type 0
OfOthers y c [] = ⊤
OfOthers y c (t ∷ ts) = EachNameOfTerm (IsOther y c) t × OfOthers y c ts

abbrev pub NoteOf : List Name → Option FormulaTree → Type 0
NoteOf xs None = ⊤
NoteOf xs (Some f) = EachName (Among xs) f

-- terms and tests speak of no machine variable, and annotations of their own names; inputs differ, and are as many as the values
module _ (y : System) (c : Controller) where
  abbrev pub Speaks : ProcessTree → Type 0
  Speaks Stop = ⊤
  Speaks Skip = ⊤
  Speaks (Call k ts) = OfOthers y c ts
  Speaks (Prefix (event.Output k ts note) p) = OfOthers y c ts × ((ch : Channel) → IsAt y.channels k ch → NoteOf (names ch.values) note) × Speaks p
  Speaks (Prefix (event.Input k xs note) p) =
      EachIsOther y c xs × Differ xs × ((ch : Channel) → IsAt y.channels k ch → length xs ≡ length ch.values) × NoteOf xs note × Speaks p
  Speaks (Prefix (event.Call k j ts xs) p) = Contains c.machines k × OfOthers y c ts × EachIsOther y c xs × Speaks p
  Speaks (Choice p q) = Speaks p × Speaks q
  Speaks (Internal p q) = Speaks p × Speaks q
  Speaks (If f p q) = EachName (IsOther y c) f × Speaks p × Speaks q

-- an operation's parameters and its machine's variables
abbrev pub IsInside : Machine → Operation → Name → Type 0
IsInside m o x = Among (names o.params) x ⊎ IsVariable m x

pub record MachineSpeaks (m : Machine) : Type 0 where
  pub pre : (j : ℕ) (o : Operation) → IsAt m.operations j o → EachName (IsInside m o) o.pre
  pub body : (j : ℕ) (o : Operation) → IsAt m.operations j o → (x : Name) → reads x o.body ≡ true → IsInside m o x
  -- the initialisation writes its own variables alone
  pub init : (x : Name) → writes x m.init ≡ true → IsVariable m x

pub record ChannelSpeaks (ch : Channel) : Type 0 where
  pub assertion : EachName (Among (names ch.values)) ch.assertion
  pub differ : Differ (names ch.values)

pub record DefinitionSpeaks (y : System) (c : Controller) (d : Definition) : Type 0 where
  pub params : EachIsOther y c (names d.params)
  pub differ : Differ (names d.params)
  pub invariant : EachName (λ x. Among (names d.params) x ⊎ (is_own y c x ≡ true)) d.invariant
  pub body : Speaks y c d.body

pub record ControllerFits (y : System) (c : Controller) : Type 0 where
  pub plain : PlainController y c
  pub fits : (k : ℕ) (m : Machine) → Contains c.machines k → IsAt y.machines k m → MachineFits (set_sizes y) m
  pub machines : (k : ℕ) (m : Machine) → Contains c.machines k → IsAt y.machines k m → MachineSpeaks m
  pub channels : (k : ℕ) (ch : Channel) → IsAt y.channels k ch → ChannelSpeaks ch
  pub definitions : (k : ℕ) (d : Definition) → IsAt c.definitions k d → DefinitionSpeaks y c d
  pub start_args : OfOthers y c c.start_args
  pub beginnings_fit : Fits (set_sizes y) (beginnings (machines_of y c))

-- ---- what names stand for

-- one look-up for the controller's names and for its machines' variables
abbrev pub merged : (Name → Bool) → Look → Look → Look
merged own env store x = if own x then store x else env x

-- the arguments of each call of a definition are of its parameters' kinds. Typing gives it
module _ (y : System) (c : Controller) where
  abbrev pub CallsKinded : ProcessTree → (env store : Look) → Type 0
  CallsKinded Stop env store = ⊤
  CallsKinded Skip env store = ⊤
  CallsKinded (Call k ts) env store =
      (d : Definition) → IsAt c.definitions k d → (vs : List Value) → AreValues (set_sizes y) env ts vs → AreOfKinds (set_sizes y) d.params vs
  CallsKinded (Prefix (event.Output k ts f) p) env store = CallsKinded p env store
  CallsKinded (Prefix (event.Input k xs f) p) env store =
      (ch : Channel) → IsAt y.channels k ch → (vs : List Value) → AreOfKinds (set_sizes y) ch.values vs → CallsKinded p (over (bind xs vs) env) store
  CallsKinded (Prefix (event.Call k j ts xs) p) env store =
      (m : Machine) → IsAt y.machines k m → (o : Operation) → IsAt m.operations j o → (vs : List Value) → AreValues (set_sizes y) env ts vs →
      (d : Writes) → Runs (set_sizes y) o.body (with_args o vs store) d → CallsKinded p (over (bind xs (results_after o d)) env) (kept m d store)
  CallsKinded (Choice p q) env store = CallsKinded p env store × CallsKinded q env store
  CallsKinded (Internal p q) env store = CallsKinded p env store × CallsKinded q env store
  CallsKinded (If f p q) env store = CallsKinded p env store × CallsKinded q env store

pub record ControllerKinded (y : System) (c : Controller) : Type 0 where
  pub start : (store : Look) → CallsKinded y c (Call c.start c.start_args) empty store
  pub loop : (j : ℕ) (d : Definition) → IsAt c.definitions j d → (store : Look) (vs : List Value) → AreIn (set_sizes y) d.params vs →
      ((k : ℕ) (m : Machine) → Contains c.machines k → IsAt y.machines k m → GivesKinds (set_sizes y) m.variables store) →
      CallsKinded y c d.body (bound_look (names d.params) vs) store

-- the formula of a process says that it may go on
abbrev pub WcSuffices : Type 0
WcSuffices = (y : System) (c : Controller) → ControllerFits y c → (p : ProcessTree) → PlainProcess p → Speaks y c p → (env store : Look) →
    CallsKinded y c p env store → Holds (set_sizes y) (merged (is_own y c) env store) (wc y c p) [] → Sat y c p env store

-- valid obligations say what a sound controller needs
abbrev pub ConditionsSuffice : Type 0
ConditionsSuffice = (y : System) (c : Controller) → ControllerFits y c → ControllerKinded y c → AllOwedValid (set_sizes y) (controller_owes y c) → SoundController y c
