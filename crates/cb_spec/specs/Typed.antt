-- A system whose data are as in a text without a fault of names, kinds, sizes and uses; only senders and receivers may be missing.
use Rattle.std.specs.Prelude.{ℕ, ℤ, ◌+◌, ◌^◌, ◌<◌, ◌≤◌, ◌≡◌, true, List, [], ◌∷◌, ◌++◌, map, flat_map, length, slice_get, Option, Some, None, IsSomeAnd, Contains, ⊤}
use Rattle.cb_term.specs.declared.name.Name.{Name}
use Rattle.cb_term.specs.declared.kind.Kind.{Kind}
use Rattle.cb_term.specs.declared.table.SetNames.{SetNames}
use Rattle.cb_term.specs.Tree.{TermTree, Var, Num, Truth, Elem, Listed, TermTrees, End, More, FormulaTree}
use Rattle.cb_spec.specs.declared.system.Channel.{Channel}
use Rattle.cb_spec.specs.declared.system.Controller.{Controller}
use Rattle.cb_spec.specs.declared.system.Declared.{Declared}
use Rattle.cb_spec.specs.declared.system.Definition.{Definition}
use Rattle.cb_spec.specs.declared.system.Machine.{Machine}
use Rattle.cb_spec.specs.declared.system.Operation.{Operation}
use Rattle.cb_spec.specs.declared.system.System.{System}
use Rattle.cb_spec.specs.Domains.{kind_of_domain, typing}
use Rattle.cb_spec.specs.Bound.{names, result_names}
use Rattle.cb_spec.specs.Runs.{HasConjunct, Fits}
use Rattle.cb_spec.specs.Forms.{form_of_domain, is_of_kind, IsSmall}
use Rattle.cb_spec.specs.States.{IsAt}
use Rattle.cb_spec.specs.Journals.{set_sizes, IsNumbered}
use Rattle.cb_spec.specs.Silent.{CallsLater, OperandsFit, FewSilent, FewSilentAfter, FewBranches}
use Rattle.cb_spec.specs.TypedTerms.{Scope, IsDomain, TypedFormula}
use Rattle.cb_spec.specs.TypedSubsts.{TypedSubst, always_writes, assigned_form, result_form}
use Rattle.cb_spec.specs.TypedProcesses.{AreNew, scope_of, kinds_of, scope_in, TypedArgs, TypedProcess}

-- the names that stand for one thing in the whole text
abbrev pub global_names : System → List Name
global_names y =
    map (λ (s : SetNames). s.name) y.sets.sets.items ++ flat_map (λ (s : SetNames). s.elements) y.sets.sets.items
    ++ map (λ (c : Name × ℤ). c.0) y.constants
    ++ map (λ (m : Machine). m.name) y.machines ++ flat_map (λ (m : Machine). names m.variables) y.machines
    ++ map (λ (c : Channel). c.name) y.channels ++ map (λ (c : Controller). c.name) y.controllers

-- things of which there are so few are told by numbers of 32 bits
abbrev pub AreFew : {A : Type 0} → List A → Type 0
AreFew xs = length xs < 2 ^ 32

-- no number stands twice
abbrev pub NumbersDiffer : List ℕ → Type 0
NumbersDiffer ks = (i j k : ℕ) → IsAt ks i k → IsAt ks j k → i ≡ j

abbrev pub AllBelow : ℕ → List ℕ → Type 0
AllBelow n ks = (i k : ℕ) → IsAt ks i k → k < n

-- each declared name has a domain, and the formula its typing conjunct
abbrev pub GivesDomains : List ℕ → List Declared → FormulaTree → Type 0
GivesDomains sizes [] f = ⊤
GivesDomains sizes (d ∷ ds) f = IsDomain sizes d.domain × HasConjunct (typing (Var d.name) d.domain) f × GivesDomains sizes ds f

-- each declared name has a domain, and its values are small as a term's are
abbrev pub HaveDomains : List ℕ → List Declared → Type 0
HaveDomains sizes [] = ⊤
HaveDomains sizes (d ∷ ds) = IsDomain sizes d.domain × IsSmall (form_of_domain d.domain) × HaveDomains sizes ds

-- what may be assigned to
abbrev pub targets_of : List Declared → List (Name × Kind)
targets_of ds = map (λ (d : Declared). (d.name, kind_of_domain d.domain)) ds

pub record TypedOperation (y : System) (m : Machine) (o : Operation) : Type 0 where
  -- parameters and results are new names, and few
  pub new_names : AreNew (global_names y) (names o.params ++ result_names o.results)
  pub few_names : length o.params + length o.results ≤ 8
  pub domains : GivesDomains (set_sizes y) o.params o.pre
  -- the precondition and the body read parameters and the machine's variables
  pub precondition : TypedFormula (set_sizes y) (scope_in m o) (names o.params ++ result_names o.results ++ global_names y) [] o.pre
  pub body : TypedSubst (set_sizes y) (o.results ++ targets_of m.variables) (scope_in m o) (names o.params ++ result_names o.results ++ global_names y) o.body
  pub body_fits : Fits (set_sizes y) o.body
  -- each run writes each result, and what it writes is of the result's kind
  pub writes_results : (r : Name × Kind) → Contains o.results r → always_writes r.0 o.body ≡ true
  pub result_kinds : (r : Name × Kind) → Contains o.results r → is_of_kind (result_form (assigned_form (set_sizes y) r.0 (scope_in m o) o.body)) r.1 ≡ true

pub record TypedMachine (y : System) (m : Machine) : Type 0 where
  pub domains : GivesDomains (set_sizes y) m.variables m.invariant
  -- the invariant reads the machine's variables, and the initialisation none
  pub invariant : TypedFormula (set_sizes y) (scope_of m.variables) (global_names y) [] m.invariant
  pub init : TypedSubst (set_sizes y) (targets_of m.variables) [] (global_names y) m.init
  pub init_fits : Fits (set_sizes y) m.init
  pub writes_variables : (d : Declared) → Contains m.variables d → always_writes d.name m.init ≡ true
  pub operation_names : AreNew [] (map (λ (o : Operation). o.name) m.operations)
  pub few_operations : AreFew m.operations
  pub operations : (j : ℕ) (o : Operation) → IsAt m.operations j o → TypedOperation y m o

pub record TypedChannel (y : System) (ch : Channel) : Type 0 where
  pub new_names : AreNew (global_names y) (names ch.values)
  pub few_names : length ch.values ≤ 8
  pub domains : GivesDomains (set_sizes y) ch.values ch.assertion
  pub assertion : TypedFormula (set_sizes y) (scope_of ch.values) (names ch.values ++ global_names y) [] ch.assertion
  -- the numbers of two controllers; where one is missing, the number of controllers stands for it
  pub sender : ch.sender ≤ length y.controllers
  pub receiver : ch.receiver ≤ length y.controllers
  pub two_ends : ch.sender ≡ ch.receiver → ch.sender ≡ length y.controllers

-- what is known of the variables of the controller's machines
abbrev pub variables_of : Option Machine → Scope
variables_of None = []
variables_of (Some m) = scope_of m.variables

abbrev pub own_scope : System → Controller → Scope
own_scope y c = flat_map (λ k. variables_of (slice_get y.machines k)) c.machines

-- the j-th definition of the controller with the number i
pub record TypedDefinition (y : System) (i : ℕ) (c : Controller) (j : ℕ) (d : Definition) : Type 0 where
  pub new_names : AreNew (global_names y) (names d.params)
  pub few_names : length d.params ≤ 8
  pub domains : HaveDomains (set_sizes y) d.params
  -- the invariant alone reads variables, and only of the controller's machines
  pub invariant : TypedFormula (set_sizes y) (scope_of d.params ++ own_scope y c) (names d.params ++ global_names y) [] d.invariant
  pub body : TypedProcess y (global_names y) i c (scope_of d.params) (names d.params ++ global_names y) d.body
  pub calls_later : CallsLater j d.body
  pub operands : OperandsFit d.body
  pub few_silent : FewSilent c.definitions d.body
  pub few_silent_after : FewSilentAfter c.definitions d.body
  pub few_branches : FewBranches d.body

-- an argument of START is a literal, a truth value, an element, or a listed set of these
abbrev pub IsPlainItem : TermTree → Type 0
IsPlainItem (Num n) = ⊤
IsPlainItem (Truth b) = ⊤
IsPlainItem (Elem set index) = ⊤
IsPlainItem t = ⊥

abbrev pub ArePlainItems : TermTrees → Type 0
ArePlainItems End = ⊤
ArePlainItems (More t ts) = IsPlainItem t × ArePlainItems ts

abbrev pub IsPlain : TermTree → Type 0
IsPlain (Listed ts) = ArePlainItems ts
IsPlain t = IsPlainItem t

pub record TypedController (y : System) (i : ℕ) (c : Controller) : Type 0 where
  pub machines : AllBelow (length y.machines) c.machines
  pub definition_names : AreNew [] (map (λ (d : Definition). d.name) c.definitions)
  pub few_definitions : AreFew c.definitions
  pub start : IsSomeAnd (slice_get c.definitions c.start) (λ d. TypedArgs (set_sizes y) [] (global_names y) (kinds_of d.params) c.start_args)
  pub start_args : (t : TermTree) → Contains c.start_args t → IsPlain t
  pub definitions : (j : ℕ) (d : Definition) → IsAt c.definitions j d → TypedDefinition y i c j d

pub record Typed (y : System) : Type 0 where
  pub names_differ : AreNew [] (global_names y)
  pub sizes_of_sets : (k : ℕ) (s : SetNames) → IsAt y.sets.sets.items k s → (0 < length s.elements) × (length s.elements ≤ 256)
  pub few_sets : AreFew y.sets.sets.items
  pub few_machines : AreFew y.machines
  pub few_channels : AreFew y.channels
  pub few_controllers : AreFew y.controllers
  -- each controller has one number
  pub numbers : length y.order ≡ length y.controllers
  pub order_within : AllBelow (length y.controllers) y.order
  pub order_once : NumbersDiffer y.order
  pub listed : (k : ℕ) → k < length y.controllers → (i : ℕ) × IsAt y.order i k
  pub machines : (k : ℕ) (m : Machine) → IsAt y.machines k m → TypedMachine y m
  pub channels : (k : ℕ) (ch : Channel) → IsAt y.channels k ch → TypedChannel y ch
  pub controllers : (i : ℕ) (c : Controller) → IsNumbered y i c → TypedController y i c
  -- no machine has two controllers, and where there are controllers each machine with variables has one
  pub one_owner : NumbersDiffer (flat_map (λ (c : Controller). c.machines) y.controllers)
  pub owned : (k : ℕ) (m : Machine) → IsAt y.machines k m → 0 < length y.controllers → 0 < length m.variables → Contains (flat_map (λ (c : Controller). c.machines) y.controllers) k
