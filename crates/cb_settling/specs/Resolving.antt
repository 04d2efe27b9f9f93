-- What is asked of a process that is resolved, and what resolving it has found.
use Rattle.std.specs.Prelude.{ℕ, suc, ◌+◌, ◌<◌, ◌≤◌, ◌≡◌, Bool, List, [], ◌∷◌, ◌++◌, length, slice_get, Option, None, Some, ⊤}
use Rattle.cb_term.specs.declared.name.Name.{Name}
use Rattle.cb_term.specs.declared.value.Value.{Value}
use Rattle.cb_term.specs.Tree.{TermTree}
use Rattle.cb_term.specs.Values.{Look}
use Rattle.cb_spec.specs.declared.system.Controller.{Controller}
use Rattle.cb_spec.specs.declared.system.Definition.{Definition}
use Rattle.cb_spec.specs.declared.system.System.{System}
use Rattle.cb_spec.specs.ProcessTree.{ProcessTree, Stop, Skip, Call, Prefix, Choice, Internal, If}
use Rattle.cb_spec.specs.Bound.{names, bound_look}
use Rattle.cb_spec.specs.Stores.{Writes, look_of}
use Rattle.cb_spec.specs.States.{IsAt, ControlView, Offering, Done}
use Rattle.cb_spec.specs.Settling.{Settles, number_of}
use Rattle.cb_spec.specs.Silent.{Way}
use Rattle.cb_spec.specs.Journals.{set_sizes, IsNumbered}
use Rattle.cb_spec.specs.TypedTerms.{Scope}
use Rattle.cb_spec.specs.TypedProcesses.{TypedProcess}
use Rattle.cb_spec.specs.Typed.{global_names, Typed}
use Rattle.cb_spec.specs.Sound.{Agrees, OwnHold, Sound, FineProcess}
use Rattle.cb_eval.specs.TypedIn.{AreSmallSets, TypedTermIn}
use Rattle.cb_code.specs.Nodes.{part}
use Rattle.cb_settling.specs.declared.settle.Outcome.{Outcome}
use Rattle.cb_settling.specs.declared.settle.Outcome.TheVariants.{Shown, Over}
use Rattle.cb_settling.specs.declared.settle.Led.{Led}
use Rattle.cb_settling.specs.declared.settle.Led.TheVariants.{Offers, Ends, Calls}
use Rattle.cb_settling.specs.Branches.{ArePrefixes, branches_at}

-- the terms are typed for what names stand for
abbrev pub AreTypedIn : List ℕ → Look → List TermTree → Type 0
AreTypedIn sizes look [] = ⊤
AreTypedIn sizes look (t ∷ ts) = TypedTermIn sizes look t × AreTypedIn sizes look ts

-- a process whose tests can be decided
pub record CanTest (y : System) (c : Controller) (p : ProcessTree) (env : Look) : Type 0 where
  pub number : ℕ
  pub scope : Scope
  pub taken : List Name
  pub typed : TypedProcess y (global_names y) number c scope taken p
  pub agrees : Agrees (set_sizes y) scope env
  pub small_sets : AreSmallSets (set_sizes y)

-- a process at which a controller of a sound system may be: so it is with each at which a controller is in a good state
pub record CanResolve (y : System) (c : Controller) (p : ProcessTree) (env : Look) : Type 0 where
  pub typed : Typed y
  pub sound : Sound y
  pub number : ℕ
  pub its : IsNumbered y number c
  pub store : Look
  pub own : OwnHold y c store
  pub fine : FineProcess y number c p env store

-- where m internal choices were met, no way from the process meets more than 64 in all
abbrev pub FewLeft : List Definition → ProcessTree → ℕ → Type 0
FewLeft ds p m = (n k : ℕ) → Way ds n p k → m + k ≤ 64

-- each call that is not after a prefix is of a definition from f on
abbrev pub CallsFrom : ℕ → ProcessTree → Type 0
CallsFrom f Stop = ⊤
CallsFrom f Skip = ⊤
CallsFrom f (Call k ts) = f ≤ k
CallsFrom f (Prefix e p) = ⊤
CallsFrom f (Choice p q) = CallsFrom f p × CallsFrom f q
CallsFrom f (Internal p q) = CallsFrom f p × CallsFrom f q
CallsFrom f (If t p q) = CallsFrom f p × CallsFrom f q

-- ---- what is found

-- the process needs no call and no choice, and offers these prefixes
pub record Shows (sizes : List ℕ) (ps : List ProcessTree) (p : ProcessTree) (env : Look) (ks : List ℕ) : Type 0 where
  pub settles : (ds : List Definition) (n : ℕ) → Settles sizes ds n p env [] (Offering (branches_at ps ks env))
  pub prefixes : ArePrefixes ps ks

-- which come after the old ones
abbrev pub Adds : List ℕ → List ProcessTree → ProcessTree → Look → List ℕ → List ℕ → Type 0
Adds sizes ps p env old new = (ks : List ℕ) × ((new ≡ old ++ ks) × Shows sizes ps p env ks)

-- a call was come to, and its definition's body goes on
pub record GoesOn (y : System) (c : Controller) (p : ProcessTree) (env : Look) (ts : List Bool) (m k : ℕ) (vs : List Value) : Type 0 where
  pub definition : Definition
  pub its : IsAt c.definitions k definition
  pub as_many : length definition.params ≡ length vs
  pub later : (f : ℕ) → CallsFrom f p → f ≤ k
  pub can : CanResolve y c definition.body (bound_look (names definition.params) vs)
  pub few : FewLeft c.definitions definition.body m
  pub settles : (n : ℕ) (ws : List Bool) (o : ControlView) → Settles (set_sizes y) c.definitions n definition.body (bound_look (names definition.params) vs) ws o →
      Settles (set_sizes y) c.definitions (suc n) p env (ts ++ ws) o

-- where the sides ts have led, m internal choices after the beginning
abbrev pub LedBy : System → Controller → List ProcessTree → ProcessTree → Look → List Bool → ℕ → Led → Type 0
LedBy y c ps p env ts m (Offers ks) = ((n : ℕ) → Settles (set_sizes y) c.definitions n p env ts (Offering (branches_at ps ks env))) × ArePrefixes ps ks
LedBy y c ps p env ts m Ends = (n : ℕ) → Settles (set_sizes y) c.definitions n p env ts Done
LedBy y c ps p env ts m (Calls k vs) = GoesOn y c p env ts m k vs

-- so from the sides that were taken before to those after
abbrev pub LedFrom : System → Controller → List ProcessTree → ProcessTree → Look → List Bool → List Bool → Led → Type 0
LedFrom y c ps p env old new led = (ts : List Bool) × ((new ≡ old ++ ts) × LedBy y c ps p env ts (length new) led)

-- ---- over calls

-- each definition's body is laid down, at the place that is listed
abbrev pub HasBodies : Controller → List ProcessTree → List ℕ → Type 0
HasBodies c ps bodies = (j : ℕ) (d : Definition) → IsAt c.definitions j d → (b : ℕ) × ((slice_get bodies j ≡ Some b) × (slice_get ps b ≡ Some d.body))

-- the place and the store with which a definition's body begins
abbrev pub IsEntered : Controller → List ProcessTree → ℕ → List Value → ℕ → Writes → Type 0
IsEntered c ps k vs place own = (d : Definition) × (IsAt c.definitions k d × (slice_get ps place ≡ Some d.body) × (look_of own ≡ bound_look (names d.params) vs))

-- the store that a controller has of its own, or the first one
abbrev pub here_of : Writes → Option Writes → Writes
here_of env None = env
here_of env (Some own) = own

-- what a controller does that is resolved
abbrev pub outcome_of : List ProcessTree → Writes → Outcome → ControlView
outcome_of ps env (Shown ks own) = Offering (branches_at ps ks (look_of (here_of env own)))
outcome_of ps env Over = Done

-- at each place of the outcome is a prefix
abbrev pub ShowsPrefixes : List ProcessTree → Outcome → Type 0
ShowsPrefixes ps (Shown ks own) = ArePrefixes ps ks
ShowsPrefixes ps Over = ⊤

-- the process is resolved by these bits
pub record IsSettled (y : System) (c : Controller) (ps : List ProcessTree) (p : ProcessTree) (env : Writes) (outcome : Outcome) (bits : ℕ) : Type 0 where
  pub depth : ℕ
  pub sides : List Bool
  pub settles : Settles (set_sizes y) c.definitions depth p (look_of env) sides (outcome_of ps env outcome)
  pub bits_are : bits ≡ number_of sides
  pub prefixes : ShowsPrefixes ps outcome

-- after so many calls the process at hand is at this place. What it is resolved to, the first one is
pub record Going (y : System) (c : Controller) (ps : List ProcessTree) (place : ℕ) (env : Writes) (count at : ℕ) (own : Option Writes) (sides : List Bool) : Type 0 where
  pub few_calls : count ≤ length c.definitions
  pub within : at < length ps
  pub can : CanResolve y c (part ps at) (look_of (here_of env own))
  pub few : FewLeft c.definitions (part ps at) (length sides)
  pub from : CallsFrom count (part ps at)
  pub leads : (n : ℕ) (ws : List Bool) (o : ControlView) → Settles (set_sizes y) c.definitions n (part ps at) (look_of (here_of env own)) ws o →
      (k : ℕ) × Settles (set_sizes y) c.definitions k (part ps place) (look_of env) (sides ++ ws) o
