-- What a step does.
use Rattle.std.specs.Prelude.{ℕ, ◌≡◌, ◌<◌, ◌⊎◌, None, Some, [], ◌∷◌, ◌++◌}
use Rattle.cb_term.specs.Values.{Look}
use Rattle.cb_spec.specs.declared.state.End.{End}
use Rattle.cb_spec.specs.declared.state.Entry.{Entry}
use Rattle.cb_spec.specs.declared.state.Entry.TheVariants as entry
use Rattle.cb_spec.specs.ProcessTree.{ProcessTree}
use Rattle.cb_spec.specs.States.{IsAt, AtProcess, StateView, state_of}
use Rattle.cb_spec.specs.Journals.{events, IsEvent, Leads, Due}
use Rattle.cb_safety_laws.specs.Causes.{TakesPart}
use Rattle.cb_system.specs.declared.running.Stepped.{Stepped}
use Rattle.cb_system.specs.declared.running.Stepped.TheVariants.{Settled, Fired, Idle, Over}
use Rattle.cb_system.specs.Views.{RunView, IsSame, last_end, HasSettle}

-- the controller is at a process that is not resolved yet
abbrev pub IsUnresolved : StateView → ℕ → Type 0
IsUnresolved s i = (p : ProcessTree) × ((env : Look) × IsAt s.controls i (AtProcess p env))

-- nothing has ended the journal, no cause but want of memory is due, and so there may be an event more
pub record IsGoing (v : RunView) : Type 0 where
  pub unended : last_end v.journal ≡ None
  pub none_due : (c : End) → ¬ Due v.system v.limit v.journal (state_of v.state) c
  pub more : events v.journal < v.limit

-- the cause was due, and has come to the journal
pub record HasCome (old new : RunView) (c : End) : Type 0 where
  pub unended : last_end old.journal ≡ None
  pub due : Due old.system old.limit old.journal (state_of old.state) c
  pub journal : new.journal ≡ old.journal ++ entry.End c ∷ []
  pub state : new.state ≡ old.state

-- the journal ends by the cause, or did before
abbrev pub IsOver : RunView → RunView → End → Type 0
IsOver old new c = ((last_end old.journal ≡ Some c) × (new ≡ old)) ⊎ HasCome old new c

-- an event in which the controller has a part has come to the journal
abbrev pub HasFired : ℕ → RunView → RunView → Type 0
HasFired i old new = (e : Entry) × (IsEvent e × (TakesPart old.system i e × (new.journal ≡ old.journal ++ e ∷ [])))

-- no event in which the controller has a part is lawful
abbrev pub HasNone : ℕ → RunView → Type 0
HasNone i v = (e : Entry) (t : StateView) → TakesPart v.system i e → ¬ Leads v.system (state_of v.state) e t

abbrev pub IsStepped : ℕ → RunView → RunView → Stepped → Type 0
IsStepped i old new Settled = IsGoing old × (IsUnresolved (state_of old.state) i × HasSettle i old.journal new.journal)
IsStepped i old new Fired = IsGoing old × ((¬ IsUnresolved (state_of old.state) i) × HasFired i old new)
IsStepped i old new Idle = IsGoing old × ((¬ IsUnresolved (state_of old.state) i) × (HasNone i old × IsSame old new))
IsStepped i old new (Over c) = IsOver old new c
