-- How a controller moves on whose process is resolved.
use Rattle.std.specs.Prelude.{ℕ, ⊤, List, []}
use Rattle.cb_spec.specs.declared.state.Entry.{Entry}
use Rattle.cb_spec.specs.declared.system.Controller.{Controller}
use Rattle.cb_spec.specs.declared.system.System.{System}
use Rattle.cb_spec.specs.ProcessTree.{ProcessTree}
use Rattle.cb_spec.specs.Stores.{Writes}
use Rattle.cb_spec.specs.States.{IsAt, state_of}
use Rattle.cb_spec.specs.Journals.{IsNumbered}
use Rattle.cb_spec.specs.Sound.{Good}
use Rattle.cb_code.specs.declared.place.Place.{Place}
use Rattle.cb_code.specs.declared.place.Place.TheVariants.{At, Ready, Ended}
use Rattle.cb_code.specs.Nodes.{part}
use Rattle.cb_settling.specs.declared.settle.Outcome.{Outcome}
use Rattle.cb_settling.specs.declared.settle.Outcome.TheVariants.{Shown, Over}
use Rattle.cb_settling.specs.Resolving.{here_of, IsSettled}
use Rattle.cb_beginning.specs.Placed.{state_in}

-- the places are those of a good state with this store
pub record AreGood (y : System) (ps : List ProcessTree) (store : Writes) (places : List Place) : Type 0 where
  pub limit : ℕ
  pub beginning : Writes
  pub journal : List Entry
  pub good : Good y limit beginning journal (state_of (state_in ps store places))

-- the names of a place
abbrev pub env_at : Place → Writes
env_at (At k env) = env
env_at (Ready ks env) = env
env_at Ended = []

-- the controller is at a process
abbrev pub IsUnsettled : Place → Type 0
IsUnsettled (At k env) = ⊤
IsUnsettled (Ready ks env) = ⊥
IsUnsettled Ended = ⊥

-- where a controller is whose process is resolved, its names having been these
abbrev pub after : Writes → Outcome → Place
after env (Shown ks own) = Ready ks (here_of env own)
after env Over = Ended

-- the controller's process is resolved
abbrev pub SettledAt : System → List ProcessTree → List Place → ℕ → Outcome → ℕ → Type 0
SettledAt y ps places i outcome bits =
    (c : Controller) × (IsNumbered y i c × ((k : ℕ) × ((env : Writes) × (IsAt places i (At k env) × IsSettled y c ps (part ps k) env outcome bits))))

-- the controller is at no process
abbrev pub IsElsewhere : List Place → ℕ → Type 0
IsElsewhere places i = (k : ℕ) (env : Writes) → ¬ IsAt places i (At k env)
