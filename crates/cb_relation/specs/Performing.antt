-- When a substitution can be performed, and what performing it answers. `sizes` has the number of elements of each enumerated set.
use Rattle.std.specs.Prelude.{ℕ, ◌++◌, List}
use Rattle.cb_term.specs.declared.name.Name.{Name}
use Rattle.cb_term.specs.declared.kind.Kind.{Kind}
use Rattle.cb_term.specs.Values.{Look}
use Rattle.cb_spec.specs.SubstTree.{SubstTree}
use Rattle.cb_spec.specs.Stores.{Writes, SameMap}
use Rattle.cb_spec.specs.Runs.{Runs, Live, Fits}
use Rattle.cb_spec.specs.Sound.{Agrees}
use Rattle.cb_spec.specs.TypedTerms.{Scope}
use Rattle.cb_spec.specs.TypedSubsts.{TypedSubst}
use Rattle.cb_eval.specs.TypedIn.{AreSmallSets}

-- The substitution is typed where what is known of names is true of what they stand for, it fits, and it is live.
-- So it is with each body of a machine of a typed and sound system: `typed` and `fits` are the fields `body` and `fits` of
-- `TypedOperation` (`init` and `init_fits` of `TypedMachine`), with the scope and the targets there; `live` is `op_live`
-- (`init_live`) of `SoundMachine`; and names agree with that scope where each has a value of its kind for which the conjunct
-- holds that gives it its domain, a variable's in the invariant, a parameter's in the precondition.
pub record CanRun (sizes : List ℕ) (look : Look) (s : SubstTree) : Type 0 where
  pub targets : List (Name × Kind)
  pub scope : Scope
  pub taken : List Name
  pub agrees : Agrees sizes scope look
  pub small_sets : AreSmallSets sizes
  pub typed : TypedSubst sizes targets scope taken s
  pub fits : Fits sizes s
  pub live : Live sizes s look

-- the new map is the old one with the writes of a run over it
abbrev pub RunsOver : List ℕ → SubstTree → Look → (old new : Writes) → Type 0
RunsOver sizes s look old new = (d : Writes) × (Runs sizes s look d × SameMap new (d ++ old))

-- the map has the writes of a run
abbrev pub IsRunOf : List ℕ → SubstTree → Look → Writes → Type 0
IsRunOf sizes s look e = (d : Writes) × (Runs sizes s look d × SameMap e d)
