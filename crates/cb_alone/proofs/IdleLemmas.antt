-- Where no controller can do anything, the run has come to an end.
use Rattle.std.proofs.Common.{ℕ, suc, ◌<◌, List, [], ◌∷◌, length, inl, refl, arith}
use Rattle.cb_term.specs.Values.{Look}
use Rattle.cb_spec.specs.declared.state.Entry.{Entry}
use Rattle.cb_spec.specs.declared.state.Entry.TheVariants as entry
use Rattle.cb_spec.specs.declared.state.End.TheVariants.{Ended, Quiet}
use Rattle.cb_spec.specs.declared.system.System.{System}
use Rattle.cb_spec.specs.ProcessTree.{ProcessTree}
use Rattle.cb_spec.specs.States.{IsAt, ControlView, AtProcess, Offering, Done, StateView, state_of}
use Rattle.cb_spec.specs.Journals.{Leads, AllSettled, IsStill}
use Rattle.cb_safety_laws.specs.Causes.{TakesPart}
use Rattle.cb_safety_laws.proofs.Lists.{at_below}
use Rattle.cb_system.specs.Views.{RunView}
use Rattle.cb_system.specs.Steps.{IsUnresolved, IsGoing}

-- its process is resolved, and no event in which it has a part is lawful
abbrev pub IsIdle : System → StateView → ℕ → Type 0
IsIdle y s i = (¬ IsUnresolved s i) × ((e : Entry) (t : StateView) → TakesPart y i e → ¬ Leads y s e t)

all_settled : (cs : List ControlView) → ((i : ℕ) (p : ProcessTree) (env : Look) → ¬ IsAt cs i (AtProcess p env)) → AllSettled cs
all_settled [] none = tt
all_settled (AtProcess p env ∷ cs) none = none 0 p env refl
all_settled (Offering bs ∷ cs) none = all_settled cs (λ i p env at. none (suc i) p env at)
all_settled (Done ∷ cs) none = all_settled cs (λ i p env at. none (suc i) p env at)

module _ (y : System) (s : StateView) (idle : (i : ℕ) → i < length s.controls → IsIdle y s i) where
  settled : AllSettled s.controls
  settled = all_settled s.controls (λ i p env at. (idle i (at_below s.controls i (AtProcess p env) at)).0 (p, (env, at)))

  still : IsStill y s
  still (entry.Settle i bits) t event r = event
  still (entry.Op i b k j args results written) t event r = (idle i (at_below s.controls i (Offering r.branches) r.from)).1 (entry.Op i b k j args results written) t refl r
  still (entry.Pass k sent got vs) t event r = (idle r.channel.sender (at_below s.controls r.channel.sender (Offering r.outs) r.sender)).1 (entry.Pass k sent got vs) t (r.channel, (r.its, inl refl)) r
  still (entry.End c) t event r = event

pub idle_stops : (v : RunView) → ((i : ℕ) → i < length (state_of v.state).controls → IsIdle v.system (state_of v.state) i) → ¬ IsGoing v
idle_stops v idle going = going.none_due Quiet (going.none_due Ended, (λ at_limit. let more = going.more in omega (arith, at_limit, more)), settled v.system (state_of v.state) idle, still v.system (state_of v.state) idle)
