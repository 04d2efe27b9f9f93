-- What a step does, put together of what its parts do.
use Rattle.std.proofs.Common.{◌≡◌, ℕ, List, ap, ◌∙◌}
use Rattle.cb_spec.specs.declared.system.System.{System}
use Rattle.cb_spec.specs.ProcessTree.{ProcessTree}
use Rattle.cb_spec.specs.Stores.{Writes, look_of}
use Rattle.cb_spec.specs.States.{IsAt, AtProcess, control_of}
use Rattle.cb_safety_laws.proofs.Lists.{at_map}
use Rattle.cb_code.specs.declared.place.Place.{Place}
use Rattle.cb_code.specs.declared.place.Place.TheVariants.{At, Ready, Ended}
use Rattle.cb_code.specs.Nodes.{part}
use Rattle.cb_settling.specs.declared.settle.Outcome.{Outcome}
use Rattle.cb_beginning.specs.Placed.{tree_control, state_in}
use Rattle.cb_system.specs.Moves.{SettledAt, IsElsewhere}
use Rattle.cb_system.proofs.PlaceLemmas.{seen, control_at}
use Rattle.cb_spec.specs.States.{state_of}
use Rattle.cb_system.specs.Views.{RunView, IsSame}
use Rattle.cb_system.specs.Steps.{IsUnresolved}

pub same_view : (old new : RunView) → new ≡ old → IsSame old new
same_view old new e = record {
  system = ap (λ (v : RunView). v.system) e;
  limit = ap (λ (v : RunView). v.limit) e;
  initial = ap (λ (v : RunView). v.initial) e;
  journal = ap (λ (v : RunView). v.journal) e;
  state = ap (λ (v : RunView). state_of v.state) e;
}

module _ (y : System) (ps : List ProcessTree) (store : Writes) (places : List Place) (i : ℕ) where
  -- a controller whose process is resolved was at one
  pub unresolved_there : (outcome : Outcome) (bits : ℕ) → SettledAt y ps places i outcome bits → IsUnresolved (state_of (state_in ps store places)) i
  unresolved_there outcome bits r = (part ps r.1.1.0, (look_of r.1.1.1.0, control_at ps store places i (At r.1.1.0 r.1.1.1.0) r.1.1.1.1.0))

  -- one that is at no place of a process is at none
  pub resolved_there : IsElsewhere places i → ¬ IsUnresolved (state_of (state_in ps store places)) i
  resolved_there none u =
      let c = at_map control_of _ i (AtProcess u.0 u.1.0) u.1.1 in
      let p = at_map (tree_control ps) places i c.0 c.1 in
      by p.0 p.1 (c.2 ∙ ap control_of p.2)
    where
      by : (p : Place) → IsAt places i p → AtProcess u.0 u.1.0 ≡ seen ps p → ⊥
      by (At k env) at e = none k env at
      by (Ready ks env) at e = absurd (cc)
      by Ended at e = absurd (cc)
