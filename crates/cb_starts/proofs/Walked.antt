-- The way after a branch of the beginnings, and what is counted on it.
use Rattle.std.proofs.Common.{◌≡◌, List, ◌∷◌, ◌++◌, ap, subst, ◌∙◌}
use Rattle.cb_seq.specs.Validity.{Claim}
use Rattle.cb_spec.specs.declared.system.Controller.{Controller}
use Rattle.cb_spec.specs.declared.system.System.{System}
use Rattle.cb_spec.specs.ProcessTree.{ProcessTree, Call}
use Rattle.cb_obligations.specs.Branches.{Branch}
use Rattle.cb_obligations.specs.Steps.{Step, Reach}
use Rattle.cb_wp.specs.declared.limits.MakeFault.{MakeFault}
use Rattle.cb_wp.specs.declared.limits.Used.{Used}
use Rattle.cb_wp.specs.Limits.{Counted, Faulted}
use Rattle.cb_conditions.specs.Reading.{itself}
use Rattle.cb_conditions.specs.Conditions.{own_names, machines_of, invariants_of}
use Rattle.cb_conditions.specs.Steps.{inside_steps, way_steps, start_way}
use Rattle.cb_conditions.specs.Ways.{Way, at_first, inside, leaving, supposing, ways}
use Rattle.cb_symbolic.specs.Walks.{Passes, Stops}
use Rattle.cb_ways.proofs.WalkLemmas.{faulted_before, faulted_after}
use Rattle.cb_starts.specs.Starts.{beginning_steps, beginning_ways}
use Rattle.cb_starts.proofs.Counting.{counted_on, counted_past, fault_past}

module _ (y : System) (c : Controller) (b : Branch) where
  abbrev first_steps : List Step
  first_steps = inside_steps (at_first (own_names y c)) b.items

  abbrev call : ProcessTree
  call = Call c.start c.start_args

  -- what comes after the branch's items
  abbrev last_steps : List Step
  last_steps = Reach (start_way y c b).hypotheses ∷ way_steps y c call (start_way y c b)

  pub entering_stops : (first : Way) (u : Used) (e : MakeFault) → first ≡ at_first (own_names y c) →
      Faulted e u (inside_steps first b.items) → Faulted e u (beginning_steps y c b)
  entering_stops first u e is_first f =
      faulted_before e u first_steps last_steps (subst (λ (w : Way). Faulted e u (inside_steps w b.items)) is_first f)

  module _ (first entered left : Way) (u : Used) (is_first : first ≡ at_first (own_names y c)) (is_entered : entered ≡ inside first b.items)
      (is_left : left ≡ leaving itself b.writes entered) (counted : Counted u u (inside_steps first b.items)) where
    on_entering : Counted u u first_steps
    on_entering = subst (λ (w : Way). Counted u u (inside_steps w b.items)) is_first counted

    started : supposing left (invariants_of (machines_of y c)) ≡ start_way y c b
    started =
        ap (λ w. supposing w (invariants_of (machines_of y c)))
        (is_left ∙ ap (λ w. leaving itself b.writes w) (is_entered ∙ ap (λ w. inside w b.items) is_first))

    pub supposing_stops : (e : MakeFault) → Stops e (Reach (supposing left (invariants_of (machines_of y c))).hypotheses) → Faulted e u (beginning_steps y c b)
    supposing_stops e f =
        faulted_after e u u first_steps last_steps on_entering
        (subst (λ (w : Way). Stops e (Reach w.hypotheses)) started f u (way_steps y c call (start_way y c b)))

    module _ (reached : Way) (is_reached : reached ≡ supposing left (invariants_of (machines_of y c)))
        (passes : Passes (Reach (supposing left (invariants_of (machines_of y c))).hypotheses)) where
      on_supposing : Passes (Reach (start_way y c b).hypotheses)
      on_supposing = subst (λ (w : Way). Passes (Reach w.hypotheses)) started passes

      pub all_counted : (v : Used) → Counted u v (way_steps y c call reached) → Counted u v (beginning_steps y c b)
      all_counted v p =
          counted_on first_steps last_steps u u v on_entering
          (counted_past (Reach (start_way y c b).hypotheses) (way_steps y c call (start_way y c b)) u v on_supposing
          (subst (λ (w : Way). Counted u v (way_steps y c call w)) (is_reached ∙ started) p))

      pub all_made : (old new : List Claim) → new ≡ old ++ ways y c call reached → new ≡ old ++ beginning_ways y c b
      all_made old new p = p ∙ ap (λ w. old ++ ways y c call w) (is_reached ∙ started)

      pub walking_stops : (e : MakeFault) → Faulted e u (way_steps y c call reached) → Faulted e u (beginning_steps y c b)
      walking_stops e f =
          faulted_after e u u first_steps last_steps on_entering
          (fault_past (Reach (start_way y c b).hypotheses) (way_steps y c call (start_way y c b)) u e on_supposing
          (subst (λ (w : Way). Faulted e u (way_steps y c call w)) (is_reached ∙ started) f))
