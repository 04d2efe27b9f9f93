-- The transformer is right, and so is the liveness formula.
use Rattle.std.proofs.Common.{ℕ, List, [], ◌∷◌, ◌↔◌, refl, arith}
use Rattle.cb_term.specs.declared.value.Value.{Value}
use Rattle.cb_term.specs.Tree.{FormulaTree, And}
use Rattle.cb_term.specs.Values.{Look}
use Rattle.cb_term.specs.Holds.{Holds}
use Rattle.cb_term.proofs.Equivalences.{stays, then_iff}
use Rattle.cb_spec.specs.Stores.{over}
use Rattle.cb_obligations.specs.Branches.{Branch, branches}
use Rattle.cb_obligations.specs.Transform.{branch_formula, and_branches, all_branches}
use Rattle.cb_obligations.specs.Laws.{TransformIsRight, LiveIsRight}
use Rattle.cb_obligations.proofs.Formulas.{branch_holds, live_holds}
use Rattle.cb_obligations.proofs.Runs.{EachOf, each_with, Good, good_branches, Meaning, each_run}

module _ (sizes : List ℕ) (look : Look) (env : List Value) (r : FormulaTree) where
  abbrev pub Says : Branch → Type 0
  Says b = Holds sizes look (branch_formula [] b.items b.writes r) env

  pub and_each : (f : FormulaTree) (bs : List Branch) → Holds sizes look (and_branches f bs r) env ↔ (Holds sizes look f env × EachOf Says bs)
  and_each f [] = ((λ h. (h, tt)), (λ h. h.0))
  and_each f (b ∷ bs) =
      let i = and_each (And f (branch_formula [] b.items b.writes r)) bs in
      ((λ h. ((i.0 h).0.0, ((i.0 h).0.1, (i.0 h).1))), (λ h. i.1 ((h.0, h.1.0), h.1.1)))

  pub all_each : (bs : List Branch) → Holds sizes look (all_branches bs r) env ↔ EachOf Says bs
  all_each [] = stays
  all_each (b ∷ bs) = and_each (branch_formula [] b.items b.writes r) bs

pub transform_right : TransformIsRight
transform_right sizes s r w f c look env = then_iff (all_each sizes look env r (branches s))
    (then_iff
    (each_with (Good sizes 0) (Says sizes look env r) (λ b. Meaning sizes b look (λ d. Holds sizes (over d look) r [])) (branches s)
    (good_branches sizes s 0 [] w (λ y yw. omega (arith, yw)))
    (λ b g. branch_holds sizes look env r c b.items b.writes [] g.steady g.steady_terms))
    (each_run sizes s 0 [] look look (λ d. Holds sizes (over d look) r []) w f (λ y yw. omega (arith, yw)) (λ y yw. refl)))

pub live_right : LiveIsRight
live_right sizes s w f look env = live_holds sizes look env s w f []
