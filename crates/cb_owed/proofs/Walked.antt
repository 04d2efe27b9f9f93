-- What is supposed where a definition's body begins, and the limit on the way.
use Rattle.std.proofs.Common.{◌≡◌, List, ◌∷◌, sym, ap, subst, ◌∙◌}
use Rattle.cb_term.specs.Tree.{Var, FormulaTree, And}
use Rattle.cb_spec.specs.declared.system.Controller.{Controller}
use Rattle.cb_spec.specs.declared.system.Declared.{Declared}
use Rattle.cb_spec.specs.declared.system.Definition.{Definition}
use Rattle.cb_spec.specs.declared.system.System.{System}
use Rattle.cb_spec.specs.Domains.{typing}
use Rattle.cb_obligations.specs.Steps.{Reach}
use Rattle.cb_wp.specs.declared.limits.MakeFault.{MakeFault}
use Rattle.cb_wp.specs.declared.limits.Used.{Used}
use Rattle.cb_wp.specs.Limits.{Faulted}
use Rattle.cb_conditions.specs.Conditions.{own_names, typings, known}
use Rattle.cb_conditions.specs.Steps.{way_steps, loop_steps}
use Rattle.cb_conditions.specs.Ways.{Way, at_first, opening_each, supposing}
use Rattle.cb_symbolic.specs.Walks.{Stops}
use Rattle.cb_starts.proofs.Supposed.{supposing_both, stops_both}

-- ---- one declared name more

abbrev domain_of : Declared → FormulaTree
domain_of d = typing (Var d.name) d.domain

pub typed_step : (d : Declared) (left rest : List Declared) (w v whole : Way) → left ≡ d ∷ rest → v ≡ supposing w (typing (Var d.name) d.domain) →
    supposing w (typings left) ≡ whole → supposing v (typings rest) ≡ whole
typed_step d left rest w v whole is is_v so_far =
    ap (λ u. supposing u (typings rest)) is_v ∙ supposing_both w (domain_of d) (typings rest) ∙ ap (λ l. supposing w (typings l)) (sym is) ∙ so_far

pub typed_stops : (d : Declared) (left rest : List Declared) (w whole : Way) (e : MakeFault) → left ≡ d ∷ rest →
    supposing w (typings left) ≡ whole → Stops e (Reach (supposing w (typing (Var d.name) d.domain)).hypotheses) → Stops e (Reach whole.hypotheses)
typed_stops d left rest w whole e is so_far s =
    subst (λ (u : Way). Stops e (Reach u.hypotheses)) (ap (λ l. supposing w (typings l)) (sym is) ∙ so_far) (stops_both w (domain_of d) (typings rest) e s)

-- ---- three formulas, one after another

module _ (w v : Way) (f g h : FormulaTree) (is_v : v ≡ supposing w f) where
  both_known : supposing v (And g h) ≡ supposing w (And f (And g h))
  both_known = ap (λ x. supposing x (And g h)) is_v ∙ supposing_both w f (And g h)

  pub all_three : (u : Way) → u ≡ supposing v g → supposing u h ≡ supposing w (And f (And g h))
  all_three u is_u = ap (λ x. supposing x h) is_u ∙ supposing_both v g h ∙ both_known

  -- the second passes the limit
  pub stops_second : (e : MakeFault) → Stops e (Reach (supposing v g).hypotheses) → Stops e (Reach (supposing w (And f (And g h))).hypotheses)
  stops_second e s = subst (λ (x : Way). Stops e (Reach x.hypotheses)) both_known (stops_both v g h e s)

-- ---- at the beginning of a definition's body

module _ (y : System) (c : Controller) (d : Definition) (first opened : Way) (u : Used)
    (is_first : first ≡ at_first (own_names y c)) (is_opened : opened ≡ opening_each first d.params) where
  begun : supposing opened (known y c d) ≡ supposing (opening_each (at_first (own_names y c)) d.params) (known y c d)
  begun = ap (λ w. supposing w (known y c d)) (is_opened ∙ ap (λ w. opening_each w d.params) is_first)

  pub knowing_stops : (e : MakeFault) → Stops e (Reach (supposing opened (known y c d)).hypotheses) → Faulted e u (loop_steps y c d)
  knowing_stops e s =
      subst (λ (w : Way). Stops e (Reach w.hypotheses)) begun s u (way_steps y c d.body (supposing (opening_each (at_first (own_names y c)) d.params) (known y c d)))
