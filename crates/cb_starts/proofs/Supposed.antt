-- What is supposed one formula after another, and the limit on the way.
use Rattle.std.proofs.Common.{◌≡◌, ℕ, ltb, Bool, true, false, List, [], ◌∷◌, ◌++◌, append_assoc, Option, Some, None, slice_get, refl, sym, ap, subst, ◌∙◌, arith, if◌then◌else◌}
use Rattle.std.proofs.lemmas.Bool.{ltb-true}
use Rattle.cb_term.specs.Tree.{FormulaTree, And}
use Rattle.cb_spec.specs.declared.system.Machine.{Machine}
use Rattle.cb_obligations.specs.Pieces.{conjuncts}
use Rattle.cb_obligations.specs.Steps.{Reach}
use Rattle.cb_wp.specs.declared.limits.MakeFault.{MakeFault}
use Rattle.cb_wp.specs.declared.limits.MakeFault.TheVariants as fault
use Rattle.cb_wp.specs.declared.limits.Which.{Which}
use Rattle.cb_wp.specs.declared.limits.Which.TheVariants as which
use Rattle.cb_wp.specs.Limits.{formulas_nodes, Passed, At}
use Rattle.cb_wp.proofs.CountLemmas.{formulas_append}
use Rattle.cb_conditions.specs.Conditions.{if_there, listed, invariants_of}
use Rattle.cb_conditions.specs.Reading.{read}
use Rattle.cb_conditions.specs.Ways.{Way, supposing}
use Rattle.cb_symbolic.specs.Cuts.{IsPast}
use Rattle.cb_symbolic.specs.Walks.{Stops}
use Rattle.cb_symbolic.proofs.LimitLemmas.{past_more, stops_reach}
use Rattle.cb_starts.specs.Starts.{own_supposed}

-- two formulas are supposed as their conjunction is
pub supposing_both : (w : Way) (f g : FormulaTree) → supposing (supposing w f) g ≡ supposing w (And f g)
supposing_both w f g i = record {
  number = w.number;
  names = w.names;
  hypotheses = append_assoc w.hypotheses (conjuncts (read w.store f)) (conjuncts (read w.store g)) i;
  store = w.store;
}

-- ---- where a limit is passed, it is so with more

past_first : (h : List FormulaTree) (w : Which) (b : Bool) → ltb 20000 (formulas_nodes h) ≡ b → (if b then Passed which.Sequent else At 0 0) ≡ Passed w → IsPast (fault.Limit w) (formulas_nodes h)
past_first h w true is e = (cc, ltb-true 20000 (formulas_nodes h) is)
past_first h w false is e = cc

pub stops_more : (h more : List FormulaTree) (e : MakeFault) → Stops e (Reach h) → Stops e (Reach (h ++ more))
stops_more h more (fault.Limit w) s =
    stops_reach (h ++ more) (fault.Limit w)
    (past_more (fault.Limit w) (formulas_nodes h) (formulas_nodes (h ++ more)) (omega (arith, formulas_append h more))
    (past_first h w (ltb 20000 (formulas_nodes h)) refl (s (record { obligations = 0; nodes = 0 }) [])))
stops_more h more fault.Memory s = λ u steps. s u steps

-- where the first formula passes it, so do both
pub stops_both : (w : Way) (f g : FormulaTree) (e : MakeFault) → Stops e (Reach (supposing w f).hypotheses) → Stops e (Reach (supposing w (And f g)).hypotheses)
stops_both w f g e s =
    subst (λ (v : Way). Stops e (Reach v.hypotheses)) (supposing_both w f g) (stops_more (supposing w f).hypotheses (conjuncts (read w.store g)) e s)

-- ---- the invariants of machines

own_there : (o : Option Machine) (ms : List Machine) (w : Way) → supposing (own_supposed w o) (invariants_of ms) ≡ supposing w (invariants_of (if_there o ms))
own_there None ms w = refl
own_there (Some m) ms w = supposing_both w m.invariant (invariants_of ms)

pub own_step : (ms : List Machine) (left rest : List ℕ) (k : ℕ) (w v whole : Way) → left ≡ k ∷ rest → v ≡ own_supposed w (slice_get ms k) →
    supposing w (invariants_of (listed ms left)) ≡ whole → supposing v (invariants_of (listed ms rest)) ≡ whole
own_step ms left rest k w v whole is is_v so_far =
    ap (λ u. supposing u (invariants_of (listed ms rest))) is_v ∙ own_there (slice_get ms k) (listed ms rest) w
    ∙ ap (λ l. supposing w (invariants_of (listed ms l))) (sym is) ∙ so_far

pub own_stops : (ms : List Machine) (left rest : List ℕ) (k : ℕ) (w whole : Way) (e : MakeFault) → left ≡ k ∷ rest →
    supposing w (invariants_of (listed ms left)) ≡ whole → Stops e (Reach (own_supposed w (slice_get ms k)).hypotheses) → Stops e (Reach whole.hypotheses)
own_stops ms left rest k w whole e is so_far s =
    let v : Way = own_supposed w (slice_get ms k) in
    subst (λ (u : Way). Stops e (Reach u.hypotheses)) (own_step ms left rest k w v whole is refl so_far)
    (stops_more v.hypotheses (conjuncts (read v.store (invariants_of (listed ms rest)))) e s)
