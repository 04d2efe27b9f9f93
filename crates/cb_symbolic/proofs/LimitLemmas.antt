-- The limit of a sequent, at the hypotheses that are reached and at a term that is weighed.
use Rattle.std.proofs.Common.{◌≡◌, ℕ, ◌+◌, ◌<◌, ◌≤◌, min, Bool, List, ◌++◌, refl, sym, ap, ◌∙◌, arith, if◌then◌else◌}
use Rattle.std.proofs.lemmas.Bool.{lt-ltb, le-ltb}
use Rattle.cb_term.specs.Size.{term_nodes}
use Rattle.cb_term.specs.Tree.{TermTree, FormulaTree}
use Rattle.cb_obligations.specs.Steps.{Reach, Weigh}
use Rattle.cb_wp.specs.declared.limits.MakeFault.{MakeFault}
use Rattle.cb_wp.specs.declared.limits.MakeFault.TheVariants as fault
use Rattle.cb_wp.specs.declared.limits.Which.TheVariants as which
use Rattle.cb_wp.specs.Limits.{formulas_nodes, count, Passed}
use Rattle.cb_wp.proofs.CountLemmas.{formulas_append}
use Rattle.cb_symbolic.specs.Cuts.{IsPast}
use Rattle.cb_symbolic.specs.Walks.{Passes, Stops}

pub past_more : (e : MakeFault) (m n : ℕ) → m ≤ n → IsPast e m → IsPast e n
past_more (fault.Limit w) m n le h = (h.0, omega (arith, h.1, le))
past_more fault.Memory m n le h = h

pub passes_reach : (h : List FormulaTree) → formulas_nodes h ≤ 20000 → Passes (Reach h)
passes_reach h within o n steps = ap (λ (b : Bool). if b then Passed which.Sequent else count o n steps) (le-ltb 20000 (formulas_nodes h) within)

pub stops_reach : (h : List FormulaTree) (e : MakeFault) → IsPast e (formulas_nodes h) → Stops e (Reach h)
stops_reach h (fault.Limit w) p u steps =
    ap (λ (b : Bool). if b then Passed which.Sequent else count u.obligations u.nodes steps) (lt-ltb 20000 (formulas_nodes h) p.1) ∙ λ l. Passed (sym p.0 l)
stops_reach h fault.Memory p u steps = p

pub passes_weigh : (t : TermTree) → term_nodes t ≤ 20000 → Passes (Weigh t)
passes_weigh t within o n steps = ap (λ (b : Bool). if b then Passed which.Sequent else count o n steps) (le-ltb 20000 (term_nodes t) within)

pub stops_weigh : (t : TermTree) (e : MakeFault) → IsPast e (term_nodes t) → Stops e (Weigh t)
stops_weigh t (fault.Limit w) p u steps =
    ap (λ (b : Bool). if b then Passed which.Sequent else count u.obligations u.nodes steps) (lt-ltb 20000 (term_nodes t) p.1) ∙ λ l. Passed (sym p.0 l)
stops_weigh t fault.Memory p u steps = p

-- ---- hypotheses with more at their end

pub reached_with : (hyps cs : List FormulaTree) (before after : ℕ) → before ≡ min (formulas_nodes hyps) 18446744073709551615 →
    after ≡ min (before + formulas_nodes cs) 18446744073709551615 → after ≡ min (formulas_nodes (hyps ++ cs)) 18446744073709551615
reached_with hyps cs before after is_before is_after = omega (arith, is_before, is_after, formulas_append hyps cs)

pub passes_with : (hyps cs : List FormulaTree) (before after : ℕ) → before ≡ min (formulas_nodes hyps) 18446744073709551615 →
    after ≡ min (before + formulas_nodes cs) 18446744073709551615 → after ≤ 20000 → Passes (Reach (hyps ++ cs))
passes_with hyps cs before after is_before is_after within = passes_reach (hyps ++ cs) (omega (arith, reached_with hyps cs before after is_before is_after, within))

pub stops_with : (hyps cs : List FormulaTree) (before : ℕ) (e : MakeFault) → before ≡ min (formulas_nodes hyps) 18446744073709551615 →
    IsPast e (before + formulas_nodes cs) → Stops e (Reach (hyps ++ cs))
stops_with hyps cs before e is_before past =
    stops_reach (hyps ++ cs) e (past_more e (before + formulas_nodes cs) (formulas_nodes (hyps ++ cs)) (omega (arith, is_before, formulas_append hyps cs)) past)

pub over_with : (hyps cs : List FormulaTree) (before after : ℕ) → before ≡ min (formulas_nodes hyps) 18446744073709551615 →
    after ≡ min (before + formulas_nodes cs) 18446744073709551615 → 20000 < after → Stops (fault.Limit which.Sequent) (Reach (hyps ++ cs))
over_with hyps cs before after is_before is_after above =
    stops_with hyps cs before (fault.Limit which.Sequent) is_before (refl, omega (arith, is_after, above))
