-- What the next entry can build on.
use Rattle.std.proofs.Common.{◌≡◌, ◌<◌, ◌≤◌, ◌+◌, ◌^◌, ℕ, zero, suc, Bool, true, false, List, [], ◌∷◌, ◌++◌, length, sym, ap, ap₂, ◌∙◌, subst, inl, inr, arith, pow_mono, pow-suc}
use Rattle.std.proofs.Math.Logic.{∥∥₁_map, ∥∥₁_map₂}
use Rattle.cb_term.specs.Values.{Look}
use Rattle.cb_spec.specs.declared.system.Definition.{Definition}
use Rattle.cb_spec.specs.ProcessTree.{ProcessTree, Stop, Skip, Call, Prefix, Choice, Internal, If}
use Rattle.cb_spec.specs.States.{IsAt, BranchView, ControlView, AtProcess, Offering, Done}
use Rattle.cb_spec.specs.Settling.{number_of, Settles}
use Rattle.cb_spec.specs.Silent.{IsOperand, OperandsFit, Way, prefixes, FewBranches}
use Rattle.cb_spec.specs.Machines.{with_args}
use Rattle.cb_spec.specs.Journals.{set_sizes}
use Rattle.cb_spec.proofs.RunLemmas.{live_runs}
use Rattle.cb_safety_laws.specs.Steps.{PlacedIsFine, OfferedIsFine, OfferedIsReady, OfferedCallsRun, BitsFit, BranchesAreFew, IsGoodAtFirst, StaysGood}
use Rattle.cb_safety_laws.proofs.Forms.{inside_agrees}
use Rattle.cb_safety_laws.proofs.Parts.{fine_branch}
use Rattle.cb_safety_laws.proofs.Safety.{numbered, called}
use Rattle.cb_safety_laws.proofs.Runs.{good_begins, good_is_kept}

pub placed_is_fine : PlacedIsFine
placed_is_fine y typed sound s fit i k at =
    let here = numbered y typed sound s fit i k at in
    (here.0, here.1, fit.controls i here.0 k here.1 at)

pub offered_is_fine : OfferedIsFine
offered_is_fine y typed sound s fit i b branches branch at listed =
    let here = placed_is_fine y typed sound s fit i (Offering branches) at in
    (here.0, here.1, fine_branch y i here.0 s.store branches b branch here.2 listed)

pub offered_is_ready : OfferedIsReady
offered_is_ready y typed sound s fit i b k j branches terms targets next env from offered m o at listed args are =
    let q = called y typed sound s fit i b k j branches terms targets next env m o args from offered at listed are in
    record {
      kinds = q.kinds;
      precondition = q.pre;
      agrees = inside_agrees y typed k m at j o listed s.store args (fit.kinds k m at) (fit.invariants k m at) q.kinds q.pre;
      live = (sound.machines k m at).op_live j o listed s.store args (fit.kinds k m at) q.kinds (fit.invariants k m at) q.pre;
    }

pub offered_calls_run : OfferedCallsRun
offered_calls_run y typed sound s fit i b k j branches terms targets next env from offered m o at listed args are =
    live_runs (set_sizes y) o.body (with_args o args s.store) ((typed.machines k m at).operations j o listed).body_fits
    (offered_is_ready y typed sound s fit i b k j branches terms targets next env from offered m o at listed args are).live

-- ---- the sides of a resolving

module _ (sizes : List ℕ) (ds : List Definition) where
  -- under `[]` no side is taken
  no_sides : (n : ℕ) (p : ProcessTree) (env : Look) (sides : List Bool) (c : ControlView) → IsOperand p → Settles sizes ds n p env sides c → sides ≡ []
  no_sides n Stop env sides c o r = r.0
  no_sides n Skip env sides c o r = absurd o
  no_sides n (Call k ts) env sides c o r = absurd o
  no_sides n (Prefix e p) env sides c o r = r.0
  no_sides n (Choice p q) env sides c o r =
      r.1.1.1.1.2 ∙ ap₂ (◌++◌) (no_sides n p env r.1.1.0 (Offering r.0) o.0 r.1.1.1.1.0) (no_sides n q env r.1.1.1.0 (Offering r.1.0) o.1 r.1.1.1.1.1)
  no_sides n (Internal p q) env sides c o r = absurd o
  no_sides n (If f p q) env sides c o (inl r) = no_sides n p env sides c o.0 r.1
  no_sides n (If f p q) env sides c o (inr r) = no_sides n q env sides c o.1 r.1

  -- a resolving is a way that meets as many internal choices as it takes sides
  way_of : ((k : ℕ) (d : Definition) → IsAt ds k d → OperandsFit d.body) → (n : ℕ) (p : ProcessTree) (env : Look) (sides : List Bool) (c : ControlView) → OperandsFit p →
      Settles sizes ds n p env sides c → Way ds n p (length sides)
  way_of all n Stop env sides c o r = ap length r.0
  way_of all n Skip env sides c o r = ap length r.0
  way_of all n (Prefix e p) env sides c o r = ap length r.0
  way_of all n (Choice p q) env sides c o r =
      let us = no_sides n p env r.1.1.0 (Offering r.0) o.0 r.1.1.1.1.0 in
      let ws = no_sides n q env r.1.1.1.0 (Offering r.1.0) o.1 r.1.1.1.1.1 in
      let same : r.1.1.0 ≡ sides = us ∙ sym (r.1.1.1.1.2 ∙ ap₂ (◌++◌) us ws) in
      inl (subst (λ z. Way ds n p (length z)) same (way_of all n p env r.1.1.0 (Offering r.0) o.2 r.1.1.1.1.0))
  way_of all n (Internal p q) env [] c o r = absurd r
  way_of all n (Internal p q) env (false ∷ sides) c o r = (length sides, (omega arith, inl (way_of all n p env sides c o.0 r)))
  way_of all n (Internal p q) env (true ∷ sides) c o r = (length sides, (omega arith, inr (way_of all n q env sides c o.1 r)))
  way_of all n (If f p q) env sides c o (inl r) = inl (way_of all n p env sides c o.0 r.1)
  way_of all n (If f p q) env sides c o (inr r) = inr (way_of all n q env sides c o.1 r.1)
  way_of all zero (Call k ts) env sides c o r = absurd r
  way_of all (suc n) (Call k ts) env sides c o r =
      (r.0, (r.1.1.0, way_of all n r.0.body _ sides c (all k r.0 r.1.1.0) r.1.1.2))

number_below : (sides : List Bool) → number_of sides < 2 ^ length sides
number_below [] = omega arith
number_below (false ∷ sides) = let h = number_below sides in let s = pow-suc 2 (length sides) in omega (arith, h, s)
number_below (true ∷ sides) = let h = number_below sides in let s = pow-suc 2 (length sides) in omega (arith, h, s)

pub bits_fit : BitsFit
bits_fit y typed sound s fit i bits t r =
    let f = fit.controls i r.controller (AtProcess r.process r.env) r.its r.from in
    let way = way_of (set_sizes y) r.controller.definitions (λ k d at. ((typed.controllers i r.controller r.its).definitions k d at).operands) r.depth r.process r.env r.sides r.outcome f.operands r.settles in
    let few = f.few_silent r.depth (length r.sides) way in
    let below = number_below r.sides in
    let most : 2 ^ length r.sides ≤ 2 ^ 64 = pow_mono few in
    let is = r.bits_are in
    omega (arith, below, most, is)

-- ---- the branches that a resolving offers

abbrev count : ControlView → ℕ
count (AtProcess p env) = 0
count (Offering bs) = length bs
count Done = 0

count_append : (bs cs : List BranchView) → length (bs ++ cs) ≡ length bs + length cs
count_append [] cs = omega arith
count_append (b ∷ bs) cs = let h = count_append bs cs in omega (arith, h)

module _ (sizes : List ℕ) (ds : List Definition) where
  of_operand : (n : ℕ) (p : ProcessTree) (env : Look) (sides : List Bool) (c : ControlView) → IsOperand p → Settles sizes ds n p env sides c → count c ≤ prefixes p
  of_operand n Stop env sides c o r = let e = ap count r.1 in omega (arith, e)
  of_operand n Skip env sides c o r = absurd o
  of_operand n (Call k ts) env sides c o r = absurd o
  of_operand n (Prefix e p) env sides c o r = let e = ap count r.1 in omega (arith, e)
  of_operand n (Choice p q) env sides c o r =
      let e = ap count r.1.1.1.1.3 in
      let l = count_append r.0 r.1.0 in
      let a = of_operand n p env r.1.1.0 (Offering r.0) o.0 r.1.1.1.1.0 in
      let b = of_operand n q env r.1.1.1.0 (Offering r.1.0) o.1 r.1.1.1.1.1 in
      omega (arith, e, l, a, b)
  of_operand n (Internal p q) env sides c o r = absurd o
  of_operand n (If f p q) env sides c o (inl r) = let h = of_operand n p env sides c o.0 r.1 in omega (arith, h)
  of_operand n (If f p q) env sides c o (inr r) = let h = of_operand n q env sides c o.1 r.1 in omega (arith, h)

  few_offered : ((k : ℕ) (d : Definition) → IsAt ds k d → OperandsFit d.body × FewBranches d.body) →
      (n : ℕ) (p : ProcessTree) (env : Look) (sides : List Bool) (c : ControlView) → OperandsFit p → FewBranches p → Settles sizes ds n p env sides c → count c < 2 ^ 32
  few_offered all n Stop env sides c o few r = let e = ap count r.1 in omega (arith, e)
  few_offered all n Skip env sides c o few r = let e = ap count r.1 in omega (arith, e)
  few_offered all n (Prefix e p) env sides c o few r = let e = ap count r.1 in omega (arith, e)
  few_offered all n (Choice p q) env sides c o few r = let h = of_operand n (Choice p q) env sides c (o.0, o.1) r in omega (arith, h, few)
  few_offered all n (Internal p q) env [] c o few r = absurd r
  few_offered all n (Internal p q) env (false ∷ sides) c o few r = few_offered all n p env sides c o.0 (omega (arith, few)) r
  few_offered all n (Internal p q) env (true ∷ sides) c o few r = few_offered all n q env sides c o.1 (omega (arith, few)) r
  few_offered all n (If f p q) env sides c o few (inl r) = few_offered all n p env sides c o.0 (omega (arith, few)) r.1
  few_offered all n (If f p q) env sides c o few (inr r) = few_offered all n q env sides c o.1 (omega (arith, few)) r.1
  few_offered all zero (Call k ts) env sides c o few r = absurd r
  few_offered all (suc n) (Call k ts) env sides c o few r = let a = all k r.0 r.1.1.0 in few_offered all n r.0.body _ sides c a.0 a.1 r.1.1.2

pub branches_are_few : BranchesAreFew
branches_are_few y typed s fit i c num p env at depth sides bs r =
    let f = fit.controls i c (AtProcess p env) num at in
    few_offered (set_sizes y) c.definitions (λ k d here. let t = (typed.controllers i c num).definitions k d here in (t.operands, t.few_branches))
    depth p env sides (Offering bs) f.operands f.few_branches r

-- ---- without a word on the reasons

pub is_good_at_first : IsGoodAtFirst
is_good_at_first y typed sound limit s0 d begun same = ∥∥₁_map₂ typed sound (λ t h. good_begins y t h limit s0 d begun same)

pub stays_good : StaysGood
stays_good y limit s0 es s e t good r = ∥∥₁_map good (λ g. good_is_kept y limit s0 es s e t g r)
