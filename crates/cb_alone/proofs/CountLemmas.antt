-- How many controllers are at a process that is not resolved yet.
use Rattle.std.proofs.Common.{◌≡◌, ℕ, zero, suc, ◌+◌, ◌≤◌, Bool, true, false, List, [], ◌∷◌, length, slice_set, inl, inr, ap, arith}
use Rattle.std.specs.List.{sum_by}
use Rattle.std.proofs.lemmas.List.Sums.{sum_by-cons}
use Rattle.cb_term.specs.Values.{Look}
use Rattle.cb_spec.specs.declared.system.Definition.{Definition}
use Rattle.cb_spec.specs.ProcessTree.{ProcessTree, Stop, Skip, Call, Prefix, Choice, Internal, If}
use Rattle.cb_spec.specs.Bound.{names, bound_look}
use Rattle.cb_spec.specs.States.{ControlView, AtProcess, Offering, Done}
use Rattle.cb_spec.specs.Settling.{Settles}

abbrev pub is_unresolved : ControlView → ℕ
is_unresolved (AtProcess p env) = 1
is_unresolved (Offering bs) = 0
is_unresolved Done = 0

one_at_most : (c : ControlView) → is_unresolved c ≤ 1
one_at_most (AtProcess p env) = omega arith
one_at_most (Offering bs) = omega arith
one_at_most Done = omega arith

-- where one control is new there is one more at most
pub unresolved_set : (cs : List ControlView) (i : ℕ) (c : ControlView) → sum_by is_unresolved (slice_set cs i c) ≤ sum_by is_unresolved cs + 1
unresolved_set [] i c = omega arith
unresolved_set (k ∷ cs) zero c = let old = sum_by-cons is_unresolved k cs in let new = sum_by-cons is_unresolved c cs in let one = one_at_most c in omega (arith, old, new, one)
unresolved_set (k ∷ cs) (suc i) c =
    let old = sum_by-cons is_unresolved k cs in
    let new = sum_by-cons is_unresolved k (slice_set cs i c) in
    let rest = unresolved_set cs i c in
    omega (arith, old, new, rest)

pub unresolved_set_two : (cs : List ControlView) (i j : ℕ) (c d : ControlView) → sum_by is_unresolved (slice_set (slice_set cs i c) j d) ≤ sum_by is_unresolved cs + 2
unresolved_set_two cs i j c d = let first = unresolved_set cs i c in let second = unresolved_set (slice_set cs i c) j d in omega (arith, first, second)

-- no more than there are controls
pub unresolved_few : (cs : List ControlView) → sum_by is_unresolved cs ≤ length cs
unresolved_few [] = omega arith
unresolved_few (c ∷ cs) = let sum = sum_by-cons is_unresolved c cs in let one = one_at_most c in let rest = unresolved_few cs in omega (arith, sum, one, rest)

-- a process is resolved to a control that is none of them
module _ (sizes : List ℕ) (ds : List Definition) where
  pub settled_none : (n : ℕ) (p : ProcessTree) (env : Look) (sides : List Bool) (c : ControlView) → Settles sizes ds n p env sides c → is_unresolved c ≡ 0
  settled_none n Stop env sides c r = ap is_unresolved r.1
  settled_none n Skip env sides c r = ap is_unresolved r.1
  settled_none n (Prefix e p) env sides c r = ap is_unresolved r.1
  settled_none n (Choice p q) env sides c r = ap is_unresolved r.1.1.1.1.3
  settled_none n (Internal p q) env [] c r = absurd r
  settled_none n (Internal p q) env (false ∷ sides) c r = settled_none n p env sides c r
  settled_none n (Internal p q) env (true ∷ sides) c r = settled_none n q env sides c r
  settled_none n (If f p q) env sides c (inl r) = settled_none n p env sides c r.1
  settled_none n (If f p q) env sides c (inr r) = settled_none n q env sides c r.1
  settled_none zero (Call k ts) env sides c r = absurd r
  settled_none (suc n) (Call k ts) env sides c r = settled_none n r.0.body (bound_look (names r.0.params) r.1.0) sides c r.1.1.2
