-- Conjunctions grouped to the right.
use Rattle.std.proofs.Common.{◌≡◌, ◌≤◌, ◌<◌, ℕ, zero, suc, List, [], ◌∷◌, ◌++◌, map, length, get_or, refl, ap, arith}
use Rattle.cb_term.specs.declared.name.Name.{Name}
use Rattle.cb_term.specs.Tree.{FormulaTree, And}
use Rattle.cb_spec.specs.SubstTree.{SubstTree, sides_of}
use Rattle.cb_spec.specs.SubstSize.{subst_nodes, substs_nodes}
use Rattle.cb_obligations.specs.Transform.{live_under, live_each}
use Rattle.cb_wp.specs.Parts.{conjunction}

-- the formulas' conjunction with `f` at its end
abbrev pub and_onto : List FormulaTree → FormulaTree → FormulaTree
and_onto [] f = f
and_onto (g ∷ gs) f = And g (and_onto gs f)

pub and_onto_is : (gs : List FormulaTree) (f : FormulaTree) → and_onto gs f ≡ conjunction (gs ++ f ∷ [])
and_onto_is [] f = refl
and_onto_is (g ∷ []) f = refl
and_onto_is (g ∷ h ∷ gs) f = ap (And g) (and_onto_is (h ∷ gs) f)

pub and_onto_last : (gs : List FormulaTree) (g f : FormulaTree) → and_onto (gs ++ g ∷ []) f ≡ and_onto gs (And g f)
and_onto_last [] g f = refl
and_onto_last (h ∷ gs) g f = ap (And h) (and_onto_last gs g f)

pub each_side : (xs : List Name) (ss : List SubstTree) → conjunction (map (live_under xs) ss) ≡ live_each xs (sides_of ss)
each_side xs [] = refl
each_side xs (s ∷ []) = refl
each_side xs (s ∷ t ∷ ss) = ap (And (live_under xs s)) (each_side xs (t ∷ ss))

-- a side has no more nodes than all
pub side_nodes : (ss : List SubstTree) (i : ℕ) (s : SubstTree) → i < length ss → s ≡ get_or ss i s → subst_nodes s ≤ substs_nodes (sides_of ss)
side_nodes [] i s lt is = absurd (omega (arith, lt))
side_nodes (x ∷ xs) zero s lt is = omega (arith, ap subst_nodes is)
side_nodes (x ∷ xs) (suc i) s lt is = omega (arith, side_nodes xs i s (omega (arith, lt)) is)
