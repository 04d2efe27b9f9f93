-- Lists of terms and of substitutions as trees hold them.
use Rattle.std.proofs.Common.{◌≡◌, ◌≤◌, ◌<◌, ℕ, zero, suc, List, [], ◌∷◌, map, length, get_or, refl, ap, arith}
use Rattle.cb_lex.specs.RawTermTree.{RawTermTree, raw_terms, term_nodes, terms_nodes}
use Rattle.cb_lex.specs.RawSubstTree.{RawSubstTree, raw_substs, subst_nodes, substs_nodes}
use Rattle.cb_term.specs.Tree.{trees_of}
use Rattle.cb_term.specs.Tree as tree
use Rattle.cb_spec.specs.SubstTree.{sides_of}
use Rattle.cb_spec.specs.SubstTree as subst_tree
use Rattle.cb_judge.specs.declared.names.View.{View}
use Rattle.cb_judge.specs.Meanings.{Names}
use Rattle.cb_normal.specs.Normal.{term_in, terms_in}
use Rattle.cb_normal.specs.NormalSubsts.{subst_in, substs_in}

pub normal_terms : (v : View) (names : Names) (ts : List RawTermTree) → terms_in v names (raw_terms ts) ≡ trees_of (map (term_in v names) ts)
normal_terms v names [] = refl
normal_terms v names (t ∷ ts) = ap (tree.More (term_in v names t)) (normal_terms v names ts)

pub normal_substs : (v : View) (names : Names) (ss : List RawSubstTree) → substs_in v names (raw_substs ss) ≡ sides_of (map (subst_in v names) ss)
normal_substs v names [] = refl
normal_substs v names (s ∷ ss) = ap (subst_tree.More (subst_in v names s)) (normal_substs v names ss)

-- a term has no more nodes than all
pub item_nodes : (ts : List RawTermTree) (i : ℕ) (t : RawTermTree) → i < length ts → t ≡ get_or ts i t → term_nodes t ≤ terms_nodes (raw_terms ts)
item_nodes [] i t lt is = absurd (omega (arith, lt))
item_nodes (x ∷ xs) zero t lt is = omega (arith, ap term_nodes is)
item_nodes (x ∷ xs) (suc i) t lt is = omega (arith, item_nodes xs i t (omega (arith, lt)) is)

-- a side has no more nodes than all
pub side_nodes : (ss : List RawSubstTree) (i : ℕ) (s : RawSubstTree) → i < length ss → s ≡ get_or ss i s → subst_nodes s ≤ substs_nodes (raw_substs ss)
side_nodes [] i s lt is = absurd (omega (arith, lt))
side_nodes (x ∷ xs) zero s lt is = omega (arith, ap subst_nodes is)
side_nodes (x ∷ xs) (suc i) s lt is = omega (arith, side_nodes xs i s (omega (arith, lt)) is)
