-- When two trees are the same, the written names of bound variables aside.
use Rattle.std.specs.Prelude.{◌==◌, Bool, true, false, ◌&&◌}
use Rattle.std.specs.Ordering.{int_eq}
use Rattle.cb_term.specs.Names.{same_name}
use Rattle.cb_term.specs.Kinds.{same_kind}
use Rattle.cb_term.specs.Signs.{same_sign, same_rel}
use Rattle.cb_term.specs.Values.{same_truth}
use Rattle.cb_term.specs.Tree.{TermTree, Var, Bound, Num, Truth, Elem, Bin, Neg, Card, Listed, Elems, Truths, Test, TermTrees, End, More, FormulaTree, True, False, Rel, Not, And, Or, Implies, Iff, Every, Exist}

abbrev mutual
  pub same_term : TermTree → TermTree → Bool
  same_term (Var x) (Var y) = same_name x y
  same_term (Bound j) (Bound k) = j == k
  same_term (Num m) (Num n) = int_eq m n
  same_term (Truth b) (Truth c) = same_truth b c
  same_term (Elem set i) (Elem set' i') = (set == set') && (i == i')
  same_term (Bin s a b) (Bin s' a' b') = same_sign s s' && (same_term a a' && same_term b b')
  same_term (Neg a) (Neg a') = same_term a a'
  same_term (Card a) (Card a') = same_term a a'
  same_term (Listed ts) (Listed ts') = same_terms ts ts'
  same_term (Elems set) (Elems set') = set == set'
  same_term Truths Truths = true
  same_term (Test f) (Test f') = same f f'
  same_term t u = false

  pub same_terms : TermTrees → TermTrees → Bool
  same_terms End End = true
  same_terms (More t ts) (More u us) = same_term t u && same_terms ts us
  same_terms ts us = false

  pub same : FormulaTree → FormulaTree → Bool
  same True True = true
  same False False = true
  same (Rel s a b) (Rel s' a' b') = same_rel s s' && (same_term a a' && same_term b b')
  same (Not f) (Not f') = same f f'
  same (And f g) (And f' g') = same f f' && same g g'
  same (Or f g) (Or f' g') = same f f' && same g g'
  same (Implies f g) (Implies f' g') = same f f' && same g g'
  same (Iff f g) (Iff f' g') = same f f' && same g g'
  same (Every x kind f) (Every y kind' f') = same_kind kind kind' && same f f'
  same (Exist x kind f) (Exist y kind' f') = same_kind kind kind' && same f f'
  same f g = false
