-- How the logic stores trees. Written by tools/gen_codes.py: change that, and not this file.
use Rattle.std.proofs.Common.{◌≡◌, ◌≢◌, ℕ, refl, ap, arith}
use Rattle.std.specs.Coded.{Coded}
use base.Stored.{Gv, gnil, gnum, gcons}
use Rattle.cb_term.specs.contracts.name.Name as name
use Rattle.cb_term.specs.contracts.kind.Domain as domain
use Rattle.cb_term.specs.Codes.{coded_term, coded_formula}
use Rattle.cb_spec.specs.SubstTree.{SubstTree, Skip, Assign, Together, Choice, If, AnyOf, SubstTrees, End, More}

abbrev head : Gv → Gv
head gnil = gnil
head (gnum n) = gnil
head (gcons a b) = a

abbrev tail : Gv → Gv
tail gnil = gnil
tail (gnum n) = gnil
tail (gcons a b) = b

apart : (m n : ℕ) {a b : Gv} → gcons (gnum m) a ≡ gcons (gnum n) b → m ≢ n → ⊥
apart m n p other = other (cc)

abbrev mutual
  pub subst_code : SubstTree → Gv
  subst_code Skip = gcons (gnum 0) gnil
  subst_code (Assign a0 a1) = gcons (gnum 1) (gcons (name.the_row.coded.code a0) (coded_term.code a1))
  subst_code (Together a0 a1) = gcons (gnum 2) (gcons (subst_code a0) (subst_code a1))
  subst_code (Choice a0) = gcons (gnum 3) (substs_code a0)
  subst_code (If a0 a1 a2) = gcons (gnum 4) (gcons (coded_formula.code a0) (gcons (subst_code a1) (subst_code a2)))
  subst_code (AnyOf a0 a1 a2 a3) = gcons (gnum 5) (gcons (name.the_row.coded.code a0) (gcons (domain.the_row.coded.code a1) (gcons (coded_formula.code a2) (subst_code a3))))

  pub substs_code : SubstTrees → Gv
  substs_code End = gcons (gnum 0) gnil
  substs_code (More a0 a1) = gcons (gnum 1) (gcons (subst_code a0) (substs_code a1))

mutual
  pub subst_inj : (x y : SubstTree) → subst_code x ≡ subst_code y → x ≡ y
  subst_inj Skip Skip p = refl
  subst_inj Skip (Assign b0 b1) p = absurd (apart 0 1 p (omega arith))
  subst_inj Skip (Together b0 b1) p = absurd (apart 0 2 p (omega arith))
  subst_inj Skip (Choice b0) p = absurd (apart 0 3 p (omega arith))
  subst_inj Skip (If b0 b1 b2) p = absurd (apart 0 4 p (omega arith))
  subst_inj Skip (AnyOf b0 b1 b2 b3) p = absurd (apart 0 5 p (omega arith))
  subst_inj (Assign a0 a1) Skip p = absurd (apart 1 0 p (omega arith))
  subst_inj (Assign a0 a1) (Assign b0 b1) p = λ i. Assign (name.the_row.coded.inj a0 b0 (ap (λ g. (head (tail g))) p) i) (coded_term.inj a1 b1 (ap (λ g. (tail (tail g))) p) i)
  subst_inj (Assign a0 a1) (Together b0 b1) p = absurd (apart 1 2 p (omega arith))
  subst_inj (Assign a0 a1) (Choice b0) p = absurd (apart 1 3 p (omega arith))
  subst_inj (Assign a0 a1) (If b0 b1 b2) p = absurd (apart 1 4 p (omega arith))
  subst_inj (Assign a0 a1) (AnyOf b0 b1 b2 b3) p = absurd (apart 1 5 p (omega arith))
  subst_inj (Together a0 a1) Skip p = absurd (apart 2 0 p (omega arith))
  subst_inj (Together a0 a1) (Assign b0 b1) p = absurd (apart 2 1 p (omega arith))
  subst_inj (Together a0 a1) (Together b0 b1) p = λ i. Together (subst_inj a0 b0 (ap (λ g. (head (tail g))) p) i) (subst_inj a1 b1 (ap (λ g. (tail (tail g))) p) i)
  subst_inj (Together a0 a1) (Choice b0) p = absurd (apart 2 3 p (omega arith))
  subst_inj (Together a0 a1) (If b0 b1 b2) p = absurd (apart 2 4 p (omega arith))
  subst_inj (Together a0 a1) (AnyOf b0 b1 b2 b3) p = absurd (apart 2 5 p (omega arith))
  subst_inj (Choice a0) Skip p = absurd (apart 3 0 p (omega arith))
  subst_inj (Choice a0) (Assign b0 b1) p = absurd (apart 3 1 p (omega arith))
  subst_inj (Choice a0) (Together b0 b1) p = absurd (apart 3 2 p (omega arith))
  subst_inj (Choice a0) (Choice b0) p = λ i. Choice (substs_inj a0 b0 (ap (λ g. (tail g)) p) i)
  subst_inj (Choice a0) (If b0 b1 b2) p = absurd (apart 3 4 p (omega arith))
  subst_inj (Choice a0) (AnyOf b0 b1 b2 b3) p = absurd (apart 3 5 p (omega arith))
  subst_inj (If a0 a1 a2) Skip p = absurd (apart 4 0 p (omega arith))
  subst_inj (If a0 a1 a2) (Assign b0 b1) p = absurd (apart 4 1 p (omega arith))
  subst_inj (If a0 a1 a2) (Together b0 b1) p = absurd (apart 4 2 p (omega arith))
  subst_inj (If a0 a1 a2) (Choice b0) p = absurd (apart 4 3 p (omega arith))
  subst_inj (If a0 a1 a2) (If b0 b1 b2) p = λ i. If (coded_formula.inj a0 b0 (ap (λ g. (head (tail g))) p) i) (subst_inj a1 b1 (ap (λ g. (head (tail (tail g)))) p) i) (subst_inj a2 b2 (ap (λ g. (tail (tail (tail g)))) p) i)
  subst_inj (If a0 a1 a2) (AnyOf b0 b1 b2 b3) p = absurd (apart 4 5 p (omega arith))
  subst_inj (AnyOf a0 a1 a2 a3) Skip p = absurd (apart 5 0 p (omega arith))
  subst_inj (AnyOf a0 a1 a2 a3) (Assign b0 b1) p = absurd (apart 5 1 p (omega arith))
  subst_inj (AnyOf a0 a1 a2 a3) (Together b0 b1) p = absurd (apart 5 2 p (omega arith))
  subst_inj (AnyOf a0 a1 a2 a3) (Choice b0) p = absurd (apart 5 3 p (omega arith))
  subst_inj (AnyOf a0 a1 a2 a3) (If b0 b1 b2) p = absurd (apart 5 4 p (omega arith))
  subst_inj (AnyOf a0 a1 a2 a3) (AnyOf b0 b1 b2 b3) p = λ i. AnyOf (name.the_row.coded.inj a0 b0 (ap (λ g. (head (tail g))) p) i) (domain.the_row.coded.inj a1 b1 (ap (λ g. (head (tail (tail g)))) p) i) (coded_formula.inj a2 b2 (ap (λ g. (head (tail (tail (tail g))))) p) i) (subst_inj a3 b3 (ap (λ g. (tail (tail (tail (tail g))))) p) i)

  pub substs_inj : (x y : SubstTrees) → substs_code x ≡ substs_code y → x ≡ y
  substs_inj End End p = refl
  substs_inj End (More b0 b1) p = absurd (apart 0 1 p (omega arith))
  substs_inj (More a0 a1) End p = absurd (apart 1 0 p (omega arith))
  substs_inj (More a0 a1) (More b0 b1) p = λ i. More (subst_inj a0 b0 (ap (λ g. (head (tail g))) p) i) (substs_inj a1 b1 (ap (λ g. (tail (tail g))) p) i)

abbrev pub coded_subst : Coded SubstTree
coded_subst = record { code = subst_code; inj = subst_inj }
