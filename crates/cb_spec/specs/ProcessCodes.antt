-- How the logic stores trees. Written by tools/gen_codes.py: change that, and not this file.
use Rattle.std.proofs.Common.{◌≡◌, ◌≢◌, ℕ, refl, ap, arith}
use Rattle.std.specs.Coded.{Coded, coded_ℕ, coded_list}
use base.Stored.{Gv, gnil, gnum, gcons}
use Rattle.cb_spec.specs.contracts.event.Event as event
use Rattle.cb_term.specs.Codes.{coded_term, coded_formula}
use Rattle.cb_spec.specs.ProcessTree.{ProcessTree, Stop, Skip, Call, Prefix, Choice, Internal, If}

abbrev head : Gv → Gv
head gnil = gnil
head (gnum n) = gnil
head (gcons a b) = a

abbrev tail : Gv → Gv
tail gnil = gnil
tail (gnum n) = gnil
tail (gcons a b) = b

apart : (m n : ℕ) {a b : Gv} → gcons (gnum m) a ≡ gcons (gnum n) b → m ≢ n → ⊥
apart m n p other = other (cc)

abbrev mutual
  pub process_code : ProcessTree → Gv
  process_code Stop = gcons (gnum 0) gnil
  process_code Skip = gcons (gnum 1) gnil
  process_code (Call a0 a1) = gcons (gnum 2) (gcons (coded_ℕ.code a0) ((coded_list coded_term).code a1))
  process_code (Prefix a0 a1) = gcons (gnum 3) (gcons (event.the_row.coded.code a0) (process_code a1))
  process_code (Choice a0 a1) = gcons (gnum 4) (gcons (process_code a0) (process_code a1))
  process_code (Internal a0 a1) = gcons (gnum 5) (gcons (process_code a0) (process_code a1))
  process_code (If a0 a1 a2) = gcons (gnum 6) (gcons (coded_formula.code a0) (gcons (process_code a1) (process_code a2)))

mutual
  pub process_inj : (x y : ProcessTree) → process_code x ≡ process_code y → x ≡ y
  process_inj Stop Stop p = refl
  process_inj Stop Skip p = absurd (apart 0 1 p (omega arith))
  process_inj Stop (Call b0 b1) p = absurd (apart 0 2 p (omega arith))
  process_inj Stop (Prefix b0 b1) p = absurd (apart 0 3 p (omega arith))
  process_inj Stop (Choice b0 b1) p = absurd (apart 0 4 p (omega arith))
  process_inj Stop (Internal b0 b1) p = absurd (apart 0 5 p (omega arith))
  process_inj Stop (If b0 b1 b2) p = absurd (apart 0 6 p (omega arith))
  process_inj Skip Stop p = absurd (apart 1 0 p (omega arith))
  process_inj Skip Skip p = refl
  process_inj Skip (Call b0 b1) p = absurd (apart 1 2 p (omega arith))
  process_inj Skip (Prefix b0 b1) p = absurd (apart 1 3 p (omega arith))
  process_inj Skip (Choice b0 b1) p = absurd (apart 1 4 p (omega arith))
  process_inj Skip (Internal b0 b1) p = absurd (apart 1 5 p (omega arith))
  process_inj Skip (If b0 b1 b2) p = absurd (apart 1 6 p (omega arith))
  process_inj (Call a0 a1) Stop p = absurd (apart 2 0 p (omega arith))
  process_inj (Call a0 a1) Skip p = absurd (apart 2 1 p (omega arith))
  process_inj (Call a0 a1) (Call b0 b1) p = λ i. Call (coded_ℕ.inj a0 b0 (ap (λ g. (head (tail g))) p) i) ((coded_list coded_term).inj a1 b1 (ap (λ g. (tail (tail g))) p) i)
  process_inj (Call a0 a1) (Prefix b0 b1) p = absurd (apart 2 3 p (omega arith))
  process_inj (Call a0 a1) (Choice b0 b1) p = absurd (apart 2 4 p (omega arith))
  process_inj (Call a0 a1) (Internal b0 b1) p = absurd (apart 2 5 p (omega arith))
  process_inj (Call a0 a1) (If b0 b1 b2) p = absurd (apart 2 6 p (omega arith))
  process_inj (Prefix a0 a1) Stop p = absurd (apart 3 0 p (omega arith))
  process_inj (Prefix a0 a1) Skip p = absurd (apart 3 1 p (omega arith))
  process_inj (Prefix a0 a1) (Call b0 b1) p = absurd (apart 3 2 p (omega arith))
  process_inj (Prefix a0 a1) (Prefix b0 b1) p = λ i. Prefix (event.the_row.coded.inj a0 b0 (ap (λ g. (head (tail g))) p) i) (process_inj a1 b1 (ap (λ g. (tail (tail g))) p) i)
  process_inj (Prefix a0 a1) (Choice b0 b1) p = absurd (apart 3 4 p (omega arith))
  process_inj (Prefix a0 a1) (Internal b0 b1) p = absurd (apart 3 5 p (omega arith))
  process_inj (Prefix a0 a1) (If b0 b1 b2) p = absurd (apart 3 6 p (omega arith))
  process_inj (Choice a0 a1) Stop p = absurd (apart 4 0 p (omega arith))
  process_inj (Choice a0 a1) Skip p = absurd (apart 4 1 p (omega arith))
  process_inj (Choice a0 a1) (Call b0 b1) p = absurd (apart 4 2 p (omega arith))
  process_inj (Choice a0 a1) (Prefix b0 b1) p = absurd (apart 4 3 p (omega arith))
  process_inj (Choice a0 a1) (Choice b0 b1) p = λ i. Choice (process_inj a0 b0 (ap (λ g. (head (tail g))) p) i) (process_inj a1 b1 (ap (λ g. (tail (tail g))) p) i)
  process_inj (Choice a0 a1) (Internal b0 b1) p = absurd (apart 4 5 p (omega arith))
  process_inj (Choice a0 a1) (If b0 b1 b2) p = absurd (apart 4 6 p (omega arith))
  process_inj (Internal a0 a1) Stop p = absurd (apart 5 0 p (omega arith))
  process_inj (Internal a0 a1) Skip p = absurd (apart 5 1 p (omega arith))
  process_inj (Internal a0 a1) (Call b0 b1) p = absurd (apart 5 2 p (omega arith))
  process_inj (Internal a0 a1) (Prefix b0 b1) p = absurd (apart 5 3 p (omega arith))
  process_inj (Internal a0 a1) (Choice b0 b1) p = absurd (apart 5 4 p (omega arith))
  process_inj (Internal a0 a1) (Internal b0 b1) p = λ i. Internal (process_inj a0 b0 (ap (λ g. (head (tail g))) p) i) (process_inj a1 b1 (ap (λ g. (tail (tail g))) p) i)
  process_inj (Internal a0 a1) (If b0 b1 b2) p = absurd (apart 5 6 p (omega arith))
  process_inj (If a0 a1 a2) Stop p = absurd (apart 6 0 p (omega arith))
  process_inj (If a0 a1 a2) Skip p = absurd (apart 6 1 p (omega arith))
  process_inj (If a0 a1 a2) (Call b0 b1) p = absurd (apart 6 2 p (omega arith))
  process_inj (If a0 a1 a2) (Prefix b0 b1) p = absurd (apart 6 3 p (omega arith))
  process_inj (If a0 a1 a2) (Choice b0 b1) p = absurd (apart 6 4 p (omega arith))
  process_inj (If a0 a1 a2) (Internal b0 b1) p = absurd (apart 6 5 p (omega arith))
  process_inj (If a0 a1 a2) (If b0 b1 b2) p = λ i. If (coded_formula.inj a0 b0 (ap (λ g. (head (tail g))) p) i) (process_inj a1 b1 (ap (λ g. (head (tail (tail g)))) p) i) (process_inj a2 b2 (ap (λ g. (tail (tail (tail g)))) p) i)

abbrev pub coded_process : Coded ProcessTree
coded_process = record { code = process_code; inj = process_inj }
