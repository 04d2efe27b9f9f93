-- How the logic stores the trees. Written by tools/gen_codes.py from tools/trees/raw_cert.trees: change that, and not this file.
use Rattle.std.proofs.Common.{◌≡◌, ◌≢◌, ℕ, refl, ap, arith}
use Rattle.std.specs.Coded.{Coded}
use base.Stored.{Gv, gnil, gnum, gcons}
use Rattle.cb_lex.specs.contracts.raw.proof.RawRule as rule
use Rattle.cb_lex.specs.RawCertTree.{RawCertTree, Node, RawCerts, NoChild, Child}

abbrev head : Gv → Gv
head gnil = gnil
head (gnum n) = gnil
head (gcons a b) = a

abbrev tail : Gv → Gv
tail gnil = gnil
tail (gnum n) = gnil
tail (gcons a b) = b

apart : (m n : ℕ) {a b : Gv} → gcons (gnum m) a ≡ gcons (gnum n) b → m ≢ n → ⊥
apart m n p other = other (cc)

abbrev mutual
  pub cert_code : RawCertTree → Gv
  cert_code (Node a0 a1) = gcons (gnum 0) (gcons (rule.the_row.coded.code a0) (certs_code a1))

  pub certs_code : RawCerts → Gv
  certs_code NoChild = gcons (gnum 0) gnil
  certs_code (Child a0 a1) = gcons (gnum 1) (gcons (cert_code a0) (certs_code a1))

mutual
  pub cert_inj : (x y : RawCertTree) → cert_code x ≡ cert_code y → x ≡ y
  cert_inj (Node a0 a1) (Node b0 b1) p = λ i. Node (rule.the_row.coded.inj a0 b0 (ap (λ g. (head (tail g))) p) i) (certs_inj a1 b1 (ap (λ g. (tail (tail g))) p) i)

  pub certs_inj : (x y : RawCerts) → certs_code x ≡ certs_code y → x ≡ y
  certs_inj NoChild NoChild p = refl
  certs_inj NoChild (Child b0 b1) p = absurd (apart 0 1 p (omega arith))
  certs_inj (Child a0 a1) NoChild p = absurd (apart 1 0 p (omega arith))
  certs_inj (Child a0 a1) (Child b0 b1) p = λ i. Child (cert_inj a0 b0 (ap (λ g. (head (tail g))) p) i) (certs_inj a1 b1 (ap (λ g. (tail (tail g))) p) i)

abbrev pub coded_cert : Coded RawCertTree
coded_cert = record { code = cert_code; inj = cert_inj }
