-- Certificates as they are written, as plain trees.
use Rattle.std.specs.Prelude.{ℕ, ◌+◌, List, [], ◌∷◌}
use Rattle.cb_lex.specs.declared.raw.proof.RawRule.{RawRule}

mutual
  -- a rule, and the certificates of its premises
  pub data RawCertTree : Type 0 where
    Node : RawRule → RawCerts → RawCertTree

  pub data RawCerts : Type 0 where
    NoChild : RawCerts
    Child : RawCertTree → RawCerts → RawCerts

-- a list as the tree holds it
abbrev pub raw_certs : List RawCertTree → RawCerts
raw_certs [] = NoChild
raw_certs (c ∷ cs) = Child c (raw_certs cs)

-- how many nodes a tree has
abbrev mutual
  pub cert_nodes : RawCertTree → ℕ
  cert_nodes (Node rule cs) = certs_nodes cs + 1

  pub certs_nodes : RawCerts → ℕ
  certs_nodes NoChild = 0
  certs_nodes (Child c cs) = cert_nodes c + certs_nodes cs
