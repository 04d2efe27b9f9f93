-- Certificates as plain trees.
use Rattle.std.specs.Prelude.{List, [], ◌∷◌}
use Rattle.cb_seq.specs.declared.rule.Rule.{Rule}

mutual
  -- a rule, and the certificates of its premises
  pub data CertTree : Type 0 where
    Node : Rule → CertTrees → CertTree

  pub data CertTrees : Type 0 where
    End : CertTrees
    More : CertTree → CertTrees → CertTrees

-- a list as the tree holds it
abbrev pub certs_of : List CertTree → CertTrees
certs_of [] = End
certs_of (c ∷ cs) = More c (certs_of cs)
