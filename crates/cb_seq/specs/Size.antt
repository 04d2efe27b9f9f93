-- How many nodes a certificate has. Each child has fewer than its parent.
use Rattle.std.specs.Prelude.{ℕ, ◌+◌, ◌≤◌, max, List, [], ◌∷◌}
use Rattle.std.proofs.Common.{arith}
use denote.Param.Weighed.{most}
use Rattle.cb_seq.specs.declared.rule.Rule.{Rule}
use Rattle.cb_seq.specs.Tree.{CertTree, Node, CertTrees, End, More, certs_of}

abbrev mutual
  pub cert_nodes : CertTree → ℕ
  cert_nodes (Node rule cs) = certs_nodes cs + 1

  pub certs_nodes : CertTrees → ℕ
  certs_nodes End = 0
  certs_nodes (More c cs) = cert_nodes c + certs_nodes cs

most_le-certs_nodes : (cs : List CertTree) → most (λ c. cert_nodes c + 1) cs ≤ certs_nodes (certs_of cs) + 1
most_le-certs_nodes [] = omega arith
most_le-certs_nodes (c ∷ cs) = omega (arith, most_le-certs_nodes cs)

pub cert_falls : (rule : Rule) (cs : List CertTree) → max (most (λ c. cert_nodes c + 1) cs) 0 ≤ cert_nodes (Node rule (certs_of cs))
cert_falls rule cs = omega (arith, most_le-certs_nodes cs)
