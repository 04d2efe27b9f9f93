-- Each child of a certificate has fewer nodes than the certificate.
use Rattle.std.specs.Prelude.{◌+◌, ◌≤◌, max, List, [], ◌∷◌}
use Rattle.std.proofs.Common.{arith}
use denote.Param.Weighed.{most}
use Rattle.cb_lex.specs.declared.raw.proof.RawRule.{RawRule}
use Rattle.cb_lex.specs.RawCertTree.{RawCertTree, Node, raw_certs, cert_nodes, certs_nodes}

most_le-certs_nodes : (cs : List RawCertTree) → most (λ c. cert_nodes c + 1) cs ≤ certs_nodes (raw_certs cs) + 1
most_le-certs_nodes [] = omega arith
most_le-certs_nodes (c ∷ cs) = omega (arith, most_le-certs_nodes cs)

pub cert_falls : (rule : RawRule) (cs : List RawCertTree) → max (most (λ c. cert_nodes c + 1) cs) 0 ≤ cert_nodes (Node rule (raw_certs cs))
cert_falls rule cs = omega (arith, most_le-certs_nodes cs)
