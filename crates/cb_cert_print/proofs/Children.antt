-- A rule has premises where its list of them is not empty.
use Rattle.std.proofs.Common.{◌≡◌, List, [], ◌∷◌, length, refl, arith}
use Rattle.std.specs.Prelude.{not, ◌==◌, false}
use Rattle.cb_lex.specs.declared.raw.proof.RawRule.{RawRule}
use Rattle.cb_lex.specs.RawCertTree.{RawCertTree, raw_certs}
use Rattle.cb_lex.specs.RawCertTree as tree
use Rattle.cb_cert_print.specs.Proofs.{has_premises}

pub has_premises_if : (r : RawRule) (cs : List RawCertTree) → has_premises (tree.Node r (raw_certs cs)) ≡ not (length cs == 0)
has_premises_if r [] = refl
has_premises_if r (c ∷ cs) = let e : (length (c ∷ cs) == 0) ≡ false = grind arith in rw e refl
