use Rattle.std.proofs.Common.{◌≡◌, ◌++◌, drop}
use Rattle.cb_lex.specs.RawCertTree.{raw_certs}
use Rattle.cb_seq.specs.Tree.{CertTrees, End, More, certs_of}
use Rattle.cb_verdicts.specs.Certificates.{certs_of_each}
use Rattle.cb_verdicts.proofs.Certs.{before}
use Rattle.cb_verdicts.proofs.certificates.+cert_of.Given as goal

abbrev pub invariant-loop-child : goal.invariant-loop-child
invariant-loop-child l = before l.children.items (certs_of_each l.symbols (raw_certs (drop l.child-index l.written))) ≡ certs_of_each l.symbols (raw_certs l.written)
