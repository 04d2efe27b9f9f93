use Rattle.std.proofs.Common.{◌≡◌, ◌++◌, drop, true}
use Rattle.cb_lex.specs.RawCertTree.{raw_certs}
use Rattle.cb_cert_print.specs.Proofs.{certs_text}
use Rattle.cb_cert_print.proofs.cert.+put_cert.Given as goal

abbrev pub invariant-loop-child : goal.invariant-loop-child
invariant-loop-child l = l.out.items ++ certs_text l.first (raw_certs (drop l.child-index l.children)) ≡ l.initial.out.items ++ certs_text true (raw_certs l.children)
