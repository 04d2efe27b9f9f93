use Rattle.cb_cert_print.proofs.Children.{has_premises_if}
use Rattle.cb_cert_print.proofs.cert.has_premises.Goals as goal

pub returns : goal.returns
returns c =
    let inside = c.cert.view_is in
    let empty = c.is_empty.ensures in
    let told = has_premises_if c.cert.inside.rule c.cert.inside.children.items in
    cc
