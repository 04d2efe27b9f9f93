use Rattle.cb_cert_print.proofs.ReadAgain.{read_again}
use Rattle.cb_cert_print.proofs.laws.proofs_are_read_again.Goals as goal

pub returns : goal.returns
returns c = read_again c.lexes_once.ensures c.proofs_are_printed_back.ensures
