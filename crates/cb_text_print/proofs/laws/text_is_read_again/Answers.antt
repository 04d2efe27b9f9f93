use Rattle.cb_text_print.proofs.ReadAgain.{read_again}
use Rattle.cb_text_print.proofs.laws.text_is_read_again.Goals as goal

pub returns : goal.returns
returns c = read_again c.lexes_once.ensures c.text_is_printed_back.ensures
