use Rattle.cb_spelled.proofs.Texts.{spelled_written}
use Rattle.cb_spelled.proofs.laws.spelled_is_written.Goals as goal

pub returns : goal.returns
returns c = spelled_written c.text_is_full.ensures c.words_are_tokens.ensures
