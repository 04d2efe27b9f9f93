use Rattle.cb_spelled_texts.proofs.Texts.{spelled_text}
use Rattle.cb_spelled_texts.proofs.laws.spelled_is_spelled_text.Goals as goal

pub returns : goal.returns
returns c = spelled_text c.spelled_is_written.ensures c.words_are_tokens.ensures
