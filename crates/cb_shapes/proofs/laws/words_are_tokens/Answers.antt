use Rattle.cb_shapes.proofs.Counting as counting
use Rattle.cb_shapes.proofs.laws.words_are_tokens.Goals as goal

pub returns : goal.returns
returns c = counting.words_are_tokens
