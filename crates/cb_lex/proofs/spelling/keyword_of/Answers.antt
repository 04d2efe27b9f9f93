use Rattle.cb_lex.proofs.Lengths.{spelled-of_length}
use Rattle.cb_lex.proofs.spelling.keyword_of.Goals as goal

pub returns : goal.returns
returns c = rw c.spelled.ensures (rw c.keywords_of_length.ensures (spelled-of_length c.args.word.now))
