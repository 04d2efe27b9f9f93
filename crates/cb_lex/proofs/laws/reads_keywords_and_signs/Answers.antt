use Rattle.cb_lex.proofs.Spelled.{keyword_read, keyword_letters, sign_read, sign_begins}
use Rattle.cb_lex.proofs.laws.reads_keywords_and_signs.Goals as goal

pub returns : goal.returns
returns c = record { keywords = (keyword_read, keyword_letters); signs = (sign_read, sign_begins) }
