use Rattle.cb_lex.proofs.Longest.{front_longest}
use Rattle.cb_lex.proofs.laws.takes_the_longest.Goals as goal

pub returns : goal.returns
returns c = front_longest
