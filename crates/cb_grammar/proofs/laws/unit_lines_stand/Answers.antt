use Rattle.std.proofs.Common.{refl}
use Rattle.cb_grammar.proofs.laws.unit_lines_stand.Goals as goal

pub returns : goal.returns
returns c = refl
