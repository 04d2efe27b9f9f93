use Rattle.std.proofs.Common.{◌∙◌, ap}
use Rattle.std.specs.Option.{option_map}
use Rattle.cb_lex.specs.SignRows.{row_measured}
use Rattle.cb_lex.proofs.Signs.{row_found}
use Rattle.cb_lex.proofs.spelling.sign_at.Goals as goal

pub returns-clause-sign : goal.returns-clause-sign
returns-clause-sign c = rw c.mark_length.ensures (ap (option_map row_measured) c.in_ok-row.ensures.row ∙ row_found c.args.bytes.now)
