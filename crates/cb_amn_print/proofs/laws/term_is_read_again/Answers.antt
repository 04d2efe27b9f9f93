use Rattle.std.proofs.Common.{refl, false}
use Rattle.cb_grammar.specs.declared.parts.Part.TheVariants as part
use Rattle.cb_amn_parse.specs.Formulas.{term_out}
use Rattle.cb_amn_parse.proofs.Once.{term_once}
use Rattle.cb_amn_print.specs.Formulas.{term_text}
use Rattle.cb_amn_print.specs.Unplaced.{unplaced_term}
use Rattle.cb_amn_print.proofs.OutAside.{term_aside}
use Rattle.cb_amn_print.proofs.ReadAgain.{read_again}
use Rattle.cb_amn_print.proofs.laws.term_is_read_again.Goals as goal

pub returns : goal.returns
returns c = read_again part.Term (term_text false) term_out unplaced_term c.lexes_once.ensures refl c.term_is_printed_back.ensures term_aside term_once
