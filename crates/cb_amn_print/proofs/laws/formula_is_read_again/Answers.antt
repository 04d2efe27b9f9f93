use Rattle.std.proofs.Common.{refl, false}
use Rattle.cb_grammar.specs.declared.parts.Part.TheVariants as part
use Rattle.cb_amn_parse.specs.Formulas.{formula_out}
use Rattle.cb_amn_parse.proofs.Once.{formula_once}
use Rattle.cb_amn_print.specs.Formulas.{formula_text}
use Rattle.cb_amn_print.specs.Unplaced.{unplaced_formula}
use Rattle.cb_amn_print.proofs.OutAside.{formula_aside}
use Rattle.cb_amn_print.proofs.ReadAgain.{read_again}
use Rattle.cb_amn_print.proofs.laws.formula_is_read_again.Goals as goal

pub returns : goal.returns
returns c = read_again part.Formula (formula_text false) formula_out unplaced_formula c.lexes_once.ensures refl c.formula_is_printed_back.ensures formula_aside formula_once
