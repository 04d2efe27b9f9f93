use Rattle.cb_amn_print.proofs.PrintedBack.{term_printed_back}
use Rattle.cb_amn_print.proofs.laws.term_is_printed_back.Goals as goal

pub returns : goal.returns
returns c =
    let f = c.lines_of_formulas.ensures in
    let t = c.lines_of_terms.ensures in
    term_printed_back (record { plain = f.plain; formula = f.formula; part = f.part; unit = f.unit; term = t.term; sum = t.sum; product = t.product })
