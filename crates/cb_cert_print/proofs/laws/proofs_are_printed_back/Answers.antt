use Rattle.cb_cert_print.proofs.PrintedBack.{printed_back}
use Rattle.cb_cert_print.proofs.laws.proofs_are_printed_back.Goals as goal

pub returns : goal.returns
returns c =
    printed_back c.proofs_are_full.ensures (record {
      plain = c.lines_are_plain.ensures;
      formula = c.formula_is_written.ensures;
      part = c.part_is_written.ensures;
      unit = c.unit_is_written.ensures;
      term = c.term_is_written.ensures;
      sum = c.sum_is_written.ensures;
      product = c.product_is_written.ensures;
    })
