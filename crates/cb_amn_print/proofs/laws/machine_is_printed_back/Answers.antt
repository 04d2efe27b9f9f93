use Rattle.cb_amn_print.proofs.PrintedBack.{machine_printed_back}
use Rattle.cb_amn_print.proofs.laws.machine_is_printed_back.Goals as goal

pub returns : goal.returns
returns c =
    let f = c.lines_of_formulas.ensures in
    let t = c.lines_of_terms.ensures in
    let s = c.lines_of_substitutions.ensures in
    machine_printed_back c.machine_is_full.ensures (record {
      laws = record { plain = f.plain; formula = f.formula; part = f.part; unit = f.unit; term = t.term; sum = t.sum; product = t.product };
      substitution_law = s.substitution;
      simple_law = s.simple;
      domain_law = s.domain;
      bound_law = s.bound;
    }) c.operation_is_written.ensures
