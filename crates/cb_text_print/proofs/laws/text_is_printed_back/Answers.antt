use Rattle.cb_text_print.proofs.PrintedBack.{printed_back}
use Rattle.cb_text_print.proofs.laws.text_is_printed_back.Goals as goal

pub returns : goal.returns
returns c =
    let f = c.lines_of_formulas.ensures in
    let t = c.lines_of_terms.ensures in
    let m = c.lines_of_machines.ensures in
    let p = c.lines_of_controllers.ensures in
    let x = c.lines_of_texts.ensures in
    printed_back c.text_is_whole.ensures (record {
      processes = record {
        more_laws = record {
          laws = record { plain = f.plain; formula = f.formula; part = f.part; unit = f.unit; term = t.term; sum = t.sum; product = t.product };
          substitution_law = m.substitution;
          simple_law = m.simple;
          domain_law = m.domain;
          bound_law = m.bound;
        };
        process_law = p.process;
        step_law = p.step;
      };
      operation = m.operation;
      channels = x.channels;
      channel = x.channel;
      parameters = p.parameters;
      parameter = p.parameter;
      definition = p.definition;
      controller = p.controller;
      system_law = x.system;
      text = x.text;
    }) c.before_proofs_is_written.ensures
