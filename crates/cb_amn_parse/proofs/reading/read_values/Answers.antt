use Rattle.cb_amn_parse.proofs.reading.read_values.Goals as goal

pub evaluate-requires-clause-heard : goal.evaluate-requires-clause-heard
evaluate-requires-clause-heard c = rw c.deref.ensures.value c.in_ok-written.ensures.heard
