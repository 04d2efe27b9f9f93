use Rattle.std.proofs.Common.{false}
use Rattle.cb_amn_parse.proofs.Hearing.{items_heard, taken_within}
use Rattle.cb_csp_parse.proofs.reading.read_values.Goals as goal

pub evaluate-requires-clause-heard : goal.evaluate-requires-clause-heard
evaluate-requires-clause-heard c =
    rw c.deref.ensures.value (items_heard c.args.part 0 false c.args.tokens.now c.in_ok-written.written.taken c.in_ok-written.written.items.items c.in_ok-written.ensures.reads)

pub returns-clause-within : goal.returns-clause-within
returns-clause-within c =
    taken_within c.args.part 0 false c.args.tokens.now c.in_ok-written.written.taken c.in_ok-written.written.items.items c.in_ok-written.ensures.reads
