use Rattle.std.proofs.Common.{◌∙◌, sym, ◌≤◌, length}
use Rattle.std.proofs.lemmas.List.{length-take-le}
use Rattle.cb_grammar.proofs.Answering.{end_within, found_deep, found_none, is_read, is_stuck, is_misread}
use Rattle.cb_grammar.proofs.reading.read_part.Goals as goal

pub slice_bounds-deep-end : goal.slice_bounds-deep-end
slice_bounds-deep-end c =
    let m = c.deref.ensures.value ∙ c.in_ok-terminals.ensures in
    let e : c.end_of.result ≤ length c.args.tokens.now = rw c.end_of.ensures (end_within c.args.part c.args.depth c.args.opened c.args.tokens.now c.in_ok-reading.reading (rw m at c.in_ok-reading.ensures.reading)) in
    sym (length-take-le c.end_of.result c.args.tokens.now e)

pub returns-in-Some-clause-fault : goal.returns-in-Some-clause-fault
returns-in-Some-clause-fault c =
    (c.in-Some.at, found_deep c.args.part c.args.depth c.args.opened c.args.tokens.now c.deref.result.now c.in_ok-reading.reading c.end_of.result c.in-Some.at c.in_ok-at.field-0 (c.deref.ensures.value ∙ c.in_ok-terminals.ensures) c.in_ok-reading.ensures.reading c.end_of.ensures c.in_ok-at.ensures c.in-Some.is, c.place_of.ensures)

pub returns-in-Whole-clause-reads : goal.returns-in-Whole-clause-reads
returns-in-Whole-clause-reads c =
    let m = c.deref.ensures.value ∙ c.in_ok-terminals.ensures in
    is_read c.args.part c.args.depth c.args.opened c.args.tokens.now c.deref.result.now c.in_ok-reading.reading c.in-Whole.taken c.in-Whole.items m c.in_ok-reading.ensures.reading c.in-Whole.is
    (found_none c.args.part c.args.depth c.args.opened c.args.tokens.now c.deref.result.now c.in_ok-reading.reading c.end_of.result c.in_ok-at.field-0 m c.in_ok-reading.ensures.reading c.end_of.ensures c.in_ok-at.ensures c.in_default.is)

pub returns-clause-fault : goal.returns-clause-fault
returns-clause-fault c =
    let m = c.deref.ensures.value ∙ c.in_ok-terminals.ensures in
    is_misread c.args.part c.args.depth c.args.opened c.args.tokens.now c.in-Fault.at c.refusal.result c.refusal.ensures
    (is_stuck c.args.part c.args.depth c.args.opened c.args.tokens.now c.deref.result.now c.in_ok-reading.reading c.in-Fault.at m c.in_ok-reading.ensures.reading c.in-Fault.is
    (found_none c.args.part c.args.depth c.args.opened c.args.tokens.now c.deref.result.now c.in_ok-reading.reading c.end_of.result c.in_ok-at.field-0 m c.in_ok-reading.ensures.reading c.end_of.ensures c.in_ok-at.ensures c.in_default.is))
