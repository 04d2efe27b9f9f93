use Rattle.std.proofs.Common.{List, length, subst, sym, ◌∙◌}
use Rattle.cb_offers.specs.declared.channels.Channel.{Channel}
use Rattle.cb_offers.specs.Kept.{NoneReady}
use Rattle.cb_offers.proofs.TableLemmas.{slice_is, slice_few, slice_within}
use Rattle.cb_offers.proofs.ReadyLemmas.{ready_found, ready_or_none}
use Rattle.cb_offers.proofs.table.Table.firing.Goals as goal

pub ready_in-requires-clause-within : goal.ready_in-requires-clause-within
ready_in-requires-clause-within c = slice_within c.args.self.now c.args.controller c.index.result.now c.as_slice-row.result.now c.requires.kept c.requires.range c.index.ensures c.as_slice-row.ensures.value c.deref.result.now c.deref.ensures.value

pub ready_in-requires-clause-few : goal.ready_in-requires-clause-few
ready_in-requires-clause-few c = slice_few c.args.self.now c.args.controller c.index.result.now c.as_slice-row.result.now c.requires.kept c.requires.range c.index.ensures c.as_slice-row.ensures.value

pub ready_in-requires-in-None-clause-within : goal.ready_in-requires-in-None-clause-within
ready_in-requires-in-None-clause-within c =
    slice_within c.args.self.now c.args.controller c.index.result.now c.as_slice-row.result.now c.requires.kept c.requires.range c.index.ensures c.as_slice-row.ensures.value c.deref-in-None.result.now c.deref-in-None.ensures.value

pub ready_in-requires-in-None-clause-few : goal.ready_in-requires-in-None-clause-few
ready_in-requires-in-None-clause-few c = slice_few c.args.self.now c.args.controller c.index.result.now c.as_slice-row.result.now c.requires.kept c.requires.range c.index.ensures c.as_slice-row.ensures.value

pub returns-in-Some : goal.returns-in-Some
returns-in-Some c =
    let is = slice_is c.args.self.now c.args.controller c.index.result.now c.as_slice-row.result.now c.requires.kept c.requires.range c.index.ensures c.as_slice-row.ensures.value in
    ready_found c.args.self.now c.requires.kept c.deref.result.now c.deref.ensures.value c.args.controller c.as_slice-row.result.now is c.in-Some.branch c.in-Some.ensures

pub returns-in-None : goal.returns-in-None
returns-in-None c =
    let is = slice_is c.args.self.now c.args.controller c.index.result.now c.as_slice-row.result.now c.requires.kept c.requires.range c.index.ensures c.as_slice-row.ensures.value in
    let late = subst (λ (l : List Channel). NoneReady l c.as_slice-row.result.now c.min-start.result (length c.as_slice-row.result.now)) (c.deref.ensures.value ∙ sym c.deref-in-None.ensures.value) c.in-None.ensures in
    ready_or_none c.args.self.now c.requires.kept c.deref-in-None.result.now c.deref-in-None.ensures.value c.args.controller c.as_slice-row.result.now is c.min-start.result c.ready_in-in-None.result late c.ready_in-in-None.ensures
