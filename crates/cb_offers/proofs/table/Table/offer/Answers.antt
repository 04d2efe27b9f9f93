use Rattle.std.proofs.Common.{refl, ap, ◌∙◌, ◌≡◌, ◌+◌, arith, List}
use Rattle.cb_offers.specs.declared.channels.Channel.{Channel}
use Rattle.cb_offers.specs.Kept.{met_at}
use Rattle.cb_offers.proofs.TableLemmas.{put_room, before_in, met_fits, calls_fit, offered}
use Rattle.cb_offers.proofs.table.Table.offer.Goals as goal

pub put_at-requires-clause-room : goal.put_at-requires-clause-room
put_at-requires-clause-room c = put_room c.args.self.now c.args.controller c.args.side c.index_mut-row.result.now c.len-branch.result c.requires.kept c.requires.can c.index_mut-row.ensures.value (c.len-branch.ensures ∙ c.index_mut-row.result.now.ok.0)

pub overflow_sub-self : goal.overflow_sub-self
overflow_sub-self c =
    let was : c.met_at-before.result ≡ met_at c.args.self.now.channels.items c.args.side = c.met_at-before.ensures ∙ ap (λ (l : List Channel). met_at l c.args.side) c.deref.ensures.value in
    before_in c.args.self.now c.args.side c.met_at-before.result c.requires.kept was

pub overflow_add-self : goal.overflow_add-self
overflow_add-self c =
    let was : c.met_at-before.result ≡ met_at c.args.self.now.channels.items c.args.side = c.met_at-before.ensures ∙ ap (λ (l : List Channel). met_at l c.args.side) c.deref.ensures.value in
    let is : c.met_at-after.result ≡ met_at c.put_at.new.channels.items c.args.side = c.met_at-after.ensures ∙ ap (λ (l : List Channel). met_at l c.args.side) c.deref-2.ensures.value in
    omega (arith, met_fits c.args.self.now c.put_at.new.channels.items c.args.side _ c.met_at-before.result c.met_at-after.result c.requires.kept c.put_at.ensures was is)

pub overflow_add-self-2 : goal.overflow_add-self-2
overflow_add-self-2 c = omega (arith, calls_fit c.args.self.now c.args.controller c.args.side c.index_mut-row.result.now c.len-branch.result c.requires.kept c.requires.can c.index_mut-row.ensures.value (c.len-branch.ensures ∙ c.index_mut-row.result.now.ok.0), c.call_of.ensures)

pub returns : goal.returns
returns c =
    let was : c.met_at-before.result ≡ met_at c.args.self.now.channels.items c.args.side = c.met_at-before.ensures ∙ ap (λ (l : List Channel). met_at l c.args.side) c.deref.ensures.value in
    let is : c.met_at-after.result ≡ met_at c.put_at.new.channels.items c.args.side = c.met_at-after.ensures ∙ ap (λ (l : List Channel). met_at l c.args.side) c.deref-2.ensures.value in
    offered c.args.self.now c.args.controller c.args.side c.index_mut-row.result.now c.len-branch.result c.requires.kept c.requires.can c.index_mut-row.ensures.value (c.len-branch.ensures ∙ c.index_mut-row.result.now.ok.0)
    _ c.push_reserved.new.self c.met_at-before.result c.met_at-after.result refl c.push_reserved.ensures.items (omega (arith, c.push_reserved.ensures.capacity)) c.put_at.ensures was is refl (ap (λ n. c.args.self.now.calls + n) c.call_of.ensures)
