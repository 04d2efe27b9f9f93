use Rattle.std.proofs.Common.{refl, ap, sym, subst, ◌∙◌, ◌≡◌, ◌-◌, length, arith, List}
use Rattle.cb_offers.specs.declared.channels.Channel.{Channel}
use Rattle.cb_offers.specs.Kept.{met_at, IsThere}
use Rattle.cb_offers.proofs.TableLemmas.{last_there, branch_fits, call_in, before_in, met_fits, withdrawn}
use Rattle.cb_offers.proofs.table.Table.withdraw.Goals as goal

pub overflow_cast-branch : goal.overflow_cast-branch
overflow_cast-branch c =
    omega (arith, branch_fits c.args.self.now c.args.controller c.in-Some.side c.index_mut-row.result.now c.pop.new.self.items c.requires.kept c.requires.range c.index_mut-row.ensures.value c.in-Some.ensures.items, c.len-branch.ensures, c.pop.new.self.ok.0)

pub met_at-before-requires : goal.met_at-before-requires
met_at-before-requires c =
    let there = last_there c.args.self.now c.args.controller c.in-Some.side c.index_mut-row.result.now c.pop.new.self.items c.requires.kept c.requires.range c.index_mut-row.ensures.value c.in-Some.ensures.items in
    subst (λ (l : List Channel). IsThere (length l) c.in-Some.side) (sym c.deref.ensures.value) there

pub take_at-requires : goal.take_at-requires
take_at-requires c = last_there c.args.self.now c.args.controller c.in-Some.side c.index_mut-row.result.now c.pop.new.self.items c.requires.kept c.requires.range c.index_mut-row.ensures.value c.in-Some.ensures.items

pub met_at-after-requires : goal.met_at-after-requires
met_at-after-requires c =
    let there = last_there c.args.self.now c.args.controller c.in-Some.side c.index_mut-row.result.now c.pop.new.self.items c.requires.kept c.requires.range c.index_mut-row.ensures.value c.in-Some.ensures.items in
    subst (λ n. IsThere n c.in-Some.side) (sym (ap (λ (l : List Channel). length l) c.deref-2.ensures.value ∙ c.take_at.ensures.as_many)) there

pub overflow_sub-self : goal.overflow_sub-self
overflow_sub-self c =
    let was : c.met_at-before.result ≡ met_at c.args.self.now.channels.items c.in-Some.side = c.met_at-before.ensures ∙ ap (λ (l : List Channel). met_at l c.in-Some.side) c.deref.ensures.value in
    before_in c.args.self.now c.in-Some.side c.met_at-before.result c.requires.kept was

pub overflow_add-self : goal.overflow_add-self
overflow_add-self c =
    let was : c.met_at-before.result ≡ met_at c.args.self.now.channels.items c.in-Some.side = c.met_at-before.ensures ∙ ap (λ (l : List Channel). met_at l c.in-Some.side) c.deref.ensures.value in
    let is : c.met_at-after.result ≡ met_at c.take_at.new.channels.items c.in-Some.side = c.met_at-after.ensures ∙ ap (λ (l : List Channel). met_at l c.in-Some.side) c.deref-2.ensures.value in
    omega (arith, met_fits c.args.self.now c.take_at.new.channels.items c.in-Some.side _ c.met_at-before.result c.met_at-after.result c.requires.kept c.take_at.ensures was is)

pub overflow_sub-self-2 : goal.overflow_sub-self-2
overflow_sub-self-2 c =
    omega (arith, call_in c.args.self.now c.args.controller c.in-Some.side c.index_mut-row.result.now c.pop.new.self.items c.requires.kept c.requires.range c.index_mut-row.ensures.value c.in-Some.ensures.items, c.call_of.ensures)

pub returns : goal.returns
returns c =
    let was : c.met_at-before.result ≡ met_at c.args.self.now.channels.items c.in-Some.side = c.met_at-before.ensures ∙ ap (λ (l : List Channel). met_at l c.in-Some.side) c.deref.ensures.value in
    let is : c.met_at-after.result ≡ met_at c.take_at.new.channels.items c.in-Some.side = c.met_at-after.ensures ∙ ap (λ (l : List Channel). met_at l c.in-Some.side) c.deref-2.ensures.value in
    withdrawn c.args.self.now c.args.controller c.in-Some.side c.index_mut-row.result.now c.pop.new.self.items c.requires.kept c.requires.range c.index_mut-row.ensures.value c.in-Some.ensures.items c.len-branch.result (c.len-branch.ensures ∙ c.pop.new.self.ok.0)
    _ c.pop.new.self c.met_at-before.result c.met_at-after.result refl refl (omega (arith, c.pop.ensures.capacity)) c.take_at.ensures was is refl (ap (λ n. c.args.self.now.calls - n) c.call_of.ensures)
