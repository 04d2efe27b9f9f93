use Rattle.std.proofs.Common.{◌<◌, length, [], arith}
use Rattle.cb_offers.proofs.TableLemmas.{steps_on, room_after, side_at, can_offer, set_more}
use Rattle.cb_offers.proofs.table.Table.set.Goals as goal

pub loop-side-init : goal.loop-side-init
loop-side-init c = record {
  steps = steps_on c.args.self.now c.reserve.new.self c.clear.new.self c.args.controller _ [] c.reserve.ensures.same c.clear.ensures;
  room = room_after c.reserve.new.self c.clear.new.self c.args.controller [] c.args.sides.now c.clear.ensures c.in_ok-reserve.ensures.ok;
}

pub offer-requires-clause-can : goal.offer-requires-clause-can
offer-requires-clause-can c =
    let l : c.loop-side.side-index < length c.args.sides.now = omega (arith, c.loop-side-test.true) in
    can_offer c.args.self.now c.loop-side.self c.args.controller c.args.sides.now c.loop-side.side-index _ c.requires.range c.loop-side.invariant.steps (side_at c.args.sides.now c.loop-side.side-index l) c.loop-side.invariant.room c.requires.within c.requires.few

pub loop-side-preserved : goal.loop-side-preserved
loop-side-preserved c =
    let l : c.loop-side.side-index < length c.args.sides.now = omega (arith, c.loop-side-test.true) in
    record {
      steps = set_more c.args.self.now c.loop-side.self c.args.controller c.args.sides.now c.loop-side.side-index _ c.requires.range c.loop-side.invariant.steps (side_at c.args.sides.now c.loop-side.side-index l) c.offer.new.self c.offer.ensures;
      room = room_after c.loop-side.self c.offer.new.self c.args.controller _ c.args.sides.now c.offer.ensures c.loop-side.invariant.room;
    }
