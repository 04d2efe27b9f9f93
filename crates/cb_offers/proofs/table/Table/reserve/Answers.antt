use Rattle.std.proofs.Common.{refl, ◌<◌, length, arith}
use Rattle.cb_offers.specs.declared.table.Table.{Table}
use Rattle.cb_offers.proofs.TableLemmas.{row_reserved, reserved_room, there_after, side_at, reserve_steps, reserve_below, reserve_own, has_room}
use Rattle.cb_offers.proofs.table.Table.reserve.Goals as goal

pub returns-in_err-reserve-clause-same : goal.returns-in_err-reserve-clause-same
returns-in_err-reserve-clause-same c =
    row_reserved c.args.self.now _ c.args.controller c.index_mut.result.now c.reserve.new.self c.requires.kept c.requires.range c.index_mut.ensures.value refl c.reserve.ensures.items c.reserve.ensures.capacity refl refl refl

pub loop-side-init : goal.loop-side-init
loop-side-init c = record {
  steps = row_reserved c.args.self.now _ c.args.controller c.index_mut.result.now c.reserve.new.self c.requires.kept c.requires.range c.index_mut.ensures.value refl c.reserve.ensures.items c.reserve.ensures.capacity refl refl refl;
  below = λ k t l at. absurd (omega (arith, l));
  own = reserved_room c.args.self.now c.args.controller (length c.args.sides.now) c.reserve.new.self c.requires.range c.in_ok-reserve.ensures.ok;
}

pub reserve_at-requires : goal.reserve_at-requires
reserve_at-requires c =
    let l : c.loop-side.side-index < length c.args.sides.now = omega (arith, c.loop-side-test.true) in
    there_after c.args.self.now c.loop-side.self c.args.controller _ c.args.sides.now c.loop-side.side-index c.loop-side.invariant.steps c.requires.within l

pub returns-in_err-reserve_at-clause-same : goal.returns-in_err-reserve_at-clause-same
returns-in_err-reserve_at-clause-same c = reserve_steps c.args.self.now c.loop-side.self _ c.args.controller _ c.requires.range c.loop-side.invariant.steps c.reserve_at.ensures.same refl refl refl

pub loop-side-preserved : goal.loop-side-preserved
loop-side-preserved c =
    let l : c.loop-side.side-index < length c.args.sides.now = omega (arith, c.loop-side-test.true) in
    let now : Table = record { channels = c.reserve_at.new.channels; rows = c.loop-side.self.rows; met = c.loop-side.self.met; calls = c.loop-side.self.calls } in
    record {
      steps = reserve_steps c.args.self.now c.loop-side.self now c.args.controller _ c.requires.range c.loop-side.invariant.steps c.reserve_at.ensures.same refl refl refl;
      below = reserve_below c.args.self.now c.loop-side.self now c.args.controller _ c.requires.range c.loop-side.invariant.steps c.reserve_at.ensures.same refl refl refl c.args.sides.now c.loop-side.side-index c.loop-side.invariant.below (side_at c.args.sides.now c.loop-side.side-index l) c.in_ok-reserve_at.ensures.ok;
      own = reserve_own c.args.self.now c.loop-side.self now c.args.controller _ c.requires.range c.loop-side.invariant.steps c.reserve_at.ensures.same refl refl refl (length c.args.sides.now) c.loop-side.invariant.own;
    }

pub returns-clause-ok : goal.returns-clause-ok
returns-clause-ok c = has_room c.loop-side.self c.args.controller c.loop-side.side-index c.args.sides.now c.loop-side.invariant.below (omega (arith, c.loop-side-test.false)) c.loop-side.invariant.own
