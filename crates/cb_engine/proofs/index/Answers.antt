use Rattle.std.proofs.Common.{rules, ◌≡◌, ◌+◌, ◌-◌, suc, arith}
use Rattle.cb_engine.proofs.Indexing.{index_none, index_line_or, index_skips_or}
use Rattle.cb_engine.proofs.index.Goals as goal

pub loop-left-init : goal.loop-left-init
loop-left-init c = (omega arith, index_none c.args.grammar.now c.in_ok-places.places.items c.in_ok-places.ensures)

pub loop-left-preserved-in-Line : goal.loop-left-preserved-in-Line
loop-left-preserved-in-Line c =
    let n : suc (c.loop-left.left - 1) ≡ c.loop-left.left = omega (arith, c.loop-left-test.true) in
    let m : c.loop-left.left - 1 + 1 ≡ suc (c.loop-left.left - 1) = omega arith in
    (omega (arith, c.loop-left.invariant.0), rw m (index_line_or c.args.grammar.now (c.loop-left.left - 1) c.in-Line.part c.in-Line.key c.in-Line.field-2 c.loop-left.places.items _ c.requires.small (omega (arith, c.loop-left.invariant.0, c.loop-left-test.true)) (search rules) (search rules) c.in-Line.is (rw n c.loop-left.invariant.1)))

pub loop-left-preserved : goal.loop-left-preserved
loop-left-preserved c =
    let n : suc (c.loop-left.left - 1) ≡ c.loop-left.left = omega (arith, c.loop-left-test.true) in
    (omega (arith, c.loop-left.invariant.0), index_skips_or c.args.grammar.now (c.loop-left.left - 1) c.loop-left.places.items _ (omega (arith, c.loop-left.invariant.0, c.loop-left-test.true)) c.in_default.not-Line (rw n c.loop-left.invariant.1))

pub returns : goal.returns
returns c = let z : c.loop-left.left ≡ 0 = omega (arith, c.loop-left-test.false) in rw z at c.loop-left.invariant.1
