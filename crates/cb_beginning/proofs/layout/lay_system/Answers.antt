use Rattle.std.proofs.Common.{get_or}
use Rattle.cb_beginning.proofs.LayoutLemmas.{number_at, its_number, laid_more}
use Rattle.cb_beginning.proofs.layout.lay_system.Goals as goal

pub controller_at-requires : goal.controller_at-requires
controller_at-requires c =
    let ks = c.as_slice-at-items.result.now in
    let n = c.loop-at.at-index in
    c.requires n (get_or ks n 0) (number_at c.args.system.now ks n c.as_slice-at-items.ensures c.loop-at-test.true)

pub loop-at-preserved : goal.loop-at-preserved
loop-at-preserved c =
    let y = c.args.system.now in
    let n = c.loop-at.at-index in
    let o = c.controller_at.result.now in
    laid_more y n o c.loop-at.layout c.lay_controller.new.layout (its_number y c.as_slice-at-items.result.now n o c.as_slice-at-items.ensures c.loop-at-test.true c.controller_at.ensures)
    c.in_ok-lay_controller.ensures c.loop-at.invariant
