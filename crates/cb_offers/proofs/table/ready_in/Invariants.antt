use Rattle.cb_offers.specs.Kept.{NoneReady}
use Rattle.cb_offers.proofs.table.ready_in.Given as goal

abbrev pub invariant-loop-branch : goal.invariant-loop-branch
invariant-loop-branch l = NoneReady l.channels l.row l.low l.branch
