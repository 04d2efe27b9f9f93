use Rattle.std.proofs.lemmas.Result.{err_from_is_err_and}
use Rattle.cb_verdicts.specs.Proofs.{keys_of}
use Rattle.cb_verdicts.proofs.Tables.{wrong_here, right_here, finds_here}
use Rattle.cb_verdicts.proofs.places.places.Goals as goal

pub loop-i-preserved : goal.loop-i-preserved
loop-i-preserved c = record {
  wrong = rw c.in_ok-enter_place.ensures.entered (right_here c.args.proofs.now c.loop-i.i c.index-proofs-i.result c.loop-i-test.true c.index-proofs-i.is
      c.loop-i.places (keys_of c.args.list.now) c.in_ok-known.known c.in_ok-known.ensures c.loop-i.invariant.wrong c.in_ok-enter_place.ensures.right);
  finds = rw c.in_ok-enter_place.ensures.entered (finds_here c.args.proofs.now c.loop-i.i c.index-proofs-i.result c.loop-i-test.true c.index-proofs-i.is
      c.loop-i.places c.in_ok-enter_place.ensures.right.1 c.loop-i.invariant.finds);
}

pub returns-in_err-enter_place-clause-fault : goal.returns-in_err-enter_place-clause-fault
returns-in_err-enter_place-clause-fault c =
    let made = err_from_is_err_and c.from_residual-in_err-enter_place.result c.from_residual-in_err-enter_place.ensures.1 in
    rw (made.1, made.2) (wrong_here c.args.proofs.now c.loop-i.i c.index-proofs-i.result c.loop-i-test.true c.index-proofs-i.is
    c.loop-i.places (keys_of c.args.list.now) c.in_ok-known.known c.in_ok-known.ensures c.loop-i.invariant.wrong _ c.in_err-enter_place.ensures.fault)
