use Rattle.cb_verdicts.specs.Proofs.{keys_of}
use Rattle.cb_verdicts.proofs.Tables.{will_have_more}
use Rattle.cb_verdicts.proofs.places.known_names.Goals as goal

pub loop-obligation-preserved : goal.loop-obligation-preserved
loop-obligation-preserved c =
    rw (c.in_ok-enter.ensures, c.deref.ensures.value, c.in_ok-name.ensures) (will_have_more c.loop-obligation.known _ c.args.list.now c.loop-obligation.obligation-index
    c.obligation-item.result (keys_of c.args.list.now) c.loop-obligation-test.true c.loop-obligation.invariant c.obligation-item.is)
