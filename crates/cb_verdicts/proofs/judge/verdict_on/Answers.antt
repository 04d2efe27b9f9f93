use Rattle.std.proofs.Common.{◌≡◌, None, refl}
use Rattle.cb_term.specs.Table.{sizes_of}
use Rattle.cb_seq.specs.Validity.{claim_of}
use Rattle.cb_check.specs.Derives.{first_bad}
use Rattle.cb_verdicts.proofs.judge.verdict_on.Goals as goal

pub returns-in-Ok : goal.returns-in-Ok
returns-in-Ok c =
    let none : first_bad (sizes_of c.args.sets.now) c.in_ok-cert.cert (claim_of c.args.obligation.now.sequent) ≡ None =
    (c.derives_without_bad.ensures (sizes_of c.args.sets.now) c.in_ok-cert.cert (claim_of c.args.obligation.now.sequent)).0 c.in-Ok.ensures.derived in
    rw (c.in-Some.is, ← c.in_ok-cert.ensures, none) refl
