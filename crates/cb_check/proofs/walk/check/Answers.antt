use Rattle.cb_term.specs.Table.{sizes_of}
use Rattle.cb_seq.specs.Validity.{claim_of}
use Rattle.cb_check.proofs.CheckSound.{derives_of_none}
use Rattle.cb_check.proofs.walk.check.Goals as goal

pub returns-in-Ok-Fine-clause-derived : goal.returns-in-Ok-Fine-clause-derived
returns-in-Ok-Fine-clause-derived c =
    derives_of_none (sizes_of c.args.sets.now) c.args.cert.now (claim_of c.args.sequent.now) ((rw c.in-Ok-Fine.field-0-is at c.in-Ok-Fine.ensures).0)
