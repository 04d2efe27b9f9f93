use Rattle.cb_accept.specs.Accepting.{in_proofs}
use Rattle.cb_accept.proofs.read.read_proofs.Goals as goal

pub misread-requires : goal.misread-requires
misread-requires c = in_proofs c.args.tokens.now c.requires.cut c.args.at c.args.text c.requires.spelled c.in-Err.ensures.fault
