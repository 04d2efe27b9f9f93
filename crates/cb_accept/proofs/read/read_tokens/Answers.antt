use Rattle.cb_accept.specs.Accepting.{in_text}
use Rattle.cb_accept.proofs.read.read_tokens.Goals as goal

pub misread-requires : goal.misread-requires
misread-requires c = in_text c.args.tokens.now c.requires c.in-Err.ensures.fault
