use Rattle.cb_accept.specs.Accepting.{IsWell}
use Rattle.cb_accept.proofs.Spelled.{read_typed}
use Rattle.cb_accept.proofs.read.system_of.Goals as goal

pub returns-in-Ok-clause-typed : goal.returns-in-Ok-clause-typed
returns-in-Ok-clause-typed c =
    read_typed c.tokens_are_bytes.ensures c.spelled_is_spelled_text.ensures c.ends_are_more.ensures c.text_is_typed.ensures
    c.args.bytes.now c.requires.fits c.args.read.now.text c.args.read.now.proofs c.requires.read c.in-Ok.system
    (record { well_formed = c.in-Ok.ensures.fine; system = c.in-Ok.ensures.system })
