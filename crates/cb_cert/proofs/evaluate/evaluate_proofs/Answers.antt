use Rattle.std.proofs.Common.{◌∙◌, suc, drop}
use Rattle.cb_amn_parse.specs.Values.{kinds_of}
use Rattle.cb_amn_parse.proofs.Answering.{heard_at, item_first}
use Rattle.cb_cert.proofs.evaluate.evaluate_proofs.Goals as goal

pub take_item-requires-clause-heard : goal.take_item-requires-clause-heard
take_item-requires-clause-heard c = heard_at c.args.tokens.now c.args.items.now c.loop-item.item-index _ c.loop-item-test.true c.requires.heard

pub take_item-requires-clause-own : goal.take_item-requires-clause-own
take_item-requires-clause-own c =
    let e = c.loop-item.invariant.fits ∙ c.requires.fits.1 in
    (drop (suc c.loop-item.item-index) c.args.items.now, c.requires.fits.0, item_first c.args.items.now c.loop-item.item-index _ (kinds_of c.loop-item.stack.items) c.requires.fits.0 c.loop-item-test.true e, c.requires.fits.2)
