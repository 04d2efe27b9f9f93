use Rattle.std.proofs.Common.{refl}
use Rattle.cb_grammar.specs.declared.parts.Part.TheVariants as part
use Rattle.cb_grammar.specs.Parts.{kinds_left}
use Rattle.cb_cert.proofs.reading.read_values.Goals as goal

pub evaluate_proofs-requires-clause-heard : goal.evaluate_proofs-requires-clause-heard
evaluate_proofs-requires-clause-heard c = rw c.deref.ensures.value c.in_ok-written.ensures.heard

pub evaluate_proofs-requires-clause-fits : goal.evaluate_proofs-requires-clause-fits
evaluate_proofs-requires-clause-fits c = (kinds_left part.Proofs, rw c.deref.ensures.value c.in_ok-written.ensures.fits, refl)
