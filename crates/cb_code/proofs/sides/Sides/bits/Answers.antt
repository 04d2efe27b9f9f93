use Rattle.std.proofs.Common.{sym, ap, ◌∙◌}
use Rattle.cb_spec.specs.Settling.{number_of}
use Rattle.cb_code.proofs.SidesLemmas.{number_is}
use Rattle.cb_code.proofs.sides.Sides.bits.Goals as goal

pub returns : goal.returns
returns c = sym (number_is c.self.inside.count c.self.inside.bits c.self.invariant.1) ∙ ap number_of c.self.view_is
