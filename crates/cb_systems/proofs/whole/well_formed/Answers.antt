use Rattle.std.proofs.Common.{◌∙◌, sym}
use Rattle.cb_systems.proofs.Firsts.{none_is_fine, some_is_first}
use Rattle.cb_systems.proofs.whole.well_formed.Goals as goal

pub returns-in-Some-clause-fault : goal.returns-in-Some-clause-fault
returns-in-Some-clause-fault c = some_is_first c.args.text.now c.in-Some.fault (sym c.in_ok-first.ensures.fault ∙ c.in-Some.is)

pub returns-clause-fine : goal.returns-clause-fine
returns-clause-fine c = none_is_fine c.args.text.now (sym c.in_ok-first.ensures.fault ∙ c.in-None.is)
