use Rattle.cb_typing.proofs.Fitting as fitting
use Rattle.cb_typing.proofs.laws.substs_fit.Goals as goal

pub returns : goal.returns
returns c = fitting.substs_fit
