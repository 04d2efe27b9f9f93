use Rattle.cb_typed.proofs.Fitting as fitting
use Rattle.cb_typed.proofs.laws.typed_machines_fit.Goals as goal

pub returns : goal.returns
returns c = fitting.typed_machines_fit
