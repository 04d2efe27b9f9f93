use Rattle.cb_safety_laws.proofs.Runs.{runs_are_cut}
use Rattle.cb_safety_laws.proofs.runs_are_cut.Goals as goal

pub returns : goal.returns
returns c = runs_are_cut
