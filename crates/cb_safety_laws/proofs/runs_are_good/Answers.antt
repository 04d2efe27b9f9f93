use Rattle.cb_safety_laws.proofs.Runs.{runs_are_good}
use Rattle.cb_safety_laws.proofs.runs_are_good.Goals as goal

pub returns : goal.returns
returns c = runs_are_good
