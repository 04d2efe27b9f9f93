use Rattle.cb_safety_laws.proofs.Runs.{runs_grow}
use Rattle.cb_safety_laws.proofs.runs_grow.Goals as goal

pub returns : goal.returns
returns c = runs_grow
