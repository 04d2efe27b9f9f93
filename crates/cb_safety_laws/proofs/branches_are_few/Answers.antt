use Rattle.cb_safety_laws.proofs.Steps.{branches_are_few}
use Rattle.cb_safety_laws.proofs.branches_are_few.Goals as goal

pub returns : goal.returns
returns c = branches_are_few
