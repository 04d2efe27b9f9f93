use Rattle.cb_grammar.specs.Numbers as part
use Rattle.cb_written.specs.Processes.{StepLine}
use Rattle.cb_written.proofs.Pieces.{written}
use Rattle.cb_written.proofs.Steps.{step_means}
use Rattle.cb_written.proofs.laws.step_is_written.Goals as goal

pub returns : goal.returns
returns c = written part.step StepLine step_means
