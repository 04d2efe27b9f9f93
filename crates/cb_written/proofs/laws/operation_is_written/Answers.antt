use Rattle.cb_grammar.specs.Numbers as part
use Rattle.cb_written.specs.Texts.{OperationLine}
use Rattle.cb_written.proofs.Pieces.{written}
use Rattle.cb_written.proofs.Operations.{operation_means}
use Rattle.cb_written.proofs.laws.operation_is_written.Goals as goal

pub returns : goal.returns
returns c = written part.operation OperationLine operation_means
