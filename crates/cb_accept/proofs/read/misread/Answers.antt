use Rattle.std.proofs.Common.{subst}
use Rattle.cb_accept.specs.Accepting.{IsMisread}
use Rattle.cb_accept.proofs.read.misread.Goals as goal

pub returns-in-Syntax : goal.returns-in-Syntax
returns-in-Syntax c = subst (IsMisread c.args._bytes.now) c.in-Syntax.is c.requires

pub returns-in-Mixed : goal.returns-in-Mixed
returns-in-Mixed c = subst (IsMisread c.args._bytes.now) c.in-Mixed.is c.requires

pub returns-in-Deep : goal.returns-in-Deep
returns-in-Deep c = subst (IsMisread c.args._bytes.now) c.in-Deep.is c.requires
