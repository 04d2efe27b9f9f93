use Rattle.std.proofs.Common.{ap, Some, None}
use Rattle.cb_controls.specs.SameDefinitions.{number_of}
use Rattle.cb_controls.proofs.Kept.{looks_up}
use Rattle.cb_controls.proofs.definition.Definitions.number.Goals as goal

pub returns-in-None : goal.returns-in-None
returns-in-None c = ap number_of (looks_up c.self.inside.forms c.self.inside.heads c.args.self.now c.args.name.now None c.self.view_is c.in-None.ensures)

pub returns-in-Some : goal.returns-in-Some
returns-in-Some c = ap number_of (looks_up c.self.inside.forms c.self.inside.heads c.args.self.now c.args.name.now (Some c.in-Some.head) c.self.view_is c.in-Some.ensures)
