use Rattle.std.proofs.Common.{◌∙◌, ap, sym, take}
use Rattle.std.proofs.lemmas.List.{take-map}
use Rattle.cb_forms.specs.View.{entries_of}
use Rattle.cb_forms.proofs.table.Table.leave.Goals as goal

pub returns : goal.returns
returns g c = ap entries_of c.truncate.ensures.entries ∙ sym (take-map _ c.args.len c.self.inside.names.entries) ∙ ap (take c.args.len) c.self.view_is
