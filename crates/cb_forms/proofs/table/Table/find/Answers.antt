use Rattle.std.proofs.Common.{◌∙◌, ap}
use Rattle.cb_forms.proofs.TableLemmas.{found_view}
use Rattle.cb_forms.specs.Find.{found}
use Rattle.cb_forms.proofs.table.Table.find.Goals as goal

pub returns : goal.returns
returns g c = c.copied.ensures ∙ c.get.ensures.value ∙ found_view c.args.name.now c.self.inside.names.entries ∙ ap (found c.args.name.now) c.self.view_is
