use Rattle.std.proofs.Common.{◌∙◌, ap}
use Rattle.cb_forms.proofs.TableLemmas.{found_view}
use Rattle.cb_forms.specs.Find.{found}
use Rattle.cb_signatures.proofs.operations.Own.find.Goals as goal

pub returns : goal.returns
returns c = c.get.ensures.value ∙ found_view c.args.name.now c.self.inside.operations.entries ∙ ap (found c.args.name.now) c.self.view_is
