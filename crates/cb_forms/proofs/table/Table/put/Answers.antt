use Rattle.std.proofs.Common.{◌∙◌, ap}
use Rattle.cb_forms.specs.Find.{put}
use Rattle.cb_forms.specs.View.{entries_of}
use Rattle.cb_forms.proofs.TableLemmas.{put_view}
use Rattle.cb_forms.proofs.table.Table.put.Goals as goal

pub returns : goal.returns
returns g c =
    ap entries_of c.in_ok-insert.ensures.entries ∙ put_view c.args.name.now c.in_ok-key.key c.args.meaning c.self.inside.names.entries c.in_ok-key.ensures.items
    ∙ ap (put c.args.name.now c.args.meaning) c.self.view_is
