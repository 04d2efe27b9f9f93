use Rattle.std.proofs.Common.{◌≡◌, ◌∙◌, false, cond, is_some, ap, sym, [], ◌∷◌, ◌++◌}
use Rattle.cb_forms.specs.Find.{found}
use Rattle.cb_forms.specs.View.{entries_of}
use Rattle.cb_forms.proofs.TableLemmas.{insert_view}
use Rattle.cb_forms.proofs.table.Table.enter.Goals as goal

pub returns : goal.returns
returns g c =
    let x = c.args.name.now in
    let old = c.args.self.now in
    let absent : is_some (found x old) ≡ false = ap is_some (sym c.find.ensures) ∙ sym c.is_some.ensures ∙ c.if-is_some.false in
    let absent_too : is_some (found x (entries_of c.self.inside.names.entries)) ≡ false = ap (λ es. is_some (found x es)) c.self.view_is ∙ absent in
    ap entries_of c.in_ok-insert.ensures.entries ∙ insert_view x c.in_ok-key.key c.args.meaning c.self.inside.names.entries c.in_ok-key.ensures.items absent_too
    ∙ ap (λ es. es ++ (x, c.args.meaning) ∷ []) c.self.view_is ∙ sym (ap (λ b. cond b old (old ++ (x, c.args.meaning) ∷ [])) absent)
