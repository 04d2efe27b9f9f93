use Rattle.std.proofs.Common.{◌≡◌, ◌∙◌, false, cond, is_some, ap, sym, [], ◌∷◌, ◌++◌, Option, Some, None, Bor, option_copied, refl}
use Rattle.cb_forms.specs.Find.{found}
use Rattle.cb_forms.specs.View.{entries_of}
use Rattle.cb_forms.proofs.TableLemmas.{insert_view}
use Rattle.cb_signatures.proofs.operations.Own.enter.Goals as goal

copied_some : {A : Type 0} (o : Option (Bor A)) → is_some (option_copied o) ≡ is_some o
copied_some None = refl
copied_some (Some a) = refl

pub returns : goal.returns
returns c =
    let x = c.args.name.now in
    let old = c.args.self.now in
    let absent : is_some (found x old) ≡ false = ap is_some (sym c.find.ensures) ∙ copied_some c.find.result ∙ sym c.is_some.ensures ∙ c.if-is_some.false in
    let absent_too : is_some (found x (entries_of c.self.inside.operations.entries)) ≡ false = ap (λ es. is_some (found x es)) c.self.view_is ∙ absent in
    ap entries_of c.in_ok-insert.ensures.entries ∙ insert_view x c.in_ok-key.key c.args.signature c.self.inside.operations.entries c.in_ok-key.ensures.items absent_too
    ∙ ap (λ es. es ++ (x, c.args.signature) ∷ []) c.self.view_is ∙ sym (ap (λ b. cond b old (old ++ (x, c.args.signature) ∷ [])) absent)
