use Rattle.std.proofs.Common.{◌≡◌, ◌∙◌, ap, sym, arith}
use Rattle.std.proofs.lemmas.Grind.{common_steps}
use Rattle.cb_forms.specs.Find.{found}
use Rattle.cb_forms.specs.Kinds.{maybe_form}
use Rattle.cb_signatures.specs.Kept.{formed}
use Rattle.cb_signatures.proofs.Forms.{found_formed}
use Rattle.cb_signatures.proofs.results.result_forms.Goals as goal

pub loop-name-preserved : goal.loop-name-preserved
loop-name-preserved c =
    let x = c.name-item.result.text in
    let given : maybe_form c.find.result ≡ found x (formed c.args.given.now) =
    ap maybe_form c.find.ensures ∙ ap (λ y. maybe_form (found y c.args.given.now)) c.as_slice.ensures ∙ sym (found_formed x c.args.given.now) in
    grind (arith, common_steps)
