use Rattle.std.proofs.Common.{◌≡◌, ◌∙◌, ap, sym, arith}
use Rattle.std.proofs.lemmas.Grind.{common_steps}
use Rattle.cb_forms.specs.Find.{found}
use Rattle.cb_forms.specs.Kinds.{maybe_form}
use Rattle.cb_signatures.specs.Kept.{formed}
use Rattle.cb_signatures.proofs.Forms.{found_formed, put_formed}
use Rattle.cb_signatures.proofs.results.assign.Goals as goal

pub returns-in_ok-put-in-Some : goal.returns-in_ok-put-in-Some
returns-in_ok-put-in-Some c =
    let x = c.args.name.now in
    let es = c.args.given.now in
    let before : maybe_form c.find-before.result ≡ found x (formed es) = ap maybe_form c.find-before.ensures ∙ sym (found_formed x es) in
    let after = put_formed x c.either_after.result es in
    grind (arith, common_steps)
