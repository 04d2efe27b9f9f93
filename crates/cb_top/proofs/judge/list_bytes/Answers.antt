use Rattle.std.proofs.lemmas.Result.{IfOk-weaker}
use Rattle.cb_words.specs.declared.request.Request.TheVariants as request
use Rattle.cb_top.proofs.Refused.{refused, listed}
use Rattle.cb_top.proofs.judge.list_bytes.Goals as goal

pub returns-in-Ok : goal.returns-in-Ok
returns-in-Ok c =
    IfOk-weaker c.listing.result _ _
    (λ o e files. listed files c.args.bytes.now c.requires _ c.in-Ok.listed.system c.in-Ok.listed.obligations.items c.in-Ok.ensures.listed (rw c.deref.ensures.value at e))
    c.listing.ensures

pub returns-in-Err : goal.returns-in-Err
returns-in-Err c =
    IfOk-weaker c.refusal.result _ _ (λ o a files. refused (request.List files) c.args.bytes.now c.requires _ c.in-Err.fault c.in-Err.ensures.fault a) c.refusal.ensures
