use Rattle.std.proofs.lemmas.Result.{IfOk-weaker}
use Rattle.cb_words.specs.declared.request.Request.TheVariants as request
use Rattle.cb_top.proofs.Refused.{refused}
use Rattle.cb_top.proofs.run.run_bytes.Goals as goal

pub returns-in-Err : goal.returns-in-Err
returns-in-Err c =
    IfOk-weaker c.refusal.result _ _
    (λ o a files. refused (request.Sim files c.args.limit c.args.seed) c.args.bytes.now c.requires _ c.in-Err.fault c.in-Err.ensures.fault a) c.refusal.ensures
