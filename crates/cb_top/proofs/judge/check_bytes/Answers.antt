use Rattle.std.proofs.Common.{ap, ◌∙◌}
use Rattle.std.proofs.lemmas.Result.{IfOk-weaker}
use Rattle.cb_words.specs.declared.request.Request.TheVariants as request
use Rattle.cb_top.specs.Outcome.{verdict_answer}
use Rattle.cb_top.proofs.Refused.{refused, judged}
use Rattle.cb_top.proofs.judge.check_bytes.Goals as goal

pub returns-in-Ok : goal.returns-in-Ok
returns-in-Ok c =
    IfOk-weaker c.verdict_outcome.result _ _
    (λ o e files. judged files c.args.bytes.now c.requires _ c.in-Ok.judged c.in-Ok.ensures.judged (e ∙ ap verdict_answer c.lines.ensures))
    c.verdict_outcome.ensures

pub returns-in-Err : goal.returns-in-Err
returns-in-Err c =
    IfOk-weaker c.refusal.result _ _ (λ o a files. refused (request.Check files) c.args.bytes.now c.requires _ c.in-Err.fault c.in-Err.ensures.fault a) c.refusal.ensures
