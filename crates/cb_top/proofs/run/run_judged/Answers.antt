use Rattle.std.proofs.Common.{ap, ◌∙◌, subst}
use Rattle.std.proofs.lemmas.Result.{IfOk-weaker}
use Rattle.cb_run_text.specs.RunTexts.{IsRunText}
use Rattle.cb_judged.specs.Kept.{JudgedView}
use Rattle.cb_top.specs.Outcome.{verdict_answer}
use Rattle.cb_top.proofs.Refused.{has_run, not_run}
use Rattle.cb_top.proofs.run.run_judged.Goals as goal

pub returns-in-Ok : goal.returns-in-Ok
returns-in-Ok c =
    IfOk-weaker c.run_outcome.result _ _
    (λ o t files.
    has_run files c.args.limit c.args.seed c.args._bytes.now c.requires.fits _ c.args.judged c.requires.judged
    c.in-Ok.ensures.proved t.0 (subst (λ y. IsRunText y c.args.limit t.0) c.in-Ok.ensures.system t.1) t.2)
    c.run_outcome.ensures

pub returns-in-Err : goal.returns-in-Err
returns-in-Err c =
    IfOk-weaker c.verdict_outcome.result _ _
    (λ o e files.
    not_run files c.args.limit c.args.seed c.args._bytes.now c.requires.fits _ c.args.judged c.requires.judged
    c.in-Err.ensures.unproved (e ∙ ap verdict_answer (c.lines.ensures ∙ ap (λ (j : JudgedView). j.lines) c.in-Err.ensures.back)))
    c.verdict_outcome.ensures
