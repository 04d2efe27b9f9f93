use Rattle.std.proofs.Common.{ℕ, List, ◌∙◌, subst}
use Rattle.std.proofs.lemmas.List.{length-map}
use Rattle.cb_top.specs.Outcome.{answer_of, IsOutcome}
use Rattle.cb_top.proofs.judge.answer.Goals as goal

pub unread_line-requires : goal.unread_line-requires
unread_line-requires g c =
    let within = (c.in-Err-Failed.ensures.failed c.in-Err-Failed.i (cc)).within in
    simp length-map at within

pub returns-in_ok-judge_bytes-in-Ok-clause-outcome : goal.returns-in_ok-judge_bytes-in-Ok-clause-outcome
returns-in_ok-judge_bytes-in-Ok-clause-outcome g c =
    let read = c.in-Ok.ensures.bytes in
    let P : List ℕ → Type 0 = λ bytes. IsOutcome c.args.request.now bytes (answer_of c.in_ok-judge_bytes-in-Ok.field-0) in
    record { contents = read.0; agree = read.1; outcome = subst P (c.deref.ensures.value ∙ read.2) c.in_ok-judge_bytes-in-Ok.ensures }

pub returns-in_ok-unread_line-in-Err-Failed-clause-unread : goal.returns-in_ok-unread_line-in-Err-Failed-clause-unread
returns-in_ok-unread_line-in-Err-Failed-clause-unread g c =
    (c.in-Err-Failed.i, c.in-Err-Failed.ensures.failed c.in-Err-Failed.i (cc), c.in_ok-unread_line-in-Err-Failed.ensures)
