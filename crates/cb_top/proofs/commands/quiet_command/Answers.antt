use Rattle.std.proofs.Common.{◌≡◌, ◌≢◌, ℕ, sym, ◌∙◌, arith}
use Rattle.cb_top.proofs.commands.quiet_command.Goals as goal

other : (status n : ℕ) → status ≡ 0 → 0 ≢ n → status ≢ n
other status n z apart e = apart (sym z ∙ e)

pub returns-clause-accepted : goal.returns-clause-accepted
returns-clause-accepted g c = λ takes z.
    let o = c.respond.ensures.answers.outcome (other _ 4 z (λ h. omega (arith, h))) (other _ 5 z (λ h. omega (arith, h))) (other _ 6 z (λ h. omega (arith, h))) in
    record { contents = o.1.contents; agree = o.1.agree; accepted = c.done_is_accepted.ensures _ _ o.0 takes o.1.outcome (sym o.2 ∙ z) }
