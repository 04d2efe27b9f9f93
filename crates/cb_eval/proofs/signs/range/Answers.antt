use Rattle.std.proofs.Common.{◌+ℤ◌, ◌≤ℤ◌, pos, arith}
use Rattle.std.proofs.lemmas.Int.{ints}
use Rattle.std.proofs.lemmas.Grind.{common_steps}
use Rattle.cb_eval.proofs.SetLemmas.{range_is_long}
use Rattle.cb_eval.proofs.signs.range.Goals as goal

pub returns-else-gap-lt256 : goal.returns-else-gap-lt256
returns-else-gap-lt256 c =
    let far : (c.args.x +ℤ pos 256) ≤ℤ c.args.y = omega (arith, ints, c.in-Some.ensures) in
    let long = range_is_long c.args.x c.args.y far in
    grind (arith, common_steps, long)

pub returns-in-None : goal.returns-in-None
returns-in-None c =
    let far : (c.args.x +ℤ pos 256) ≤ℤ c.args.y = grind (arith, ints) in
    let long = range_is_long c.args.x c.args.y far in
    grind (arith, common_steps, long)
