use Rattle.std.proofs.Common.{◌≡◌, [], ◌∷◌, ◌∙◌, arith}
use Rattle.std.proofs.lemmas.Int.{ints}
use Rattle.cb_lin.specs.Rows.{form_of, opt_form}
use Rattle.cb_lin.proofs.RowLemmas.{rows_keep}
use Rattle.cb_check_numbers.proofs.RowSums.{sum, row_first, row_last}
use Rattle.cb_check_numbers.proofs.linear.difference_row.Goals as goal

pub returns-in_ok-first : goal.returns-in_ok-first
returns-in_ok-first c =
    let f = form_of c.args.greater in
    let g = form_of c.args.smaller in
    let one = form_of c.in_ok-one.one in
    let times = c.times_one_first.result in
    let made : opt_form c.in_ok-first.first ≡ sum (one ∷ f ∷ g ∷ []) times = c.in_ok-first.ensures in
    made ∙ row_first f g (rows_keep (c.args.greater ∷ [])).0.0 c.args.greater.small c.args.smaller.small c.args.strict one times c.in_ok-one.ensures c.times_one_first.ensures (omega (arith, ints, c.if-greater-gt0.true))

pub returns-in_ok-last : goal.returns-in_ok-last
returns-in_ok-last c =
    let f = form_of c.args.greater in
    let g = form_of c.args.smaller in
    let one = form_of c.in_ok-one.one in
    let times = c.times_one_last.result in
    let made : opt_form c.in_ok-last.last ≡ sum (f ∷ g ∷ one ∷ []) times = c.in_ok-last.ensures in
    made ∙ row_last f g (rows_keep (c.args.greater ∷ [])).0.0 c.args.greater.small c.args.smaller.small c.args.strict one times c.in_ok-one.ensures c.times_one_last.ensures (omega (arith, ints, c.if-greater-gt0.false))
