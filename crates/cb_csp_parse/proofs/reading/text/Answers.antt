use Rattle.std.proofs.Common.{◌≡◌, ◌<◌, ◌-◌, ◌+◌, refl, false, arith}
use Rattle.cb_grammar.specs.declared.parts.Part.TheVariants as part
use Rattle.cb_grammar.specs.Signatures.{text_kind}
use Rattle.cb_amn_parse.specs.Processes.{text_out}
use Rattle.cb_amn_parse.proofs.Answering.{spells}
use Rattle.cb_csp_parse.proofs.NotEmpty.{text_has_token}
use Rattle.cb_csp_parse.proofs.reading.text.Goals as goal

pub returns-clause-spelled : goal.returns-clause-spelled
returns-clause-spelled c =
    let s = c.in_ok-stack.ensures.spelled in
    let some : 0 < c.in_ok-stack.taken = text_has_token c.args.tokens.now c.in_ok-stack.taken s.items s.read in
    let end : (c.in_ok-stack.taken - 1) + 1 ≡ 0 + c.in_ok-stack.taken = omega (arith, some) in
    spells part.Text 0 false c.args.tokens.now c.args.tokens.now 0 c.in_ok-stack.taken _ c.in_ok-stack.stack.items c.pop_text.new.stack.items text_kind (text_out c.settled-text.result)
    refl s c.in_ok-stack.ensures.kinds c.pop_text.ensures.below (rw c.settled-text.ensures.same c.pop_text.ensures.out) end

pub overflow_sub-result : goal.overflow_sub-result
overflow_sub-result c =
    let s = c.in_ok-stack.ensures.spelled in
    let some : 0 < c.in_ok-stack.taken = text_has_token c.args.tokens.now c.in_ok-stack.taken s.items s.read in
    omega (arith, some)

pub returns-clause-within : goal.returns-clause-within
returns-clause-within c =
    let s = c.in_ok-stack.ensures.spelled in
    let some : 0 < c.in_ok-stack.taken = text_has_token c.args.tokens.now c.in_ok-stack.taken s.items s.read in
    let in_all = c.in_ok-stack.ensures.within in
    omega (arith, some, in_all)
