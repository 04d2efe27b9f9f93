use Rattle.std.proofs.Common.{refl, false}
use Rattle.cb_grammar.specs.declared.parts.Part.TheVariants as part
use Rattle.cb_grammar.specs.Signatures.{controller_kind}
use Rattle.cb_amn_parse.specs.Processes.{controller_out}
use Rattle.cb_amn_parse.proofs.Answering.{spells}
use Rattle.cb_csp_parse.proofs.reading.controller.Goals as goal

pub returns-clause-spelled : goal.returns-clause-spelled
returns-clause-spelled c =
    spells part.Controller 0 false c.args.tokens.now c.rest.result.now c.args.from c.in_ok-stack.taken _ c.in_ok-stack.stack.items c.pop_controller.new.stack.items controller_kind (controller_out c.pop_controller.result)
    c.rest.ensures c.in_ok-stack.ensures.spelled c.in_ok-stack.ensures.kinds c.pop_controller.ensures.below c.pop_controller.ensures.out refl
