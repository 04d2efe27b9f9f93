use Rattle.std.proofs.Common.{refl, false}
use Rattle.cb_grammar.specs.declared.parts.Part.TheVariants as part
use Rattle.cb_grammar.specs.Signatures.{machine_kind}
use Rattle.cb_amn_parse.specs.Machines.{machine_out}
use Rattle.cb_amn_parse.proofs.Answering.{spells}
use Rattle.cb_amn_parse.proofs.reading.machine.Goals as goal

pub returns-clause-spelled : goal.returns-clause-spelled
returns-clause-spelled c =
    spells part.Machine 0 false c.args.tokens.now c.rest.result.now c.args.from c.in_ok-stack.taken _ c.in_ok-stack.stack.items c.pop_machine.new.stack.items machine_kind (machine_out c.pop_machine.result)
    c.rest.ensures c.in_ok-stack.ensures.spelled c.in_ok-stack.ensures.kinds c.pop_machine.ensures.below c.pop_machine.ensures.out refl
