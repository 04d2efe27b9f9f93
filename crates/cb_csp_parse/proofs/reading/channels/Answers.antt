use Rattle.std.proofs.Common.{refl, false}
use Rattle.cb_grammar.specs.declared.parts.Part.TheVariants as part
use Rattle.cb_grammar.specs.Signatures.{channels_kind}
use Rattle.cb_amn_parse.specs.Processes.{channels_out}
use Rattle.cb_amn_parse.proofs.Answering.{spells}
use Rattle.cb_csp_parse.proofs.reading.channels.Goals as goal

pub returns-clause-spelled : goal.returns-clause-spelled
returns-clause-spelled c =
    spells part.Channels 0 false c.args.tokens.now c.rest.result.now c.args.from c.in_ok-stack.taken _ c.in_ok-stack.stack.items c.pop_channels.new.stack.items channels_kind (channels_out c.pop_channels.result)
    c.rest.ensures c.in_ok-stack.ensures.spelled c.in_ok-stack.ensures.kinds c.pop_channels.ensures.below c.pop_channels.ensures.out refl
