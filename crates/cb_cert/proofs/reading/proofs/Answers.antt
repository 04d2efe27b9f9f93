use Rattle.std.proofs.Common.{refl, true}
use Rattle.cb_grammar.specs.declared.parts.Part.TheVariants as part
use Rattle.cb_grammar.specs.Signatures.{proofs_kind}
use Rattle.cb_amn_parse.specs.Proofs.{proofs_out}
use Rattle.cb_amn_parse.proofs.Answering.{spells}
use Rattle.cb_cert.proofs.reading.proofs.Goals as goal

pub returns-clause-spelled : goal.returns-clause-spelled
returns-clause-spelled c =
    spells part.Proofs 0 true c.args.tokens.now c.rest.result.now c.args.from c.in_ok-stack.taken _ c.in_ok-stack.stack.items c.pop_proofs.new.stack.items proofs_kind (proofs_out c.pop_proofs.result)
    c.rest.ensures c.in_ok-stack.ensures.spelled c.in_ok-stack.ensures.kinds c.pop_proofs.ensures.below c.pop_proofs.ensures.out refl
