use Rattle.cb_spec.proofs.DomainLemmas.{domain_typing}
use Rattle.cb_spec.proofs.laws.domain_is_its_typing.Goals as goal

pub returns : goal.returns
returns c = domain_typing
