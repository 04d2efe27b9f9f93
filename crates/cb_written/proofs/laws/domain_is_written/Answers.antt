use Rattle.cb_grammar.specs.Numbers as part
use Rattle.cb_written.specs.Substitutions.{DomainLine}
use Rattle.cb_written.proofs.Pieces.{written}
use Rattle.cb_written.proofs.Domains.{domain_means}
use Rattle.cb_written.proofs.laws.domain_is_written.Goals as goal

pub returns : goal.returns
returns c = written part.domain DomainLine domain_means
