use Rattle.cb_eval.proofs.WalkLemmas.{walk_in, numbered, number_once}
use Rattle.cb_eval.proofs.laws.domain_is_walked.Goals as goal

pub returns : goal.returns
returns c = λ sizes d. (walk_in sizes d, (λ v i. let n = numbered sizes d v i in (n.number, (n.below, n.is))), number_once sizes d)
