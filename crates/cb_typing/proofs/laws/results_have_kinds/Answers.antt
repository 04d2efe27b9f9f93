use Rattle.cb_typing.proofs.Results as results
use Rattle.cb_typing.proofs.laws.results_have_kinds.Goals as goal

pub returns : goal.returns
returns c = results.results_have_kinds
