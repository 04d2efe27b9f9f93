use Rattle.cb_eval.proofs.TypedLemmas.{typed_value}
use Rattle.cb_eval.proofs.laws.typed_values_are_of_form.Goals as goal

pub returns : goal.returns
returns c = typed_value
