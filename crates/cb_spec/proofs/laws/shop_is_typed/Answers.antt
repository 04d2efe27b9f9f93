use Rattle.cb_spec.proofs.ExampleLemmas.{shop_typed}
use Rattle.cb_spec.proofs.laws.shop_is_typed.Goals as goal

pub returns : goal.returns
returns c = shop_typed
