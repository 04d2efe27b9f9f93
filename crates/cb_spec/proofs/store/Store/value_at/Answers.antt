use Rattle.std.proofs.Common.{◌≡◌, IfOk, Some, None, subst}
use Rattle.cb_spec.proofs.StoreLemmas.{found_is_look}
use Rattle.cb_spec.proofs.store.Store.value_at.Goals as goal

pub returns-in-Some : goal.returns-in-Some
returns-in-Some c =
    subst (λ w. IfOk c.copy.result (λ v. v ≡ w)) (found_is_look c.args.self.now c.args.name.now (Some c.in-Some.value.now) c.in-Some.ensures) c.copy.ensures

pub returns-in-None : goal.returns-in-None
returns-in-None c = found_is_look c.args.self.now c.args.name.now None c.in-None.ensures
