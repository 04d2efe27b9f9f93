use Rattle.std.proofs.Common.{◌∙◌, sym, subst}
use Rattle.std.proofs.lemmas.List.{take_all}
use Rattle.cb_spec.specs.Stores.{IsAscending}
use Rattle.cb_spec.proofs.store.Store.copy.Goals as goal

pub invariant_of-result : goal.invariant_of-result
invariant_of-result c =
    let whole = c.loop-entry.invariant ∙ take_all _ _ c.loop-entry-test.false ∙ c.deref-entry-items.ensures.value in
    subst IsAscending (sym whole) c.self.invariant
