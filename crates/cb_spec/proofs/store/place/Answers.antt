use Rattle.std.proofs.Common.{rules}
use Rattle.std.proofs.lemmas.Fn.{always_returns_same}
use Rattle.cb_spec.specs.Stores.{name_order}
use Rattle.cb_spec.proofs.StoreLemmas.{search_here, search_gap}
use Rattle.cb_spec.proofs.store.place.Goals as goal

pub returns-clause-here : goal.returns-clause-here
returns-clause-here c =
    search_here _ _ _ (c.binary_search_by.ensures.position (λ e. name_order e.0 c.args.name.now) (always_returns_same _ _ _ (λ a r f' called. search rules)))

pub returns-clause-gap : goal.returns-clause-gap
returns-clause-gap c =
    search_gap _ _ _ c.requires (c.binary_search_by.ensures.position (λ e. name_order e.0 c.args.name.now) (always_returns_same _ _ _ (λ a r f' called. search rules)))
