use Rattle.std.proofs.Common.{◌≡◌, ◌∙◌, subst}
use Rattle.std.proofs.lemmas.Int.{to_z-of_z}
use Rattle.cb_term.specs.Sets.{has}
use Rattle.cb_eval.proofs.SetLemmas.{search_tells}
use Rattle.cb_eval.proofs.sets.contains.Goals as goal

pub returns : goal.returns
returns c =
    subst (λ z. c.is_ok.result ≡ has c.args.items.now z) (to_z-of_z _ c.args.x c.ranges.x)
    (c.is_ok.ensures.value ∙ search_tells _ c.args.items.now _ c.requires c.binary_search.ensures.bound c.binary_search.ensures.position)
