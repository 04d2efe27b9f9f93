use Rattle.std.proofs.Common.{◌≡◌, ◌∙◌, sym, refl, ap, length}
use Rattle.std.proofs.lemmas.Result.{IfOk-weaker}
use Rattle.cb_text_laws.specs.NormalTexts.{position}
use Rattle.cb_systems.proofs.Orders.{found_at, lost}
use Rattle.cb_systems.proofs.order.Order.number_of.Goals as goal

pub returns-in-Some : goal.returns-in-Some
returns-in-Some c =
    let e = found_at c.args.place c.self.inside.places.keys c.in-Some.index (sym c.get_index_of.ensures.index ∙ c.in-Some.is) in
    IfOk-weaker c.counted.result _ _ (λ n is. is ∙ (e ∙ ap (position c.args.place) c.self.view_is)) c.counted.ensures

pub returns-in-None : goal.returns-in-None
returns-in-None c =
    let e = lost c.args.place c.self.inside.places.keys (sym c.get_index_of.ensures.index ∙ c.in-None.is) in
    IfOk-weaker c.counted-in-None.result _ _ (λ n is. is ∙ (c.len.ensures.len ∙ (e ∙ ap (position c.args.place) c.self.view_is))) c.counted-in-None.ensures
