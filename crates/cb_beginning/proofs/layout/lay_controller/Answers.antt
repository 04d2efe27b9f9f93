use Rattle.std.proofs.Common.{◌≡◌, ◌++◌, ◌∷◌, [], subst}
use Rattle.cb_code.specs.declared.place.Place.TheVariants.{At}
use Rattle.cb_beginning.proofs.LayoutLemmas.{adds}
use Rattle.cb_beginning.proofs.layout.lay_controller.Goals as goal

pub returns : goal.returns
returns c =
    let old = c.args.layout.now in
    let k = c.in_ok-process.process in
    adds c.args.controller.now old (record { code = c.lay_start.new.code; bodies = c.push.new.self; places = c.push-2.new.self }) c.lay_bodies.new.code c.in_ok-bodies.bodies k
    c.in_ok-bodies.ensures.bodies c.in_ok-bodies.ensures.more c.in_ok-process.ensures.place c.in_ok-process.ensures.more
    (subst (λ env. c.push-2.new.self.items ≡ old.places.items ++ At k env ∷ []) c.new.ensures c.in_ok-push-2.ensures.items) c.in_ok-push.ensures.items
