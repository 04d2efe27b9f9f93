use Rattle.std.proofs.Common.{◌≡◌, length, ap, ◌∙◌, arith}
use Rattle.std.proofs.lemmas.Grind.{common_steps}
use Rattle.cb_spec.specs.declared.system.System.{System}
use Rattle.cb_system.proofs.StartLemmas.{started}
use Rattle.cb_system.proofs.running.Running.start.Goals as goal

pub invariant_of-result : goal.invariant_of-result
invariant_of-result g c =
    let b = c.in_ok-beginning.beginning in
    let many : c.len-controllers.result ≡ length b.places.items = grind (arith, common_steps) in
    started c.args.sound c.spec.ensures.typed c.spec.ensures.sound c.args.limit b c.in_ok-beginning.ensures c.len-controllers.result _ _ (length c.as_slice.result.now) c.reserve.new.self.items c.in_ok-offers.offers many
    (c.in_ok-reserve.ensures.items ∙ c.new-journal.ensures.items) (let r = c.in_ok-reserve.ensures in omega (arith, r.len, r.capacity, r.ok)) (ap length (c.as_slice.ensures ∙ ap (λ (y : System). y.channels) c.spec.ensures.system))
    c.in_ok-offers.ensures
