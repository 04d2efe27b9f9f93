use Rattle.std.proofs.Common.{◌≡◌, IfOk, OnOk, IfErr, ap, subst, ◌∙◌}
use Rattle.cb_obligations.specs.Steps.{Reach}
use Rattle.cb_conditions.specs.Conditions.{declared_as, assumption}
use Rattle.cb_conditions.specs.Ways.{Way, supposing, opening_each}
use Rattle.cb_symbolic.specs.Walks.{way_of, Passes, Stops}
use Rattle.cb_ways.proofs.walk.receive.Goals as goal

pub returns-clause-way : goal.returns-clause-way
returns-clause-way c =
    let w : Way = way_of c.args.reached c.args.walk.now in
    let way : way_of c.in_ok-opened.opened c.open_each.new.walk ≡ opening_each w (declared_as c.args.inputs.now c.args.channel.now.values) =
    c.in_ok-opened.ensures.way ∙ ap (λ ds. opening_each w (declared_as c.args.inputs.now ds)) c.as_slice.ensures in
    let known : c.in_ok-known.known ≡ assumption c.args.channel.now c.args.inputs.now c.args.assume.now = c.in_ok-known.ensures in
    subst (λ (v : Way). IfOk c.suppose.result (λ r. way_of r c.suppose.new.walk ≡ v)) (λ i. supposing (way i) (known i)) c.suppose.ensures.way

pub returns-clause-passes : goal.returns-clause-passes
returns-clause-passes c =
    let w : Way = way_of c.args.reached c.args.walk.now in
    let way : way_of c.in_ok-opened.opened c.open_each.new.walk ≡ opening_each w (declared_as c.args.inputs.now c.args.channel.now.values) =
    c.in_ok-opened.ensures.way ∙ ap (λ ds. opening_each w (declared_as c.args.inputs.now ds)) c.as_slice.ensures in
    let known : c.in_ok-known.known ≡ assumption c.args.channel.now c.args.inputs.now c.args.assume.now = c.in_ok-known.ensures in
    subst (λ (v : Way). OnOk c.suppose.result (Passes (Reach v.hypotheses))) (λ i. supposing (way i) (known i)) c.suppose.ensures.passes

pub returns-clause-stops : goal.returns-clause-stops
returns-clause-stops c =
    let w : Way = way_of c.args.reached c.args.walk.now in
    let way : way_of c.in_ok-opened.opened c.open_each.new.walk ≡ opening_each w (declared_as c.args.inputs.now c.args.channel.now.values) =
    c.in_ok-opened.ensures.way ∙ ap (λ ds. opening_each w (declared_as c.args.inputs.now ds)) c.as_slice.ensures in
    let known : c.in_ok-known.known ≡ assumption c.args.channel.now c.args.inputs.now c.args.assume.now = c.in_ok-known.ensures in
    subst (λ (v : Way). IfErr c.suppose.result (λ e. Stops e (Reach v.hypotheses))) (λ i. supposing (way i) (known i)) c.suppose.ensures.stops
