use Rattle.std.proofs.Common.{◌≡◌, ◌<◌, length, Some, pos, sym, ap, ◌∙◌, refl, arith, rules, of_z}
use Rattle.std.specs.Int.{w128}
use Rattle.std.proofs.lemmas.Int.{ints, to_z-of_z}
use mir.Val.{SFits}
use Rattle.cb_lin.specs.Steps.{place}
use Rattle.cb_lin.proofs.StepLemmas.{add_end, add_none, add_zero, add_some}
use Rattle.cb_lin.proofs.sum.add.Goals as goal
use Rattle.cb_lin.proofs.sum.add.Goals.{After-merged}

-- where the part is there: its place, and that this is within the list
there : (c : After-merged) → (place (c.args.part.now.0) c.args.parts.now.items ≡ c.place_of-at.result) × (c.place_of-at.result < length c.args.parts.now.items)
there c =
    let e = rw c.deref.ensures.value at c.place_of-at.ensures.is in
    let w = rw c.deref.ensures.value at c.place_of-at.ensures.within in
    (sym e, omega (arith, c.args.parts.now.ok.0))

pub returns-then-at-len : goal.returns-then-at-len
returns-then-at-len c =
    let e = rw c.deref.ensures.value at c.place_of-at.ensures.is in
    let n : place (c.args.part.now.0) c.args.parts.now.items ≡ length c.args.parts.now.items = omega (arith, c.args.parts.now.ok.0) in
    rw (add_end c.args.part.now c.args.parts.now.items n, c.in_ok-push.ensures.items, c.in_ok-part.ensures) refl

pub returns-in_default : goal.returns-in_default
returns-in_default c =
    let t = there (goal.at.returns-in_default c).After-merged in
    let a = c.in_default.ensures in
    sym (add_none c.args.part.now c.args.parts.now.items _ t.0 t.1 c.index.result.now (rw c.index.ensures at (sym a)))

pub returns-then-n-eq0 : goal.returns-then-n-eq0
returns-then-n-eq0 c =
    let t = there (goal.at.returns-then-n-eq0 c).After-merged in
    let f : SFits w128 c.in-Some.n = search rules in
    let z : c.in-Some.n ≡ pos 0 = omega (arith, ints) in
    rw (c.remove.ensures.items) (sym (add_zero c.args.part.now c.args.parts.now.items _ t.0 t.1 c.index.result.now (let a = c.in-Some.ensures in rw (← c.index.ensures) (sym a ∙ ap Some z))))

pub returns-else-n-eq0 : goal.returns-else-n-eq0
returns-else-n-eq0 c =
    let t = there (goal.at.returns-else-n-eq0 c).After-merged in
    let f : SFits w128 c.in-Some.n = search rules in
    let z : c.in-Some.n ≡ pos 0 → ⊥ = λ e. c.if-n-eq0.false (ap (of_z w128) e) in
    let back = to_z-of_z w128 c.in-Some.n f in
    rw (c.set_coefficient.ensures c.index.result.now) (rw back (sym (add_some c.args.part.now c.args.parts.now.items _ t.0 t.1 c.index.result.now c.in-Some.n z (let a = c.in-Some.ensures in rw (← c.index.ensures) (sym a)))))
