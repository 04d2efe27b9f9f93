use Rattle.std.proofs.Common.{◌<◌, length, arith}
use Rattle.cb_spec.specs.Stores.{look_of}
use Rattle.cb_spec.specs.States.{state_of}
use Rattle.cb_code.specs.declared.place.Place.TheVariants.{At}
use Rattle.cb_code.specs.Nodes.{part}
use Rattle.cb_settling.proofs.GoodLemmas.{can_resolve}
use Rattle.cb_beginning.specs.Placed.{state_in}
use Rattle.cb_system.proofs.PlaceLemmas.{control_at, place_at, numbered_at, bodies_at, bodies_within}
use Rattle.cb_system.proofs.settled.settled_at.Goals as goal

pub bounds-bodies-at : goal.bounds-bodies-at
bounds-bodies-at g c =
    let num = numbered_at c.args.system.now c.args.number _ c.as_slice-2.result.now c.as_slice.result.now c.index-as_slice-as_slice.result c.requires.good.1.good.typed c.requires.range c.as_slice-2.ensures c.as_slice.ensures c.index-as_slice-as_slice.is in
    bodies_within c.args.system.now c.args.code.now c.args.places.now c.args.bodies.now c.args.number c.index-as_slice-as_slice.result num c.requires.laid

pub settle-requires-clause-bodies : goal.settle-requires-clause-bodies
settle-requires-clause-bodies g c =
    let num = numbered_at c.args.system.now c.args.number _ c.as_slice-2.result.now c.as_slice.result.now c.index-as_slice-as_slice.result c.requires.good.1.good.typed c.requires.range c.as_slice-2.ensures c.as_slice.ensures c.index-as_slice-as_slice.is in
    bodies_at c.args.system.now c.args.code.now c.args.places.now c.args.bodies.now c.args.number c.index-as_slice-as_slice.result num c.requires.laid c.index-bodies-at.result c.as_slice-in-At.result.now c.index-bodies-at.is c.as_slice-in-At.ensures

pub settle-requires-clause-can : goal.settle-requires-clause-can
settle-requires-clause-can g c =
    let num = numbered_at c.args.system.now c.args.number _ c.as_slice-2.result.now c.as_slice.result.now c.index-as_slice-as_slice.result c.requires.good.1.good.typed c.requires.range c.as_slice-2.ensures c.as_slice.ensures c.index-as_slice-as_slice.is in
    let low : c.args.number < length c.args.places.now = (let m = c.requires.laid.many in omega (arith, m, c.requires.range)) in
    let at = place_at c.args.places.now c.args.number c.index-places-at.result (At c.in-At.process c.in-At.env) low c.index-places-at.is c.in-At.is in
    let h = c.requires.good.1 in
    can_resolve c.args.system.now h.limit h.beginning h.journal (state_of (state_in c.args.code.now c.requires.good.0 c.args.places.now)) h.good c.args.number c.index-as_slice-as_slice.result num (part c.args.code.now c.in-At.process) (look_of c.in-At.env)
    (control_at c.args.code.now c.requires.good.0 c.args.places.now c.args.number (At c.in-At.process c.in-At.env) at)

pub returns-in_ok-settled-in-At-clause-some : goal.returns-in_ok-settled-in-At-clause-some
returns-in_ok-settled-in-At-clause-some g c =
    let num = numbered_at c.args.system.now c.args.number _ c.as_slice-2.result.now c.as_slice.result.now c.index-as_slice-as_slice.result c.requires.good.1.good.typed c.requires.range c.as_slice-2.ensures c.as_slice.ensures c.index-as_slice-as_slice.is in
    let low : c.args.number < length c.args.places.now = (let m = c.requires.laid.many in omega (arith, m, c.requires.range)) in
    let at = place_at c.args.places.now c.args.number c.index-places-at.result (At c.in-At.process c.in-At.env) low c.index-places-at.is c.in-At.is in
    (c.index-as_slice-as_slice.result, (num, (c.in-At.process, (c.in-At.env, (at, c.in_ok-settled-in-At.ensures)))))
