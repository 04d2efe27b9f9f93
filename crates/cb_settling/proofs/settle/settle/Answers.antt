use Rattle.std.proofs.Common.{◌≤◌, length, subst, arith}
use Rattle.std.proofs.lemmas.Grind.{common_steps}
use Rattle.cb_spec.specs.Stores.{look_of}
use Rattle.cb_code.specs.Nodes.{part}
use Rattle.cb_settling.specs.Resolving.{LedFrom, here_of}
use Rattle.cb_settling.proofs.ResolveLemmas.{going_start, going_on, settled_over, settled_shown, too_far}
use Rattle.cb_settling.proofs.settle.settle.Goals.{else-loop-test, then-loop-test+in_ok-choose_here+in-Calls+in_ok-entered-in-Calls+else-counter-end}
use Rattle.cb_settling.proofs.settle.settle.Goals as goal

pub loop-init : goal.loop-init
loop-init g c = going_start c.args.system.now c.args.controller.now c.args.code.now c.args.place c.args.env.now c.new-sides.result c.new-sides.ensures c.requires.place c.requires.can

pub returns-in-Ends : goal.returns-in-Ends
returns-in-Ends g c =
    let led = subst (LedFrom c.args.system.now c.args.controller.now c.args.code.now (part c.args.code.now c.loop.at) (look_of (here_of c.args.env.now c.loop.own)) c.loop.sides c.choose_here.new.sides) c.in-Ends.is c.in_ok-choose_here.ensures in
    settled_over c.args.system.now c.args.controller.now c.args.code.now c.args.place c.args.env.now c.loop.counter c.loop.at c.loop.own c.loop.sides c.choose_here.new.sides c.bits.result c.loop.invariant led c.bits.ensures

pub returns-in-Offers : goal.returns-in-Offers
returns-in-Offers g c =
    let led = subst (LedFrom c.args.system.now c.args.controller.now c.args.code.now (part c.args.code.now c.loop.at) (look_of (here_of c.args.env.now c.loop.own)) c.loop.sides c.choose_here.new.sides) c.in-Offers.is c.in_ok-choose_here.ensures in
    settled_shown c.args.system.now c.args.controller.now c.args.code.now c.args.place c.args.env.now c.loop.counter c.loop.at c.loop.own c.loop.sides c.choose_here.new.sides c.in-Offers.prefixes c.bits-in-Offers.result c.loop.invariant led c.bits-in-Offers.ensures

pub loop-preserved : goal.loop-preserved
loop-preserved g c =
    let led = subst (LedFrom c.args.system.now c.args.controller.now c.args.code.now (part c.args.code.now c.loop.at) (look_of (here_of c.args.env.now c.loop.own)) c.loop.sides c.choose_here.new.sides) c.in-Calls.is c.in_ok-choose_here.ensures in
    going_on c.args.system.now c.args.controller.now c.args.code.now c.args.place c.args.env.now c.loop.counter c.loop.at c.in_ok-entered-in-Calls.entered.0 c.in-Calls.definition c.loop.own c.in_ok-entered-in-Calls.entered.1 c.in-Calls.args
    c.loop.sides c.choose_here.new.sides c.loop.invariant led c.in_ok-entered-in-Calls.ensures

pub unreachable-requires : goal.unreachable-requires
unreachable-requires g c = elim c.loop-test.branch [
  | else-loop-test w ↦ omega (arith, w.loop-test.false, c.loop.auto.counter-end)
  | then-loop-test+in_ok-choose_here+in-Calls+in_ok-entered-in-Calls+else-counter-end w ↦
      let led = subst (LedFrom c.args.system.now c.args.controller.now c.args.code.now (part c.args.code.now c.loop.at) (look_of (here_of c.args.env.now c.loop.own)) c.loop.sides w.choose_here.new.sides) w.in-Calls.is w.in_ok-choose_here.ensures in
      let all : length c.args.controller.now.definitions ≤ c.loop.counter = grind (arith, common_steps) in
      too_far c.args.system.now c.args.controller.now c.args.code.now c.args.place c.args.env.now c.loop.counter c.loop.at w.in-Calls.definition c.loop.own w.in-Calls.args c.loop.sides w.choose_here.new.sides c.loop.invariant led all
]
