use Rattle.cb_engine.specs.Tables.{rules_of}
use Rattle.cb_engine.specs.Readings.{weight_in}
use Rattle.cb_engine.proofs.Turns.{reads_start, turn}
use Rattle.cb_engine.proofs.read.Goals as goal

pub loop-out-init : goal.loop-out-init
loop-out-init c =
    rw (c.new-out.ensures.items, c.in_ok-push.ensures.items, c.new-stack.ensures.items) (reads_start (rules_of c.args.grammar.now) c.args.tokens.now c.args.start c.requires.decides)

pub returns-in-Over : goal.returns-in-Over
returns-in-Over c =
    rw c.in-Over.is at (turn _ _ _ _ _ _ _ _ _ c.in_ok-step_once.field-0 c.loop-out.invariant c.token_at-next.ensures c.in_ok-step_once.ensures)

pub returns-in-Stuck : goal.returns-in-Stuck
returns-in-Stuck c =
    rw c.in-Stuck.is at (turn _ _ _ _ _ _ _ _ _ c.in_ok-step_once.field-0 c.loop-out.invariant c.token_at-next.ensures c.in_ok-step_once.ensures)

pub loop-out-smaller-in-Taken : goal.loop-out-smaller-in-Taken
loop-out-smaller-in-Taken c =
    let t = rw c.in-Taken.is at (turn _ _ _ _ _ _ _ _ _ c.in_ok-step_once.field-0 c.loop-out.invariant c.token_at-next.ensures c.in_ok-step_once.ensures) in
    t.2 (weight_in c.args.weights.now) c.requires.light

pub loop-out-preserved-in-Taken : goal.loop-out-preserved-in-Taken
loop-out-preserved-in-Taken c =
    let t = rw c.in-Taken.is at (turn _ _ _ _ _ _ _ _ _ c.in_ok-step_once.field-0 c.loop-out.invariant c.token_at-next.ensures c.in_ok-step_once.ensures) in
    t.0

pub loop-out-smaller : goal.loop-out-smaller
loop-out-smaller c =
    let t = rw c.in-Stayed.is at (turn _ _ _ _ _ _ _ _ _ c.in_ok-step_once.field-0 c.loop-out.invariant c.token_at-next.ensures c.in_ok-step_once.ensures) in
    t.1 (weight_in c.args.weights.now) c.requires.light

pub loop-out-preserved : goal.loop-out-preserved
loop-out-preserved c =
    let t = rw c.in-Stayed.is at (turn _ _ _ _ _ _ _ _ _ c.in_ok-step_once.field-0 c.loop-out.invariant c.token_at-next.ensures c.in_ok-step_once.ensures) in
    t.0
