use Rattle.std.proofs.Common.{◌≡◌, ◌<◌, ◌++◌, ◌∷◌, [], true, false, length, refl, sym, subst, arith}
use Rattle.std.proofs.lemmas.Grind.{common_steps}
use Rattle.cb_term.specs.Table.{sizes_of}
use Rattle.cb_term.specs.Holds.{Holds}
use Rattle.cb_spec.specs.ProcessTree.{Skip, Call, Internal, If}
use Rattle.cb_spec.specs.Stores.{look_of}
use Rattle.cb_code.specs.declared.code.Node.TheVariants as node
use Rattle.cb_code.specs.Nodes.{part}
use Rattle.cb_settling.specs.Resolving.{CanResolve, FewLeft, Adds, LedFrom, LedBy}
use Rattle.cb_settling.specs.declared.settle.Led.TheVariants.{Ends, Calls}
use Rattle.cb_settling.proofs.ResolveLemmas.{if_ok, node_part, holds_then, fails_then, call_args, room_left, can_left, can_right, can_then, can_else, few_left, few_right, few_then, few_else, can_test, test_typed, goes_on, longer, led_then, led_else, led_left, led_right, led_here, led_offers, below_part}
use Rattle.cb_settling.proofs.settle.+choose.Goals as goal

pub values_of-requires : goal.values_of-requires
values_of-requires g t c =
    let y = c.args.system.now in
    let o = c.args.controller.now in
    let ps = c.args.code.now in
    let env = look_of c.args.env.now in
    let is : part ps c.args.place ≡ Call c.in-Call.definition c.in-Call.args = node_part ps c.args.place c.node.result.now (node.Call c.in-Call.definition c.in-Call.args) c.node.ensures.tree c.in-Call.is in
    let can = subst (λ r. CanResolve y o r env) is c.requires.can in
    call_args y o env c.in-Call.definition c.in-Call.args can

pub push-requires : goal.push-requires
push-requires g t c =
    let y = c.args.system.now in
    let o = c.args.controller.now in
    let ps = c.args.code.now in
    let env = look_of c.args.env.now in
    let m = length c.args.sides.now in
    let p = part ps c.in-Internal.left in
    let q = part ps c.in-Internal.right in
    let is : part ps c.args.place ≡ Internal p q = node_part ps c.args.place c.node.result.now (node.Internal c.in-Internal.left c.in-Internal.right) c.node.ensures.tree c.in-Internal.is in
    let can = subst (λ r. CanResolve y o r env) is c.requires.can in
    let few = subst (λ r. FewLeft o.definitions r m) is c.requires.few in
    room_left y o env p q m few can

pub choose-requires : goal.choose-requires
choose-requires g t c κs within =
    let y = c.args.system.now in
    let o = c.args.controller.now in
    let ps = c.args.code.now in
    let env = look_of c.args.env.now in
    let m = length c.args.sides.now in
    let p = part ps c.in-Internal.left in
    let q = part ps c.in-Internal.right in
    let is : part ps c.args.place ≡ Internal p q = node_part ps c.args.place c.node.result.now (node.Internal c.in-Internal.left c.in-Internal.right) c.node.ensures.tree c.in-Internal.is in
    let can = subst (λ r. CanResolve y o r env) is c.requires.can in
    let few = subst (λ r. FewLeft o.definitions r m) is c.requires.few in
    let below = below_part c.node.result.now c.args.place (node.Internal c.in-Internal.left c.in-Internal.right) c.node.ensures.below c.in-Internal.is in
    (subst (λ n. c.in-Internal.right < n) c.decreases below.1, (within, (omega (arith, below, c.requires.place), (can_right y o env p q can, few_right o.definitions m p q (length c.push.new.self) (longer c.args.sides.now c.push.new.self _ c.push.ensures) few))))

pub choose-requires-else-right_one : goal.choose-requires-else-right_one
choose-requires-else-right_one g t c κs within =
    let y = c.args.system.now in
    let o = c.args.controller.now in
    let ps = c.args.code.now in
    let env = look_of c.args.env.now in
    let m = length c.args.sides.now in
    let p = part ps c.in-Internal.left in
    let q = part ps c.in-Internal.right in
    let is : part ps c.args.place ≡ Internal p q = node_part ps c.args.place c.node.result.now (node.Internal c.in-Internal.left c.in-Internal.right) c.node.ensures.tree c.in-Internal.is in
    let can = subst (λ r. CanResolve y o r env) is c.requires.can in
    let few = subst (λ r. FewLeft o.definitions r m) is c.requires.few in
    let below = below_part c.node.result.now c.args.place (node.Internal c.in-Internal.left c.in-Internal.right) c.node.ensures.below c.in-Internal.is in
    (subst (λ n. c.in-Internal.left < n) c.decreases below.0, (within, (omega (arith, below, c.requires.place), (can_left y o env p q can, few_left o.definitions m p q (length c.push.new.self) (longer c.args.sides.now c.push.new.self _ c.push.ensures) few))))

pub choose-requires-then-branch : goal.choose-requires-then-branch
choose-requires-then-branch g t c κs within =
    let y = c.args.system.now in
    let o = c.args.controller.now in
    let ps = c.args.code.now in
    let env = look_of c.args.env.now in
    let m = length c.args.sides.now in
    let p = part ps c.in-If.then in
    let q = part ps c.in-If.other in
    let is : part ps c.args.place ≡ If c.in-If.test p q = node_part ps c.args.place c.node.result.now (node.If c.in-If.test c.in-If.then c.in-If.other) c.node.ensures.tree c.in-If.is in
    let can = subst (λ r. CanResolve y o r env) is c.requires.can in
    let few = subst (λ r. FewLeft o.definitions r m) is c.requires.few in
    let below = below_part c.node.result.now c.args.place (node.If c.in-If.test c.in-If.then c.in-If.other) c.node.ensures.below c.in-If.is in
    let told = holds_then c.in_ok-truth_of-in-If.field-0 (Holds (sizes_of y.sets) env c.in-If.test []) c.in_ok-truth_of-in-If.ensures c.if-branch.true in
    (subst (λ n. c.in-If.then < n) c.decreases below.0, (within, (omega (arith, below, c.requires.place), (can_then y o env c.in-If.test p q told can, few_then o.definitions m c.in-If.test p q few))))

pub choose-requires-else-branch : goal.choose-requires-else-branch
choose-requires-else-branch g t c κs within =
    let y = c.args.system.now in
    let o = c.args.controller.now in
    let ps = c.args.code.now in
    let env = look_of c.args.env.now in
    let m = length c.args.sides.now in
    let p = part ps c.in-If.then in
    let q = part ps c.in-If.other in
    let is : part ps c.args.place ≡ If c.in-If.test p q = node_part ps c.args.place c.node.result.now (node.If c.in-If.test c.in-If.then c.in-If.other) c.node.ensures.tree c.in-If.is in
    let can = subst (λ r. CanResolve y o r env) is c.requires.can in
    let few = subst (λ r. FewLeft o.definitions r m) is c.requires.few in
    let below = below_part c.node.result.now c.args.place (node.If c.in-If.test c.in-If.then c.in-If.other) c.node.ensures.below c.in-If.is in
    let told = fails_then c.in_ok-truth_of-in-If.field-0 (Holds (sizes_of y.sets) env c.in-If.test []) c.in_ok-truth_of-in-If.ensures c.if-branch.false in
    (subst (λ n. c.in-If.other < n) c.decreases below.1, (within, (omega (arith, below, c.requires.place), (can_else y o env c.in-If.test p q told can, few_else o.definitions m c.in-If.test p q few))))

pub returns-in-Skip : goal.returns-in-Skip
returns-in-Skip g t c =
    let y = c.args.system.now in
    let o = c.args.controller.now in
    let ps = c.args.code.now in
    let env = look_of c.args.env.now in
    let m = length c.args.sides.now in
    let is : part ps c.args.place ≡ Skip = node_part ps c.args.place c.node.result.now (node.Skip) c.node.ensures.tree c.in-Skip.is in
    led_here y o ps env (part ps c.args.place) c.args.sides.now Ends (subst (λ r. LedBy y o ps r env [] m Ends) (sym is) (λ n. (refl, refl)))

pub returns-in_ok-values_of-in-Call : goal.returns-in_ok-values_of-in-Call
returns-in_ok-values_of-in-Call g t c =
    let y = c.args.system.now in
    let o = c.args.controller.now in
    let ps = c.args.code.now in
    let env = look_of c.args.env.now in
    let m = length c.args.sides.now in
    let is : part ps c.args.place ≡ Call c.in-Call.definition c.in-Call.args = node_part ps c.args.place c.node.result.now (node.Call c.in-Call.definition c.in-Call.args) c.node.ensures.tree c.in-Call.is in
    let can = subst (λ r. CanResolve y o r env) is c.requires.can in
    let few = subst (λ r. FewLeft o.definitions r m) is c.requires.few in
    led_here y o ps env (part ps c.args.place) c.args.sides.now (Calls c.in-Call.definition c.in_ok-values_of-in-Call.field-0)
    (subst (λ r. LedBy y o ps r env [] m (Calls c.in-Call.definition c.in_ok-values_of-in-Call.field-0)) (sym is)
    (goes_on y o env m c.in-Call.definition c.in-Call.args c.in_ok-values_of-in-Call.field-0 few can c.in_ok-values_of-in-Call.ensures))

pub returns-then-right_one : goal.returns-then-right_one
returns-then-right_one g t c =
    let y = c.args.system.now in
    let o = c.args.controller.now in
    let ps = c.args.code.now in
    let env = look_of c.args.env.now in
    let p = part ps c.in-Internal.left in
    let q = part ps c.in-Internal.right in
    let is : part ps c.args.place ≡ Internal p q = node_part ps c.args.place c.node.result.now (node.Internal c.in-Internal.left c.in-Internal.right) c.node.ensures.tree c.in-Internal.is in
    if_ok c.choose.result (LedFrom y o ps q env c.push.new.self c.choose.new.sides) (LedFrom y o ps (part ps c.args.place) env c.args.sides.now c.choose.new.sides) c.choose.ensures (λ led l. subst (λ r. LedFrom y o ps r env c.args.sides.now c.choose.new.sides led) (sym is)
    (led_right y o ps env p q c.args.sides.now c.push.new.self c.choose.new.sides led (let told : c.push.new.self ≡ c.args.sides.now ++ true ∷ [] = grind (arith, common_steps) in told) l))

pub returns-else-right_one : goal.returns-else-right_one
returns-else-right_one g t c =
    let y = c.args.system.now in
    let o = c.args.controller.now in
    let ps = c.args.code.now in
    let env = look_of c.args.env.now in
    let p = part ps c.in-Internal.left in
    let q = part ps c.in-Internal.right in
    let is : part ps c.args.place ≡ Internal p q = node_part ps c.args.place c.node.result.now (node.Internal c.in-Internal.left c.in-Internal.right) c.node.ensures.tree c.in-Internal.is in
    if_ok c.choose-else-right_one.result (LedFrom y o ps p env c.push.new.self c.choose-else-right_one.new.sides) (LedFrom y o ps (part ps c.args.place) env c.args.sides.now c.choose-else-right_one.new.sides) c.choose-else-right_one.ensures (λ led l. subst (λ r. LedFrom y o ps r env c.args.sides.now c.choose-else-right_one.new.sides led) (sym is)
    (led_left y o ps env p q c.args.sides.now c.push.new.self c.choose-else-right_one.new.sides led (let told : c.push.new.self ≡ c.args.sides.now ++ false ∷ [] = grind (arith, common_steps) in told) l))

pub returns-then-branch : goal.returns-then-branch
returns-then-branch g t c =
    let y = c.args.system.now in
    let o = c.args.controller.now in
    let ps = c.args.code.now in
    let env = look_of c.args.env.now in
    let p = part ps c.in-If.then in
    let q = part ps c.in-If.other in
    let is : part ps c.args.place ≡ If c.in-If.test p q = node_part ps c.args.place c.node.result.now (node.If c.in-If.test c.in-If.then c.in-If.other) c.node.ensures.tree c.in-If.is in
    let told = holds_then c.in_ok-truth_of-in-If.field-0 (Holds (sizes_of y.sets) env c.in-If.test []) c.in_ok-truth_of-in-If.ensures c.if-branch.true in
    if_ok c.choose-then-branch.result (LedFrom y o ps p env c.args.sides.now c.choose-then-branch.new.sides) (LedFrom y o ps (part ps c.args.place) env c.args.sides.now c.choose-then-branch.new.sides) c.choose-then-branch.ensures (λ led l. subst (λ r. LedFrom y o ps r env c.args.sides.now c.choose-then-branch.new.sides led) (sym is)
    (led_then y o ps env c.in-If.test p q c.args.sides.now c.choose-then-branch.new.sides led told l))

pub returns-else-branch : goal.returns-else-branch
returns-else-branch g t c =
    let y = c.args.system.now in
    let o = c.args.controller.now in
    let ps = c.args.code.now in
    let env = look_of c.args.env.now in
    let p = part ps c.in-If.then in
    let q = part ps c.in-If.other in
    let is : part ps c.args.place ≡ If c.in-If.test p q = node_part ps c.args.place c.node.result.now (node.If c.in-If.test c.in-If.then c.in-If.other) c.node.ensures.tree c.in-If.is in
    let told = fails_then c.in_ok-truth_of-in-If.field-0 (Holds (sizes_of y.sets) env c.in-If.test []) c.in_ok-truth_of-in-If.ensures c.if-branch.false in
    if_ok c.choose-else-branch.result (LedFrom y o ps q env c.args.sides.now c.choose-else-branch.new.sides) (LedFrom y o ps (part ps c.args.place) env c.args.sides.now c.choose-else-branch.new.sides) c.choose-else-branch.ensures (λ led l. subst (λ r. LedFrom y o ps r env c.args.sides.now c.choose-else-branch.new.sides led) (sym is)
    (led_else y o ps env c.in-If.test p q c.args.sides.now c.choose-else-branch.new.sides led told l))

pub returns-in_ok-offers-in-Stop : goal.returns-in_ok-offers-in-Stop
returns-in_ok-offers-in-Stop g t c =
    let y = c.args.system.now in
    let ps = c.args.code.now in
    let env = look_of c.args.env.now in
    let adds : Adds (sizes_of y.sets) ps (part ps c.args.place) env c.new-prefixes.result c.offers.new.prefixes = c.in_ok-offers-in-Stop.ensures in
    led_offers y c.args.controller.now ps env (part ps c.args.place) c.args.sides.now c.offers.new.prefixes (subst (λ old. Adds (sizes_of y.sets) ps (part ps c.args.place) env old c.offers.new.prefixes) c.new-prefixes.ensures adds)

pub truth_of-requires : goal.truth_of-requires
truth_of-requires g t c =
    let y = c.args.system.now in
    let o = c.args.controller.now in
    let ps = c.args.code.now in
    let env = look_of c.args.env.now in
    let p = part ps c.in-If.then in
    let q = part ps c.in-If.other in
    let is : part ps c.args.place ≡ If c.in-If.test p q = node_part ps c.args.place c.node.result.now (node.If c.in-If.test c.in-If.then c.in-If.other) c.node.ensures.tree c.in-If.is in
    test_typed y o env c.in-If.test p q (subst (λ r. CanResolve y o r env) is c.requires.can)

pub offers-requires-clause-can : goal.offers-requires-clause-can
offers-requires-clause-can g t c = can_test c.args.system.now c.args.controller.now (look_of c.args.env.now) (part c.args.code.now c.args.place) c.requires.can
