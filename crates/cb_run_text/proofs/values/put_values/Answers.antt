use Rattle.std.proofs.Common.{◌≡◌, ◌++◌, ◌∷◌, ◌+◌, ◌<◌, true, List, length, drop, get_or, sym, ap, subst, ◌∙◌, arith, append-nil}
use Rattle.std.proofs.lemmas.List.{drop_more}
use Rattle.cb_term.specs.declared.kind.Kind.{Kind}
use Rattle.cb_term.specs.declared.kind.Kind.TheVariants as kind
use Rattle.cb_term.specs.declared.value.Value.{Value}
use Rattle.cb_term.proofs.Steps.{drop_step}
use Rattle.cb_run_text.specs.Traces.{values_text}
use Rattle.cb_run_text.proofs.Commas.{put_step, values_end}
use Rattle.cb_run_text.proofs.values.put_values.Goals as goal

pub loop-i-preserved : goal.loop-i-preserved
loop-i-preserved c =
    let sets = c.args.sets.now.sets.items in
    let ks = c.args.kinds.now in
    let vs = c.args.values.now in
    let here : c.loop-i.i < length ks = omega (arith, c.loop-i-test.true, c.min-i-end.ensures) in
    let there : c.loop-i.i < length vs = omega (arith, c.loop-i-test.true, c.min-i-end.ensures) in
    put_step _ _ _ _ _ _ c.in_ok-put_comma.ensures c.in_ok-put_value.ensures
    ∙ subst (λ (ws : List Value). c.loop-i.out.items ++ values_text sets c.loop-i.first (get_or ks c.loop-i.i kind.Integer ∷ drop (c.loop-i.i + 1) ks) ws ≡ c.args.out.now.items ++ values_text sets true ks vs)
    (drop_step vs c.loop-i.i c.index-values-i.result there c.index-values-i.is)
    (subst (λ (js : List Kind). c.loop-i.out.items ++ values_text sets c.loop-i.first js (drop c.loop-i.i vs) ≡ c.args.out.now.items ++ values_text sets true ks vs)
    (drop_more ks c.loop-i.i kind.Integer here) c.loop-i.invariant)

pub returns : goal.returns
returns c =
    let sets = c.args.sets.now.sets.items in
    let over = values_end sets c.loop-i.first c.loop-i.i c.args.kinds.now c.args.values.now (omega (arith, c.loop-i-test.false, c.min-i-end.ensures)) in
    sym (append-nil c.loop-i.out.items) ∙ ap (λ xs. c.loop-i.out.items ++ xs) (sym over) ∙ c.loop-i.invariant
