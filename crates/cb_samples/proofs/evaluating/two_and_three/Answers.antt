use Rattle.std.proofs.Common.{◌≡◌, pos, sym, subst, arith}
use Rattle.std.proofs.lemmas.Grind.{common_steps}
use Rattle.cb_term.specs.declared.sign.TermSign.TheVariants.{Add}
use Rattle.cb_term.specs.Table.{sizes_of}
use Rattle.cb_term.specs.Tree.{Num, Bin}
use Rattle.cb_spec.specs.Stores.{look_of}
use Rattle.cb_eval.specs.TypedIn.{TypedTermIn}
use Rattle.cb_samples.proofs.EvaluatedLemmas.{no_sets, sum_typed}
use Rattle.cb_samples.proofs.evaluating.two_and_three.Goals as goal

pub value_of-requires : goal.value_of-requires
value_of-requires c =
    let whole : c.in_ok-sum.sum ≡ Bin Add (Num (pos 2)) (Num (pos 3)) = grind (arith, common_steps) in
    subst (TypedTermIn (sizes_of c.no_sets-sets.result) (look_of c.new-store.result)) (sym whole)
    (sum_typed (sizes_of c.no_sets-sets.result) (look_of c.new-store.result) (no_sets c.no_sets-sets.result c.no_sets-sets.ensures))
