use Rattle.std.proofs.Common.{sym, subst, arith, to_z, of_z, w64}
use Rattle.std.proofs.lemmas.Int.{ints}
use Rattle.cb_term.specs.Table.{sizes_of}
use Rattle.cb_spec.specs.Stores.{look_of}
use Rattle.cb_eval.specs.TypedIn.{TypedIn}
use Rattle.cb_samples.proofs.EvaluatedLemmas.{no_sets, every_typed}
use Rattle.cb_samples.proofs.evaluating.every_number_holds.Goals as goal

pub truth_of-requires : goal.truth_of-requires
truth_of-requires c =
    subst (TypedIn (sizes_of c.no_sets-sets.result) (look_of c.new-store.result)) (sym c.in_ok-formula.ensures)
    (every_typed (sizes_of c.no_sets-sets.result) (look_of c.new-store.result) (to_z w64 (of_z w64 c.args.last)) (no_sets c.no_sets-sets.result c.no_sets-sets.ensures)
    (omega (arith, ints, c.requires.low)) (omega (arith, ints, c.requires.high)))
