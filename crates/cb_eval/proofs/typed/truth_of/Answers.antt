use Rattle.std.proofs.Common.{◌≡◌, [], true, Some, None, arith}
use Rattle.std.proofs.lemmas.Grind.{common_steps}
use Rattle.cb_term.specs.Table.{sizes_of}
use Rattle.cb_spec.specs.Stores.{look_of}
use Rattle.cb_eval.specs.Evaluation.{truth_in}
use Rattle.cb_eval.proofs.SoundLemmas.{truth_sound}
use Rattle.cb_eval.proofs.TypedLemmas.{formula_answers}
use Rattle.cb_eval.proofs.typed.truth_of.Goals as goal

pub unreachable-requires : goal.unreachable-requires
unreachable-requires c =
    let none : None ≡ truth_in (sizes_of c.args.sets.now) true (look_of c.args.store.now) [] c.args.formula.now = grind (arith, common_steps) in
    formula_answers (sizes_of c.args.sets.now) (look_of c.args.store.now) c.args.formula.now c.requires none

pub returns : goal.returns
returns c =
    let some : truth_in (sizes_of c.args.sets.now) true (look_of c.args.store.now) [] c.args.formula.now ≡ Some c.in-Some.b = grind (arith, common_steps) in
    truth_sound (sizes_of c.args.sets.now) (look_of c.args.store.now) true [] c.args.formula.now c.in-Some.b some
