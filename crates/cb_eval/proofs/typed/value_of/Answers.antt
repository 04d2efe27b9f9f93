use Rattle.std.proofs.Common.{◌≡◌, [], true, false, Some, None, arith}
use Rattle.std.proofs.lemmas.Grind.{common_steps}
use Rattle.cb_term.specs.Table.{sizes_of}
use Rattle.cb_spec.specs.Stores.{look_of}
use Rattle.cb_eval.specs.Evaluation.{value_in}
use Rattle.cb_eval.proofs.SoundLemmas.{value_sound}
use Rattle.cb_eval.proofs.TypedLemmas.{term_answers, ok_value}
use Rattle.cb_eval.proofs.typed.value_of.Goals as goal

pub unreachable-requires : goal.unreachable-requires
unreachable-requires c =
    let none : None ≡ value_in (sizes_of c.args.sets.now) true (look_of c.args.store.now) false [] c.args.term.now = grind (arith, common_steps) in
    term_answers (sizes_of c.args.sets.now) (look_of c.args.store.now) c.args.term.now c.requires none

pub returns : goal.returns
returns c =
    let some : value_in (sizes_of c.args.sets.now) true (look_of c.args.store.now) false [] c.args.term.now ≡ Some c.in-Some.value = grind (arith, common_steps) in
    ok_value (sizes_of c.args.sets.now) (look_of c.args.store.now) c.args.term.now c.narrowed.result c.in-Some.value c.narrowed.ensures
    (value_sound (sizes_of c.args.sets.now) (look_of c.args.store.now) true false [] c.args.term.now c.in-Some.value some)
