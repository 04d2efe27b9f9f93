use Rattle.cb_term.specs.Table.{sizes_of}
use Rattle.cb_relation.specs.Trying.{look_in}
use Rattle.cb_relation.proofs.ChoiceLemmas.{put_typed}
use Rattle.cb_relation.proofs.choice.meets.Goals as goal

pub truth_of-requires : goal.truth_of-requires
truth_of-requires c =
    put_typed (sizes_of c.args.sets.now) c.args.name.now c.args.domain c.args.test.now (look_in c.args.known.now) c.args.number c.in_ok-value.value c.put.new.self c.store.result.now
    c.requires.typed c.requires.within c.in_ok-value.ensures c.in_ok-put.ensures c.store.ensures
