use Rattle.cb_term.specs.Table.{sizes_of}
use Rattle.cb_eval.specs.Walks.{count_of}
use Rattle.cb_relation.specs.Trying.{look_in}
use Rattle.cb_relation.proofs.ChoiceLemmas.{Tried}
use Rattle.cb_relation.proofs.choice.choose.Given as goal

abbrev pub invariant-loop-number : goal.invariant-loop-number
invariant-loop-number l =
    Tried (sizes_of l.sets) (look_in l.fn.known) (look_in l.known) l.name l.domain l.test l.start l.number

abbrev pub invariant-loop-number-2 : goal.invariant-loop-number-2
invariant-loop-number-2 l =
    Tried (sizes_of l.sets) (look_in l.fn.known) (look_in l.known) l.name l.domain l.test l.start (count_of (sizes_of l.sets) l.domain)
    × Tried (sizes_of l.sets) (look_in l.fn.known) (look_in l.known) l.name l.domain l.test 0 l.number
