use Rattle.std.proofs.Common.{◌≡◌, ◌++◌, ℕ, List, map, length}
use Rattle.std.specs.Vec.Iter.{into_iter_items, into_iter_len}
use Rattle.cb_seq.specs.Validity.{Claim, claim_of}
use Rattle.cb_obligations.specs.Owed.{Owed, owed_of, named}
use Rattle.cb_wp.proofs.machine.add_named.Given as goal

abbrev pub invariant-loop-sequent : goal.invariant-loop-sequent
invariant-loop-sequent l =
    let left : ℕ → List Claim → List Owed = named l.first.group l.first.owner l.first.part in
    record {
      list : map owed_of l.into.items ++ left l.number (map claim_of (into_iter_items l.sequent-iterator))
          ≡ map owed_of l.initial.into.items ++ left 1 (map claim_of (into_iter_items l.initial.sequent-iterator));
      long : into_iter_len l.sequent-iterator ≡ length (into_iter_items l.sequent-iterator);
    }
