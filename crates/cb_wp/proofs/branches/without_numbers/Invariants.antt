use Rattle.std.proofs.Common.{◌≡◌, ◌++◌, map, length}
use Rattle.std.specs.Vec.Iter.{into_iter_items, into_iter_len}
use Rattle.cb_wp.specs.Parts.{branch_of}
use Rattle.cb_wp.specs.declared.branches.Begun.{Begun}
use Rattle.cb_wp.proofs.branches.without_numbers.Given as goal

abbrev pub invariant-loop-one : goal.invariant-loop-one
invariant-loop-one l =
    let plain = λ (b : Begun). branch_of b.branch in
    record {
      list : map branch_of l.branches ++ map plain (into_iter_items l.one-iterator) ≡ map plain (into_iter_items l.initial.one-iterator);
      long : into_iter_len l.one-iterator ≡ length (into_iter_items l.one-iterator);
    }
