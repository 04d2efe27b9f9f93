use Rattle.std.proofs.Common.{◌≡◌, length, take}
use Rattle.cb_conditions.specs.Reading.{with_terms}
use Rattle.cb_symbolic.specs.Stores.{meaning_of}
use Rattle.cb_symbolic.proofs.store.SymStore.put_all.Given as goal

abbrev pub invariant-loop-name : goal.invariant-loop-name
invariant-loop-name l = record {
  meaning : with_terms l.writes (meaning_of l.self) ≡ with_terms l.initial.writes (meaning_of l.initial.self);
  before : take (length l.initial.self) l.self ≡ l.initial.self;
}

abbrev pub decreases-loop-name : goal.decreases-loop-name
decreases-loop-name l = length l.writes
