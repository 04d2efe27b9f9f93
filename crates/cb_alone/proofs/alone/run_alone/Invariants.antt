use Rattle.std.proofs.Common.{◌≡◌, ◌+◌, ◌-◌, ◌*◌, None, length}
use Rattle.cb_system.specs.Views.{last_end}
use Rattle.cb_alone.proofs.alone.run_alone.Given as goal

abbrev pub invariant-rounds : goal.invariant-rounds
invariant-rounds l = record {
  system : l.running.system ≡ l.fn.sound;
  limit : l.running.limit ≡ l.limit;
  all : l.controllers ≡ length l.running.system.order;
  unended : last_end l.running.journal ≡ None;
}

-- no journal is longer than this
abbrev pub decreases-rounds : goal.decreases-rounds
decreases-rounds l = (3 * l.limit + l.controllers + 1) - length l.running.journal
