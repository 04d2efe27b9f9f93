use Rattle.std.proofs.Common.{◌<◌}
use Rattle.std.specs.List.{AllWithin}
use Rattle.cb_offers.proofs.marks.find.Given as goal

abbrev pub invariant-loop-at : goal.invariant-loop-at
invariant-loop-at l = AllWithin (λ m. m.controller < l.controller) l.marks 0 l.at
