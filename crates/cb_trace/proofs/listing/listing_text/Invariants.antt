use Rattle.std.specs.Prelude.{◌≡◌, ◌++◌, drop}
use Rattle.cb_trace.specs.Texts.{sequents_text}
use Rattle.cb_trace.proofs.listing.listing_text.Given as goal

abbrev pub invariant-loop-obligation : goal.invariant-loop-obligation
invariant-loop-obligation l = l.out.items ++ sequents_text l.sets.sets.items (drop l.obligation-index l.list) ≡ sequents_text l.sets.sets.items l.list
