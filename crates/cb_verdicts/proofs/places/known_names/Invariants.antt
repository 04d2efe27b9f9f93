use Rattle.std.proofs.Common.{drop}
use Rattle.cb_verdicts.specs.Proofs.{keys_of}
use Rattle.cb_verdicts.proofs.Tables.{WillHave}
use Rattle.cb_verdicts.proofs.places.known_names.Given as goal

abbrev pub invariant-loop-obligation : goal.invariant-loop-obligation
invariant-loop-obligation l = WillHave l.known (keys_of (drop l.obligation-index l.list)) (keys_of l.list)
