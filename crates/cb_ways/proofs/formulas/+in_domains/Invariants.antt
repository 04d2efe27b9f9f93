use Rattle.std.proofs.Common.{length}
use Rattle.cb_ways.proofs.formulas.+in_domains.Given as goal

abbrev pub decreases-in_domains : goal.decreases-in_domains
decreases-in_domains l = length l.declared.now
