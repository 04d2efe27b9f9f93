use Rattle.std.proofs.Common.{subst}
use Rattle.cb_owed.specs.Limits.{first_limit}
use Rattle.cb_wp.specs.Limits.{Tells}
use Rattle.cb_wp.specs.declared.limits.MakeFault.{MakeFault}
use Rattle.cb_accept.proofs.accept.unlisted.Goals as goal

pub returns-in-Limit : goal.returns-in-Limit
returns-in-Limit c = record {
  text = c.args._read.now.text;
  proofs = c.args._read.now.proofs;
  read = c.requires.read;
  system = c.args._system.now;
  well = c.requires.well;
  cause = subst (λ (f : MakeFault). Tells f (first_limit c.args._system.now)) c.in-Limit.is c.requires.told;
}
