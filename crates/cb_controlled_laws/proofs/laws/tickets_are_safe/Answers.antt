use Rattle.cb_controlled_laws.proofs.Tickets as tickets
use Rattle.cb_controlled_laws.proofs.laws.tickets_are_safe.Goals as goal

pub returns : goal.returns
returns c = tickets.tickets_are_safe
