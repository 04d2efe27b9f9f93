use Rattle.cb_controlled_laws.proofs.TicketsRun as tickets
use Rattle.cb_controlled_laws.proofs.laws.tickets_run.Goals as goal

pub returns : goal.returns
returns c = tickets.tickets_run
