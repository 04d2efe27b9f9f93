use Rattle.cb_term.specs.Table.{sizes_of}
use Rattle.cb_spec.specs.Stores.{look_of}
use Rattle.cb_settling.proofs.CalledLemmas.{called_is}
use Rattle.cb_settling.proofs.call.call_operation.Goals as goal

pub returns-clause-ok : goal.returns-clause-ok
returns-clause-ok g c =
    called_is (sizes_of c.args.sets.now) c.args.machine.now c.args.operation.now c.args.args.now (look_of c.args.store.now) c.in_ok-all.all
    (record { results = c.in_ok-results.results; written = c.in_ok-written.written }) c.in_ok-all.ensures.ok c.in_ok-results.ensures c.in_ok-written.ensures
