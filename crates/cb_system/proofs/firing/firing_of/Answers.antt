use Rattle.cb_system.proofs.FoundLemmas.{has_there, side_offered, side_fires, output_within, input_within, found_output, found_input}
use Rattle.cb_system.proofs.firing.firing_of.Goals as goal

pub branch_at-requires-clause-has : goal.branch_at-requires-clause-has
branch_at-requires-clause-has g c = has_there c.args.code.now c.args.places.now c.args.offers.now c.args.controller c.requires c.in-Some.branch c.in-Some.ensures

pub returns-in-Call : goal.returns-in-Call
returns-in-Call g c = side_offered c.args.code.now c.args.places.now c.args.offers.now c.args.controller c.requires c.in-Some.branch c.in-Some.ensures c.branch_at.result.event.now _ c.branch_at.result.next c.branch_at.result.env.now c.branch_at.ensures c.in-Call.is

pub passing-requires-clause-range : goal.passing-requires-clause-range
passing-requires-clause-range g c = output_within c.args.code.now c.args.places.now c.args.offers.now c.args.controller c.requires c.in-Some.branch c.in-Some.ensures c.in-Output.channel (side_offered c.args.code.now c.args.places.now c.args.offers.now c.args.controller c.requires c.in-Some.branch c.in-Some.ensures c.branch_at.result.event.now _ c.branch_at.result.next c.branch_at.result.env.now c.branch_at.ensures c.in-Output.is)

pub passing-requires-clause-meets : goal.passing-requires-clause-meets
passing-requires-clause-meets g c = side_fires c.args.code.now c.args.places.now c.args.offers.now c.args.controller c.requires c.in-Some.branch c.in-Some.ensures c.branch_at.result.event.now _ c.branch_at.result.next c.branch_at.result.env.now c.branch_at.ensures c.in-Output.is

pub passing-requires-in-Input-clause-range : goal.passing-requires-in-Input-clause-range
passing-requires-in-Input-clause-range g c = input_within c.args.code.now c.args.places.now c.args.offers.now c.args.controller c.requires c.in-Some.branch c.in-Some.ensures c.in-Input.channel (side_offered c.args.code.now c.args.places.now c.args.offers.now c.args.controller c.requires c.in-Some.branch c.in-Some.ensures c.branch_at.result.event.now _ c.branch_at.result.next c.branch_at.result.env.now c.branch_at.ensures c.in-Input.is)

pub passing-requires-in-Input-clause-meets : goal.passing-requires-in-Input-clause-meets
passing-requires-in-Input-clause-meets g c = side_fires c.args.code.now c.args.places.now c.args.offers.now c.args.controller c.requires c.in-Some.branch c.in-Some.ensures c.branch_at.result.event.now _ c.branch_at.result.next c.branch_at.result.env.now c.branch_at.ensures c.in-Input.is

pub returns-in-Output : goal.returns-in-Output
returns-in-Output g c = found_output c.args.offers.now.rows c.args.controller c.in-Some.branch c.in-Output.channel c.passing.result (side_offered c.args.code.now c.args.places.now c.args.offers.now c.args.controller c.requires c.in-Some.branch c.in-Some.ensures c.branch_at.result.event.now _ c.branch_at.result.next c.branch_at.result.env.now c.branch_at.ensures c.in-Output.is) c.passing.ensures

pub returns-in-Input : goal.returns-in-Input
returns-in-Input g c = found_input c.args.offers.now.rows c.args.controller c.in-Some.branch c.in-Input.channel c.passing-in-Input.result (side_offered c.args.code.now c.args.places.now c.args.offers.now c.args.controller c.requires c.in-Some.branch c.in-Some.ensures c.branch_at.result.event.now _ c.branch_at.result.next c.branch_at.result.env.now c.branch_at.ensures c.in-Input.is) c.passing-in-Input.ensures
