-- How the logic stores what a running value stands for.
use Rattle.std.specs.Prelude.{ℕ, List, refl}
use Rattle.std.specs.Coded.{Coded, code_by, coded×, coded_ℕ, coded_list}
use Rattle.cb_term.specs.contracts.name.Name as name
use Rattle.cb_term.specs.contracts.value.Value as value
use Rattle.cb_spec.specs.contracts.system.System as system
use Rattle.cb_spec.specs.contracts.state.Entry as entry
use Rattle.cb_spec.specs.contracts.state.State as state
use Rattle.cb_spec.specs.declared.system.System.{System}
use Rattle.cb_spec.specs.declared.state.Entry.{Entry}
use Rattle.cb_spec.specs.declared.state.State.{State}
use Rattle.cb_spec.specs.Stores.{Writes}
use Rattle.cb_system.specs.Views.{RunView}

abbrev pub writes_code : Coded Writes
writes_code = coded_list (coded× name.the_row.coded value.the_row.coded)

abbrev pub run_code : Coded RunView
run_code =
    code_by (System × (ℕ × (Writes × (List Entry × State))))
    (coded× system.the_row.coded (coded× coded_ℕ (coded× writes_code (coded× (coded_list entry.the_row.coded) state.the_row.coded))))
    (λ v. (v.system, (v.limit, (v.initial, (v.journal, v.state)))))
    (λ p. record { system = p.0; limit = p.1.0; initial = p.1.1.0; journal = p.1.1.1.0; state = p.1.1.1.1 })
    (λ _. refl)
