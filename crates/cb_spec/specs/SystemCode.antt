-- How the logic stores a system.
use Rattle.std.specs.Coded.{Coded}
use Rattle.cb_spec.specs.contracts.system.System as row
use Rattle.cb_spec.specs.declared.system.System.{System}

abbrev pub coded_system : Coded System
coded_system = row.the_row.coded
