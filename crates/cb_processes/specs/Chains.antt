-- Where a chain begins whose first operands were met already.
use Rattle.std.specs.Prelude.{Option, Some, None}
use Rattle.cb_lex.specs.declared.token.Place.{Place}

abbrev pub or_place : Option Place → Place → Place
or_place None p = p
or_place (Some q) p = q
