-- When two names are the same.
use Rattle.std.specs.Prelude.{Bool, ◌&&◌, ◌==◌, bytes_eq}
use Rattle.cb_term.specs.declared.name.Name.{Name}

abbrev pub same_name : Name → Name → Bool
same_name x y = bytes_eq x.text y.text && (x.number == y.number)
