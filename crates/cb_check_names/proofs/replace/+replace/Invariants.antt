use Rattle.std.proofs.Common.{◌≡◌, ◌++◌, drop, map}
use Rattle.cb_check_names.specs.Replace.{replaced_term}
use Rattle.cb_check_names.proofs.replace.+replace.Given as goal

abbrev pub invariant-replace_term-loop-term : goal.invariant-replace_term-loop-term
invariant-replace_term-loop-term l =
    let f = replaced_term l.old l.by in
    l.changed ++ map f (drop l.term-index l.term-items) ≡ map f l.term-items
