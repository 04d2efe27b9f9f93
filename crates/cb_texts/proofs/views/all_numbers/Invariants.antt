use Rattle.std.proofs.Common.{◌≡◌, [], drop}
use Rattle.cb_text_laws.specs.TextNames.{numbers_of}
use Rattle.cb_texts.proofs.views.all_numbers.Given as goal

abbrev pub invariant-loop-machine : goal.invariant-loop-machine
invariant-loop-machine l = numbers_of l.number l.numbers (drop l._machine-index l.machines) ≡ numbers_of 0 [] l.machines
