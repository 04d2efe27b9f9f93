use Rattle.std.proofs.Common.{◌≡◌, ◌++◌, drop}
use Rattle.std.specs.List.{flat_map}
use Rattle.cb_text_print.specs.Texts.{controller_text}
use Rattle.cb_text_print.proofs.texts.put_controllers.Given as goal

abbrev pub invariant-loop-controller : goal.invariant-loop-controller
invariant-loop-controller l = l.out.items ++ flat_map controller_text (drop l.controller-index l.controllers) ≡ l.initial.out.items ++ flat_map controller_text l.controllers
