use Rattle.std.proofs.Common.{refl}
use Rattle.std.proofs.lemmas.Result.{IfOk-equal}
use Rattle.cb_grammar.specs.declared.actions.TheConstants.{NO_CONTROLLERS, APPEND_CONTROLLER}
use Rattle.cb_amn_parse.specs.Lexemes.{Did}
use Rattle.cb_amn_parse.specs.Processes.{controller_out, controller_entry}
use Rattle.cb_amn_parse.specs.Values.{stack_out}
use Rattle.cb_csp_parse.proofs.Appending.{appended}
use Rattle.cb_csp_parse.proofs.texts.append_controller.Goals as goal

pub returns-clause-out : goal.returns-clause-out
returns-clause-out c =
    let last = c.pop_controller-controller in
    let before = c.pop_controllers-controllers in
    IfOk-equal c.push.result _ _ _ c.push.ensures.out
    (appended controller_entry (Did NO_CONTROLLERS) (Did APPEND_CONTROLLER) (stack_out c.args.stack.now.items) (stack_out last.new.stack.items) (stack_out before.new.stack.items) (controller_out last.result) before.result c.in_ok-longer.longer last.result
    last.ensures.out before.ensures.out c.in_ok-longer.ensures refl)
