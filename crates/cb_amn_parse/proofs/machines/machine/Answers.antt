use Rattle.std.proofs.Common.{◌∷◌, []}
use Rattle.std.proofs.lemmas.Result.{IfOk-equal}
use Rattle.cb_grammar.specs.declared.actions.TheConstants.{MACHINE}
use Rattle.cb_amn_parse.specs.Lexemes.{Named, Did}
use Rattle.cb_amn_parse.specs.Formulas.{names_out}
use Rattle.cb_amn_parse.specs.Machines.{sets_out, properties_out, state_out, operations_out}
use Rattle.cb_amn_parse.specs.Values.{stack_out}
use Rattle.cb_amn_parse.proofs.Lists.{gathered}
use Rattle.cb_amn_parse.proofs.machines.machine.Goals as goal

pub returns-clause-out : goal.returns-clause-out
returns-clause-out c =
    let head = c.pop_head-name in
    let content = c.pop_content-constants in
    let operations = c.pop_operations-operations in
    IfOk-equal c.push.result _ _ _ c.push.ensures.out
    (gathered (stack_out c.args.stack.now.items) (stack_out operations.new.stack.items) (stack_out content.new.stack.items) (stack_out head.new.stack.items)
    (Named head.result.0 ∷ names_out head.result.1) (sets_out head.result.2) (names_out content.result.0) (properties_out content.result.1) (state_out content.result.2) (operations_out operations.result) (Did MACHINE ∷ [])
    operations.ensures.out content.ensures.out head.ensures.out)
