use Rattle.std.proofs.Common.{refl}
use Rattle.cb_grammar.specs.declared.parts.Part.TheVariants as part
use Rattle.cb_amn_parse.specs.Machines.{machine_out}
use Rattle.cb_amn_parse.proofs.Once.{machine_once}
use Rattle.cb_amn_print.specs.Machines.{machine_text}
use Rattle.cb_amn_print.specs.Unplaced.{unplaced_machine}
use Rattle.cb_amn_print.proofs.OutAside.{machine_aside}
use Rattle.cb_amn_print.proofs.ReadAgain.{read_again}
use Rattle.cb_amn_print.proofs.laws.machine_is_read_again.Goals as goal

pub returns : goal.returns
returns c = read_again part.Machine machine_text machine_out unplaced_machine c.lexes_once.ensures refl c.machine_is_printed_back.ensures machine_aside machine_once
