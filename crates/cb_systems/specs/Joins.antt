-- Chains by the sign between their operands. They group to the left.
use Rattle.std.specs.Prelude.{ℕ, List}
use Rattle.cb_lex.specs.declared.raw.text.RawChannel.{RawChannel}
use Rattle.cb_lex.specs.declared.raw.text.RawMachine.{RawMachine}
use Rattle.cb_lex.specs.RawProcessTree.{RawProcesses, NoOperand, Operand}
use Rattle.cb_spec.specs.ProcessTree as tree
use Rattle.cb_spec.specs.ProcessTree.{ProcessTree}
use Rattle.cb_judge.specs.declared.names.View.{View}
use Rattle.cb_judge.specs.Meanings.{Names}
use Rattle.cb_systems.specs.declared.process.ChainSign.{ChainSign}
use Rattle.cb_systems.specs.declared.process.ChainSign.TheVariants as sign
use Rattle.cb_text_laws.specs.NormalProcesses.{process_in}
use Rattle.cb_text_laws.specs.Signatures.{Definitions}

abbrev pub joined : ChainSign → ProcessTree → ProcessTree → ProcessTree
joined sign.External p q = tree.Choice p q
joined sign.Internal p q = tree.Internal p q

module _ (s : ChainSign) (before globals : Names) (ms : List RawMachine) (channels : List RawChannel) (v : View) (own : List ℕ) (ds : Definitions) (names : Names) where
  -- what is done already, and further operands
  abbrev pub joined_in : ProcessTree → RawProcesses → ProcessTree
  joined_in done NoOperand = done
  joined_in done (Operand p ps) = joined_in (joined s done (process_in before globals ms channels v own ds names p)) ps

  -- all operands
  abbrev pub chain_in : RawProcesses → ProcessTree
  chain_in NoOperand = tree.Stop
  chain_in (Operand p ps) = joined_in (process_in before globals ms channels v own ds names p) ps
