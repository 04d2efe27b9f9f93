-- Raw texts with all places set aside: each stands where a text begins.
use Rattle.std.specs.Prelude.{List, map, Option, Some, None}
use Rattle.cb_lex.specs.declared.raw.domain.RawParam.{RawParam}
use Rattle.cb_lex.specs.declared.raw.domain.RawParam.TheVariants as param
use Rattle.cb_lex.specs.declared.raw.event.RawCall.{RawCall}
use Rattle.cb_lex.specs.declared.raw.event.RawEvent.{RawEvent}
use Rattle.cb_lex.specs.declared.raw.event.RawEvent.TheVariants as event
use Rattle.cb_lex.specs.declared.raw.name.RawName.{RawName}
use Rattle.cb_lex.specs.declared.raw.text.RawChannel.{RawChannel}
use Rattle.cb_lex.specs.declared.raw.text.RawController.{RawController}
use Rattle.cb_lex.specs.declared.raw.text.RawDefinition.{RawDefinition}
use Rattle.cb_lex.specs.declared.raw.text.RawText.{RawText}
use Rattle.cb_lex.specs.RawProcessTree.{RawProcessTree, RawProcesses}
use Rattle.cb_lex.specs.RawProcessTree as tree
use Rattle.cb_lex.specs.Lexes.{start}
use Rattle.cb_amn_print.specs.Unplaced.{unplaced_name, unplaced_names, unplaced_term, unplaced_formula, unplaced_condition, unplaced_domain, unplaced_machine}

abbrev pub unplaced_call : RawCall → RawCall
unplaced_call c = record { name = unplaced_name c.name; arguments = map unplaced_term c.arguments }

abbrev pub unplaced_event : RawEvent → RawEvent
unplaced_event (event.Output c ts f) = event.Output (unplaced_name c) (map unplaced_term ts) (unplaced_condition f)
unplaced_event (event.Input c xs f) = event.Input (unplaced_name c) (unplaced_names xs) (unplaced_condition f)
unplaced_event (event.Operation m o ts xs) = event.Operation (unplaced_name m) (unplaced_name o) (map unplaced_term ts) (unplaced_names xs)

abbrev mutual
  pub unplaced_process : RawProcessTree → RawProcessTree
  unplaced_process (tree.Stop p) = tree.Stop start
  unplaced_process (tree.Skip p) = tree.Skip start
  unplaced_process (tree.Call c) = tree.Call (unplaced_call c)
  unplaced_process (tree.If p f a b) = tree.If start (unplaced_formula f) (unplaced_process a) (unplaced_process b)
  unplaced_process (tree.Prefix e a) = tree.Prefix (unplaced_event e) (unplaced_process a)
  unplaced_process (tree.External ps) = tree.External (unplaced_processes ps)
  unplaced_process (tree.Internal ps) = tree.Internal (unplaced_processes ps)

  pub unplaced_processes : RawProcesses → RawProcesses
  unplaced_processes tree.NoOperand = tree.NoOperand
  unplaced_processes (tree.Operand p ps) = tree.Operand (unplaced_process p) (unplaced_processes ps)

abbrev pub unplaced_parameter : RawParam → RawParam
unplaced_parameter (param.Member x d) = param.Member (unplaced_name x) (unplaced_domain d)
unplaced_parameter (param.Subset x d) = param.Subset (unplaced_name x) (unplaced_domain d)

abbrev pub unplaced_definition : RawDefinition → RawDefinition
unplaced_definition d = record {
  name = unplaced_name d.name;
  parameters = map unplaced_parameter d.parameters;
  invariant = unplaced_condition d.invariant;
  process = unplaced_process d.process;
}

abbrev pub unplaced_controller : RawController → RawController
unplaced_controller c = record {
  name = unplaced_name c.name;
  machines = unplaced_names c.machines;
  start = unplaced_call c.start;
  definitions = map unplaced_definition c.definitions;
}

abbrev pub unplaced_channel : RawChannel → RawChannel
unplaced_channel c = record { name = unplaced_name c.name; values = unplaced_names c.values; condition = unplaced_condition c.condition }

abbrev pub unplaced_order : Option (List RawName) → Option (List RawName)
unplaced_order None = None
unplaced_order (Some xs) = Some (unplaced_names xs)

abbrev pub unplaced_text : RawText → RawText
unplaced_text t = record {
  machines = map unplaced_machine t.machines;
  channels = map unplaced_channel t.channels;
  controllers = map unplaced_controller t.controllers;
  order = unplaced_order t.order;
}
