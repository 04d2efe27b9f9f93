-- The tree that a node of a process stands for.
use Rattle.cb_spec.specs.ProcessTree.{ProcessTree}
use Rattle.cb_spec.specs.ProcessTree as tree
use Rattle.cb_spec.specs.declared.process.ProcessNode.{ProcessNode}
use Rattle.cb_spec.specs.declared.process.ProcessNode.TheVariants.{Stop, Skip, Call, Prefix, Choice, Internal, If}

abbrev pub process_of : ProcessNode → ProcessTree
process_of Stop = tree.Stop
process_of Skip = tree.Skip
process_of (Call k ts) = tree.Call k ts
process_of (Prefix e p) = tree.Prefix e p.value
process_of (Choice p q) = tree.Choice p.value q.value
process_of (Internal p q) = tree.Internal p.value q.value
process_of (If f p q) = tree.If f p.value q.value
