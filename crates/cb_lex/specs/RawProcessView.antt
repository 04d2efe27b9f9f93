-- The tree that a node of a process stands for.
use Rattle.cb_lex.specs.RawProcessTree.{RawProcessTree, raw_processes}
use Rattle.cb_lex.specs.RawProcessTree as tree
use Rattle.cb_lex.specs.declared.raw.process.RawProcessNode.{RawProcessNode}
use Rattle.cb_lex.specs.declared.raw.process.RawProcessNode.TheVariants.{Stop, Skip, Call, If, Prefix, External, Internal}

abbrev pub process_of : RawProcessNode → RawProcessTree
process_of (Stop q) = tree.Stop q
process_of (Skip q) = tree.Skip q
process_of (Call c) = tree.Call c
process_of (If q f a b) = tree.If q f a.value b.value
process_of (Prefix e a) = tree.Prefix e a.value
process_of (External ps) = tree.External (raw_processes ps)
process_of (Internal ps) = tree.Internal (raw_processes ps)
