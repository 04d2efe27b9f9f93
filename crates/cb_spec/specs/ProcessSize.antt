-- How many nodes a process has.
use Rattle.std.specs.Prelude.{ℕ, ◌+◌}
use Rattle.cb_spec.specs.ProcessTree.{ProcessTree, Stop, Skip, Call, Prefix, Choice, Internal, If}

abbrev pub process_nodes : ProcessTree → ℕ
process_nodes Stop = 1
process_nodes Skip = 1
process_nodes (Call k ts) = 1
process_nodes (Prefix e p) = process_nodes p + 1
process_nodes (Choice p q) = process_nodes p + process_nodes q + 1
process_nodes (Internal p q) = process_nodes p + process_nodes q + 1
process_nodes (If f p q) = process_nodes p + process_nodes q + 1
