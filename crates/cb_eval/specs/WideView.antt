-- The value that a wide value stands for, and how large the numbers in it are.
use Rattle.std.specs.Prelude.{⊤}
use Rattle.cb_term.specs.declared.value.Value.{Value}
use Rattle.cb_term.specs.declared.value.Value.TheVariants as value
use Rattle.cb_term.specs.Sets.{IsAscending}
use Rattle.cb_eval.specs.declared.wide.WideNode.{WideNode}
use Rattle.cb_eval.specs.declared.wide.WideNode.TheVariants as wide

abbrev pub value_of_node : WideNode → Value
value_of_node (wide.Int n) = value.Int n
value_of_node (wide.Truth b) = value.Truth b
value_of_node (wide.Elem k) = value.Elem k
value_of_node (wide.Set xs) = value.Set xs

-- a set ascends
abbrev pub IsInOrder : WideNode → Type 0
IsInOrder (wide.Set xs) = IsAscending xs
IsInOrder node = ⊤
