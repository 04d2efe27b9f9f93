use Rattle.std.proofs.Common.{◌≡◌, ◌++◌, drop}
use Rattle.cb_grammar.specs.Terminals.{terminals}
use Rattle.cb_grammar.proofs.terminals.classes.Given as goal

-- what is made, and what is still to be made, is the answer
abbrev pub invariant-loop-i : goal.invariant-loop-i
invariant-loop-i l = l.made.items ++ terminals l.opened l.i (drop l.i l.tokens) ≡ terminals l.fn.opened 0 l.tokens
