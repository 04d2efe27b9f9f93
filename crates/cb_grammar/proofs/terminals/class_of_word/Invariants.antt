use Rattle.std.proofs.Common.{◌≡◌, ◌+◌, drop}
use Rattle.cb_grammar.specs.Classes.{words}
use Rattle.cb_grammar.specs.Terminals.{class_in, word_class}
use Rattle.cb_grammar.proofs.terminals.class_of_word.Given as goal

-- none of the words so far is the text
abbrev pub invariant-loop-number : goal.invariant-loop-number
invariant-loop-number l = class_in (128 + l.number) (drop l.number words) l.text ≡ word_class l.text
