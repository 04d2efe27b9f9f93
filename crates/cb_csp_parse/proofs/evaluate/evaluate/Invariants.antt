use Rattle.std.proofs.Common.{◌≡◌, ◌++◌, drop, []}
use Rattle.cb_engine.specs.Kinds.{kinds}
use Rattle.cb_grammar.specs.Signatures.{signatures}
use Rattle.cb_amn_parse.specs.Lexemes.{lexemes}
use Rattle.cb_amn_parse.specs.Values.{stack_out, kinds_of}
use Rattle.cb_csp_parse.proofs.evaluate.evaluate.Given as goal

abbrev pub invariant-loop-item : goal.invariant-loop-item
invariant-loop-item l = record {
  out : stack_out l.stack.items ++ lexemes l.tokens (drop l.item-index l.items) ≡ lexemes l.tokens l.items;
  fits : kinds signatures (drop l.item-index l.items) (kinds_of l.stack.items) ≡ kinds signatures l.items [];
}
