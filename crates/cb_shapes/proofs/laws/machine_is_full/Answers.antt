use Rattle.std.proofs.Common.{[], append-nil, sym, subst, List}
use Rattle.cb_grammar.specs.declared.parts.Part.TheVariants as part
use Rattle.cb_amn_parse.specs.Lexemes.{Lexeme}
use Rattle.cb_amn_parse.specs.Machines.{machine_out}
use Rattle.cb_amn_parse.specs.Spelling.{IsSpelled}
use Rattle.cb_shapes.proofs.laws.machine_is_full.Goals as goal

pub returns : goal.returns
returns c = λ depth opened ts taken m q. c.machines_are_full.ensures part.Machine depth opened ts taken [] [] m (subst (λ (ls : List Lexeme). IsSpelled part.Machine depth opened ts taken ls) (sym (append-nil (machine_out m))) q)
