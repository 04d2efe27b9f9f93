-- What every spelled proof meets.
use Rattle.std.specs.Prelude.{ℕ, Bool, List, ◌++◌}
use Rattle.cb_lex.specs.declared.token.Token.{Token}
use Rattle.cb_lex.specs.declared.raw.proof.RawProof.{RawProof}
use Rattle.cb_grammar.specs.declared.parts.Part.{Part}
use Rattle.cb_amn_parse.specs.Lexemes.{Lexeme}
use Rattle.cb_amn_parse.specs.Proofs.{proofs_out}
use Rattle.cb_amn_parse.specs.Spelling.{IsSpelled}
use Rattle.cb_cert_shapes.specs.Full.{AreFull}

-- whatever part the tokens spell, the proofs among what is written for it are full
abbrev pub ProofsAreFull : Type 0
ProofsAreFull = (p : Part) (depth : ℕ) (opened : Bool) (ts : List Token) (taken : ℕ) (front rest : List Lexeme) (ps : List RawProof) → IsSpelled p depth opened ts taken (front ++ proofs_out ps ++ rest) → AreFull ps
