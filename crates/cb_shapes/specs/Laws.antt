-- What every spelled text meets.
use Rattle.std.specs.Prelude.{ℕ, ◌≤◌, Bool, List, ◌++◌, length}
use Rattle.cb_lex.specs.declared.token.Token.{Token}
use Rattle.cb_lex.specs.declared.raw.text.RawMachine.{RawMachine}
use Rattle.cb_lex.specs.declared.raw.text.RawText.{RawText}
use Rattle.cb_grammar.specs.declared.parts.Part.{Part}
use Rattle.cb_grammar.specs.declared.parts.Part.TheVariants as part
use Rattle.cb_amn_parse.specs.Lexemes.{Lexeme}
use Rattle.cb_amn_parse.specs.Machines.{machine_out}
use Rattle.cb_amn_parse.specs.Processes.{text_out}
use Rattle.cb_amn_parse.specs.Spelling.{IsSpelled}
use Rattle.cb_shapes.specs.Full.{AllOf, IsFull}
use Rattle.cb_shapes.specs.Words.{words}

-- whatever part the tokens spell, a machine among what is written for it is full
abbrev pub MachinesAreFull : Type 0
MachinesAreFull = (p : Part) (depth : ℕ) (opened : Bool) (ts : List Token) (taken : ℕ) (front rest : List Lexeme) (m : RawMachine) → IsSpelled p depth opened ts taken (front ++ machine_out m ++ rest) → IsFull m

-- the machine that the tokens spell is full
abbrev pub MachineIsFull : Type 0
MachineIsFull = (depth : ℕ) (opened : Bool) (ts : List Token) (taken : ℕ) (m : RawMachine) → IsSpelled part.Machine depth opened ts taken (machine_out m) → IsFull m

-- whatever part the tokens spell, each machine of a text at the beginning of what is written for it is full
abbrev pub TextIsFull : Type 0
TextIsFull = (p : Part) (depth : ℕ) (opened : Bool) (ts : List Token) (taken : ℕ) (rest : List Lexeme) (t : RawText) → IsSpelled p depth opened ts taken (text_out t ++ rest) → AllOf IsFull t.machines

-- among what is written for tokens there are no more words than tokens
abbrev pub WordsAreTokens : Type 0
WordsAreTokens = (p : Part) (depth : ℕ) (opened : Bool) (ts : List Token) (taken : ℕ) (out : List Lexeme) → IsSpelled p depth opened ts taken out → words out ≤ length ts
