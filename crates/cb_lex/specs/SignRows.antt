-- The table of signs as the code has it.
use Rattle.std.specs.Prelude.{ℕ, ◌==◌, if◌then◌else◌, List, [], ◌∷◌, Option, Some, None, length}
use Rattle.cb_lex.specs.declared.token.Sign.{Sign}
use Rattle.cb_lex.specs.declared.spelling.SignRow.{SignRow}
use Rattle.cb_lex.specs.Spelling.{begins}

-- the bytes of a row's sign
abbrev pub mark : SignRow → List ℕ
mark r = r.0 ∷ (if r.1 == 0 then [] else r.1 ∷ (if r.2 == 0 then [] else r.2 ∷ []))

abbrev pub row_measured : SignRow → Sign × ℕ
row_measured r = (r.3, length (mark r))

-- the first row whose sign is at the front
abbrev pub row_in : List SignRow → List ℕ → Option SignRow
row_in [] bs = None
row_in (r ∷ rs) bs = if begins (mark r) bs then Some r else row_in rs bs
