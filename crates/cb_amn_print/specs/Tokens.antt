-- How a token is printed: as it is written, and then a blank.
use Rattle.std.specs.Prelude.{ℕ, ◌==◌, Bool, if◌then◌else◌, List, [], ◌++◌, codes, decimal}
use Rattle.std.specs.Fmt.{signed_decimal}
use Rattle.cb_lex.specs.declared.token.Sort.{Sort}
use Rattle.cb_lex.specs.declared.token.Sort.TheVariants.{Word, Opened, Number, Keyword, Sign, Finish}
use Rattle.cb_lex.specs.declared.raw.name.RawName.{RawName}
use Rattle.cb_lex.specs.Spelling.{letters, marks}

abbrev pub sort_text : Sort → List ℕ
sort_text (Word text) = text
sort_text (Opened text number) = text ++ codes "#" ++ decimal number
sort_text (Number n) = signed_decimal n
sort_text (Keyword k) = letters k
sort_text (Sign s) = marks s
sort_text Finish = []

abbrev pub said : Sort → List ℕ
said s = sort_text s ++ codes " "

-- the token of a name: `x` as written, `x#k` opened
abbrev pub name_sort : RawName → Sort
name_sort x = if x.number == 0 then Word x.text else Opened x.text x.number

abbrev pub name_text : RawName → List ℕ
name_text x = said (name_sort x)

abbrev pub only_if : Bool → List ℕ → List ℕ
only_if wanted bytes = if wanted then bytes else []

abbrev pub wrapped : Bool → List ℕ → List ℕ
wrapped w bytes = only_if w (codes "( ") ++ bytes ++ only_if w (codes ") ")
