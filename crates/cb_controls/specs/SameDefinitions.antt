-- Definitions of a controller by their names: of two of one name the first is meant.
use Rattle.std.specs.Prelude.{ℕ, ◌≡◌, List, Option, Some, None}
use Rattle.cb_forms.specs.declared.form.Form.{Form as Known}
use Rattle.cb_forms.specs.Find.{found}
use Rattle.cb_text_laws.specs.Signatures.{Definitions}

abbrev pub number_of : Option (ℕ × List Known) → Option ℕ
number_of None = None
number_of (Some d) = Some d.0

-- each name stands for one and the same definition
abbrev pub AreSame : Definitions → Definitions → Type 0
AreSame ds es = (x : List ℕ) → found x ds ≡ found x es
