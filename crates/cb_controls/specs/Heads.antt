-- Definitions as a table keeps them: each name with the number and the place of its forms among all forms.
use Rattle.std.specs.Prelude.{ℕ, List, [], map, get_or}
use Rattle.cb_forms.specs.declared.form.Form.{Form as Known}
use Rattle.cb_controls.specs.declared.definition.Head.{Head}
use Rattle.cb_text_laws.specs.Signatures.{Definitions}

abbrev pub headed : List (List Known) → Head → ℕ × List Known
headed forms h = (h.number, get_or forms h.forms [])

abbrev pub definitions_at : List (List Known) → List (List ℕ × Head) → Definitions
definitions_at forms heads = map (λ (e : List ℕ × Head). (e.0, headed forms e.1)) heads
