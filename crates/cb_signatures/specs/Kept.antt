-- What is kept of the forms of results.
use Rattle.std.specs.Prelude.{ℕ, List, map}
use Rattle.cb_lex.specs.declared.raw.name.RawName.{RawName}
use Rattle.cb_spec.specs.TypedSubsts.{result_form}
use Rattle.cb_forms.specs.declared.form.Form.{Form as Known}
use Rattle.cb_forms.specs.Find.{found}
use Rattle.cb_forms.specs.Kinds.{form_of}
use Rattle.cb_text_laws.specs.Signatures.{Assigned, known_of}

-- the kept forms of names as forms
abbrev pub formed : List (List ℕ × Known) → Assigned
formed es = map (λ e. (e.0, form_of e.1)) es

-- the forms of results, to which this is assigned
abbrev pub results_of : Assigned → List RawName → List Known
results_of given xs = map (λ (x : RawName). known_of (result_form (found x.text given))) xs
