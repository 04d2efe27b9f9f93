-- Why a text has no system.
use Rattle.std.specs.Prelude.{⊤}
use Rattle.cb_lex.specs.declared.raw.text.RawText.{RawText}
use Rattle.cb_systems.specs.declared.whole.IllFormed.{IllFormed}
use Rattle.cb_systems.specs.declared.whole.IllFormed.TheVariants as ill
use Rattle.cb_text_laws.specs.WholeText.{FirstFault}

-- a refusal tells the first fault, or that memory was wanting
abbrev pub Tells : RawText → IllFormed → Type 0
Tells t (ill.Fault code p) = FirstFault t (record { code = code; place = p })
Tells t ill.Memory = ⊤
