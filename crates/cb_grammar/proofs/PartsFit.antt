-- What is written for each part that can be read by itself leaves its kinds. Written by tools/table.py from tools/cspb.grammar.
use Rattle.std.specs.Prelude.{◌≡◌, true, false, refl, [], ◌∷◌, None}
use Rattle.cb_engine.specs.declared.Symbol.TheVariants as symbol
use Rattle.cb_engine.specs.Kinds.{leads, signature}
use Rattle.cb_grammar.specs.declared.parts.Part.{Part}
use Rattle.cb_grammar.specs.declared.parts.Part.TheVariants as part
use Rattle.cb_grammar.specs.Parts.{number_of, kinds_left}
use Rattle.cb_grammar.specs.Signatures.{signatures}

pub part_fits : (p : Part) → leads signatures (signature false [] (kinds_left p) []) (symbol.Part (number_of p) ∷ []) None [] ≡ true
part_fits part.Whole = refl
part_fits part.Text = refl
part_fits part.Proofs = refl
part_fits part.Machine = refl
part_fits part.Channels = refl
part_fits part.Controller = refl
part_fits part.Formula = refl
part_fits part.Term = refl
part_fits part.Domain = refl
