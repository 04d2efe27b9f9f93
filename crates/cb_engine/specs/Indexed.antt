-- Where each alternative of a grammar stands.
use Rattle.std.specs.Prelude.{◌≡◌, ◌<◌, ◌+◌, ◌*◌, ℕ, zero, suc, Bool, List, Some, None, length, drop, get_or}
use Rattle.std.specs.List.{slice_get}
use Rattle.cb_engine.specs.declared.Symbol.{Symbol}
use Rattle.cb_engine.specs.declared.Symbol.TheVariants.{Line}
use Rattle.cb_engine.specs.Tables.{body, find_line}

-- 0 where the part has no line with the key from the place on, else the place after the first such line
abbrev pub Points : List Symbol → ℕ → ℕ → ℕ → ℕ → Type 0
Points g from n c zero = find_line (drop from g) n c ≡ None
Points g from n c (suc q) = (keep : Bool) × (slice_get g q ≡ Some (Line n c keep)) × (find_line (drop from g) n c ≡ Some (keep, body (drop (suc q) g)))

pub record IsIndexFrom (g : List Symbol) (from : ℕ) (places : List ℕ) : Type 0 where
  pub long : length places ≡ 65536
  pub points : (n c : ℕ) → n < 256 → c < 256 → Points g from n c (get_or places (n * 256 + c) 0)

abbrev pub IsIndex : List Symbol → List ℕ → Type 0
IsIndex g places = IsIndexFrom g 0 places
