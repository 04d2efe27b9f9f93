-- The choices of a chain of `|~|`, operand by operand.
use Rattle.std.specs.Prelude.{ℕ, max, Option, Some, None}
use Rattle.cb_text_laws.specs.SilentFaults.{one_more}

-- the choices with one operand more; there are none before the first
abbrev pub linked : Option ℕ → ℕ → ℕ
linked None n = n
linked (Some m) n = one_more (max m n)
