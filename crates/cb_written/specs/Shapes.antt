-- What lines are made of, where pieces may be left out or stand again and again.
use Rattle.std.specs.Prelude.{◌≡◌, List, [], ◌++◌}
use Rattle.std.proofs.Common.{◌⊎◌}
use Rattle.cb_engine.specs.declared.Symbol.{Symbol}

infixr 30 ◌before◌
-- just these symbols
abbrev pub Exactly : List Symbol → List Symbol → Type 0
Exactly u w = w ≡ u

-- the first and then the second
abbrev pub ◌before◌ : (List Symbol → Type 0) → (List Symbol → Type 0) → List Symbol → Type 0
◌before◌ P Q w = (u : List Symbol) × (v : List Symbol) × P u × Q v × (w ≡ u ++ v)

-- the one or the other
abbrev pub Either : (List Symbol → Type 0) → (List Symbol → Type 0) → List Symbol → Type 0
Either P Q w = P w ⊎ Q w

-- the shape or nothing
abbrev pub OrNothing : (List Symbol → Type 0) → List Symbol → Type 0
OrNothing P = Either P (Exactly [])
