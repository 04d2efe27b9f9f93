-- A grammar as a flat list of symbols: the alternatives of its parts.
use Rattle.std.specs.Prelude.{ℕ, zero, suc, Bool, ◌&&◌, eqb, if◌then◌else◌, List, [], ◌∷◌, Option, Some, None}
use Rattle.cb_engine.specs.declared.Symbol.{Symbol}
use Rattle.cb_engine.specs.declared.Symbol.TheVariants.{Take, Keep, Act, Part, Gives, Then, Line}
use Rattle.cb_engine.specs.Rules.{Rules, group}

-- the symbols before the next line
abbrev pub body : List Symbol → List Symbol
body [] = []
body (Line n c keep ∷ g) = []
body (Take c ∷ g) = Take c ∷ body g
body (Keep c ∷ g) = Keep c ∷ body g
body (Act a ∷ g) = Act a ∷ body g
body (Part n ∷ g) = Part n ∷ body g
body (Gives s ∷ g) = Gives s ∷ body g
body (Then a b ∷ g) = Then a b ∷ body g

-- the first line of the part with the key
abbrev pub find_line : List Symbol → ℕ → ℕ → Option (Bool × List Symbol)
find_line [] n c = None
find_line (Line m k keep ∷ g) n c = if eqb m n && eqb k c then Some (keep, body g) else find_line g n c
find_line (_ ∷ g) n c = find_line g n c

abbrev pub body_of : Option (Bool × List Symbol) → Option (List Symbol)
body_of None = None
body_of (Some l) = Some l.1

abbrev pub either : Option (Bool × List Symbol) → Option (Bool × List Symbol) → Option (Bool × List Symbol)
either None o = o
either (Some l) o = Some l

-- The alternative that a token of the class takes: the one with its class as the key, else the one with its group.
-- No token has the class 0.
abbrev pub keyed_in : List Symbol → ℕ → ℕ → Option (Bool × List Symbol)
keyed_in g n zero = None
keyed_in g n (suc c) = either (find_line g n (suc c)) (find_line g n (group (suc c)))

-- the alternatives that the list gives
abbrev pub rules_of : List Symbol → Rules
rules_of g = record { keyed = keyed_in g; otherwise = λ n. body_of (find_line g n 0) }
