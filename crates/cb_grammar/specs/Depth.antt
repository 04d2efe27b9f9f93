-- How deep a text goes at each token.
use Rattle.std.specs.Prelude.{◌≡◌, ℕ, ◌+◌, ◌-◌, ◌≤◌, Bool, true, false, nat_lt, ◌||◌, ◌&&◌, not, if◌then◌else◌, List, [], ◌∷◌, Option, Some, None}
use Rattle.cb_grammar.specs.declared.depth.Mark.{Mark}
use Rattle.cb_grammar.specs.declared.depth.Mark.TheVariants as mark
use Rattle.cb_grammar.specs.declared.depth.Opening.{Opening}
use Rattle.cb_grammar.specs.declared.depth.Opening.TheVariants as opening
use Rattle.cb_grammar.specs.declared.depth.Level.{Level}
use Rattle.cb_grammar.specs.declared.depth.Counts.{Counts}

-- The open levels, the innermost first; the signs on the outermost; whether a proof is read; how many parentheses of
-- nodes are open.
pub record State : Type 0 where
  pub levels : List Level
  pub outer : ℕ
  pub proof : Bool
  pub nodes : ℕ

-- the open levels and the signs on them
abbrev pub signs_on : List Level → ℕ
signs_on [] = 0
signs_on (l ∷ ls) = 1 + l.signs + signs_on ls

abbrev pub depth : State → ℕ
depth s = signs_on s.levels + s.outer

abbrev pub is_bracket : Opening → Bool
is_bracket opening.Bracket = true
is_bracket opening.Grouping = false
is_bracket opening.Block = false
is_bracket opening.Elsif = false

abbrev pub in_brackets : List Level → Bool
in_brackets [] = false
in_brackets (l ∷ ls) = is_bracket l.opening || in_brackets ls

-- a parenthesis is one of nodes: in a proof outside [ and ]
abbrev pub of_nodes : State → Bool
of_nodes s = s.proof && not (in_brackets s.levels)

abbrev pub level : Opening → ℕ → Level
level k n = record { opening = k; signs = n }

abbrev pub with_levels : State → List Level → State
with_levels s ls = record { levels = ls; outer = s.outer; proof = s.proof; nodes = s.nodes }

abbrev pub with_nodes : State → ℕ → State
with_nodes s n = record { levels = s.levels; outer = s.outer; proof = s.proof; nodes = n }

abbrev pub with_outer : State → ℕ → State
with_outer s n = record { levels = s.levels; outer = n; proof = s.proof; nodes = s.nodes }

-- one sign more on the innermost level
abbrev pub one_more : State → List Level → State
one_more s [] = with_outer s (s.outer + 1)
one_more s (l ∷ ls) = with_levels s (level l.opening (l.signs + 1) ∷ ls)

-- no sign on the innermost level
abbrev pub no_signs : State → List Level → State
no_signs s [] = with_outer s 0
no_signs s (l ∷ ls) = with_levels s (level l.opening 0 ∷ ls)

abbrev pub reset : State → State
reset s = no_signs s s.levels

abbrev pub opened : Opening → State → State
opened k s = with_levels s (level k 0 ∷ s.levels)

-- the innermost level closes, if there is one
abbrev pub closed : List Level → List Level
closed [] = []
closed (l ∷ ls) = ls

abbrev pub is_elsif : Opening → Bool
is_elsif opening.Elsif = true
is_elsif opening.Bracket = false
is_elsif opening.Grouping = false
is_elsif opening.Block = false

-- an IF closes with all its ELSIFs
abbrev pub without_elsifs : List Level → List Level
without_elsifs [] = []
without_elsifs (l ∷ ls) = if is_elsif l.opening then without_elsifs ls else l ∷ ls

-- an END closes a level, or sets the outermost back
abbrev pub ended : State → List Level → State
ended s [] = with_outer s 0
ended s (l ∷ ls) = with_levels s (closed (without_elsifs (l ∷ ls)))

abbrev pub after : Mark → State → State
after mark.Parenthesis s = if of_nodes s then with_nodes s (s.nodes + 1) else opened opening.Grouping s
after mark.CloseParenthesis s = if of_nodes s then with_nodes s (s.nodes - 1) else with_levels s (closed s.levels)
after mark.Brace s = opened opening.Grouping s
after mark.Bracket s = opened opening.Bracket s
after mark.Close s = with_levels s (closed s.levels)
after mark.Block s = opened opening.Block s
after mark.Elsif s = opened opening.Elsif (reset s)
after mark.End s = ended s s.levels
after mark.Counted s = one_more s s.levels
after mark.Reset s = reset s
after mark.Proof s = record { levels = (reset s).levels; outer = (reset s).outer; proof = true; nodes = 0 }
after mark.Word s = s
after mark.Other s = s

abbrev pub is_word : Mark → Bool
is_word mark.Word = true
is_word mark.Parenthesis = false
is_word mark.CloseParenthesis = false
is_word mark.Brace = false
is_word mark.Bracket = false
is_word mark.Close = false
is_word mark.Block = false
is_word mark.Elsif = false
is_word mark.End = false
is_word mark.Counted = false
is_word mark.Reset = false
is_word mark.Proof = false
is_word mark.Other = false

-- The token with this mark, which leads to the state, is too deep: the depth, base before the first token, passes 200,
-- or the token is the rule of a node deeper than 500.
abbrev pub too_deep : ℕ → Mark → State → Bool
too_deep base m s = nat_lt 200 (base + depth s) || (is_word m && (of_nodes s && nat_lt 499 s.nodes))

-- before the first token
abbrev pub start : State
start = record { levels = []; outer = 0; proof = false; nodes = 0 }

-- the place of the first token that is too deep
abbrev pub first_deep : ℕ → State → ℕ → List Mark → Option ℕ
first_deep base s at [] = None
first_deep base s at (m ∷ ms) = if too_deep base m (after m s) then Some at else first_deep base (after m s) (at + 1) ms

-- the state that the walk keeps
abbrev pub state : Counts → List Level → State
state c ls = record { levels = ls; outer = c.outer; proof = c.proof; nodes = c.nodes }

abbrev pub IsSound : Counts → List Level → Type 0
IsSound c ls = c.depth ≡ signs_on ls + c.outer

-- one token leads from these counts and levels to those
abbrev pub IsAfter : Mark → Counts → List Level → Counts → List Level → Type 0
IsAfter m c ls d ms = (state d ms ≡ after m (state c ls)) × IsSound d ms × d.depth ≤ c.depth + 1 × d.nodes ≤ c.nodes + 1
