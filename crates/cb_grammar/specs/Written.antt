-- Lines of the grammar as one usually writes them, where the table has them in pieces.
use Rattle.std.specs.Prelude.{◌≡◌, ◌↔◌, ℕ, List, [], ◌∷◌, ◌++◌}
use Rattle.cb_lex.specs.declared.token.Keyword.TheVariants as keyword
use Rattle.cb_lex.specs.declared.token.Sign.TheVariants as sign
use Rattle.cb_engine.specs.declared.Symbol.{Symbol}
use Rattle.cb_engine.specs.declared.Symbol.TheVariants.{Take, Keep, Act, Part, Then}
use Rattle.cb_engine.specs.declared.Terminal.{Terminal}
use Rattle.cb_engine.specs.declared.Item.{Item}
use Rattle.cb_engine.specs.Rules.{Spells}
use Rattle.cb_engine.specs.Lines.{alternatives, OneOf, Repeated}
use Rattle.cb_grammar.specs.declared.table.TheConstants.{GRAMMAR}
use Rattle.cb_grammar.specs.declared.actions.TheConstants as action
use Rattle.cb_grammar.specs.Classes.{keyword_class, sign_class}
use Rattle.cb_grammar.specs.Numbers as part
use Rattle.cb_grammar.specs.Misreadings.{language}

-- A part spells exactly what one of its lines in the table spells: the table is a grammar as one reads it, in which the
-- order of the lines says nothing and each line counts.
abbrev pub LinesArePlain : Type 0
LinesArePlain = (n : ℕ) (k : List Symbol) (ts : List Terminal) (out : List Item) → Spells language (Part n ∷ k) ts out ↔ OneOf (λ a. Spells language (a ++ k) ts out) (alternatives GRAMMAR n)

-- The part spells exactly what the alternatives of the line spell, and writes the same for it.
abbrev pub IsWritten : ℕ → (List Symbol → Type 0) → Type 0
IsWritten n Line = (ts : List Terminal) (out : List Item) → Spells language (Part n ∷ []) ts out ↔ ((w : List Symbol) × (Line w × Spells language w ts out))

-- substitution = simple ("||" simple)*
abbrev pub beside : List Symbol
beside = Take (sign_class sign.Parallel) ∷ Part part.simple ∷ Act action.PARALLEL ∷ []

pub data SubstitutionLine : List Symbol → Type 0 where
  substitution : (x : List Symbol) → Repeated (beside ∷ []) x → SubstitutionLine (Part part.simple ∷ x)

-- part = unit | unit ("&" unit)+ | unit ("or" unit)+
abbrev pub and_unit : List Symbol
and_unit = Take (sign_class sign.And) ∷ Part part.unit ∷ Act action.AND ∷ []

abbrev pub or_unit : List Symbol
or_unit = Take (keyword_class keyword.Or) ∷ Part part.unit ∷ Act action.OR ∷ []

pub data PartLine : List Symbol → Type 0 where
  unit : PartLine (Part part.unit ∷ [])
  conjunction : (x : List Symbol) → Repeated (and_unit ∷ []) x → PartLine (Part part.unit ∷ and_unit ++ x)
  disjunction : (x : List Symbol) → Repeated (or_unit ∷ []) x → PartLine (Part part.unit ∷ or_unit ++ x)

abbrev pub opening : Symbol
opening = Take (sign_class sign.OpenParenthesis)

abbrev pub closing : Symbol
closing = Take (sign_class sign.CloseParenthesis)

abbrev pub dot : Symbol
dot = Take (sign_class sign.Dot)

-- unit = btrue | bfalse | not "(" formula ")" | "(" formula ")" | term relation
--     | "!" name "." "(" part "=>" part ")" | "#" name "." "(" part ")"
-- Behind `(` the part formula_or_term reads either, and goes on with after_formula or after_term. A term that begins with
-- no parenthesis begins with factor_start.
abbrev pub unit_lines : List (List Symbol)
unit_lines =
    (Take (keyword_class keyword.AlwaysTrue) ∷ Act action.ALWAYS_TRUE ∷ []) ∷
    (Take (keyword_class keyword.AlwaysFalse) ∷ Act action.ALWAYS_FALSE ∷ []) ∷
    (Take (keyword_class keyword.Not) ∷ opening ∷ Part part.formula ∷ closing ∷ Act action.NOT ∷ []) ∷
    (Take (sign_class sign.Bang) ∷ Keep 1 ∷ dot ∷ opening ∷ Part part.part ∷ Take (sign_class sign.Implies) ∷ Part part.part ∷ closing ∷ Act action.FOR_ALL ∷ []) ∷
    (Take (sign_class sign.Hash) ∷ Keep 1 ∷ dot ∷ opening ∷ Part part.part ∷ closing ∷ Act action.EXISTS ∷ []) ∷
    (opening ∷ Part part.formula_or_term ∷ Then part.after_formula part.after_term ∷ []) ∷
    (Part part.factor_start ∷ Part part.term_tail ∷ Part part.relation ∷ []) ∷ []

abbrev pub UnitLines : Type 0
UnitLines = alternatives GRAMMAR part.unit ≡ unit_lines

-- formula = part | part "=>" part | unit "<=>" unit
pub data FormulaLine : List Symbol → Type 0 where
  plain : FormulaLine (Part part.part ∷ [])
  implication : FormulaLine (Part part.part ∷ Take (sign_class sign.Implies) ∷ Part part.part ∷ Act action.IMPLIES ∷ [])
  equivalence : FormulaLine (Part part.unit ∷ Take (sign_class sign.Equivalent) ∷ Part part.unit ∷ Act action.EQUIVALENT ∷ [])

-- product = factor (("*" | "/" | "mod") factor)*
abbrev pub times_factor : List Symbol
times_factor = Keep (sign_class sign.Times) ∷ Part part.factor ∷ Act action.BINARY ∷ []

abbrev pub divided_factor : List Symbol
divided_factor = Keep (sign_class sign.Divide) ∷ Part part.factor ∷ Act action.BINARY ∷ []

abbrev pub mod_factor : List Symbol
mod_factor = Keep (keyword_class keyword.Mod) ∷ Part part.factor ∷ Act action.BINARY ∷ []

pub data ProductLine : List Symbol → Type 0 where
  product : (x : List Symbol) → Repeated (times_factor ∷ divided_factor ∷ mod_factor ∷ []) x → ProductLine (Part part.factor ∷ x)

-- sum = product (("+" | "-") product)*
abbrev pub plus_product : List Symbol
plus_product = Keep (sign_class sign.Plus) ∷ Part part.product ∷ Act action.BINARY ∷ []

abbrev pub minus_product : List Symbol
minus_product = Keep (sign_class sign.Minus) ∷ Part part.product ∷ Act action.SUBTRACT ∷ []

pub data SumLine : List Symbol → Type 0 where
  sum : (x : List Symbol) → Repeated (plus_product ∷ minus_product ∷ []) x → SumLine (Part part.product ∷ x)

-- term = sum | sum ".." sum | factor ("\/" factor)+ | factor ("/\" factor)+
abbrev pub to_sum : List Symbol
to_sum = Keep (sign_class sign.UpTo) ∷ Part part.sum ∷ Act action.BINARY ∷ []

abbrev pub union_factor : List Symbol
union_factor = Keep (sign_class sign.Union) ∷ Part part.factor ∷ Act action.BINARY ∷ []

abbrev pub intersection_factor : List Symbol
intersection_factor = Keep (sign_class sign.Intersection) ∷ Part part.factor ∷ Act action.BINARY ∷ []

pub data TermLine : List Symbol → Type 0 where
  sum : TermLine (Part part.sum ∷ [])
  range : TermLine (Part part.sum ∷ to_sum)
  union : (x : List Symbol) → Repeated (union_factor ∷ []) x → TermLine (Part part.factor ∷ union_factor ++ x)
  intersection : (x : List Symbol) → Repeated (intersection_factor ∷ []) x → TermLine (Part part.factor ∷ intersection_factor ++ x)

-- process = step | step ("[]" step)+ | step ("|~|" step)+
abbrev pub external_step : List Symbol
external_step = Take (sign_class sign.ExternalChoice) ∷ Part part.step ∷ Act action.APPEND_PROCESS ∷ []

abbrev pub internal_step : List Symbol
internal_step = Take (sign_class sign.InternalChoice) ∷ Part part.step ∷ Act action.APPEND_PROCESS ∷ []

pub data ProcessLine : List Symbol → Type 0 where
  step : ProcessLine (Part part.step ∷ [])
  external : (x : List Symbol) → Repeated (external_step ∷ []) x → ProcessLine (Part part.step ∷ Take (sign_class sign.ExternalChoice) ∷ Part part.step ∷ Act action.FIRST_TWO ∷ (x ++ Act action.EXTERNAL ∷ []))
  internal : (x : List Symbol) → Repeated (internal_step ∷ []) x → ProcessLine (Part part.step ∷ Take (sign_class sign.InternalChoice) ∷ Part part.step ∷ Act action.FIRST_TWO ∷ (x ++ Act action.INTERNAL ∷ []))

abbrev pub SubstitutionIsWritten : Type 0
SubstitutionIsWritten = IsWritten part.substitution SubstitutionLine

abbrev pub PartIsWritten : Type 0
PartIsWritten = IsWritten part.part PartLine

abbrev pub ProductIsWritten : Type 0
ProductIsWritten = IsWritten part.product ProductLine

abbrev pub SumIsWritten : Type 0
SumIsWritten = IsWritten part.sum SumLine

abbrev pub FormulaIsWritten : Type 0
FormulaIsWritten = IsWritten part.formula FormulaLine

abbrev pub ProcessIsWritten : Type 0
ProcessIsWritten = IsWritten part.process ProcessLine

abbrev pub TermIsWritten : Type 0
TermIsWritten = IsWritten part.term TermLine
