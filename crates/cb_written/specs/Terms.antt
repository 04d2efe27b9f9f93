-- The lines of factors and of lists of terms as one usually writes them.
use Rattle.std.specs.Prelude.{ℕ, List, [], ◌∷◌}
use Rattle.cb_lex.specs.declared.token.Keyword.{Keyword}
use Rattle.cb_lex.specs.declared.token.Keyword.TheVariants as keyword
use Rattle.cb_lex.specs.declared.token.Sign.TheVariants as sign
use Rattle.cb_engine.specs.declared.Symbol.{Symbol}
use Rattle.cb_engine.specs.declared.Symbol.TheVariants.{Take, Keep, Act, Part}
use Rattle.cb_engine.specs.Lines.{Among, Repeated}
use Rattle.cb_grammar.specs.declared.actions.TheConstants as action
use Rattle.cb_grammar.specs.Classes.{keyword_class, sign_class}
use Rattle.cb_grammar.specs.Numbers as part
use Rattle.cb_grammar.specs.Written.{IsWritten, opening, closing}
use Rattle.cb_written.specs.Shapes.{Exactly, ◌before◌}

-- a keyword that is a term by itself
abbrev pub word_term : Keyword → ℕ → List Symbol
word_term k a = Keep (keyword_class k) ∷ Act a ∷ []

-- factor = "(" term ")" | name | number | TRUE | FALSE | MAXINT | MININT | NAT | NAT1 | INT | BOOL | "-" factor
--     | card "(" term ")" | bool "(" formula ")" | "{" [terms] "}"
abbrev pub factor_lines : List (List Symbol)
factor_lines =
    (opening ∷ Part part.term ∷ closing ∷ []) ∷ (Keep 1 ∷ Act action.NAME_TERM ∷ []) ∷ (Keep 2 ∷ Act action.NUMBER_TERM ∷ []) ∷
    word_term keyword.True action.TRUTH_TERM ∷ word_term keyword.False action.TRUTH_TERM ∷
    word_term keyword.MaxInt action.LIMIT_TERM ∷ word_term keyword.MinInt action.LIMIT_TERM ∷
    word_term keyword.Nat action.SET_TERM ∷ word_term keyword.Nat1 action.SET_TERM ∷ word_term keyword.Int action.SET_TERM ∷ word_term keyword.Truths action.SET_TERM ∷
    (Keep (sign_class sign.Minus) ∷ Part part.factor ∷ Act action.MINUS ∷ []) ∷
    (Keep (keyword_class keyword.Card) ∷ opening ∷ Part part.term ∷ closing ∷ Act action.CARD ∷ []) ∷
    (Keep (keyword_class keyword.Bool) ∷ opening ∷ Part part.formula ∷ closing ∷ Act action.BOOL ∷ []) ∷
    (Keep (sign_class sign.OpenBrace) ∷ Act action.NO_TERMS ∷ Take (sign_class sign.CloseBrace) ∷ Act action.LISTED ∷ []) ∷
    (Keep (sign_class sign.OpenBrace) ∷ Act action.NO_TERMS ∷ Part part.terms ∷ Take (sign_class sign.CloseBrace) ∷ Act action.LISTED ∷ []) ∷ []

abbrev pub FactorIsWritten : Type 0
FactorIsWritten = IsWritten part.factor (Among factor_lines)

-- terms = term ("," term)*
abbrev pub more_term : List Symbol
more_term = Take (sign_class sign.Comma) ∷ Part part.term ∷ Act action.APPEND_TERM ∷ []

abbrev pub TermsLine : List Symbol → Type 0
TermsLine = Exactly (Part part.term ∷ Act action.APPEND_TERM ∷ []) before Repeated (more_term ∷ [])

abbrev pub TermsAreWritten : Type 0
TermsAreWritten = IsWritten part.terms TermsLine
