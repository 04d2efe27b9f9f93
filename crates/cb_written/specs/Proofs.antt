-- The lines of proofs, of the names of obligations and of nodes as one usually writes them.
use Rattle.std.specs.Prelude.{ℕ, zero, suc, List, [], ◌∷◌, ◌++◌, codes}
use Rattle.cb_lex.specs.declared.token.Keyword.TheVariants as keyword
use Rattle.cb_lex.specs.declared.token.Sign.TheVariants as sign
use Rattle.cb_engine.specs.declared.Symbol.{Symbol}
use Rattle.cb_engine.specs.declared.Symbol.TheVariants.{Take, Keep, Act, Part}
use Rattle.cb_engine.specs.Lines.{Among, Repeated}
use Rattle.cb_grammar.specs.declared.actions.TheConstants as action
use Rattle.cb_grammar.specs.Classes.{keyword_class, sign_class}
use Rattle.cb_grammar.specs.Terminals.{word_class}
use Rattle.cb_grammar.specs.Numbers as part
use Rattle.cb_grammar.specs.Written.{IsWritten, opening, closing}
use Rattle.cb_written.specs.Texts.{one_proof, finish}
use Rattle.cb_written.specs.Shapes.{Exactly, ◌before◌, Either}

-- before_proofs = text (PROOF | finish)
abbrev pub proof_or_finish : List (List Symbol)
proof_or_finish = (Take (keyword_class keyword.Proof) ∷ []) ∷ (Take finish ∷ []) ∷ []

abbrev pub BeforeProofsLine : List Symbol → Type 0
BeforeProofsLine = Exactly (Part part.text ∷ []) before Among proof_or_finish

abbrev pub BeforeProofsIsWritten : Type 0
BeforeProofsIsWritten = IsWritten part.before_proofs BeforeProofsLine

-- proofs = (PROOF obligation node END)*
abbrev pub ProofsLine : List Symbol → Type 0
ProofsLine = Exactly (Act action.NO_PROOFS ∷ []) before Repeated (one_proof ∷ [])

abbrev pub ProofsAreWritten : Type 0
ProofsAreWritten = IsWritten part.proofs ProofsLine

-- only_proofs = proofs finish
abbrev pub OnlyProofsAreWritten : Type 0
OnlyProofsAreWritten = IsWritten part.only_proofs (ProofsLine before Exactly (Take finish ∷ []))

-- a word with a meaning of its own
abbrev pub word : List ℕ → Symbol
word text = Keep (word_class text)

abbrev pub colon : Symbol
colon = Take (sign_class sign.Member)

-- ":" name ":" name ":" number
abbrev pub of_part : List Symbol
of_part = colon ∷ Keep 1 ∷ colon ∷ Keep 1 ∷ colon ∷ Keep 2 ∷ Act action.OBLIGATION_OF_PART ∷ []

-- obligation = INIT ":" name ":" number | START ":" name ":" number | (OP | LOOP | MATCH | LIVE) ":" name ":" name ":" number
--     | LIVE ":" name ":" INITIALISATION ":" number
abbrev pub obligation_lines : List (List Symbol)
obligation_lines =
    (word (codes "INIT") ∷ colon ∷ Keep 1 ∷ colon ∷ Keep 2 ∷ Act action.OBLIGATION_OF_OWNER ∷ []) ∷
    (Keep (keyword_class keyword.Start) ∷ colon ∷ Keep 1 ∷ colon ∷ Keep 2 ∷ Act action.OBLIGATION_OF_START ∷ []) ∷
    (word (codes "OP") ∷ of_part) ∷ (word (codes "LOOP") ∷ of_part) ∷ (word (codes "MATCH") ∷ of_part) ∷ (word (codes "LIVE") ∷ of_part) ∷
    (word (codes "LIVE") ∷ colon ∷ Keep 1 ∷ colon ∷ Keep (keyword_class keyword.Initialisation) ∷ colon ∷ Keep 2 ∷ Act action.OBLIGATION_OF_INITIALISATION ∷ []) ∷ []

abbrev pub ObligationIsWritten : Type 0
ObligationIsWritten = IsWritten part.obligation (Among obligation_lines)

-- row = number "*" ["-"] number
abbrev pub row_lines : List (List Symbol)
row_lines =
    (Keep 2 ∷ Take (sign_class sign.Times) ∷ Take (sign_class sign.Minus) ∷ Keep 2 ∷ Act action.MINUS_ROW ∷ []) ∷
    (Keep 2 ∷ Take (sign_class sign.Times) ∷ Keep 2 ∷ Act action.ROW ∷ []) ∷ []

abbrev pub RowIsWritten : Type 0
RowIsWritten = IsWritten part.row (Among row_lines)

-- the nodes of a rule's premises: "(" node ("," node)* ")", or nothing where it has none
abbrev pub more_node : List Symbol
more_node = Take (sign_class sign.Comma) ∷ Part part.node ∷ Act action.APPEND_NODE ∷ []

abbrev pub more_nodes : ℕ → List Symbol
more_nodes zero = closing ∷ []
more_nodes (suc n) = more_node ++ more_nodes n

abbrev pub first_node : List Symbol
first_node = opening ∷ Act action.NO_NODES ∷ Part part.node ∷ Act action.APPEND_NODE ∷ []

abbrev pub premises : ℕ → List Symbol
premises zero = Act action.NO_NODES ∷ []
premises (suc n) = first_node ++ more_nodes n

-- a rule's word, its arguments, and the nodes of so many premises
abbrev pub rule : List ℕ → List Symbol → ℕ → ℕ → List Symbol
rule text arguments n a = word text ∷ arguments ++ (premises n ++ Act a ∷ [])

abbrev pub number : List Symbol
number = Keep 2 ∷ []

abbrev pub bracketed : ℕ → List Symbol
bracketed p = Take (sign_class sign.OpenBracket) ∷ Part p ∷ Take (sign_class sign.CloseBracket) ∷ []

abbrev pub term : List Symbol
term = bracketed part.term

abbrev pub formula : List Symbol
formula = bracketed part.formula

abbrev pub first_rules : List (List Symbol)
first_rules =
    rule (codes "HYP") number 0 action.RULE_HYPOTHESIS ∷
    rule (codes "CONTRA") (number ++ number) 0 action.RULE_TWO_HYPOTHESES ∷
    rule (codes "EVAL") [] 0 action.RULE ∷
    rule (codes "EVALNOT") number 0 action.RULE_HYPOTHESIS ∷
    rule (codes "REFL") [] 0 action.RULE ∷ []

-- LIN "[" row ("," row)* "]"
abbrev pub more_row : List Symbol
more_row = Take (sign_class sign.Comma) ∷ Part part.row ∷ Act action.APPEND_ROW ∷ []

abbrev pub LinearLine : List Symbol → Type 0
LinearLine =
    Exactly (word (codes "LIN") ∷ Take (sign_class sign.OpenBracket) ∷ Act action.NO_ROWS ∷ Part part.row ∷ Act action.APPEND_ROW ∷ []) before Repeated (more_row ∷ []) before
    Exactly (Take (sign_class sign.CloseBracket) ∷ Act action.NO_NODES ∷ Act action.RULE_ROWS ∷ [])

abbrev pub second_rules : List (List Symbol)
second_rules =
    rule (codes "CUT") formula 2 action.RULE_FORMULA ∷
    rule (codes "CASES") formula 2 action.RULE_FORMULA ∷
    rule (codes "ANDR") [] 2 action.RULE ∷
    rule (codes "OR1") [] 1 action.RULE ∷
    rule (codes "OR2") [] 1 action.RULE ∷
    rule (codes "IMPR") [] 1 action.RULE ∷
    rule (codes "NOTR") [] 1 action.RULE ∷
    rule (codes "IFFR") [] 2 action.RULE ∷
    rule (codes "ALLR") [] 1 action.RULE ∷
    rule (codes "EXR") term 1 action.RULE_TERM ∷
    rule (codes "ANDL") number 1 action.RULE_HYPOTHESIS ∷
    rule (codes "ORL") number 2 action.RULE_HYPOTHESIS ∷
    rule (codes "IMPL") number 2 action.RULE_HYPOTHESIS ∷
    rule (codes "IFFL") number 1 action.RULE_HYPOTHESIS ∷
    rule (codes "NOTL") number 1 action.RULE_HYPOTHESIS ∷
    rule (codes "ALLL") (number ++ term) 1 action.RULE_HYPOTHESIS_TERM ∷
    rule (codes "EXL") number 1 action.RULE_HYPOTHESIS ∷
    rule (codes "EQ") number 1 action.RULE_HYPOTHESIS ∷
    rule (codes "EQIN") (number ++ number) 1 action.RULE_TWO_HYPOTHESES ∷
    rule (codes "BOOLCASES") term 2 action.RULE_TERM ∷
    rule (codes "BOOLR") [] 1 action.RULE ∷
    rule (codes "BOOLL") number 1 action.RULE_HYPOTHESIS ∷ []

-- ELEMS "[" term "]" "(" node ("," node)* ")"
abbrev pub ElementsLine : List Symbol → Type 0
ElementsLine = Exactly (word (codes "ELEMS") ∷ term ++ first_node) before Repeated (more_node ∷ []) before Exactly (closing ∷ Act action.RULE_TERM ∷ [])

abbrev pub last_rules : List (List Symbol)
last_rules =
    rule (codes "SPLIT") (term ++ term) 3 action.RULE_TWO_TERMS ∷
    rule (codes "EQLE") [] 2 action.RULE ∷
    rule (codes "RNG") [] 2 action.RULE ∷
    rule (codes "RNGL") number 1 action.RULE_HYPOTHESIS ∷
    rule (codes "DIVMOD") (term ++ number) 1 action.RULE_TERM_NUMBER ∷
    rule (codes "MULSIGN") (term ++ term) 3 action.RULE_TWO_TERMS ∷
    rule (codes "MEMBER") [] 1 action.RULE ∷
    rule (codes "MEMBERL") number 1 action.RULE_HYPOTHESIS ∷
    rule (codes "SUBSET") [] 1 action.RULE ∷
    rule (codes "SUBSETL") (number ++ term) 1 action.RULE_HYPOTHESIS_TERM ∷
    rule (codes "EXT") [] 2 action.RULE ∷
    rule (codes "CARDPOS") term 1 action.RULE_TERM ∷
    rule (codes "CARDADD") (term ++ term) 2 action.RULE_TWO_TERMS ∷
    rule (codes "CARDDEL") (term ++ term) 2 action.RULE_TWO_TERMS ∷
    rule (codes "CARDSUB") (term ++ term) 2 action.RULE_TWO_TERMS ∷ []

-- node = a rule's word with its arguments and the nodes of its premises
abbrev pub NodeLine : List Symbol → Type 0
NodeLine = Either (Among first_rules) (Either LinearLine (Either (Among second_rules) (Either ElementsLine (Among last_rules))))

abbrev pub NodeIsWritten : Type 0
NodeIsWritten = IsWritten part.node NodeLine
