-- What is written for terms and formulas: their words and actions in postfix order.
use Rattle.std.specs.Prelude.{ℕ, List, [], ◌∷◌, ◌++◌, Option, Some, None}
use Rattle.std.specs.List.{flat_map}
use Rattle.cb_lex.specs.declared.token.Sort.TheVariants.{Number, Keyword, Sign}
use Rattle.cb_lex.specs.declared.token.Keyword.TheVariants as keyword
use Rattle.cb_lex.specs.declared.token.Sign.TheVariants as sign
use Rattle.cb_lex.specs.declared.raw.name.RawName.{RawName}
use Rattle.cb_lex.specs.RawTermTree.{RawTermTree, RawTerms, RawFormulaTree, raw_terms}
use Rattle.cb_lex.specs.RawTermTree as tree
use Rattle.cb_grammar.specs.declared.actions.TheConstants.{NO_NAMES, APPEND_NAME, NO_TERMS, APPEND_TERM, NAME_TERM, NUMBER_TERM, MINUS, CARD, BOOL, LISTED, ALWAYS_TRUE, ALWAYS_FALSE, NOT, AND, OR, IMPLIES, EQUIVALENT, FOR_ALL, EXISTS, RELATION, SOME_CONDITION, NO_CONDITION}
use Rattle.cb_amn_parse.specs.Lexemes.{Lexeme, Named, Said, Did}
use Rattle.cb_amn_parse.specs.Words.{atom_sort, atom_action, operator_sort, operator_action, relation_sort}

abbrev mutual
  pub term_out : RawTermTree → List Lexeme
  term_out (tree.Number n p) = Said (Number n) p ∷ Did NUMBER_TERM ∷ []
  term_out (tree.Name x) = Named x ∷ Did NAME_TERM ∷ []
  term_out (tree.Atom a p) = Said (atom_sort a) p ∷ Did (atom_action a) ∷ []
  term_out (tree.Binary o p l r) = term_out l ++ Said (operator_sort o) p ∷ term_out r ++ Did (operator_action o) ∷ []
  term_out (tree.Minus p t) = Said (Sign sign.Minus) p ∷ term_out t ++ Did MINUS ∷ []
  term_out (tree.Card p t) = Said (Keyword keyword.Card) p ∷ term_out t ++ Did CARD ∷ []
  term_out (tree.TruthOf p f) = Said (Keyword keyword.Bool) p ∷ formula_out f ++ Did BOOL ∷ []
  term_out (tree.Listed p ts) = Said (Sign sign.OpenBrace) p ∷ Did NO_TERMS ∷ listed_out ts ++ Did LISTED ∷ []

  pub listed_out : RawTerms → List Lexeme
  listed_out tree.End = []
  listed_out (tree.More t ts) = term_out t ++ Did APPEND_TERM ∷ listed_out ts

  pub formula_out : RawFormulaTree → List Lexeme
  formula_out tree.True = Did ALWAYS_TRUE ∷ []
  formula_out tree.False = Did ALWAYS_FALSE ∷ []
  formula_out (tree.Not f) = formula_out f ++ Did NOT ∷ []
  formula_out (tree.And f g) = formula_out f ++ formula_out g ++ Did AND ∷ []
  formula_out (tree.Or f g) = formula_out f ++ formula_out g ++ Did OR ∷ []
  formula_out (tree.Implies f g) = formula_out f ++ formula_out g ++ Did IMPLIES ∷ []
  formula_out (tree.Equivalent f g) = formula_out f ++ formula_out g ++ Did EQUIVALENT ∷ []
  formula_out (tree.Relation r p a b) = term_out a ++ Said (relation_sort r) p ∷ term_out b ++ Did RELATION ∷ []
  formula_out (tree.Every x d f) = Named x ∷ formula_out d ++ formula_out f ++ Did FOR_ALL ∷ []
  formula_out (tree.Exists x f) = Named x ∷ formula_out f ++ Did EXISTS ∷ []

abbrev pub terms_out : List RawTermTree → List Lexeme
terms_out ts = Did NO_TERMS ∷ listed_out (raw_terms ts)

abbrev pub name_entry : RawName → List Lexeme
name_entry x = Named x ∷ Did APPEND_NAME ∷ []

abbrev pub names_out : List RawName → List Lexeme
names_out xs = Did NO_NAMES ∷ flat_map name_entry xs

abbrev pub condition_out : Option RawFormulaTree → List Lexeme
condition_out None = Did NO_CONDITION ∷ []
condition_out (Some f) = formula_out f ++ Did SOME_CONDITION ∷ []
