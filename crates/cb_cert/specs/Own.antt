-- The kinds of the values from which proofs are built, and the actions that build them.
use Rattle.std.specs.Prelude.{◌≡◌, ℕ, Bool, true, false, ◌&&◌, List, [], ◌∷◌, Some}
use Rattle.cb_engine.specs.declared.Item.{Item}
use Rattle.cb_engine.specs.Rules.{stands}
use Rattle.cb_engine.specs.Kinds.{kinds}
use Rattle.cb_lex.specs.declared.token.Sort.{Sort}
use Rattle.cb_lex.specs.declared.token.Sort.TheVariants as sort
use Rattle.cb_lex.specs.declared.token.Keyword.TheVariants as keyword
use Rattle.cb_grammar.specs.Signatures.{signatures, name_kind, number_kind, limit_kind, truth_kind, set_kind, relation_kind, operator_kind, minus_kind, card_kind, bool_kind, brace_kind, initialisation_kind, start_kind, formula_kind, term_kind, terms_kind, obligation_kind, node_kind, nodes_kind, row_kind, rows_kind, proofs_kind}

abbrev pub proof_kinds : List ℕ
proof_kinds =
    name_kind ∷ number_kind ∷ limit_kind ∷ truth_kind ∷ set_kind ∷ relation_kind ∷ operator_kind ∷ minus_kind ∷ card_kind ∷
    bool_kind ∷ brace_kind ∷ initialisation_kind ∷ start_kind ∷ formula_kind ∷ term_kind ∷ terms_kind ∷ obligation_kind ∷
    node_kind ∷ nodes_kind ∷ row_kind ∷ rows_kind ∷ proofs_kind ∷ []

abbrev pub are_of_proofs : List ℕ → Bool
are_of_proofs [] = true
are_of_proofs (k ∷ ks) = stands proof_kinds k && are_of_proofs ks

abbrev pub IsProofAction : ℕ → Type 0
IsProofAction a = are_of_proofs (signatures.action a).leaves ≡ true

-- every word but the two keywords that only names of obligations have
abbrev pub is_formula_word : Sort → Bool
is_formula_word (sort.Keyword keyword.Start) = false
is_formula_word (sort.Keyword keyword.Initialisation) = false
is_formula_word _ = true

-- the item fits on a stack of these kinds, and what is left after it and others are values of these kinds
abbrev pub FitsProofs : List ℕ → Item → Type 0
FitsProofs k item = (items : List Item) × (end : List ℕ) × (kinds signatures (item ∷ items) k ≡ Some end) × (are_of_proofs end ≡ true)
