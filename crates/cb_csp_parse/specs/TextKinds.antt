-- The kinds of the values from which texts without proofs are built, and the actions that build them.
use Rattle.std.specs.Prelude.{◌≡◌, ℕ, Bool, true, false, ◌&&◌, List, [], ◌∷◌, Some}
use Rattle.cb_lex.specs.declared.token.Sort.{Sort}
use Rattle.cb_lex.specs.declared.token.Sort.TheVariants.{Keyword}
use Rattle.cb_lex.specs.declared.token.Keyword.TheVariants as keyword
use Rattle.cb_engine.specs.declared.Item.{Item}
use Rattle.cb_engine.specs.Rules.{stands, group}
use Rattle.cb_engine.specs.Kinds.{kinds}
use Rattle.cb_grammar.specs.Signatures.{signatures, word_kind, stop_kind, skip_kind, if_kind, text_kind, machines_kind, channels_kind, controllers_kind, controller_kind, parameter_kind, parameters_kind, definitions_kind, process_kind, chain_kind, event_kind}
use Rattle.cb_amn_parse.specs.Own.{own_kinds}

-- the kinds of texts, channels, controllers and processes, and those of machines
abbrev pub text_kinds : List ℕ
text_kinds =
    stop_kind ∷ skip_kind ∷ if_kind ∷ text_kind ∷ machines_kind ∷ channels_kind ∷ controllers_kind ∷ controller_kind ∷
    parameter_kind ∷ parameters_kind ∷ definitions_kind ∷ process_kind ∷ chain_kind ∷ event_kind ∷ own_kinds

abbrev pub are_of_texts : List ℕ → Bool
are_of_texts [] = true
are_of_texts (k ∷ ks) = stands text_kinds k && are_of_texts ks

-- the words of processes that are kept
abbrev pub is_process_word : Sort → Bool
is_process_word (Keyword keyword.Stop) = true
is_process_word (Keyword keyword.SkipProcess) = true
is_process_word (Keyword keyword.If) = true
is_process_word _ = false

abbrev pub IsTextWord : ℕ → Type 0
IsTextWord c = stands text_kinds (word_kind (group c)) ≡ true

abbrev pub IsTextAction : ℕ → Type 0
IsTextAction a = are_of_texts (signatures.action a).leaves ≡ true

-- the item fits on a stack of these kinds, and what is left after it and others are values of texts
abbrev pub FitsText : List ℕ → Item → Type 0
FitsText k item = (items : List Item) × (end : List ℕ) × (kinds signatures (item ∷ items) k ≡ Some end) × (are_of_texts end ≡ true)
