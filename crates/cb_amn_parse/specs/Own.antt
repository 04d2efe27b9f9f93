-- The kinds of the values from which machines, formulas, terms and domains are built, and the actions that build them.
use Rattle.std.specs.Prelude.{◌≡◌, ℕ, Bool, true, false, ◌&&◌, ◌||◌, nat_le, List, [], ◌∷◌, Some}
use Rattle.cb_engine.specs.declared.Item.{Item}
use Rattle.cb_engine.specs.Rules.{stands, group}
use Rattle.cb_engine.specs.Kinds.{kinds}
use Rattle.cb_lex.specs.declared.token.Sort.{Sort}
use Rattle.cb_grammar.specs.Terminals.{class_of}
use Rattle.cb_grammar.specs.Signatures.{signatures, word_kind, name_kind, number_kind, limit_kind, truth_kind, set_kind, relation_kind, operator_kind, minus_kind, card_kind, bool_kind, brace_kind, machine_kind, names_kind, sets_kind, literal_kind, properties_kind, state_kind, operations_kind, substitution_kind, sides_kind, domain_kind, bound_kind, end_kind, condition_kind, formula_kind, term_kind, terms_kind}

abbrev pub own_kinds : List ℕ
own_kinds =
    name_kind ∷ number_kind ∷ limit_kind ∷ truth_kind ∷ set_kind ∷ relation_kind ∷ operator_kind ∷ minus_kind ∷ card_kind ∷
    bool_kind ∷ brace_kind ∷ machine_kind ∷ names_kind ∷ sets_kind ∷ literal_kind ∷ properties_kind ∷ state_kind ∷
    operations_kind ∷ substitution_kind ∷ sides_kind ∷ domain_kind ∷ bound_kind ∷ end_kind ∷ condition_kind ∷ formula_kind ∷
    term_kind ∷ terms_kind ∷ []

abbrev pub are_own : List ℕ → Bool
are_own [] = true
are_own (k ∷ ks) = stands own_kinds k && are_own ks

-- The kind of a word by its token. An opened name is a name wherever it may stand.
abbrev pub sort_kind : Sort → ℕ
sort_kind s = word_kind (group (class_of true s))

abbrev pub IsOwnSort : Sort → Type 0
IsOwnSort s = stands own_kinds (sort_kind s) ≡ true

abbrev pub IsOwnAction : ℕ → Type 0
IsOwnAction a = are_own (signatures.action a).leaves ≡ true

-- the item fits on a stack of these kinds, and what is left after it and others are values of these kinds
abbrev pub FitsOwn : List ℕ → Item → Type 0
FitsOwn k item = (items : List Item) × (end : List ℕ) × (kinds signatures (item ∷ items) k ≡ Some end) × (are_own end ≡ true)

-- what fits from the item on fits after it
abbrev pub GoesOn : List ℕ → List ℕ → Item → Type 0
GoesOn old new item = (items : List Item) (end : List ℕ) → kinds signatures (item ∷ items) old ≡ Some end → kinds signatures items new ≡ Some end
