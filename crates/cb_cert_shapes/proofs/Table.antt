-- Finer kinds for proofs: nodes by how many they are, rows by whether there are any, and words with their marks; and the
-- test of the grammar's table with them.
use Rattle.std.specs.Prelude.{◌≡◌, ℕ, ◌+◌, nat_lt, true, refl, eqb, if◌then◌else◌, List, [], ◌∷◌, ◌++◌, map, Some, None}
use Rattle.cb_engine.specs.Kinds.{Effect, Signature}
use Rattle.cb_engine.specs.Rules.{Runs}
use Rattle.cb_engine.specs.Tables.{rules_of}
use Rattle.cb_engine.specs.declared.Terminal.{Terminal}
use Rattle.cb_engine.specs.declared.Item.{Item}
use Rattle.cb_grammar.specs.declared.table.TheConstants.{GRAMMAR}
use Rattle.cb_grammar.specs.declared.actions.TheConstants.{OBLIGATION_OF_OWNER, OBLIGATION_OF_PART, OBLIGATION_OF_INITIALISATION, NO_NODES, APPEND_NODE, NO_ROWS, APPEND_ROW, RULE, RULE_HYPOTHESIS, RULE_TWO_HYPOTHESES, RULE_ROWS, RULE_FORMULA, RULE_TERM, RULE_TWO_TERMS, RULE_HYPOTHESIS_TERM, RULE_TERM_NUMBER}
use Rattle.cb_grammar.specs.declared.parts.Part.{Part}
use Rattle.cb_grammar.specs.declared.parts.Part.TheVariants as language_part
use Rattle.cb_grammar.specs.Numbers as part
use Rattle.cb_grammar.specs.Misreadings.{symbols_of}
use Rattle.cb_grammar.specs.Parts.{kinds_left}
use Rattle.cb_grammar.specs.Signatures.{signatures, formula_kind, term_kind, obligation_kind, node_kind, row_kind, rows_kind}
use Rattle.cb_shapes.proofs.Finer.{Outcome, Passage, Finer, kinds, leads, all_lead}
use Rattle.cb_shapes.proofs.Following.{follows, tested}
use Rattle.cb_cert_shapes.proofs.Marked.{is_word, marked}

-- A word without its mark. The grammar's kind of rows is that of lists with entries.
abbrev pub word_kind : ℕ
word_kind = 0

abbrev pub no_rows : ℕ
no_rows = 50

-- no nodes, and more by one each; the last are four or more
abbrev pub no_nodes : ℕ
no_nodes = 51

abbrev pub one_node : ℕ
one_node = 52

abbrev pub two_nodes : ℕ
two_nodes = 53

abbrev pub three_nodes : ℕ
three_nodes = 54

abbrev pub more_nodes : ℕ
more_nodes = 55

-- the kind of a word with its mark is its class: the words are numbered as they stand in the grammar's list
abbrev pub mark : ℕ → ℕ
mark i = 128 + i

abbrev effect : List ℕ → ℕ → Effect
effect t l = record { takes = t; leaves = l ∷ [] }

-- ---- rules

-- by the kind of the nodes, the words that take as many
abbrev pub WordTable : Type 0
WordTable = List (ℕ × List ℕ)

-- EVAL REFL; OR1 OR2 IMPR NOTR ALLR BOOLR MEMBER SUBSET; ANDR IFFR EQLE RNG EXT
abbrev pub plain_words : WordTable
plain_words = (no_nodes, 7 ∷ 9 ∷ []) ∷ (one_node, 14 ∷ 15 ∷ 16 ∷ 17 ∷ 19 ∷ 31 ∷ 40 ∷ 42 ∷ []) ∷ (two_nodes, 13 ∷ 18 ∷ 35 ∷ 36 ∷ 44 ∷ []) ∷ []

-- HYP EVALNOT; ANDL IFFL NOTL EXL EQ BOOLL RNGL MEMBERL; ORL IMPL
abbrev pub hypothesis_words : WordTable
hypothesis_words = (no_nodes, 5 ∷ 8 ∷ []) ∷ (one_node, 21 ∷ 24 ∷ 25 ∷ 27 ∷ 28 ∷ 32 ∷ 37 ∷ 41 ∷ []) ∷ (two_nodes, 22 ∷ 23 ∷ []) ∷ []

-- CONTRA; EQIN
abbrev pub two_hypotheses_words : WordTable
two_hypotheses_words = (no_nodes, 6 ∷ []) ∷ (one_node, 29 ∷ []) ∷ []

-- LIN
abbrev pub rows_words : WordTable
rows_words = (no_nodes, 10 ∷ []) ∷ []

-- CUT CASES
abbrev pub formula_words : WordTable
formula_words = (two_nodes, 11 ∷ 12 ∷ []) ∷ []

-- ELEMS EXR CARDPOS; ELEMS BOOLCASES; ELEMS
abbrev pub term_words : WordTable
term_words = (one_node, 33 ∷ 20 ∷ 45 ∷ []) ∷ (two_nodes, 33 ∷ 30 ∷ []) ∷ (three_nodes, 33 ∷ []) ∷ (more_nodes, 33 ∷ []) ∷ []

-- CARDADD CARDDEL CARDSUB; SPLIT MULSIGN
abbrev pub two_terms_words : WordTable
two_terms_words = (two_nodes, 46 ∷ 47 ∷ 48 ∷ []) ∷ (three_nodes, 34 ∷ 39 ∷ []) ∷ []

-- ALLL SUBSETL
abbrev pub hypothesis_term_words : WordTable
hypothesis_term_words = (one_node, 26 ∷ 43 ∷ []) ∷ []

-- DIVMOD
abbrev pub term_number_words : WordTable
term_number_words = (one_node, 38 ∷ []) ∷ []

abbrev pub words_effects : ℕ → List ℕ → List ℕ → List Effect
words_effects nodes given [] = []
words_effects nodes given (i ∷ is) = effect (nodes ∷ given ++ mark i ∷ []) node_kind ∷ words_effects nodes given is

-- what an action of rules takes: the nodes, the arguments and the word
abbrev pub rule_effects : List ℕ → WordTable → List Effect
rule_effects given [] = []
rule_effects given (e ∷ es) = words_effects e.0 given e.1 ++ rule_effects given es

-- ---- names of obligations

-- INIT
abbrev pub owner_words : List ℕ
owner_words = 0 ∷ []

-- LIVE OP LOOP MATCH
abbrev pub part_words : List ℕ
part_words = 4 ∷ 1 ∷ 2 ∷ 3 ∷ []

-- LIVE
abbrev pub initialisation_words : List ℕ
initialisation_words = 4 ∷ []

-- what such an action takes: other words and the group
abbrev pub group_effects : List ℕ → List ℕ → List Effect
group_effects given [] = []
group_effects given (i ∷ is) = effect (given ++ mark i ∷ []) obligation_kind ∷ group_effects given is

-- ---- the table

abbrev finer_actions : List (ℕ × List Effect)
finer_actions =
    (NO_NODES, effect [] no_nodes ∷ []) ∷ (
      APPEND_NODE,
      effect (node_kind ∷ no_nodes ∷ []) one_node ∷ effect (node_kind ∷ one_node ∷ []) two_nodes ∷ effect (node_kind ∷ two_nodes ∷ []) three_nodes
          ∷ effect (node_kind ∷ three_nodes ∷ []) more_nodes ∷ effect (node_kind ∷ more_nodes ∷ []) more_nodes ∷ [],
    ) ∷
    (NO_ROWS, effect [] no_rows ∷ []) ∷
    (APPEND_ROW, effect (row_kind ∷ no_rows ∷ []) rows_kind ∷ effect (row_kind ∷ rows_kind ∷ []) rows_kind ∷ []) ∷
    (RULE, rule_effects [] plain_words) ∷
    (RULE_HYPOTHESIS, rule_effects (word_kind ∷ []) hypothesis_words) ∷
    (RULE_TWO_HYPOTHESES, rule_effects (word_kind ∷ word_kind ∷ []) two_hypotheses_words) ∷
    (RULE_ROWS, rule_effects (rows_kind ∷ []) rows_words) ∷
    (RULE_FORMULA, rule_effects (formula_kind ∷ []) formula_words) ∷
    (RULE_TERM, rule_effects (term_kind ∷ []) term_words) ∷
    (RULE_TWO_TERMS, rule_effects (term_kind ∷ term_kind ∷ []) two_terms_words) ∷
    (RULE_HYPOTHESIS_TERM, rule_effects (term_kind ∷ word_kind ∷ []) hypothesis_term_words) ∷
    (RULE_TERM_NUMBER, rule_effects (word_kind ∷ term_kind ∷ []) term_number_words) ∷
    (OBLIGATION_OF_OWNER, group_effects (word_kind ∷ word_kind ∷ []) owner_words) ∷
    (OBLIGATION_OF_PART, group_effects (word_kind ∷ word_kind ∷ word_kind ∷ []) part_words) ∷
    (OBLIGATION_OF_INITIALISATION, group_effects (word_kind ∷ word_kind ∷ word_kind ∷ []) initialisation_words) ∷ []

-- a part without sorts
abbrev passage : List ℕ → List ℕ → Passage
passage t ls = record { takes = t; leaves = map (λ l. (None, l ∷ [])) ls }

abbrev nodes_part : ℕ → List Passage
nodes_part l = passage [] (l ∷ []) ∷ []

-- behind one of these words
abbrev behind : List ℕ → ℕ → List Passage
behind is l = map (λ i. passage (mark i ∷ []) (l ∷ [])) is

abbrev finer_parts : List (ℕ × List Passage)
finer_parts =
    (part.of_part, behind (1 ∷ 2 ∷ 3 ∷ []) obligation_kind) ∷
    (part.obligation_1, passage (word_kind ∷ mark 4 ∷ []) (obligation_kind ∷ []) ∷ []) ∷
    (part.no_premise, behind (7 ∷ 9 ∷ []) node_kind) ∷
    (part.one_premise, behind (14 ∷ 15 ∷ 16 ∷ 17 ∷ 19 ∷ 31 ∷ 40 ∷ 42 ∷ []) node_kind) ∷
    (part.two_premises, behind (13 ∷ 18 ∷ 35 ∷ 36 ∷ 44 ∷ []) node_kind) ∷
    (part.hypothesis_one_premise, behind (21 ∷ 24 ∷ 25 ∷ 27 ∷ 28 ∷ 32 ∷ 37 ∷ 41 ∷ []) node_kind) ∷
    (part.hypothesis_two_premises, behind (22 ∷ 23 ∷ []) node_kind) ∷
    (part.term_one_premise, behind (20 ∷ 45 ∷ []) node_kind) ∷
    (part.two_terms_two_premises, behind (46 ∷ 47 ∷ 48 ∷ []) node_kind) ∷
    (part.one_node, nodes_part one_node) ∷ (part.two_nodes, nodes_part two_nodes) ∷ (part.three_nodes, nodes_part three_nodes) ∷
    (part.some_nodes, passage [] (one_node ∷ two_nodes ∷ three_nodes ∷ more_nodes ∷ []) ∷ []) ∷ (
      part.some_nodes_1,
      passage (one_node ∷ []) (one_node ∷ two_nodes ∷ three_nodes ∷ more_nodes ∷ []) ∷ passage (two_nodes ∷ []) (two_nodes ∷ three_nodes ∷ more_nodes ∷ [])
          ∷ passage (three_nodes ∷ []) (three_nodes ∷ more_nodes ∷ []) ∷ passage (more_nodes ∷ []) (more_nodes ∷ []) ∷ [],
    ) ∷ []

-- the others have the grammar's kinds, but for words
abbrev plain : List ℕ → List ℕ
plain = map (λ k. if nat_lt k 17 then word_kind else k)

abbrev plain_effect : Effect → Effect
plain_effect e = record { takes = plain e.takes; leaves = plain e.leaves }

abbrev plain_passage : Signature → Passage
plain_passage s = record { takes = plain s.takes; leaves = if s.sorted then (Some 0, plain s.leaves) ∷ (Some 1, plain s.second) ∷ [] else (None, plain s.leaves) ∷ [] }

abbrev listed : {X : Type 0} → ℕ → List (ℕ × X) → X → X
listed n [] other = other
listed n (e ∷ es) other = if eqb n e.0 then e.1 else listed n es other

abbrev pub finer : Finer
finer = record {
  word = word_kind;
  action = λ a. if is_word a then effect [] a ∷ [] else listed a finer_actions (plain_effect (signatures.action a) ∷ []);
  part = λ n. listed n finer_parts (plain_passage (signatures.part n) ∷ []);
}

table_leads : all_lead finer (marked GRAMMAR) ≡ true
table_leads = refl

-- what a part that is read by itself leaves
abbrev left : Part → List Outcome
left p = (None, kinds_left p) ∷ []

part_leads : (p : Part) → leads finer (left p) (symbols_of p) None [] ≡ true
part_leads language_part.Whole = refl
part_leads language_part.Text = refl
part_leads language_part.Proofs = refl
part_leads language_part.Machine = refl
part_leads language_part.Channels = refl
part_leads language_part.Controller = refl
part_leads language_part.Formula = refl
part_leads language_part.Term = refl
part_leads language_part.Domain = refl

pub spelled_follows : (p : Part) (ts : List Terminal) (out : List Item) → Runs (rules_of (marked GRAMMAR)) true (symbols_of p) ts out → (end : List ℕ) × (kinds finer out (Some []) ≡ Some end)
spelled_follows p ts out m = let h = follows finer (left p) (tested finer (marked GRAMMAR) table_leads) m [] (part_leads p) in (h.end, h.run)
