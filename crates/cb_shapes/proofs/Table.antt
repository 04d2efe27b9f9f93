-- Finer kinds for the values that may be empty, and the test of the grammar's table with them.
use Rattle.std.specs.Prelude.{◌≡◌, ℕ, nat_lt, true, refl, eqb, if◌then◌else◌, List, [], ◌∷◌, ◌++◌, map, Some, None}
use Rattle.cb_engine.specs.Kinds.{Effect, Signature}
use Rattle.cb_engine.specs.Rules.{Spells}
use Rattle.cb_engine.specs.declared.Terminal.{Terminal}
use Rattle.cb_engine.specs.declared.Item.{Item}
use Rattle.cb_grammar.specs.declared.table.TheConstants.{GRAMMAR}
use Rattle.cb_grammar.specs.declared.actions.TheConstants.{MACHINE, NO_NAMES, APPEND_NAME, NO_PROPERTIES, APPEND_PROPERTY, APPEND_OPERATION, NO_SIDES, APPEND_SIDE, APPEND_CHANNEL, CONTROLLER, INPUT, OPERATION_CALL}
use Rattle.cb_grammar.specs.declared.parts.Part.{Part}
use Rattle.cb_grammar.specs.declared.parts.Part.TheVariants as language_part
use Rattle.cb_grammar.specs.Numbers as part
use Rattle.cb_grammar.specs.Misreadings.{language, symbols_of}
use Rattle.cb_grammar.specs.Parts.{kinds_left}
use Rattle.cb_grammar.specs.Signatures.{signatures, machine_kind, channels_kind, controller_kind, names_kind, sets_kind, literal_kind, properties_kind, state_kind, operations_kind, substitution_kind, sides_kind, condition_kind, definitions_kind, event_kind, terms_kind}
use Rattle.cb_shapes.proofs.Finer.{Outcome, Passage, Finer, kinds, leads, all_lead}
use Rattle.cb_shapes.proofs.Following.{follows, tested}

-- A word, whichever it is; lists without entries, and one side alone. The grammar's kinds of names and of properties are
-- those of lists with entries, and its kind of sides that of two sides or more.
abbrev pub word_kind : ℕ
word_kind = 0

abbrev pub no_names : ℕ
no_names = 50

abbrev pub no_properties : ℕ
no_properties = 51

abbrev pub no_sides : ℕ
no_sides = 52

abbrev pub one_side : ℕ
one_side = 53

abbrev effect : List ℕ → ℕ → Effect
effect t l = record { takes = t; leaves = l ∷ [] }

-- with names or without
abbrev pub for_names : {X : Type 0} → (ℕ → X) → List X
for_names f = f names_kind ∷ f no_names ∷ []

abbrev finer_actions : List (ℕ × List Effect)
finer_actions =
    (NO_NAMES, effect [] no_names ∷ []) ∷
    (APPEND_NAME, for_names (λ x. effect (word_kind ∷ x ∷ []) names_kind)) ∷
    (NO_PROPERTIES, effect [] no_properties ∷ []) ∷
    (APPEND_PROPERTY, effect (literal_kind ∷ word_kind ∷ no_properties ∷ []) properties_kind ∷ effect (literal_kind ∷ word_kind ∷ properties_kind ∷ []) properties_kind ∷ []) ∷
    (NO_SIDES, effect [] no_sides ∷ []) ∷ (
      APPEND_SIDE,
      effect (substitution_kind ∷ no_sides ∷ []) one_side ∷ effect (substitution_kind ∷ one_side ∷ []) sides_kind ∷ effect (substitution_kind ∷ sides_kind ∷ []) sides_kind ∷ [],
    ) ∷ (
      APPEND_OPERATION,
      for_names (λ x. effect (substitution_kind ∷ condition_kind ∷ x ∷ word_kind ∷ names_kind ∷ operations_kind ∷ []) operations_kind)
          ++ for_names (λ x. effect (substitution_kind ∷ condition_kind ∷ x ∷ word_kind ∷ no_names ∷ operations_kind ∷ []) operations_kind),
    ) ∷ (
      MACHINE,
      for_names (λ x. effect (operations_kind ∷ state_kind ∷ properties_kind ∷ names_kind ∷ sets_kind ∷ x ∷ word_kind ∷ []) machine_kind)
          ++ for_names (λ x. effect (operations_kind ∷ state_kind ∷ no_properties ∷ no_names ∷ sets_kind ∷ x ∷ word_kind ∷ []) machine_kind),
    ) ∷
    (APPEND_CHANNEL, for_names (λ x. effect (condition_kind ∷ x ∷ word_kind ∷ channels_kind ∷ []) channels_kind)) ∷
    (CONTROLLER, for_names (λ x. effect (definitions_kind ∷ terms_kind ∷ word_kind ∷ x ∷ word_kind ∷ []) controller_kind)) ∷
    (INPUT, for_names (λ x. effect (condition_kind ∷ x ∷ word_kind ∷ []) event_kind)) ∷
    (OPERATION_CALL, for_names (λ x. effect (x ∷ terms_kind ∷ word_kind ∷ word_kind ∷ []) event_kind)) ∷ []

-- a part without sorts
abbrev passage : List ℕ → List (List ℕ) → Passage
passage t ls = record { takes = t; leaves = map (λ l. (None, l)) ls }

abbrev maybe_names : List Passage
maybe_names = passage [] (for_names (λ x. x ∷ [])) ∷ []

abbrev finer_parts : List (ℕ × List Passage)
finer_parts =
    (part.constants, passage [] ((properties_kind ∷ names_kind ∷ []) ∷ (no_properties ∷ no_names ∷ []) ∷ []) ∷ []) ∷
    (part.property, passage (no_properties ∷ []) ((properties_kind ∷ []) ∷ []) ∷ passage (properties_kind ∷ []) ((properties_kind ∷ []) ∷ []) ∷ []) ∷
    (part.operation_rest, passage (word_kind ∷ no_names ∷ []) (for_names (λ x. x ∷ word_kind ∷ names_kind ∷ []) ++ for_names (λ x. x ∷ word_kind ∷ no_names ∷ [])) ∷ []) ∷
    (part.signature, maybe_names) ∷ (part.machine_1, maybe_names) ∷ (part.names_end, maybe_names) ∷ (part.controller_rest_1, maybe_names) ∷ (part.step_rest_2, maybe_names) ∷ []

-- the others have the grammar's kinds, but for words
abbrev plain : List ℕ → List ℕ
plain = map (λ k. if nat_lt k 17 then word_kind else k)

abbrev plain_effect : Effect → Effect
plain_effect e = record { takes = plain e.takes; leaves = plain e.leaves }

abbrev plain_passage : Signature → Passage
plain_passage s = record { takes = plain s.takes; leaves = if s.sorted then (Some 0, plain s.leaves) ∷ (Some 1, plain s.second) ∷ [] else (None, plain s.leaves) ∷ [] }

abbrev listed : {X : Type 0} → ℕ → List (ℕ × X) → X → X
listed n [] other = other
listed n (e ∷ es) other = if eqb n e.0 then e.1 else listed n es other

abbrev pub finer : Finer
finer = record {
  word = word_kind;
  action = λ a. listed a finer_actions (plain_effect (signatures.action a) ∷ []);
  part = λ n. listed n finer_parts (plain_passage (signatures.part n) ∷ []);
}

table_leads : all_lead finer GRAMMAR ≡ true
table_leads = refl

-- what a part that is read by itself leaves
abbrev left : Part → List Outcome
left p = (None, kinds_left p) ∷ []

part_leads : (p : Part) → leads finer (left p) (symbols_of p) None [] ≡ true
part_leads language_part.Whole = refl
part_leads language_part.Text = refl
part_leads language_part.Proofs = refl
part_leads language_part.Machine = refl
part_leads language_part.Channels = refl
part_leads language_part.Controller = refl
part_leads language_part.Formula = refl
part_leads language_part.Term = refl
part_leads language_part.Domain = refl

pub spelled_follows : (p : Part) (ts : List Terminal) (out : List Item) → Spells language (symbols_of p) ts out → (end : List ℕ) × (kinds finer out (Some []) ≡ Some end)
unfolding language
spelled_follows p ts out m = let h = follows finer (left p) (tested finer GRAMMAR table_leads) m [] (part_leads p) in (h.end, h.run)
