-- Finer kinds for the lists of texts that may not be empty, and the test of the grammar's table with them.
use Rattle.std.specs.Prelude.{◌≡◌, ℕ, true, refl, eqb, if◌then◌else◌, List, [], ◌∷◌, Some, None}
use Rattle.cb_engine.specs.Kinds.{Effect}
use Rattle.cb_engine.specs.Rules.{Spells}
use Rattle.cb_engine.specs.declared.Terminal.{Terminal}
use Rattle.cb_engine.specs.declared.Item.{Item}
use Rattle.cb_grammar.specs.declared.table.TheConstants.{GRAMMAR}
use Rattle.cb_grammar.specs.declared.actions.TheConstants.{NO_MACHINES, APPEND_MACHINE, NO_CONTROLLERS, APPEND_CONTROLLER, SYSTEM, NO_DEFINITIONS, APPEND_DEFINITION}
use Rattle.cb_grammar.specs.declared.parts.Part.TheVariants as language_part
use Rattle.cb_grammar.specs.Numbers as part
use Rattle.cb_grammar.specs.Misreadings.{language, symbols_of}
use Rattle.cb_grammar.specs.Parts.{kinds_left}
use Rattle.cb_grammar.specs.Signatures.{text_kind, machines_kind, machine_kind, channels_kind, controllers_kind, controller_kind, names_kind, definitions_kind, parameters_kind, condition_kind, process_kind}
use Rattle.cb_shapes.proofs.Finer.{Outcome, Passage, Finer, kinds, leads, all_lead}
use Rattle.cb_shapes.proofs.Following.{follows, tested}
use Rattle.cb_shapes.proofs.Table.{finer, word_kind}

-- Lists without entries. The grammar's kinds of machines, controllers and definitions are those of lists with entries.
abbrev pub no_machines : ℕ
no_machines = 54

abbrev pub no_controllers : ℕ
no_controllers = 55

abbrev pub no_definitions : ℕ
no_definitions = 56

abbrev effect : List ℕ → ℕ → Effect
effect t l = record { takes = t; leaves = l ∷ [] }

-- with entries or without
abbrev for_both : {X : Type 0} → ℕ → ℕ → (ℕ → X) → List X
for_both some none f = f some ∷ f none ∷ []

abbrev pub counted_action : ℕ → List Effect
counted_action a =
    if eqb a NO_MACHINES then effect [] no_machines ∷ [] else
    if eqb a APPEND_MACHINE then for_both machines_kind no_machines (λ x. effect (machine_kind ∷ x ∷ []) machines_kind) else
    if eqb a NO_CONTROLLERS then effect [] no_controllers ∷ [] else
    if eqb a APPEND_CONTROLLER then for_both controllers_kind no_controllers (λ x. effect (controller_kind ∷ x ∷ []) controllers_kind) else
    if eqb a NO_DEFINITIONS then effect [] no_definitions ∷ [] else
    if eqb a APPEND_DEFINITION then for_both definitions_kind no_definitions (λ x. effect (process_kind ∷ condition_kind ∷ parameters_kind ∷ word_kind ∷ x ∷ []) definitions_kind) else
    if eqb a SYSTEM then for_both machines_kind no_machines (λ x. effect (names_kind ∷ controllers_kind ∷ channels_kind ∷ x ∷ []) text_kind) else
    finer.action a

abbrev passage : List ℕ → ℕ → Passage
passage t l = record { takes = t; leaves = (None, l ∷ []) ∷ [] }

-- behind controllers
abbrev to_text : List Passage
to_text = for_both machines_kind no_machines (λ x. passage (controllers_kind ∷ channels_kind ∷ x ∷ []) text_kind)

abbrev counted_part : ℕ → List Passage
counted_part n =
    if eqb n part.text_1 then passage (no_machines ∷ []) text_kind ∷ [] else
    if eqb n part.system_text then passage (no_machines ∷ []) text_kind ∷ [] else
    if eqb n part.more_controllers then to_text else
    if eqb n part.system then to_text else
    if eqb n part.definition then for_both definitions_kind no_definitions (λ x. passage (x ∷ []) definitions_kind) else
    finer.part n

abbrev pub counted : Finer
counted = record { word = word_kind; action = counted_action; part = counted_part }

table_leads : all_lead counted GRAMMAR ≡ true
table_leads = refl

abbrev left : List Outcome
left = (None, kinds_left language_part.Text) ∷ []

text_leads : leads counted left (symbols_of language_part.Text) None [] ≡ true
text_leads = refl

pub spelled_follows : (ts : List Terminal) (out : List Item) → Spells language (symbols_of language_part.Text) ts out → (end : List ℕ) × (kinds counted out (Some []) ≡ Some end)
unfolding language
spelled_follows ts out m = let h = follows counted left (tested counted GRAMMAR table_leads) m [] text_leads in (h.end, h.run)
