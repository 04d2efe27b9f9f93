-- What each action and each part takes and leaves, by kinds of values, the last one first. Written by tools/table.py from tools/cspb.grammar.
use Rattle.std.specs.Prelude.{ℕ, List, [], ◌∷◌, true, false, slice_get, slice_index}
use Rattle.cb_engine.specs.Kinds.{Effect, Signature, Signatures, signature, effect_or, signature_or}

-- the kinds
abbrev pub name_kind : ℕ
name_kind = 1

abbrev pub number_kind : ℕ
number_kind = 2

abbrev pub limit_kind : ℕ
limit_kind = 3

abbrev pub truth_kind : ℕ
truth_kind = 4

abbrev pub set_kind : ℕ
set_kind = 5

abbrev pub relation_kind : ℕ
relation_kind = 6

abbrev pub operator_kind : ℕ
operator_kind = 7

abbrev pub minus_kind : ℕ
minus_kind = 8

abbrev pub card_kind : ℕ
card_kind = 9

abbrev pub bool_kind : ℕ
bool_kind = 10

abbrev pub brace_kind : ℕ
brace_kind = 11

abbrev pub stop_kind : ℕ
stop_kind = 12

abbrev pub skip_kind : ℕ
skip_kind = 13

abbrev pub if_kind : ℕ
if_kind = 14

abbrev pub initialisation_kind : ℕ
initialisation_kind = 15

abbrev pub start_kind : ℕ
start_kind = 16

abbrev pub text_kind : ℕ
text_kind = 17

abbrev pub machines_kind : ℕ
machines_kind = 18

abbrev pub machine_kind : ℕ
machine_kind = 19

abbrev pub channels_kind : ℕ
channels_kind = 20

abbrev pub controllers_kind : ℕ
controllers_kind = 21

abbrev pub controller_kind : ℕ
controller_kind = 22

abbrev pub proofs_kind : ℕ
proofs_kind = 23

abbrev pub names_kind : ℕ
names_kind = 24

abbrev pub sets_kind : ℕ
sets_kind = 25

abbrev pub literal_kind : ℕ
literal_kind = 26

abbrev pub properties_kind : ℕ
properties_kind = 27

abbrev pub state_kind : ℕ
state_kind = 28

abbrev pub operations_kind : ℕ
operations_kind = 29

abbrev pub substitution_kind : ℕ
substitution_kind = 30

abbrev pub sides_kind : ℕ
sides_kind = 31

abbrev pub domain_kind : ℕ
domain_kind = 32

abbrev pub bound_kind : ℕ
bound_kind = 33

abbrev pub end_kind : ℕ
end_kind = 34

abbrev pub condition_kind : ℕ
condition_kind = 35

abbrev pub parameter_kind : ℕ
parameter_kind = 36

abbrev pub parameters_kind : ℕ
parameters_kind = 37

abbrev pub definitions_kind : ℕ
definitions_kind = 38

abbrev pub process_kind : ℕ
process_kind = 39

abbrev pub chain_kind : ℕ
chain_kind = 40

abbrev pub event_kind : ℕ
event_kind = 41

abbrev pub formula_kind : ℕ
formula_kind = 42

abbrev pub term_kind : ℕ
term_kind = 43

abbrev pub terms_kind : ℕ
terms_kind = 44

abbrev pub obligation_kind : ℕ
obligation_kind = 45

abbrev pub node_kind : ℕ
node_kind = 46

abbrev pub nodes_kind : ℕ
nodes_kind = 47

abbrev pub row_kind : ℕ
row_kind = 48

abbrev pub rows_kind : ℕ
rows_kind = 49

-- the kind of a word, by its class; 0 where no part keeps it
abbrev pub word_kinds : List ℕ
word_kinds =
    0 ∷ 1 ∷ 2 ∷ 0 ∷ 0 ∷ 0 ∷ 0 ∷ 0 ∷ 0 ∷ 0 ∷ 0 ∷ 15 ∷ 0 ∷ 0 ∷ 0 ∷ 0 ∷ 14 ∷ 0 ∷ 0 ∷ 0 ∷ 0 ∷ 0 ∷ 0 ∷
    0 ∷ 0 ∷ 0 ∷ 0 ∷ 16 ∷ 0 ∷ 0 ∷ 0 ∷ 0 ∷ 12 ∷ 13 ∷ 4 ∷ 4 ∷ 5 ∷ 5 ∷ 5 ∷ 5 ∷ 3 ∷ 3 ∷ 0 ∷ 0 ∷ 0 ∷ 0 ∷
    7 ∷ 9 ∷ 10 ∷ 0 ∷ 0 ∷ 0 ∷ 0 ∷ 0 ∷ 0 ∷ 6 ∷ 6 ∷ 6 ∷ 7 ∷ 7 ∷ 7 ∷ 0 ∷ 0 ∷ 0 ∷ 0 ∷ 0 ∷ 0 ∷ 6 ∷ 6 ∷
    6 ∷ 6 ∷ 6 ∷ 6 ∷ 0 ∷ 0 ∷ 0 ∷ 0 ∷ 0 ∷ 11 ∷ 0 ∷ 0 ∷ 0 ∷ 0 ∷ 0 ∷ 0 ∷ 7 ∷ 8 ∷ 7 ∷ 7 ∷ 0 ∷ 0 ∷ 0 ∷
    0 ∷ 0 ∷ 0 ∷ 0 ∷ 0 ∷ 0 ∷ 0 ∷ 0 ∷ 0 ∷ 0 ∷ 0 ∷ 0 ∷ 0 ∷ 0 ∷ 0 ∷ 0 ∷ 0 ∷ 0 ∷ 0 ∷ 0 ∷ 0 ∷ 0 ∷ 0 ∷ 0 ∷
    0 ∷ 0 ∷ 0 ∷ 1 ∷ []

abbrev pub word_kind : ℕ → ℕ
word_kind c = slice_index word_kinds c

abbrev pub actions : List Effect
actions =
    -- no_machines
    record { takes = []; leaves = 18 ∷ [] } ∷
    -- append_machine
    record { takes = 19 ∷ 18 ∷ []; leaves = 18 ∷ [] } ∷
    -- machines_alone
    record { takes = 18 ∷ []; leaves = 17 ∷ [] } ∷
    -- no_controllers
    record { takes = []; leaves = 21 ∷ [] } ∷
    -- append_controller
    record { takes = 22 ∷ 21 ∷ []; leaves = 21 ∷ [] } ∷
    -- system
    record { takes = 24 ∷ 21 ∷ 20 ∷ 18 ∷ []; leaves = 17 ∷ [] } ∷
    -- machine
    record { takes = 29 ∷ 28 ∷ 27 ∷ 24 ∷ 25 ∷ 24 ∷ 1 ∷ []; leaves = 19 ∷ [] } ∷
    -- no_names
    record { takes = []; leaves = 24 ∷ [] } ∷
    -- append_name
    record { takes = 1 ∷ 24 ∷ []; leaves = 24 ∷ [] } ∷
    -- no_sets
    record { takes = []; leaves = 25 ∷ [] } ∷
    -- append_set
    record { takes = 24 ∷ 1 ∷ 25 ∷ []; leaves = 25 ∷ [] } ∷
    -- no_properties
    record { takes = []; leaves = 27 ∷ [] } ∷
    -- append_property
    record { takes = 26 ∷ 1 ∷ 27 ∷ []; leaves = 27 ∷ [] } ∷
    -- literal
    record { takes = 2 ∷ []; leaves = 26 ∷ [] } ∷
    -- minus_literal
    record { takes = 2 ∷ []; leaves = 26 ∷ [] } ∷
    -- limit_literal
    record { takes = 3 ∷ []; leaves = 26 ∷ [] } ∷
    -- no_state
    record { takes = []; leaves = 28 ∷ [] } ∷
    -- some_state
    record { takes = 30 ∷ 42 ∷ 24 ∷ []; leaves = 28 ∷ [] } ∷
    -- no_operations
    record { takes = []; leaves = 29 ∷ [] } ∷
    -- append_operation
    record { takes = 30 ∷ 35 ∷ 24 ∷ 1 ∷ 24 ∷ 29 ∷ []; leaves = 29 ∷ [] } ∷
    -- some_condition
    record { takes = 42 ∷ []; leaves = 35 ∷ [] } ∷
    -- no_condition
    record { takes = []; leaves = 35 ∷ [] } ∷
    -- parallel
    record { takes = 30 ∷ 30 ∷ []; leaves = 30 ∷ [] } ∷
    -- skip
    record { takes = []; leaves = 30 ∷ [] } ∷
    -- assign
    record { takes = 43 ∷ 1 ∷ []; leaves = 30 ∷ [] } ∷
    -- among
    record { takes = 32 ∷ 1 ∷ []; leaves = 30 ∷ [] } ∷
    -- if
    record { takes = 30 ∷ 30 ∷ 42 ∷ []; leaves = 30 ∷ [] } ∷
    -- if_without_else
    record { takes = 30 ∷ 42 ∷ []; leaves = 30 ∷ [] } ∷
    -- no_sides
    record { takes = []; leaves = 31 ∷ [] } ∷
    -- append_side
    record { takes = 30 ∷ 31 ∷ []; leaves = 31 ∷ [] } ∷
    -- choice
    record { takes = 31 ∷ []; leaves = 30 ∷ [] } ∷
    -- any
    record { takes = 30 ∷ 42 ∷ 1 ∷ []; leaves = 30 ∷ [] } ∷
    -- named_domain
    record { takes = 1 ∷ []; leaves = 32 ∷ [] } ∷
    -- set_domain
    record { takes = 5 ∷ []; leaves = 32 ∷ [] } ∷
    -- range
    record { takes = 33 ∷ 33 ∷ []; leaves = 32 ∷ [] } ∷
    -- bound
    record { takes = 34 ∷ []; leaves = 33 ∷ [] } ∷
    -- minus_bound
    record { takes = 34 ∷ []; leaves = 33 ∷ [] } ∷
    -- number_end
    record { takes = 2 ∷ []; leaves = 34 ∷ [] } ∷
    -- limit_end
    record { takes = 3 ∷ []; leaves = 34 ∷ [] } ∷
    -- name_end
    record { takes = 1 ∷ []; leaves = 34 ∷ [] } ∷
    -- no_channels
    record { takes = []; leaves = 20 ∷ [] } ∷
    -- append_channel
    record { takes = 35 ∷ 24 ∷ 1 ∷ 20 ∷ []; leaves = 20 ∷ [] } ∷
    -- controller
    record { takes = 38 ∷ 44 ∷ 1 ∷ 24 ∷ 1 ∷ []; leaves = 22 ∷ [] } ∷
    -- no_parameters
    record { takes = []; leaves = 37 ∷ [] } ∷
    -- append_parameter
    record { takes = 36 ∷ 37 ∷ []; leaves = 37 ∷ [] } ∷
    -- parameter_in
    record { takes = 32 ∷ 1 ∷ []; leaves = 36 ∷ [] } ∷
    -- parameter_subset
    record { takes = 32 ∷ 1 ∷ []; leaves = 36 ∷ [] } ∷
    -- no_definitions
    record { takes = []; leaves = 38 ∷ [] } ∷
    -- append_definition
    record { takes = 39 ∷ 35 ∷ 37 ∷ 1 ∷ 38 ∷ []; leaves = 38 ∷ [] } ∷
    -- first_two
    record { takes = 39 ∷ 39 ∷ []; leaves = 40 ∷ [] } ∷
    -- append_process
    record { takes = 39 ∷ 40 ∷ []; leaves = 40 ∷ [] } ∷
    -- external
    record { takes = 40 ∷ []; leaves = 39 ∷ [] } ∷
    -- internal
    record { takes = 40 ∷ []; leaves = 39 ∷ [] } ∷
    -- stop
    record { takes = 12 ∷ []; leaves = 39 ∷ [] } ∷
    -- skip_process
    record { takes = 13 ∷ []; leaves = 39 ∷ [] } ∷
    -- process_if
    record { takes = 39 ∷ 39 ∷ 42 ∷ 14 ∷ []; leaves = 39 ∷ [] } ∷
    -- call
    record { takes = 44 ∷ 1 ∷ []; leaves = 39 ∷ [] } ∷
    -- prefix
    record { takes = 39 ∷ 41 ∷ []; leaves = 39 ∷ [] } ∷
    -- output
    record { takes = 35 ∷ 44 ∷ 1 ∷ []; leaves = 41 ∷ [] } ∷
    -- input
    record { takes = 35 ∷ 24 ∷ 1 ∷ []; leaves = 41 ∷ [] } ∷
    -- operation_call
    record { takes = 24 ∷ 44 ∷ 1 ∷ 1 ∷ []; leaves = 41 ∷ [] } ∷
    -- always_true
    record { takes = []; leaves = 42 ∷ [] } ∷
    -- always_false
    record { takes = []; leaves = 42 ∷ [] } ∷
    -- not
    record { takes = 42 ∷ []; leaves = 42 ∷ [] } ∷
    -- and
    record { takes = 42 ∷ 42 ∷ []; leaves = 42 ∷ [] } ∷
    -- or
    record { takes = 42 ∷ 42 ∷ []; leaves = 42 ∷ [] } ∷
    -- implies
    record { takes = 42 ∷ 42 ∷ []; leaves = 42 ∷ [] } ∷
    -- equivalent
    record { takes = 42 ∷ 42 ∷ []; leaves = 42 ∷ [] } ∷
    -- for_all
    record { takes = 42 ∷ 42 ∷ 1 ∷ []; leaves = 42 ∷ [] } ∷
    -- exists
    record { takes = 42 ∷ 1 ∷ []; leaves = 42 ∷ [] } ∷
    -- relation
    record { takes = 43 ∷ 6 ∷ 43 ∷ []; leaves = 42 ∷ [] } ∷
    -- no_terms
    record { takes = []; leaves = 44 ∷ [] } ∷
    -- append_term
    record { takes = 43 ∷ 44 ∷ []; leaves = 44 ∷ [] } ∷
    -- name_term
    record { takes = 1 ∷ []; leaves = 43 ∷ [] } ∷
    -- number_term
    record { takes = 2 ∷ []; leaves = 43 ∷ [] } ∷
    -- truth_term
    record { takes = 4 ∷ []; leaves = 43 ∷ [] } ∷
    -- limit_term
    record { takes = 3 ∷ []; leaves = 43 ∷ [] } ∷
    -- set_term
    record { takes = 5 ∷ []; leaves = 43 ∷ [] } ∷
    -- minus
    record { takes = 43 ∷ 8 ∷ []; leaves = 43 ∷ [] } ∷
    -- binary
    record { takes = 43 ∷ 7 ∷ 43 ∷ []; leaves = 43 ∷ [] } ∷
    -- subtract
    record { takes = 43 ∷ 8 ∷ 43 ∷ []; leaves = 43 ∷ [] } ∷
    -- card
    record { takes = 43 ∷ 9 ∷ []; leaves = 43 ∷ [] } ∷
    -- bool
    record { takes = 42 ∷ 10 ∷ []; leaves = 43 ∷ [] } ∷
    -- listed
    record { takes = 44 ∷ 11 ∷ []; leaves = 43 ∷ [] } ∷
    -- no_proofs
    record { takes = []; leaves = 23 ∷ [] } ∷
    -- append_proof
    record { takes = 46 ∷ 45 ∷ 23 ∷ []; leaves = 23 ∷ [] } ∷
    -- obligation_of_owner
    record { takes = 2 ∷ 1 ∷ 1 ∷ []; leaves = 45 ∷ [] } ∷
    -- obligation_of_start
    record { takes = 2 ∷ 1 ∷ 16 ∷ []; leaves = 45 ∷ [] } ∷
    -- obligation_of_part
    record { takes = 2 ∷ 1 ∷ 1 ∷ 1 ∷ []; leaves = 45 ∷ [] } ∷
    -- obligation_of_initialisation
    record { takes = 2 ∷ 15 ∷ 1 ∷ 1 ∷ []; leaves = 45 ∷ [] } ∷
    -- no_nodes
    record { takes = []; leaves = 47 ∷ [] } ∷
    -- append_node
    record { takes = 46 ∷ 47 ∷ []; leaves = 47 ∷ [] } ∷
    -- no_rows
    record { takes = []; leaves = 49 ∷ [] } ∷
    -- append_row
    record { takes = 48 ∷ 49 ∷ []; leaves = 49 ∷ [] } ∷
    -- row
    record { takes = 2 ∷ 2 ∷ []; leaves = 48 ∷ [] } ∷
    -- minus_row
    record { takes = 2 ∷ 2 ∷ []; leaves = 48 ∷ [] } ∷
    -- rule
    record { takes = 47 ∷ 1 ∷ []; leaves = 46 ∷ [] } ∷
    -- rule_hypothesis
    record { takes = 47 ∷ 2 ∷ 1 ∷ []; leaves = 46 ∷ [] } ∷
    -- rule_two_hypotheses
    record { takes = 47 ∷ 2 ∷ 2 ∷ 1 ∷ []; leaves = 46 ∷ [] } ∷
    -- rule_rows
    record { takes = 47 ∷ 49 ∷ 1 ∷ []; leaves = 46 ∷ [] } ∷
    -- rule_formula
    record { takes = 47 ∷ 42 ∷ 1 ∷ []; leaves = 46 ∷ [] } ∷
    -- rule_term
    record { takes = 47 ∷ 43 ∷ 1 ∷ []; leaves = 46 ∷ [] } ∷
    -- rule_two_terms
    record { takes = 47 ∷ 43 ∷ 43 ∷ 1 ∷ []; leaves = 46 ∷ [] } ∷
    -- rule_hypothesis_term
    record { takes = 47 ∷ 43 ∷ 2 ∷ 1 ∷ []; leaves = 46 ∷ [] } ∷
    -- rule_term_number
    record { takes = 47 ∷ 2 ∷ 43 ∷ 1 ∷ []; leaves = 46 ∷ [] } ∷
    []

abbrev pub parts : List Signature
parts =
    signature false [] [] [] ∷
    -- whole
    signature false ([]) (23 ∷ 17 ∷ []) [] ∷
    -- before_proofs
    signature false ([]) (17 ∷ []) [] ∷
    -- only_proofs
    signature false ([]) (23 ∷ []) [] ∷
    -- text
    signature false ([]) (17 ∷ []) [] ∷
    -- more_text
    signature false (18 ∷ []) (17 ∷ []) [] ∷
    -- system_text
    signature false (18 ∷ []) (17 ∷ []) [] ∷
    -- more_controllers
    signature false (21 ∷ 20 ∷ 18 ∷ []) (17 ∷ []) [] ∷
    -- system
    signature false (21 ∷ 20 ∷ 18 ∷ []) (17 ∷ []) [] ∷
    -- machine
    signature false ([]) (19 ∷ []) [] ∷
    -- names
    signature false ([]) (24 ∷ []) [] ∷
    -- enumerated_set
    signature false (25 ∷ []) (25 ∷ []) [] ∷
    -- constants
    signature false ([]) (27 ∷ 24 ∷ []) [] ∷
    -- property
    signature false (27 ∷ []) (27 ∷ []) [] ∷
    -- literal
    signature false ([]) (26 ∷ []) [] ∷
    -- state
    signature false ([]) (28 ∷ []) [] ∷
    -- operation
    signature false (29 ∷ []) (29 ∷ []) [] ∷
    -- operation_rest
    signature false (1 ∷ 24 ∷ []) (24 ∷ 1 ∷ 24 ∷ []) [] ∷
    -- more_results
    signature false (24 ∷ []) (24 ∷ []) [] ∷
    -- signature
    signature false ([]) (24 ∷ []) [] ∷
    -- body
    signature false ([]) (30 ∷ 35 ∷ []) [] ∷
    -- substitution
    signature false ([]) (30 ∷ []) [] ∷
    -- simple
    signature false ([]) (30 ∷ []) [] ∷
    -- simple_rest
    signature false (1 ∷ []) (30 ∷ []) [] ∷
    -- if_rest
    signature false (30 ∷ 42 ∷ []) (30 ∷ []) [] ∷
    -- domain
    signature false ([]) (32 ∷ []) [] ∷
    -- domain_rest
    signature false (1 ∷ []) (32 ∷ []) [] ∷
    -- other_bound
    signature false ([]) (33 ∷ []) [] ∷
    -- bound
    signature false ([]) (33 ∷ []) [] ∷
    -- end
    signature false ([]) (34 ∷ []) [] ∷
    -- other_end
    signature false ([]) (34 ∷ []) [] ∷
    -- channels
    signature false ([]) (20 ∷ []) [] ∷
    -- channel
    signature false (20 ∷ []) (20 ∷ []) [] ∷
    -- names_end
    signature false ([]) (24 ∷ []) [] ∷
    -- controller
    signature false ([]) (22 ∷ []) [] ∷
    -- controller_rest
    signature false ([]) (22 ∷ []) [] ∷
    -- definition
    signature false (38 ∷ []) (38 ∷ []) [] ∷
    -- parameters
    signature false (37 ∷ []) (37 ∷ []) [] ∷
    -- parameter
    signature false ([]) (36 ∷ []) [] ∷
    -- process
    signature false ([]) (39 ∷ []) [] ∷
    -- process_tail
    signature false (39 ∷ []) (39 ∷ []) [] ∷
    -- more_external
    signature false (40 ∷ []) (40 ∷ []) [] ∷
    -- more_internal
    signature false (40 ∷ []) (40 ∷ []) [] ∷
    -- step
    signature false ([]) (39 ∷ []) [] ∷
    -- step_rest
    signature false (1 ∷ []) (39 ∷ []) [] ∷
    -- terms_end
    signature false (44 ∷ []) (44 ∷ []) [] ∷
    -- guard
    signature false ([]) (35 ∷ []) [] ∷
    -- formula
    signature false ([]) (42 ∷ []) [] ∷
    -- formula_tail
    signature false (42 ∷ []) (42 ∷ []) [] ∷
    -- and_tail
    signature false (42 ∷ []) (42 ∷ []) [] ∷
    -- or_tail
    signature false (42 ∷ []) (42 ∷ []) [] ∷
    -- implies_tail
    signature false (42 ∷ []) (42 ∷ []) [] ∷
    -- part
    signature false ([]) (42 ∷ []) [] ∷
    -- part_tail
    signature false (42 ∷ []) (42 ∷ []) [] ∷
    -- unit
    signature false ([]) (42 ∷ []) [] ∷
    -- relation
    signature false (43 ∷ []) (42 ∷ []) [] ∷
    -- after_formula
    signature false ([]) ([]) [] ∷
    -- after_term
    signature false (43 ∷ []) (42 ∷ []) [] ∷
    -- formula_or_term
    signature true ([]) (42 ∷ []) (43 ∷ []) ∷
    -- inside_formula
    signature true (42 ∷ []) (42 ∷ []) (43 ∷ []) ∷
    -- inside_term
    signature true (43 ∷ []) (42 ∷ []) (43 ∷ []) ∷
    -- relation_or_none
    signature true (43 ∷ []) (42 ∷ []) (43 ∷ []) ∷
    -- term
    signature false ([]) (43 ∷ []) [] ∷
    -- term_tail
    signature false (43 ∷ []) (43 ∷ []) [] ∷
    -- union_tail
    signature false (43 ∷ []) (43 ∷ []) [] ∷
    -- intersection_tail
    signature false (43 ∷ []) (43 ∷ []) [] ∷
    -- product_tail
    signature false (43 ∷ []) (43 ∷ []) [] ∷
    -- sum_tail
    signature false (43 ∷ []) (43 ∷ []) [] ∷
    -- range_tail
    signature false (43 ∷ []) (43 ∷ []) [] ∷
    -- sum
    signature false ([]) (43 ∷ []) [] ∷
    -- product
    signature false ([]) (43 ∷ []) [] ∷
    -- factor
    signature false ([]) (43 ∷ []) [] ∷
    -- factor_start
    signature false ([]) (43 ∷ []) [] ∷
    -- set_end
    signature false (44 ∷ []) (44 ∷ []) [] ∷
    -- terms
    signature false (44 ∷ []) (44 ∷ []) [] ∷
    -- proofs
    signature false ([]) (23 ∷ []) [] ∷
    -- obligation
    signature false ([]) (45 ∷ []) [] ∷
    -- of_part
    signature false (1 ∷ []) (45 ∷ []) [] ∷
    -- node
    signature false ([]) (46 ∷ []) [] ∷
    -- no_premise
    signature false (1 ∷ []) (46 ∷ []) [] ∷
    -- one_premise
    signature false (1 ∷ []) (46 ∷ []) [] ∷
    -- two_premises
    signature false (1 ∷ []) (46 ∷ []) [] ∷
    -- hypothesis_one_premise
    signature false (1 ∷ []) (46 ∷ []) [] ∷
    -- hypothesis_two_premises
    signature false (1 ∷ []) (46 ∷ []) [] ∷
    -- term_one_premise
    signature false (1 ∷ []) (46 ∷ []) [] ∷
    -- two_terms_two_premises
    signature false (1 ∷ []) (46 ∷ []) [] ∷
    -- one_node
    signature false ([]) (47 ∷ []) [] ∷
    -- two_nodes
    signature false ([]) (47 ∷ []) [] ∷
    -- three_nodes
    signature false ([]) (47 ∷ []) [] ∷
    -- some_nodes
    signature false ([]) (47 ∷ []) [] ∷
    -- row
    signature false ([]) (48 ∷ []) [] ∷
    -- before_proofs_1
    signature false ([]) ([]) [] ∷
    -- text_1
    signature false (18 ∷ []) (17 ∷ []) [] ∷
    -- machine_1
    signature false ([]) (24 ∷ []) [] ∷
    -- machine_2
    signature false (25 ∷ []) (25 ∷ []) [] ∷
    -- machine_3
    signature false (25 ∷ []) (25 ∷ []) [] ∷
    -- machine_4
    signature false (29 ∷ []) (29 ∷ []) [] ∷
    -- machine_5
    signature false (29 ∷ []) (29 ∷ []) [] ∷
    -- names_1
    signature false (24 ∷ []) (24 ∷ []) [] ∷
    -- constants_1
    signature false (27 ∷ []) (27 ∷ []) [] ∷
    -- substitution_1
    signature false (30 ∷ []) (30 ∷ []) [] ∷
    -- simple_1
    signature false (31 ∷ []) (31 ∷ []) [] ∷
    -- channels_1
    signature false (20 ∷ []) (20 ∷ []) [] ∷
    -- channel_1
    signature false ([]) (35 ∷ []) [] ∷
    -- controller_rest_1
    signature false ([]) (24 ∷ []) [] ∷
    -- controller_rest_2
    signature false (44 ∷ []) (44 ∷ []) [] ∷
    -- controller_rest_3
    signature false (38 ∷ []) (38 ∷ []) [] ∷
    -- definition_1
    signature false (37 ∷ []) (37 ∷ []) [] ∷
    -- definition_2
    signature false ([]) (35 ∷ []) [] ∷
    -- parameters_1
    signature false (37 ∷ []) (37 ∷ []) [] ∷
    -- parameter_1
    signature false (1 ∷ []) (36 ∷ []) [] ∷
    -- step_rest_1
    signature false (44 ∷ []) (44 ∷ []) [] ∷
    -- step_rest_2
    signature false ([]) (24 ∷ []) [] ∷
    -- terms_1
    signature false (44 ∷ []) (44 ∷ []) [] ∷
    -- proofs_1
    signature false (23 ∷ []) (23 ∷ []) [] ∷
    -- obligation_1
    signature false (1 ∷ 1 ∷ []) (45 ∷ []) [] ∷
    -- node_1
    signature false (49 ∷ []) (49 ∷ []) [] ∷
    -- some_nodes_1
    signature false (47 ∷ []) (47 ∷ []) [] ∷
    -- row_1
    signature false (2 ∷ []) (48 ∷ []) [] ∷
    []

abbrev pub signatures : Signatures
signatures = record { word = word_kind; action = λ n. effect_or (slice_get actions n); part = λ n. signature_or (slice_get parts n) }
