-- The numbers of the parts in the table. Written by tools/table.py from tools/cspb.grammar.
use Rattle.std.specs.Prelude.{ℕ}

abbrev pub whole : ℕ
whole = 1

abbrev pub before_proofs : ℕ
before_proofs = 2

abbrev pub only_proofs : ℕ
only_proofs = 3

abbrev pub text : ℕ
text = 4

abbrev pub more_text : ℕ
more_text = 5

abbrev pub system_text : ℕ
system_text = 6

abbrev pub more_controllers : ℕ
more_controllers = 7

abbrev pub system : ℕ
system = 8

abbrev pub machine : ℕ
machine = 9

abbrev pub names : ℕ
names = 10

abbrev pub enumerated_set : ℕ
enumerated_set = 11

abbrev pub constants : ℕ
constants = 12

abbrev pub property : ℕ
property = 13

abbrev pub literal : ℕ
literal = 14

abbrev pub state : ℕ
state = 15

abbrev pub operation : ℕ
operation = 16

abbrev pub operation_rest : ℕ
operation_rest = 17

abbrev pub more_results : ℕ
more_results = 18

abbrev pub signature : ℕ
signature = 19

abbrev pub body : ℕ
body = 20

abbrev pub substitution : ℕ
substitution = 21

abbrev pub simple : ℕ
simple = 22

abbrev pub simple_rest : ℕ
simple_rest = 23

abbrev pub if_rest : ℕ
if_rest = 24

abbrev pub domain : ℕ
domain = 25

abbrev pub domain_rest : ℕ
domain_rest = 26

abbrev pub other_bound : ℕ
other_bound = 27

abbrev pub bound : ℕ
bound = 28

abbrev pub end : ℕ
end = 29

abbrev pub other_end : ℕ
other_end = 30

abbrev pub channels : ℕ
channels = 31

abbrev pub channel : ℕ
channel = 32

abbrev pub names_end : ℕ
names_end = 33

abbrev pub controller : ℕ
controller = 34

abbrev pub controller_rest : ℕ
controller_rest = 35

abbrev pub definition : ℕ
definition = 36

abbrev pub parameters : ℕ
parameters = 37

abbrev pub parameter : ℕ
parameter = 38

abbrev pub process : ℕ
process = 39

abbrev pub process_tail : ℕ
process_tail = 40

abbrev pub more_external : ℕ
more_external = 41

abbrev pub more_internal : ℕ
more_internal = 42

abbrev pub step : ℕ
step = 43

abbrev pub step_rest : ℕ
step_rest = 44

abbrev pub terms_end : ℕ
terms_end = 45

abbrev pub guard : ℕ
guard = 46

abbrev pub formula : ℕ
formula = 47

abbrev pub formula_tail : ℕ
formula_tail = 48

abbrev pub and_tail : ℕ
and_tail = 49

abbrev pub or_tail : ℕ
or_tail = 50

abbrev pub implies_tail : ℕ
implies_tail = 51

abbrev pub part : ℕ
part = 52

abbrev pub part_tail : ℕ
part_tail = 53

abbrev pub unit : ℕ
unit = 54

abbrev pub relation : ℕ
relation = 55

abbrev pub after_formula : ℕ
after_formula = 56

abbrev pub after_term : ℕ
after_term = 57

abbrev pub formula_or_term : ℕ
formula_or_term = 58

abbrev pub inside_formula : ℕ
inside_formula = 59

abbrev pub inside_term : ℕ
inside_term = 60

abbrev pub relation_or_none : ℕ
relation_or_none = 61

abbrev pub term : ℕ
term = 62

abbrev pub term_tail : ℕ
term_tail = 63

abbrev pub union_tail : ℕ
union_tail = 64

abbrev pub intersection_tail : ℕ
intersection_tail = 65

abbrev pub product_tail : ℕ
product_tail = 66

abbrev pub sum_tail : ℕ
sum_tail = 67

abbrev pub range_tail : ℕ
range_tail = 68

abbrev pub sum : ℕ
sum = 69

abbrev pub product : ℕ
product = 70

abbrev pub factor : ℕ
factor = 71

abbrev pub factor_start : ℕ
factor_start = 72

abbrev pub set_end : ℕ
set_end = 73

abbrev pub terms : ℕ
terms = 74

abbrev pub proofs : ℕ
proofs = 75

abbrev pub obligation : ℕ
obligation = 76

abbrev pub of_part : ℕ
of_part = 77

abbrev pub node : ℕ
node = 78

abbrev pub no_premise : ℕ
no_premise = 79

abbrev pub one_premise : ℕ
one_premise = 80

abbrev pub two_premises : ℕ
two_premises = 81

abbrev pub hypothesis_one_premise : ℕ
hypothesis_one_premise = 82

abbrev pub hypothesis_two_premises : ℕ
hypothesis_two_premises = 83

abbrev pub term_one_premise : ℕ
term_one_premise = 84

abbrev pub two_terms_two_premises : ℕ
two_terms_two_premises = 85

abbrev pub one_node : ℕ
one_node = 86

abbrev pub two_nodes : ℕ
two_nodes = 87

abbrev pub three_nodes : ℕ
three_nodes = 88

abbrev pub some_nodes : ℕ
some_nodes = 89

abbrev pub row : ℕ
row = 90

abbrev pub before_proofs_1 : ℕ
before_proofs_1 = 91

abbrev pub text_1 : ℕ
text_1 = 92

abbrev pub machine_1 : ℕ
machine_1 = 93

abbrev pub machine_2 : ℕ
machine_2 = 94

abbrev pub machine_3 : ℕ
machine_3 = 95

abbrev pub machine_4 : ℕ
machine_4 = 96

abbrev pub machine_5 : ℕ
machine_5 = 97

abbrev pub names_1 : ℕ
names_1 = 98

abbrev pub constants_1 : ℕ
constants_1 = 99

abbrev pub substitution_1 : ℕ
substitution_1 = 100

abbrev pub simple_1 : ℕ
simple_1 = 101

abbrev pub channels_1 : ℕ
channels_1 = 102

abbrev pub channel_1 : ℕ
channel_1 = 103

abbrev pub controller_rest_1 : ℕ
controller_rest_1 = 104

abbrev pub controller_rest_2 : ℕ
controller_rest_2 = 105

abbrev pub controller_rest_3 : ℕ
controller_rest_3 = 106

abbrev pub definition_1 : ℕ
definition_1 = 107

abbrev pub definition_2 : ℕ
definition_2 = 108

abbrev pub parameters_1 : ℕ
parameters_1 = 109

abbrev pub parameter_1 : ℕ
parameter_1 = 110

abbrev pub step_rest_1 : ℕ
step_rest_1 = 111

abbrev pub step_rest_2 : ℕ
step_rest_2 = 112

abbrev pub terms_1 : ℕ
terms_1 = 113

abbrev pub proofs_1 : ℕ
proofs_1 = 114

abbrev pub obligation_1 : ℕ
obligation_1 = 115

abbrev pub node_1 : ℕ
node_1 = 116

abbrev pub some_nodes_1 : ℕ
some_nodes_1 = 117

abbrev pub row_1 : ℕ
row_1 = 118
