-- A machine that builds the values again from what was written for them.
use Rattle.std.proofs.Common.{◌≡◌, ℕ, ℤ, Bool, true, false, List, [], ◌∷◌, ◌++◌, refl, ap, append_assoc, cond, eqb, nat_le, if◌then◌else◌}
use Rattle.std.specs.Prelude.{Option, Some, None}
use Rattle.cb_lex.specs.declared.token.Place.{Place}
use Rattle.cb_lex.specs.declared.token.Sort.{Sort}
use Rattle.cb_lex.specs.declared.token.Sort.TheVariants as sort
use Rattle.cb_lex.specs.declared.token.Keyword.{Keyword}
use Rattle.cb_lex.specs.declared.token.Keyword.TheVariants as keyword
use Rattle.cb_lex.specs.declared.token.Sign.{Sign}
use Rattle.cb_lex.specs.declared.token.Sign.TheVariants as sign
use Rattle.cb_lex.specs.declared.raw.name.RawName.{RawName}
use Rattle.cb_lex.specs.declared.raw.sign.RawAtom.{RawAtom}
use Rattle.cb_lex.specs.declared.raw.sign.RawAtom.TheVariants as atom
use Rattle.cb_lex.specs.declared.raw.sign.RawOperator.{RawOperator}
use Rattle.cb_lex.specs.declared.raw.sign.RawOperator.TheVariants as operator
use Rattle.cb_lex.specs.declared.raw.sign.RawRelation.{RawRelation}
use Rattle.cb_lex.specs.declared.raw.sign.RawRelation.TheVariants as relation
use Rattle.cb_lex.specs.declared.raw.domain.RawLiteral.{RawLiteral}
use Rattle.cb_lex.specs.declared.raw.domain.RawLiteral.TheVariants as literal
use Rattle.cb_lex.specs.declared.raw.domain.RawBound.{RawBound}
use Rattle.cb_lex.specs.declared.raw.domain.RawEnd.{RawEnd}
use Rattle.cb_lex.specs.declared.raw.domain.RawEnd.TheVariants as end
use Rattle.cb_lex.specs.declared.raw.domain.RawDomain.{RawDomain}
use Rattle.cb_lex.specs.declared.raw.domain.RawDomain.TheVariants as domain
use Rattle.cb_lex.specs.declared.raw.text.RawMachine.{RawMachine}
use Rattle.cb_lex.specs.declared.raw.text.RawSet.{RawSet}
use Rattle.cb_lex.specs.declared.raw.text.RawProperty.{RawProperty}
use Rattle.cb_lex.specs.declared.raw.text.RawState.{RawState}
use Rattle.cb_lex.specs.declared.raw.text.RawOperation.{RawOperation}
use Rattle.cb_lex.specs.declared.raw.proof.RawObligation.{RawObligation}
use Rattle.cb_lex.specs.declared.raw.proof.RawObligation.TheVariants as obligation
use Rattle.cb_lex.specs.declared.raw.proof.RawRow.{RawRow}
use Rattle.cb_lex.specs.declared.raw.proof.RawArguments.{RawArguments}
use Rattle.cb_lex.specs.declared.raw.proof.RawArguments.TheVariants as arguments
use Rattle.cb_lex.specs.declared.raw.proof.RawProof.{RawProof}
use Rattle.cb_lex.specs.RawCertTree.{RawCertTree, raw_certs}
use Rattle.cb_lex.specs.RawCertTree as cert
use Rattle.cb_lex.specs.RawTermTree.{RawTermTree, RawTerms, RawFormulaTree, raw_terms}
use Rattle.cb_lex.specs.RawTermTree as tree
use Rattle.cb_lex.specs.RawSubstTree.{RawSubstTree, RawSubsts, raw_substs}
use Rattle.cb_lex.specs.RawSubstTree as subst
use Rattle.cb_grammar.specs.declared.actions.TheConstants.{MACHINE, NO_NAMES, APPEND_NAME, NO_SETS, APPEND_SET, NO_PROPERTIES, APPEND_PROPERTY, LITERAL, MINUS_LITERAL, LIMIT_LITERAL, NO_STATE, SOME_STATE, NO_OPERATIONS, APPEND_OPERATION, SOME_CONDITION, NO_CONDITION, PARALLEL, SKIP, ASSIGN, AMONG, IF, IF_WITHOUT_ELSE, NO_SIDES, APPEND_SIDE, CHOICE, ANY, NAMED_DOMAIN, SET_DOMAIN, RANGE, BOUND, MINUS_BOUND, NUMBER_END, LIMIT_END, NAME_END, ALWAYS_TRUE, ALWAYS_FALSE, NOT, AND, OR, IMPLIES, EQUIVALENT, FOR_ALL, EXISTS, RELATION, NO_TERMS, APPEND_TERM, NAME_TERM, NUMBER_TERM, TRUTH_TERM, LIMIT_TERM, SET_TERM, MINUS, BINARY, SUBTRACT, CARD, BOOL, LISTED, NO_PROOFS, APPEND_PROOF, OBLIGATION_OF_OWNER, OBLIGATION_OF_START, OBLIGATION_OF_PART, OBLIGATION_OF_INITIALISATION, NO_NODES, APPEND_NODE, NO_ROWS, APPEND_ROW, ROW, MINUS_ROW, RULE, RULE_HYPOTHESIS, RULE_TWO_HYPOTHESES, RULE_ROWS, RULE_FORMULA, RULE_TERM, RULE_TWO_TERMS, RULE_HYPOTHESIS_TERM}
use Rattle.cb_amn_parse.specs.Lexemes.{Lexeme, Named, Said, Did, Lost}

pub data Built : Type 0 where
  Word : Lexeme → Built
  Formula : RawFormulaTree → Built
  Term : RawTermTree → Built
  Terms : List RawTermTree → Built
  Names : List RawName → Built
  Condition : Option RawFormulaTree → Built
  Literal : RawLiteral → Built
  End : RawEnd → Built
  Bound : RawBound → Built
  Domain : RawDomain → Built
  Subst : RawSubstTree → Built
  Sides : List RawSubstTree → Built
  Sets : List RawSet → Built
  Properties : List RawProperty → Built
  State : Option RawState → Built
  Operations : List RawOperation → Built
  Machine : RawMachine → Built
  Obligation : RawObligation → Built
  Row : RawRow → Built
  Rows : List RawRow → Built
  Cert : RawCertTree → Built
  Certs : List RawCertTree → Built
  Proofs : List RawProof → Built

abbrev pub sort_atom : Sort → RawAtom
sort_atom (sort.Keyword keyword.True) = atom.True
sort_atom (sort.Keyword keyword.False) = atom.False
sort_atom (sort.Keyword keyword.MaxInt) = atom.MaxInt
sort_atom (sort.Keyword keyword.MinInt) = atom.MinInt
sort_atom (sort.Keyword keyword.Nat) = atom.Nat
sort_atom (sort.Keyword keyword.Nat1) = atom.Nat1
sort_atom (sort.Keyword keyword.Int) = atom.Int
sort_atom _ = atom.Truths

abbrev pub sort_operator : Sort → RawOperator
sort_operator (sort.Sign sign.Plus) = operator.Plus
sort_operator (sort.Sign sign.Minus) = operator.Minus
sort_operator (sort.Sign sign.Times) = operator.Times
sort_operator (sort.Sign sign.Divide) = operator.Divide
sort_operator (sort.Sign sign.UpTo) = operator.UpTo
sort_operator (sort.Sign sign.Union) = operator.Union
sort_operator (sort.Sign sign.Intersection) = operator.Intersection
sort_operator _ = operator.Mod

abbrev pub sort_relation : Sort → RawRelation
sort_relation (sort.Sign sign.Equal) = relation.Equal
sort_relation (sort.Sign sign.Unequal) = relation.Unequal
sort_relation (sort.Sign sign.Less) = relation.Less
sort_relation (sort.Sign sign.AtMost) = relation.AtMost
sort_relation (sort.Sign sign.Greater) = relation.Greater
sort_relation (sort.Sign sign.AtLeast) = relation.AtLeast
sort_relation (sort.Sign sign.Member) = relation.Member
sort_relation (sort.Sign sign.NotMember) = relation.NotMember
sort_relation _ = relation.Subset

abbrev limit_or : {X : Type 0} → Sort → X → X → X
limit_or (sort.Keyword keyword.MaxInt) a b = a
limit_or _ a b = b

abbrev set_domain : Sort → Place → RawDomain
set_domain (sort.Keyword keyword.Nat) p = domain.Nat p
set_domain (sort.Keyword keyword.Nat1) p = domain.Nat1 p
set_domain (sort.Keyword keyword.Int) p = domain.Int p
set_domain _ p = domain.Truths p

abbrev one_formula : (RawFormulaTree → RawFormulaTree) → List Built → List Built
one_formula c (Formula f ∷ s) = Formula (c f) ∷ s
one_formula c _ = []

abbrev two_formulas : (RawFormulaTree → RawFormulaTree → RawFormulaTree) → List Built → List Built
two_formulas c (Formula g ∷ Formula f ∷ s) = Formula (c f g) ∷ s
two_formulas c _ = []

abbrev for_all : List Built → List Built
for_all (Formula b ∷ Formula d ∷ Word (Named x) ∷ s) = Formula (tree.Every x d b) ∷ s
for_all _ = []

abbrev exists : List Built → List Built
exists (Formula b ∷ Word (Named x) ∷ s) = Formula (tree.Exists x b) ∷ s
exists _ = []

abbrev related : List Built → List Built
related (Term b ∷ Word (Said r p) ∷ Term a ∷ s) = Formula (tree.Relation (sort_relation r) p a b) ∷ s
related _ = []

abbrev some_condition : List Built → List Built
some_condition (Formula f ∷ s) = Condition (Some f) ∷ s
some_condition _ = []

abbrev formula_step : ℕ → List Built → List Built
formula_step a s =
    if eqb a ALWAYS_TRUE then Formula tree.True ∷ s else
    if eqb a ALWAYS_FALSE then Formula tree.False ∷ s else
    if eqb a NOT then one_formula (λ f. tree.Not f) s else
    if eqb a AND then two_formulas (λ f g. tree.And f g) s else
    if eqb a OR then two_formulas (λ f g. tree.Or f g) s else
    if eqb a IMPLIES then two_formulas (λ f g. tree.Implies f g) s else
    if eqb a EQUIVALENT then two_formulas (λ f g. tree.Equivalent f g) s else
    if eqb a FOR_ALL then for_all s else
    if eqb a EXISTS then exists s else
    if eqb a RELATION then related s else
    if eqb a SOME_CONDITION then some_condition s else
    Condition None ∷ s

abbrev append_term : List Built → List Built
append_term (Term t ∷ Terms ts ∷ s) = Terms (ts ++ t ∷ []) ∷ s
append_term _ = []

abbrev name_term : List Built → List Built
name_term (Word (Named x) ∷ s) = Term (tree.Name x) ∷ s
name_term _ = []

abbrev number_term : List Built → List Built
number_term (Word (Said (sort.Number n) p) ∷ s) = Term (tree.Number n p) ∷ s
number_term _ = []

abbrev atom_term : List Built → List Built
atom_term (Word (Said a p) ∷ s) = Term (tree.Atom (sort_atom a) p) ∷ s
atom_term _ = []

abbrev one_term : (Place → RawTermTree → RawTermTree) → List Built → List Built
one_term c (Term t ∷ Word (Said m p) ∷ s) = Term (c p t) ∷ s
one_term c _ = []

abbrev joined : List Built → List Built
joined (Term r ∷ Word (Said o p) ∷ Term l ∷ s) = Term (tree.Binary (sort_operator o) p l r) ∷ s
joined _ = []

abbrev truth_of : List Built → List Built
truth_of (Formula f ∷ Word (Said b p) ∷ s) = Term (tree.TruthOf p f) ∷ s
truth_of _ = []

abbrev listed : List Built → List Built
listed (Terms ts ∷ Word (Said b p) ∷ s) = Term (tree.Listed p (raw_terms ts)) ∷ s
listed _ = []

abbrev term_step : ℕ → List Built → List Built
term_step a s =
    if eqb a NO_TERMS then Terms [] ∷ s else
    if eqb a APPEND_TERM then append_term s else
    if eqb a NAME_TERM then name_term s else
    if eqb a NUMBER_TERM then number_term s else
    if eqb a MINUS then one_term (λ p t. tree.Minus p t) s else
    if eqb a CARD then one_term (λ p t. tree.Card p t) s else
    if eqb a BINARY then joined s else
    if eqb a SUBTRACT then joined s else
    if eqb a BOOL then truth_of s else
    if eqb a LISTED then listed s else
    if eqb a TRUTH_TERM then atom_term s else
    if eqb a LIMIT_TERM then atom_term s else
    if eqb a SET_TERM then atom_term s else
    formula_step a s

abbrev named_domain : List Built → List Built
named_domain (Word (Named x) ∷ s) = Domain (domain.Name x) ∷ s
named_domain _ = []

abbrev word_domain : List Built → List Built
word_domain (Word (Said w p) ∷ s) = Domain (set_domain w p) ∷ s
word_domain _ = []

abbrev range : List Built → List Built
range (Bound high ∷ Bound low ∷ s) = Domain (domain.Range low high) ∷ s
range _ = []

abbrev bound : Bool → List Built → List Built
bound minus (End e ∷ s) = Bound (record { minus = minus; end = e }) ∷ s
bound minus _ = []

abbrev number_end : List Built → List Built
number_end (Word (Said (sort.Number n) p) ∷ s) = End (end.Number n p) ∷ s
number_end _ = []

abbrev limit_end : List Built → List Built
limit_end (Word (Said w p) ∷ s) = End (limit_or w (end.MaxInt p) (end.MinInt p)) ∷ s
limit_end _ = []

abbrev name_end : List Built → List Built
name_end (Word (Named x) ∷ s) = End (end.Name x) ∷ s
name_end _ = []

abbrev domain_step : ℕ → List Built → List Built
domain_step a s =
    if eqb a NAMED_DOMAIN then named_domain s else
    if eqb a SET_DOMAIN then word_domain s else
    if eqb a RANGE then range s else
    if eqb a BOUND then bound false s else
    if eqb a MINUS_BOUND then bound true s else
    if eqb a NUMBER_END then number_end s else
    if eqb a LIMIT_END then limit_end s else
    if eqb a NAME_END then name_end s else
    term_step a s

abbrev assigned : List Built → List Built
assigned (Term t ∷ Word (Named x) ∷ s) = Subst (subst.Assign x t) ∷ s
assigned _ = []

abbrev among : List Built → List Built
among (Domain d ∷ Word (Named x) ∷ s) = Subst (subst.Among x d) ∷ s
among _ = []

abbrev parallel : List Built → List Built
parallel (Subst t ∷ Subst u ∷ s) = Subst (subst.Parallel u t) ∷ s
parallel _ = []

abbrev if_else : List Built → List Built
if_else (Subst t ∷ Subst u ∷ Formula f ∷ s) = Subst (subst.IfElse f u t) ∷ s
if_else _ = []

abbrev if_alone : List Built → List Built
if_alone (Subst u ∷ Formula f ∷ s) = Subst (subst.If f u) ∷ s
if_alone _ = []

abbrev append_side : List Built → List Built
append_side (Subst t ∷ Sides ts ∷ s) = Sides (ts ++ t ∷ []) ∷ s
append_side _ = []

abbrev choice : List Built → List Built
choice (Sides ts ∷ s) = Subst (subst.Choice (raw_substs ts)) ∷ s
choice _ = []

abbrev any : List Built → List Built
any (Subst u ∷ Formula f ∷ Word (Named x) ∷ s) = Subst (subst.Any x f u) ∷ s
any _ = []

abbrev subst_step : ℕ → List Built → List Built
subst_step a s =
    if eqb a SKIP then Subst subst.Skip ∷ s else
    if eqb a ASSIGN then assigned s else
    if eqb a AMONG then among s else
    if eqb a PARALLEL then parallel s else
    if eqb a IF then if_else s else
    if eqb a IF_WITHOUT_ELSE then if_alone s else
    if eqb a NO_SIDES then Sides [] ∷ s else
    if eqb a APPEND_SIDE then append_side s else
    if eqb a CHOICE then choice s else
    if eqb a ANY then any s else
    domain_step a s

abbrev append_name : List Built → List Built
append_name (Word (Named x) ∷ Names xs ∷ s) = Names (xs ++ x ∷ []) ∷ s
append_name _ = []

abbrev append_set : List Built → List Built
append_set (Names es ∷ Word (Named x) ∷ Sets ss ∷ s) = Sets (ss ++ record { name = x; elements = es } ∷ []) ∷ s
append_set _ = []

abbrev append_property : List Built → List Built
append_property (Literal l ∷ Word (Named x) ∷ Properties ps ∷ s) = Properties (ps ++ record { name = x; literal = l } ∷ []) ∷ s
append_property _ = []

abbrev number_literal : Bool → List Built → List Built
number_literal minus (Word (Said (sort.Number n) p) ∷ s) = Literal (literal.Number minus n p) ∷ s
number_literal minus _ = []

abbrev limit_literal : List Built → List Built
limit_literal (Word (Said w p) ∷ s) = Literal (limit_or w (literal.MaxInt p) (literal.MinInt p)) ∷ s
limit_literal _ = []

abbrev some_state : List Built → List Built
some_state (Subst i ∷ Formula f ∷ Names xs ∷ s) = State (Some (record { variables = xs; invariant = f; initialisation = i })) ∷ s
some_state _ = []

abbrev append_operation : List Built → List Built
append_operation (Subst b ∷ Condition c ∷ Names ps ∷ Word (Named x) ∷ Names rs ∷ Operations os ∷ s) =
    Operations (os ++ record { results = rs; name = x; parameters = ps; precondition = c; body = b } ∷ []) ∷ s
append_operation _ = []

abbrev machine : List Built → List Built
machine (Operations os ∷ State v ∷ Properties ps ∷ Names cs ∷ Sets ss ∷ Names ms ∷ Word (Named x) ∷ s) =
    Machine (record { name = x; sees = ms; sets = ss; constants = cs; properties = ps; state = v; operations = os }) ∷ s
machine _ = []

abbrev machine_step : ℕ → List Built → List Built
machine_step a s =
    if eqb a MACHINE then machine s else
    if eqb a NO_NAMES then Names [] ∷ s else
    if eqb a APPEND_NAME then append_name s else
    if eqb a NO_SETS then Sets [] ∷ s else
    if eqb a APPEND_SET then append_set s else
    if eqb a NO_PROPERTIES then Properties [] ∷ s else
    if eqb a APPEND_PROPERTY then append_property s else
    if eqb a LITERAL then number_literal false s else
    if eqb a MINUS_LITERAL then number_literal true s else
    if eqb a LIMIT_LITERAL then limit_literal s else
    if eqb a NO_STATE then State None ∷ s else
    if eqb a SOME_STATE then some_state s else
    if eqb a NO_OPERATIONS then Operations [] ∷ s else
    if eqb a APPEND_OPERATION then append_operation s else
    subst_step a s

abbrev of_owner : List Built → List Built
of_owner (Word (Said (sort.Number n) q) ∷ Word (Named o) ∷ Word (Named g) ∷ s) = Obligation (obligation.OfOwner g o (record { value = n; place = q })) ∷ s
of_owner _ = []

abbrev of_start : List Built → List Built
of_start (Word (Said (sort.Number n) q) ∷ Word (Named o) ∷ Word (Said w p) ∷ s) = Obligation (obligation.OfStart p o (record { value = n; place = q })) ∷ s
of_start _ = []

abbrev of_part : List Built → List Built
of_part (Word (Said (sort.Number n) q) ∷ Word (Named x) ∷ Word (Named o) ∷ Word (Named g) ∷ s) = Obligation (obligation.OfPart g o x (record { value = n; place = q })) ∷ s
of_part _ = []

abbrev of_initialisation : List Built → List Built
of_initialisation (Word (Said (sort.Number n) q) ∷ Word (Said w p) ∷ Word (Named o) ∷ Word (Named g) ∷ s) = Obligation (obligation.OfInitialisation g o p (record { value = n; place = q })) ∷ s
of_initialisation _ = []

abbrev append_proof : List Built → List Built
append_proof (Cert c ∷ Obligation o ∷ Proofs ps ∷ s) = Proofs (ps ++ record { name = o; cert = c } ∷ []) ∷ s
append_proof _ = []

abbrev append_cert : List Built → List Built
append_cert (Cert c ∷ Certs cs ∷ s) = Certs (cs ++ c ∷ []) ∷ s
append_cert _ = []

abbrev row : Bool → List Built → List Built
row minus (Word (Said (sort.Number n) q) ∷ Word (Said (sort.Number h) p) ∷ s) =
    Row (record { hypothesis = record { value = h; place = p }; minus = minus; multiplier = record { value = n; place = q } }) ∷ s
row minus _ = []

abbrev append_row : List Built → List Built
append_row (Row r ∷ Rows rs ∷ s) = Rows (rs ++ r ∷ []) ∷ s
append_row _ = []

-- a certificate by the word of its rule
abbrev cert_of : RawArguments → List RawCertTree → List Built → List Built
cert_of a cs (Word (Named w) ∷ s) = Cert (cert.Node (record { word = w; arguments = a }) (raw_certs cs)) ∷ s
cert_of a cs _ = []

abbrev plain_rule : List Built → List Built
plain_rule (Certs cs ∷ s) = cert_of arguments.Nothing cs s
plain_rule _ = []

abbrev rule_hypothesis : List Built → List Built
rule_hypothesis (Certs cs ∷ Word (Said (sort.Number n) q) ∷ s) = cert_of (arguments.Hypothesis (record { value = n; place = q })) cs s
rule_hypothesis _ = []

abbrev rule_two_hypotheses : List Built → List Built
rule_two_hypotheses (Certs cs ∷ Word (Said (sort.Number n) q) ∷ Word (Said (sort.Number m) p) ∷ s) =
    cert_of (arguments.TwoHypotheses (record { value = m; place = p }) (record { value = n; place = q })) cs s
rule_two_hypotheses _ = []

abbrev rule_rows : List Built → List Built
rule_rows (Certs cs ∷ Rows rs ∷ s) = cert_of (arguments.Rows rs) cs s
rule_rows _ = []

abbrev rule_formula : List Built → List Built
rule_formula (Certs cs ∷ Formula f ∷ s) = cert_of (arguments.Formula f) cs s
rule_formula _ = []

abbrev rule_term : List Built → List Built
rule_term (Certs cs ∷ Term t ∷ s) = cert_of (arguments.Term t) cs s
rule_term _ = []

abbrev rule_two_terms : List Built → List Built
rule_two_terms (Certs cs ∷ Term t ∷ Term u ∷ s) = cert_of (arguments.TwoTerms u t) cs s
rule_two_terms _ = []

abbrev rule_hypothesis_term : List Built → List Built
rule_hypothesis_term (Certs cs ∷ Term t ∷ Word (Said (sort.Number n) q) ∷ s) = cert_of (arguments.HypothesisTerm (record { value = n; place = q }) t) cs s
rule_hypothesis_term _ = []

abbrev rule_term_number : List Built → List Built
rule_term_number (Certs cs ∷ Word (Said (sort.Number n) q) ∷ Term t ∷ s) = cert_of (arguments.TermNumber t (record { value = n; place = q })) cs s
rule_term_number _ = []

abbrev rule_step : ℕ → List Built → List Built
rule_step a s =
    if eqb a RULE then plain_rule s else
    if eqb a RULE_HYPOTHESIS then rule_hypothesis s else
    if eqb a RULE_TWO_HYPOTHESES then rule_two_hypotheses s else
    if eqb a RULE_ROWS then rule_rows s else
    if eqb a RULE_FORMULA then rule_formula s else
    if eqb a RULE_TERM then rule_term s else
    if eqb a RULE_TWO_TERMS then rule_two_terms s else
    if eqb a RULE_HYPOTHESIS_TERM then rule_hypothesis_term s else
    rule_term_number s

abbrev proof_step : ℕ → List Built → List Built
proof_step a s =
    if eqb a NO_PROOFS then Proofs [] ∷ s else
    if eqb a APPEND_PROOF then append_proof s else
    if eqb a OBLIGATION_OF_OWNER then of_owner s else
    if eqb a OBLIGATION_OF_START then of_start s else
    if eqb a OBLIGATION_OF_PART then of_part s else
    if eqb a OBLIGATION_OF_INITIALISATION then of_initialisation s else
    if eqb a NO_NODES then Certs [] ∷ s else
    if eqb a APPEND_NODE then append_cert s else
    if eqb a NO_ROWS then Rows [] ∷ s else
    if eqb a APPEND_ROW then append_row s else
    if eqb a ROW then row false s else
    if eqb a MINUS_ROW then row true s else
    rule_step a s

abbrev step : ℕ → List Built → List Built
step a s = if nat_le NO_PROOFS a then proof_step a s else machine_step a s

abbrev pub told : Lexeme → List Built → List Built
told (Did a) s = step a s
told (Named x) s = Word (Named x) ∷ s
told (Said w p) s = Word (Said w p) ∷ s
told Lost s = s

abbrev pub run : List Lexeme → List Built → List Built
run [] s = s
run (l ∷ ls) s = run ls (told l s)

pub run_append : (a b : List Lexeme) (s : List Built) → run (a ++ b) s ≡ run b (run a s)
run_append [] b s = refl
run_append (l ∷ a) b s = run_append a b (told l s)
