-- What is written for a value builds that value again; so there is one value for what is written.
use Rattle.std.proofs.Common.{◌≡◌, ℕ, Bool, true, false, List, [], ◌∷◌, ◌++◌, refl, ap, sym, ◌∙◌, append_assoc, append-nil, cond}
use Rattle.std.specs.Prelude.{Option, Some, None}
use Rattle.std.specs.List.{flat_map}
use Rattle.cb_lex.specs.declared.token.Place.{Place}
use Rattle.cb_lex.specs.declared.token.Token.{Token}
use Rattle.cb_lex.specs.declared.raw.name.RawName.{RawName}
use Rattle.cb_lex.specs.declared.raw.sign.RawAtom.{RawAtom}
use Rattle.cb_lex.specs.declared.raw.sign.RawAtom.TheVariants as atom
use Rattle.cb_lex.specs.declared.raw.sign.RawOperator.{RawOperator}
use Rattle.cb_lex.specs.declared.raw.sign.RawOperator.TheVariants as operator
use Rattle.cb_lex.specs.declared.raw.sign.RawRelation.{RawRelation}
use Rattle.cb_lex.specs.declared.raw.sign.RawRelation.TheVariants as relation
use Rattle.cb_lex.specs.declared.raw.domain.RawLiteral.{RawLiteral}
use Rattle.cb_lex.specs.declared.raw.domain.RawLiteral.TheVariants as literal
use Rattle.cb_lex.specs.declared.raw.domain.RawBound.{RawBound}
use Rattle.cb_lex.specs.declared.raw.domain.RawEnd.{RawEnd}
use Rattle.cb_lex.specs.declared.raw.domain.RawEnd.TheVariants as end
use Rattle.cb_lex.specs.declared.raw.domain.RawDomain.{RawDomain}
use Rattle.cb_lex.specs.declared.raw.domain.RawDomain.TheVariants as domain
use Rattle.cb_lex.specs.declared.raw.text.RawMachine.{RawMachine}
use Rattle.cb_lex.specs.declared.raw.text.RawSet.{RawSet}
use Rattle.cb_lex.specs.declared.raw.text.RawProperty.{RawProperty}
use Rattle.cb_lex.specs.declared.raw.text.RawState.{RawState}
use Rattle.cb_lex.specs.declared.raw.text.RawOperation.{RawOperation}
use Rattle.cb_lex.specs.declared.raw.proof.RawObligation.{RawObligation}
use Rattle.cb_lex.specs.declared.raw.proof.RawObligation.TheVariants as obligation
use Rattle.cb_lex.specs.declared.raw.proof.RawRow.{RawRow}
use Rattle.cb_lex.specs.declared.raw.proof.RawArguments.{RawArguments}
use Rattle.cb_lex.specs.declared.raw.proof.RawArguments.TheVariants as arguments
use Rattle.cb_lex.specs.declared.raw.proof.RawProof.{RawProof}
use Rattle.cb_lex.specs.RawCertTree.{RawCertTree, RawCerts, raw_certs}
use Rattle.cb_lex.specs.RawCertTree as cert
use Rattle.cb_lex.specs.RawTermTree.{RawTermTree, RawTerms, RawFormulaTree, raw_terms}
use Rattle.cb_lex.specs.RawTermTree as tree
use Rattle.cb_lex.specs.RawSubstTree.{RawSubstTree, RawSubsts, raw_substs}
use Rattle.cb_lex.specs.RawSubstTree as subst
use Rattle.cb_engine.specs.declared.Item.{Item}
use Rattle.cb_grammar.specs.declared.actions.TheConstants.{RELATION, RANGE, NO_NODES, APPEND_PROOF}
use Rattle.cb_grammar.specs.declared.parts.Part.{Part}
use Rattle.cb_amn_parse.specs.Lexemes.{Lexeme, Named, Said, Did, lexemes}
use Rattle.cb_amn_parse.specs.Words.{atom_sort, atom_action, operator_sort, operator_action, relation_sort}
use Rattle.cb_amn_parse.specs.Formulas.{term_out, listed_out, formula_out, terms_out, names_out, name_entry, condition_out}
use Rattle.cb_amn_parse.specs.Machines.{literal_out, end_out, bound_action, bound_out, domain_out, subst_out, choice_out, set_entry, sets_out, property_entry, properties_out, state_out, operation_entry, operations_out, machine_out}
use Rattle.cb_amn_parse.specs.Proofs.{numeral, obligation_out, row_action, row_out, row_entry, rows_out, arguments_out, rule_action, node_out, children_out, proof_entry, proofs_out}
use Rattle.cb_amn_parse.specs.Spelling.{IsSpelled}
use Rattle.cb_amn_parse.proofs.Building.{Built, Word, Formula, Term, Terms, Names, Condition, Literal, End, Bound, Domain, Subst, Sides, Sets, Properties, State, Operations, Machine, Obligation, Row, Rows, Cert, Certs, Proofs, run, run_append}

abbrev term_list : RawTerms → List RawTermTree
term_list tree.End = []
term_list (tree.More t ts) = t ∷ term_list ts

terms_again : (ts : RawTerms) → raw_terms (term_list ts) ≡ ts
terms_again tree.End = refl
terms_again (tree.More t ts) = ap (λ (y : RawTerms). tree.More t y) (terms_again ts)

run_atom : (a : RawAtom) (p : Place) (s : List Built) → run (Said (atom_sort a) p ∷ Did (atom_action a) ∷ []) s ≡ Term (tree.Atom a p) ∷ s
run_atom atom.True p s = refl
run_atom atom.False p s = refl
run_atom atom.MaxInt p s = refl
run_atom atom.MinInt p s = refl
run_atom atom.Nat p s = refl
run_atom atom.Nat1 p s = refl
run_atom atom.Int p s = refl
run_atom atom.Truths p s = refl

run_operator : (o : RawOperator) (p : Place) (l r : RawTermTree) (s : List Built) → run (Did (operator_action o) ∷ []) (Term r ∷ Word (Said (operator_sort o) p) ∷ Term l ∷ s) ≡ Term (tree.Binary o p l r) ∷ s
run_operator operator.Plus p l r s = refl
run_operator operator.Minus p l r s = refl
run_operator operator.Times p l r s = refl
run_operator operator.Divide p l r s = refl
run_operator operator.Mod p l r s = refl
run_operator operator.UpTo p l r s = refl
run_operator operator.Union p l r s = refl
run_operator operator.Intersection p l r s = refl

run_relation : (r : RawRelation) (p : Place) (a b : RawTermTree) (s : List Built) → run (Did RELATION ∷ []) (Term b ∷ Word (Said (relation_sort r) p) ∷ Term a ∷ s) ≡ Formula (tree.Relation r p a b) ∷ s
run_relation relation.Equal p a b s = refl
run_relation relation.Unequal p a b s = refl
run_relation relation.Less p a b s = refl
run_relation relation.AtMost p a b s = refl
run_relation relation.Greater p a b s = refl
run_relation relation.AtLeast p a b s = refl
run_relation relation.Member p a b s = refl
run_relation relation.NotMember p a b s = refl
run_relation relation.Subset p a b s = refl

abbrev side_list : RawSubsts → List RawSubstTree
side_list subst.NoSide = []
side_list (subst.Side t ts) = t ∷ side_list ts

sides_again : (ts : RawSubsts) → raw_substs (side_list ts) ≡ ts
sides_again subst.NoSide = refl
sides_again (subst.Side t ts) = ap (λ (y : RawSubsts). subst.Side t y) (sides_again ts)

mutual
  run_term : (t : RawTermTree) (s : List Built) → run (term_out t) s ≡ Term t ∷ s
  run_term (tree.Number n p) s = refl
  run_term (tree.Name x) s = refl
  run_term (tree.Atom a p) s = run_atom a p s
  run_term (tree.Binary o p l r) s = simp (run_append, run_term l, run_term r) (run_operator o p l r s)
  run_term (tree.Minus p t) s = simp (run_append, run_term t) refl
  run_term (tree.Card p t) s = simp (run_append, run_term t) refl
  run_term (tree.TruthOf p f) s = simp (run_append, run_formula f) refl
  run_term (tree.Listed p ts) s = simp (run_append, run_listed ts, terms_again) refl

  run_listed : (ts : RawTerms) (front : List RawTermTree) (s : List Built) → run (listed_out ts) (Terms front ∷ s) ≡ Terms (front ++ term_list ts) ∷ s
  run_listed tree.End front s = rw append-nil refl
  run_listed (tree.More t ts) front s = simp (run_append, run_term t, run_listed ts, append_assoc) refl

  run_formula : (f : RawFormulaTree) (s : List Built) → run (formula_out f) s ≡ Formula f ∷ s
  run_formula tree.True s = refl
  run_formula tree.False s = refl
  run_formula (tree.Not f) s = simp (run_append, run_formula f) refl
  run_formula (tree.And f g) s = simp (run_append, run_formula f, run_formula g) refl
  run_formula (tree.Or f g) s = simp (run_append, run_formula f, run_formula g) refl
  run_formula (tree.Implies f g) s = simp (run_append, run_formula f, run_formula g) refl
  run_formula (tree.Equivalent f g) s = simp (run_append, run_formula f, run_formula g) refl
  run_formula (tree.Relation r p a b) s = simp (run_append, run_term a, run_term b) (run_relation r p a b s)
  run_formula (tree.Every x d f) s = simp (run_append, run_formula d, run_formula f) refl
  run_formula (tree.Exists x f) s = simp (run_append, run_formula f) refl

run_names_on : (xs front : List RawName) (s : List Built) → run (flat_map name_entry xs) (Names front ∷ s) ≡ Names (front ++ xs) ∷ s
run_names_on [] front s = rw append-nil refl
run_names_on (x ∷ xs) front s = let h = run_names_on xs (front ++ x ∷ []) s in rw h (rw append_assoc refl)

run_names : (xs : List RawName) (s : List Built) → run (names_out xs) s ≡ Names xs ∷ s
run_names xs s = run_names_on xs [] s

run_condition : (c : Option RawFormulaTree) (s : List Built) → run (condition_out c) s ≡ Condition c ∷ s
run_condition None s = refl
run_condition (Some f) s = simp (run_append, run_formula f) refl

run_literal : (l : RawLiteral) (s : List Built) → run (literal_out l) s ≡ Literal l ∷ s
run_literal (literal.Number true n p) s = refl
run_literal (literal.Number false n p) s = refl
run_literal (literal.MaxInt p) s = refl
run_literal (literal.MinInt p) s = refl

run_end : (e : RawEnd) (s : List Built) → run (end_out e) s ≡ End e ∷ s
run_end (end.Number n p) s = refl
run_end (end.MaxInt p) s = refl
run_end (end.MinInt p) s = refl
run_end (end.Name x) s = refl

run_bound : (b : RawBound) (s : List Built) → run (bound_out b) s ≡ Bound b ∷ s
run_bound b s = rw (run_append (end_out b.end) (Did (bound_action b.minus) ∷ []), run_end b.end s) (signed b.minus)
  where
    signed : (minus : Bool) → run (Did (bound_action minus) ∷ []) (End b.end ∷ s) ≡ Bound (record { minus = minus; end = b.end }) ∷ s
    signed true = refl
    signed false = refl

run_domain : (d : RawDomain) (s : List Built) → run (domain_out d) s ≡ Domain d ∷ s
run_domain (domain.Range low high) s =
    let both : run (bound_out low ++ bound_out high) s ≡ Bound high ∷ Bound low ∷ s = rw (run_append (bound_out low) (bound_out high) s, run_bound low s) (run_bound high (Bound low ∷ s)) in
    rw (run_append (bound_out low ++ bound_out high) (Did RANGE ∷ []) s, both) refl
run_domain (domain.Nat p) s = refl
run_domain (domain.Nat1 p) s = refl
run_domain (domain.Int p) s = refl
run_domain (domain.Truths p) s = refl
run_domain (domain.Name x) s = refl

mutual
  run_subst : (t : RawSubstTree) (s : List Built) → run (subst_out t) s ≡ Subst t ∷ s
  run_subst subst.Skip s = refl
  run_subst (subst.Assign x t) s = simp (run_append, run_term t) refl
  run_subst (subst.Among x d) s = simp (run_append, run_domain d) refl
  run_subst (subst.If f t) s = simp (run_append, run_formula f, run_subst t) refl
  run_subst (subst.IfElse f t u) s = simp (run_append, run_formula f, run_subst t, run_subst u) refl
  run_subst (subst.Choice ts) s = simp (run_append, run_choice ts, sides_again) refl
  run_subst (subst.Any x f t) s = simp (run_append, run_formula f, run_subst t) refl
  run_subst (subst.Parallel t u) s = simp (run_append, run_subst t, run_subst u) refl

  run_choice : (ts : RawSubsts) (front : List RawSubstTree) (s : List Built) → run (choice_out ts) (Sides front ∷ s) ≡ Sides (front ++ side_list ts) ∷ s
  run_choice subst.NoSide front s = rw append-nil refl
  run_choice (subst.Side t ts) front s = simp (run_append, run_subst t, run_choice ts, append_assoc) refl

run_sets_on : (xs front : List RawSet) (s : List Built) → run (flat_map set_entry xs) (Sets front ∷ s) ≡ Sets (front ++ xs) ∷ s
run_sets_on [] front s = rw append-nil refl
run_sets_on (x ∷ xs) front s = simp (run_append, run_names x.elements, run_sets_on xs, append_assoc) refl

run_sets : (xs : List RawSet) (s : List Built) → run (sets_out xs) s ≡ Sets xs ∷ s
run_sets xs s = run_sets_on xs [] s

run_properties_on : (xs front : List RawProperty) (s : List Built) → run (flat_map property_entry xs) (Properties front ∷ s) ≡ Properties (front ++ xs) ∷ s
run_properties_on [] front s = rw append-nil refl
run_properties_on (x ∷ xs) front s = simp (run_append, run_literal x.literal, run_properties_on xs, append_assoc) refl

run_properties : (xs : List RawProperty) (s : List Built) → run (properties_out xs) s ≡ Properties xs ∷ s
run_properties xs s = run_properties_on xs [] s

run_state : (v : Option RawState) (s : List Built) → run (state_out v) s ≡ State v ∷ s
run_state None s = refl
run_state (Some v) s = simp (run_append, run_names v.variables, run_formula v.invariant, run_subst v.initialisation) refl

run_operation : (o : RawOperation) (front : List RawOperation) (s : List Built) → run (operation_entry o) (Operations front ∷ s) ≡ Operations (front ++ o ∷ []) ∷ s
run_operation o front s = simp (run_append, run_names o.results, run_names o.parameters, run_condition o.precondition, run_subst o.body) refl

run_operations_on : (xs front : List RawOperation) (s : List Built) → run (flat_map operation_entry xs) (Operations front ∷ s) ≡ Operations (front ++ xs) ∷ s
run_operations_on [] front s = rw append-nil refl
run_operations_on (x ∷ xs) front s =
    let h = run_operations_on xs (front ++ x ∷ []) s in
    rw (run_append (operation_entry x) (flat_map operation_entry xs), run_operation x front s, h) (rw append_assoc refl)

run_operations : (xs : List RawOperation) (s : List Built) → run (operations_out xs) s ≡ Operations xs ∷ s
run_operations xs s = run_operations_on xs [] s

run_machine : (m : RawMachine) (s : List Built) → run (machine_out m) s ≡ Machine m ∷ s
run_machine m s = simp (run_append, run_names m.sees, run_sets m.sets, run_names m.constants, run_properties m.properties, run_state m.state, run_operations m.operations) refl

run_obligation : (o : RawObligation) (s : List Built) → run (obligation_out o) s ≡ Obligation o ∷ s
run_obligation (obligation.OfOwner g o n) s = refl
run_obligation (obligation.OfStart p o n) s = refl
run_obligation (obligation.OfPart g o x n) s = refl
run_obligation (obligation.OfInitialisation g o p n) s = refl

run_row : (r : RawRow) (s : List Built) → run (row_out r) s ≡ Row r ∷ s
run_row r s = signed r.minus
  where
    signed : (minus : Bool) → run (numeral r.hypothesis ∷ numeral r.multiplier ∷ Did (row_action minus) ∷ []) s ≡ Row (record { hypothesis = r.hypothesis; minus = minus; multiplier = r.multiplier }) ∷ s
    signed true = refl
    signed false = refl

run_rows_on : (xs front : List RawRow) (s : List Built) → run (flat_map row_entry xs) (Rows front ∷ s) ≡ Rows (front ++ xs) ∷ s
run_rows_on [] front s = rw append-nil refl
run_rows_on (x ∷ xs) front s = simp (run_row x, run_rows_on xs, append_assoc) refl

run_rows : (xs : List RawRow) (s : List Built) → run (rows_out xs) s ≡ Rows xs ∷ s
run_rows xs s = run_rows_on xs [] s

abbrev cert_list : RawCerts → List RawCertTree
cert_list cert.NoChild = []
cert_list (cert.Child c cs) = c ∷ cert_list cs

certs_again : (cs : RawCerts) → raw_certs (cert_list cs) ≡ cs
certs_again cert.NoChild = refl
certs_again (cert.Child c cs) = ap (λ (y : RawCerts). cert.Child c y) (certs_again cs)

-- the premises of a rule build their list
abbrev RunsChildren : RawCerts → Type 0
RunsChildren cs = (front : List RawCertTree) (s : List Built) → run (children_out cs) (Certs front ∷ s) ≡ Certs (front ++ cert_list cs) ∷ s

run_rule : (w : RawName) (a : RawArguments) (cs : RawCerts) (s : List Built) → RunsChildren cs →
    run (Named w ∷ arguments_out a ++ Did NO_NODES ∷ children_out cs ++ Did (rule_action a) ∷ []) s ≡ Cert (cert.Node (record { word = w; arguments = a }) cs) ∷ s
run_rule w arguments.Nothing cs s h = simp (run_append, h, certs_again) refl
run_rule w (arguments.Hypothesis n) cs s h = simp (run_append, h, certs_again) refl
run_rule w (arguments.TwoHypotheses m n) cs s h = simp (run_append, h, certs_again) refl
run_rule w (arguments.Rows rs) cs s h = simp (run_append, run_rows rs, h, certs_again) refl
run_rule w (arguments.Formula f) cs s h = simp (run_append, run_formula f, h, certs_again) refl
run_rule w (arguments.Term t) cs s h = simp (run_append, run_term t, h, certs_again) refl
run_rule w (arguments.TwoTerms t u) cs s h = simp (run_append, run_term t, run_term u, h, certs_again) refl
run_rule w (arguments.HypothesisTerm n t) cs s h = simp (run_append, run_term t, h, certs_again) refl
run_rule w (arguments.TermNumber t n) cs s h = simp (run_append, run_term t, h, certs_again) refl

mutual
  run_cert : (c : RawCertTree) (s : List Built) → run (node_out c) s ≡ Cert c ∷ s
  run_cert (cert.Node r cs) s = run_rule r.word r.arguments cs s (run_children cs)

  run_children : (cs : RawCerts) (front : List RawCertTree) (s : List Built) → run (children_out cs) (Certs front ∷ s) ≡ Certs (front ++ cert_list cs) ∷ s
  run_children cert.NoChild front s = rw append-nil refl
  run_children (cert.Child c cs) front s = simp (run_append, run_cert c, run_children cs, append_assoc) refl

run_proofs_on : (xs front : List RawProof) (s : List Built) → run (flat_map proof_entry xs) (Proofs front ∷ s) ≡ Proofs (front ++ xs) ∷ s
run_proofs_on [] front s = rw append-nil refl
run_proofs_on (x ∷ xs) front s = simp (run_append, run_obligation x.name, run_cert x.cert, run_proofs_on xs, append_assoc) refl

run_proofs : (xs : List RawProof) (s : List Built) → run (proofs_out xs) s ≡ Proofs xs ∷ s
run_proofs xs s = run_proofs_on xs [] s

again : (a b : List Lexeme) (x y : Built) → run a [] ≡ x ∷ [] → run b [] ≡ y ∷ [] → a ≡ b → x ∷ [] ≡ y ∷ []
again a b x y p q e = sym p ∙ (ap (λ (ls : List Lexeme). run ls []) e ∙ q)

pub formula_once : (f g : RawFormulaTree) → formula_out f ≡ formula_out g → f ≡ g
formula_once f g e = let q : Formula f ∷ [] ≡ Formula g ∷ [] = again (formula_out f) (formula_out g) (Formula f) (Formula g) (run_formula f []) (run_formula g []) e in cc

pub term_once : (t u : RawTermTree) → term_out t ≡ term_out u → t ≡ u
term_once t u e = let q : Term t ∷ [] ≡ Term u ∷ [] = again (term_out t) (term_out u) (Term t) (Term u) (run_term t []) (run_term u []) e in cc

pub domain_once : (d e : RawDomain) → domain_out d ≡ domain_out e → d ≡ e
domain_once d e p = let q : Domain d ∷ [] ≡ Domain e ∷ [] = again (domain_out d) (domain_out e) (Domain d) (Domain e) (run_domain d []) (run_domain e []) p in cc

pub machine_once : (m n : RawMachine) → machine_out m ≡ machine_out n → m ≡ n
machine_once m n e = let q : Machine m ∷ [] ≡ Machine n ∷ [] = again (machine_out m) (machine_out n) (Machine m) (Machine n) (run_machine m []) (run_machine n []) e in cc

pub proofs_once : (ps qs : List RawProof) → proofs_out ps ≡ proofs_out qs → ps ≡ qs
proofs_once ps qs e = let q : Proofs ps ∷ [] ≡ Proofs qs ∷ [] = again (proofs_out ps) (proofs_out qs) (Proofs ps) (Proofs qs) (run_proofs ps []) (run_proofs qs []) e in cc

-- the items are determined by the tokens
pub same_out : (p : Part) (depth : ℕ) (opened : Bool) (ts : List Token) (taken : ℕ) (a b : List Lexeme) → IsSpelled p depth opened ts taken a → IsSpelled p depth opened ts taken b → a ≡ b
same_out p depth opened ts taken a b x y =
    let e : y.items ≡ x.items = x.read.whole.only y.items y.read.whole.spelled in
    sym x.told ∙ (ap (λ (i : List Item). lexemes ts i) (sym e) ∙ y.told)
