-- What is written for a machine and its parts builds it again, with no action of texts, controllers and processes.
use Rattle.std.proofs.Common.{◌≡◌, ℕ, Bool, true, false, List, [], ◌∷◌, ◌++◌, refl, ap, append_assoc, append-nil, cond, nat_le, ◌&&◌, ◌||◌}
use Rattle.std.specs.Prelude.{Option, Some, None}
use Rattle.std.specs.List.{flat_map}
use Rattle.cb_lex.specs.declared.token.Place.{Place}
use Rattle.cb_lex.specs.declared.raw.name.RawName.{RawName}
use Rattle.cb_lex.specs.declared.raw.sign.RawAtom.{RawAtom}
use Rattle.cb_lex.specs.declared.raw.sign.RawAtom.TheVariants as atom
use Rattle.cb_lex.specs.declared.raw.sign.RawOperator.{RawOperator}
use Rattle.cb_lex.specs.declared.raw.sign.RawOperator.TheVariants as operator
use Rattle.cb_lex.specs.declared.raw.sign.RawRelation.{RawRelation}
use Rattle.cb_lex.specs.declared.raw.sign.RawRelation.TheVariants as relation
use Rattle.cb_lex.specs.declared.raw.domain.RawLiteral.{RawLiteral}
use Rattle.cb_lex.specs.declared.raw.domain.RawLiteral.TheVariants as literal
use Rattle.cb_lex.specs.declared.raw.domain.RawBound.{RawBound}
use Rattle.cb_lex.specs.declared.raw.domain.RawEnd.{RawEnd}
use Rattle.cb_lex.specs.declared.raw.domain.RawEnd.TheVariants as end
use Rattle.cb_lex.specs.declared.raw.domain.RawDomain.{RawDomain}
use Rattle.cb_lex.specs.declared.raw.domain.RawDomain.TheVariants as domain
use Rattle.cb_lex.specs.declared.raw.text.RawMachine.{RawMachine}
use Rattle.cb_lex.specs.declared.raw.text.RawSet.{RawSet}
use Rattle.cb_lex.specs.declared.raw.text.RawProperty.{RawProperty}
use Rattle.cb_lex.specs.declared.raw.text.RawState.{RawState}
use Rattle.cb_lex.specs.declared.raw.text.RawOperation.{RawOperation}
use Rattle.cb_lex.specs.RawTermTree.{RawTermTree, RawTerms, RawFormulaTree, raw_terms}
use Rattle.cb_lex.specs.RawTermTree as tree
use Rattle.cb_lex.specs.RawSubstTree.{RawSubstTree, RawSubsts, raw_substs}
use Rattle.cb_lex.specs.RawSubstTree as subst
use Rattle.cb_grammar.specs.declared.actions.TheConstants.{RELATION, RANGE}
use Rattle.cb_amn_parse.specs.Lexemes.{Lexeme, Said, Did}
use Rattle.cb_amn_parse.specs.Words.{atom_sort, atom_action, operator_sort, operator_action, relation_sort}
use Rattle.cb_amn_parse.specs.Formulas.{term_out, listed_out, formula_out, terms_out, names_out, name_entry, condition_out}
use Rattle.cb_amn_parse.specs.Machines.{literal_out, end_out, bound_action, bound_out, domain_out, subst_out, choice_out, set_entry, sets_out, property_entry, properties_out, state_out, operation_entry, operations_out, machine_out}
use Rattle.cb_amn_parse.proofs.Building.{Built, Word, Formula, Term, Terms, Names, Condition, Literal, End, Bound, Domain, Subst, Sides, Sets, Properties, State, Operations, Machine, told}

-- the actions of texts, channels, controllers and processes
abbrev pub is_new : ℕ → Bool
is_new a = nat_le a 5 || (nat_le 40 a && nat_le a 60)

abbrev pub is_new_lexeme : Lexeme → Bool
is_new_lexeme (Did a) = is_new a
is_new_lexeme _ = false

abbrev pub told_old : Lexeme → Option (List Built) → Option (List Built)
told_old x None = None
told_old x (Some s) = cond (is_new_lexeme x) None (Some (told x s))

-- one more stack for what is written, or none where one of those actions stands in it
abbrev pub go : List Lexeme → Option (List Built) → Option (List Built)
go [] s = s
go (x ∷ ls) s = go ls (told_old x s)

go_append : (a b : List Lexeme) (s : Option (List Built)) → go (a ++ b) s ≡ go b (go a s)
go_append [] b s = refl
go_append (l ∷ a) b s = go_append a b (told_old l s)

abbrev term_list : RawTerms → List RawTermTree
term_list tree.End = []
term_list (tree.More t ts) = t ∷ term_list ts

terms_again : (ts : RawTerms) → raw_terms (term_list ts) ≡ ts
terms_again tree.End = refl
terms_again (tree.More t ts) = ap (λ (y : RawTerms). tree.More t y) (terms_again ts)

list_again : (ts : List RawTermTree) → term_list (raw_terms ts) ≡ ts
list_again [] = refl
list_again (t ∷ ts) = ap (λ (y : List RawTermTree). t ∷ y) (list_again ts)

go_atom : (a : RawAtom) (p : Place) (s : List Built) → go (Said (atom_sort a) p ∷ Did (atom_action a) ∷ []) (Some s) ≡ Some (Term (tree.Atom a p) ∷ s)
go_atom atom.True p s = refl
go_atom atom.False p s = refl
go_atom atom.MaxInt p s = refl
go_atom atom.MinInt p s = refl
go_atom atom.Nat p s = refl
go_atom atom.Nat1 p s = refl
go_atom atom.Int p s = refl
go_atom atom.Truths p s = refl

go_operator : (o : RawOperator) (p : Place) (l r : RawTermTree) (s : List Built) → go (Did (operator_action o) ∷ []) (Some (Term r ∷ Word (Said (operator_sort o) p) ∷ Term l ∷ s)) ≡ Some (Term (tree.Binary o p l r) ∷ s)
go_operator operator.Plus p l r s = refl
go_operator operator.Minus p l r s = refl
go_operator operator.Times p l r s = refl
go_operator operator.Divide p l r s = refl
go_operator operator.Mod p l r s = refl
go_operator operator.UpTo p l r s = refl
go_operator operator.Union p l r s = refl
go_operator operator.Intersection p l r s = refl

go_relation : (r : RawRelation) (p : Place) (a b : RawTermTree) (s : List Built) → go (Did RELATION ∷ []) (Some (Term b ∷ Word (Said (relation_sort r) p) ∷ Term a ∷ s)) ≡ Some (Formula (tree.Relation r p a b) ∷ s)
go_relation relation.Equal p a b s = refl
go_relation relation.Unequal p a b s = refl
go_relation relation.Less p a b s = refl
go_relation relation.AtMost p a b s = refl
go_relation relation.Greater p a b s = refl
go_relation relation.AtLeast p a b s = refl
go_relation relation.Member p a b s = refl
go_relation relation.NotMember p a b s = refl
go_relation relation.Subset p a b s = refl

abbrev pub side_list : RawSubsts → List RawSubstTree
side_list subst.NoSide = []
side_list (subst.Side t ts) = t ∷ side_list ts

sides_again : (ts : RawSubsts) → raw_substs (side_list ts) ≡ ts
sides_again subst.NoSide = refl
sides_again (subst.Side t ts) = ap (λ (y : RawSubsts). subst.Side t y) (sides_again ts)

mutual
  pub go_term : (t : RawTermTree) (s : List Built) → go (term_out t) (Some s) ≡ Some (Term t ∷ s)
  go_term (tree.Number n p) s = refl
  go_term (tree.Name x) s = refl
  go_term (tree.Atom a p) s = go_atom a p s
  go_term (tree.Binary o p l r) s = simp (go_append, go_term l, go_term r) (go_operator o p l r s)
  go_term (tree.Minus p t) s = simp (go_append, go_term t) refl
  go_term (tree.Card p t) s = simp (go_append, go_term t) refl
  go_term (tree.TruthOf p f) s = simp (go_append, go_formula f) refl
  go_term (tree.Listed p ts) s = simp (go_append, go_listed ts, terms_again) refl

  go_listed : (ts : RawTerms) (front : List RawTermTree) (s : List Built) → go (listed_out ts) (Some (Terms front ∷ s)) ≡ Some (Terms (front ++ term_list ts) ∷ s)
  go_listed tree.End front s = rw append-nil refl
  go_listed (tree.More t ts) front s = simp (go_append, go_term t, go_listed ts, append_assoc) refl

  pub go_formula : (f : RawFormulaTree) (s : List Built) → go (formula_out f) (Some s) ≡ Some (Formula f ∷ s)
  go_formula tree.True s = refl
  go_formula tree.False s = refl
  go_formula (tree.Not f) s = simp (go_append, go_formula f) refl
  go_formula (tree.And f g) s = simp (go_append, go_formula f, go_formula g) refl
  go_formula (tree.Or f g) s = simp (go_append, go_formula f, go_formula g) refl
  go_formula (tree.Implies f g) s = simp (go_append, go_formula f, go_formula g) refl
  go_formula (tree.Equivalent f g) s = simp (go_append, go_formula f, go_formula g) refl
  go_formula (tree.Relation r p a b) s = simp (go_append, go_term a, go_term b) (go_relation r p a b s)
  go_formula (tree.Every x d f) s = simp (go_append, go_formula d, go_formula f) refl
  go_formula (tree.Exists x f) s = simp (go_append, go_formula f) refl

pub go_terms : (ts : List RawTermTree) (s : List Built) → go (terms_out ts) (Some s) ≡ Some (Terms ts ∷ s)
go_terms ts s = rw (go_listed (raw_terms ts) [] s, list_again ts) refl

go_names_on : (xs front : List RawName) (s : List Built) → go (flat_map name_entry xs) (Some (Names front ∷ s)) ≡ Some (Names (front ++ xs) ∷ s)
go_names_on [] front s = rw append-nil refl
go_names_on (x ∷ xs) front s = let h = go_names_on xs (front ++ x ∷ []) s in rw h (rw append_assoc refl)

pub go_names : (xs : List RawName) (s : List Built) → go (names_out xs) (Some s) ≡ Some (Names xs ∷ s)
go_names xs s = go_names_on xs [] s

pub go_condition : (c : Option RawFormulaTree) (s : List Built) → go (condition_out c) (Some s) ≡ Some (Condition c ∷ s)
go_condition None s = refl
go_condition (Some f) s = simp (go_append, go_formula f) refl

pub go_literal : (l : RawLiteral) (s : List Built) → go (literal_out l) (Some s) ≡ Some (Literal l ∷ s)
go_literal (literal.Number true n p) s = refl
go_literal (literal.Number false n p) s = refl
go_literal (literal.MaxInt p) s = refl
go_literal (literal.MinInt p) s = refl

pub go_end : (e : RawEnd) (s : List Built) → go (end_out e) (Some s) ≡ Some (End e ∷ s)
go_end (end.Number n p) s = refl
go_end (end.MaxInt p) s = refl
go_end (end.MinInt p) s = refl
go_end (end.Name x) s = refl

pub go_bound : (b : RawBound) (s : List Built) → go (bound_out b) (Some s) ≡ Some (Bound b ∷ s)
go_bound b s = rw (go_append (end_out b.end) (Did (bound_action b.minus) ∷ []), go_end b.end s) (signed b.minus)
  where
    signed : (minus : Bool) → go (Did (bound_action minus) ∷ []) (Some (End b.end ∷ s)) ≡ Some (Bound (record { minus = minus; end = b.end }) ∷ s)
    signed true = refl
    signed false = refl

pub go_domain : (d : RawDomain) (s : List Built) → go (domain_out d) (Some s) ≡ Some (Domain d ∷ s)
go_domain (domain.Range low high) s =
    let both : go (bound_out low ++ bound_out high) (Some s) ≡ Some (Bound high ∷ Bound low ∷ s) = rw (go_append (bound_out low) (bound_out high) (Some s), go_bound low s) (go_bound high (Bound low ∷ s)) in
    rw (go_append (bound_out low ++ bound_out high) (Did RANGE ∷ []) (Some s), both) refl
go_domain (domain.Nat p) s = refl
go_domain (domain.Nat1 p) s = refl
go_domain (domain.Int p) s = refl
go_domain (domain.Truths p) s = refl
go_domain (domain.Name x) s = refl

mutual
  pub go_subst : (t : RawSubstTree) (s : List Built) → go (subst_out t) (Some s) ≡ Some (Subst t ∷ s)
  go_subst subst.Skip s = refl
  go_subst (subst.Assign x t) s = simp (go_append, go_term t) refl
  go_subst (subst.Among x d) s = simp (go_append, go_domain d) refl
  go_subst (subst.If f t) s = simp (go_append, go_formula f, go_subst t) refl
  go_subst (subst.IfElse f t u) s = simp (go_append, go_formula f, go_subst t, go_subst u) refl
  go_subst (subst.Choice ts) s = simp (go_append, go_choice ts, sides_again) refl
  go_subst (subst.Any x f t) s = simp (go_append, go_formula f, go_subst t) refl
  go_subst (subst.Parallel t u) s = simp (go_append, go_subst t, go_subst u) refl

  pub go_choice : (ts : RawSubsts) (front : List RawSubstTree) (s : List Built) → go (choice_out ts) (Some (Sides front ∷ s)) ≡ Some (Sides (front ++ side_list ts) ∷ s)
  go_choice subst.NoSide front s = rw append-nil refl
  go_choice (subst.Side t ts) front s = simp (go_append, go_subst t, go_choice ts, append_assoc) refl

go_sets_on : (xs front : List RawSet) (s : List Built) → go (flat_map set_entry xs) (Some (Sets front ∷ s)) ≡ Some (Sets (front ++ xs) ∷ s)
go_sets_on [] front s = rw append-nil refl
go_sets_on (x ∷ xs) front s = simp (go_append, go_names x.elements, go_sets_on xs, append_assoc) refl

pub go_sets : (xs : List RawSet) (s : List Built) → go (sets_out xs) (Some s) ≡ Some (Sets xs ∷ s)
go_sets xs s = go_sets_on xs [] s

go_properties_on : (xs front : List RawProperty) (s : List Built) → go (flat_map property_entry xs) (Some (Properties front ∷ s)) ≡ Some (Properties (front ++ xs) ∷ s)
go_properties_on [] front s = rw append-nil refl
go_properties_on (x ∷ xs) front s = simp (go_append, go_literal x.literal, go_properties_on xs, append_assoc) refl

pub go_properties : (xs : List RawProperty) (s : List Built) → go (properties_out xs) (Some s) ≡ Some (Properties xs ∷ s)
go_properties xs s = go_properties_on xs [] s

pub go_state : (v : Option RawState) (s : List Built) → go (state_out v) (Some s) ≡ Some (State v ∷ s)
go_state None s = refl
go_state (Some v) s = simp (go_append, go_names v.variables, go_formula v.invariant, go_subst v.initialisation) refl

go_operation : (o : RawOperation) (front : List RawOperation) (s : List Built) → go (operation_entry o) (Some (Operations front ∷ s)) ≡ Some (Operations (front ++ o ∷ []) ∷ s)
go_operation o front s = simp (go_append, go_names o.results, go_names o.parameters, go_condition o.precondition, go_subst o.body) refl

go_operations_on : (xs front : List RawOperation) (s : List Built) → go (flat_map operation_entry xs) (Some (Operations front ∷ s)) ≡ Some (Operations (front ++ xs) ∷ s)
go_operations_on [] front s = rw append-nil refl
go_operations_on (x ∷ xs) front s =
    let h = go_operations_on xs (front ++ x ∷ []) s in
    rw (go_append (operation_entry x) (flat_map operation_entry xs), go_operation x front s, h) (rw append_assoc refl)

pub go_operations : (xs : List RawOperation) (s : List Built) → go (operations_out xs) (Some s) ≡ Some (Operations xs ∷ s)
go_operations xs s = go_operations_on xs [] s

pub go_machine : (m : RawMachine) (s : List Built) → go (machine_out m) (Some s) ≡ Some (Machine m ∷ s)
go_machine m s = simp (go_append, go_names m.sees, go_sets m.sets, go_names m.constants, go_properties m.properties, go_state m.state, go_operations m.operations) refl
