-- What is written for a value with its places set aside is what is written for the value, places aside.
use Rattle.std.proofs.Common.{◌≡◌, ℕ, List, [], ◌∷◌, ◌++◌, refl, ap, ◌∙◌}
use Rattle.std.specs.Prelude.{Option, Some, None, map}
use Rattle.std.specs.List.{flat_map}
use Rattle.std.proofs.lemmas.List.{map-append}
use Rattle.cb_lex.specs.declared.token.Sort.TheVariants.{Keyword, Sign}
use Rattle.cb_lex.specs.declared.token.Keyword.TheVariants as keyword
use Rattle.cb_lex.specs.declared.token.Sign.TheVariants as sign
use Rattle.cb_lex.specs.declared.raw.name.RawName.{RawName}
use Rattle.cb_lex.specs.declared.raw.domain.RawLiteral.{RawLiteral}
use Rattle.cb_lex.specs.declared.raw.domain.RawLiteral.TheVariants as literal
use Rattle.cb_lex.specs.declared.raw.domain.RawBound.{RawBound}
use Rattle.cb_lex.specs.declared.raw.domain.RawEnd.{RawEnd}
use Rattle.cb_lex.specs.declared.raw.domain.RawEnd.TheVariants as end
use Rattle.cb_lex.specs.declared.raw.domain.RawDomain.{RawDomain}
use Rattle.cb_lex.specs.declared.raw.domain.RawDomain.TheVariants as domain
use Rattle.cb_lex.specs.declared.raw.text.RawMachine.{RawMachine}
use Rattle.cb_lex.specs.declared.raw.text.RawSet.{RawSet}
use Rattle.cb_lex.specs.declared.raw.text.RawProperty.{RawProperty}
use Rattle.cb_lex.specs.declared.raw.text.RawState.{RawState}
use Rattle.cb_lex.specs.declared.raw.text.RawOperation.{RawOperation}
use Rattle.cb_lex.specs.RawTermTree.{RawTermTree, RawTerms, RawFormulaTree}
use Rattle.cb_lex.specs.RawTermTree as tree
use Rattle.cb_lex.specs.RawSubstTree.{RawSubstTree, RawSubsts}
use Rattle.cb_lex.specs.RawSubstTree as subst
use Rattle.cb_grammar.specs.declared.actions.TheConstants.{APPEND_NAME, NO_NAMES, APPEND_TERM, NO_TERMS, MINUS, CARD, BOOL, LISTED, NOT, AND, OR, IMPLIES, EQUIVALENT, FOR_ALL, EXISTS, RELATION, SOME_CONDITION, MACHINE, NO_SETS, APPEND_SET, NO_PROPERTIES, APPEND_PROPERTY, SOME_STATE, NO_OPERATIONS, APPEND_OPERATION, PARALLEL, ASSIGN, AMONG, IF, IF_WITHOUT_ELSE, NO_SIDES, APPEND_SIDE, CHOICE, ANY, RANGE}
use Rattle.cb_amn_parse.specs.Words.{operator_sort, operator_action, relation_sort}
use Rattle.cb_amn_parse.specs.Lexemes.{Lexeme, Named, Said, Did}
use Rattle.cb_amn_parse.specs.Formulas.{term_out, listed_out, formula_out, name_entry, names_out, condition_out}
use Rattle.cb_amn_parse.specs.Machines.{bound_action, literal_out, end_out, bound_out, domain_out, subst_out, choice_out, set_entry, sets_out, property_entry, properties_out, state_out, operation_entry, operations_out, machine_out}
use Rattle.cb_amn_print.specs.Printed.{unplaced}
use Rattle.cb_amn_print.specs.Unplaced.{unplaced_name, unplaced_names, unplaced_term, unplaced_terms, unplaced_formula, unplaced_condition, unplaced_literal, unplaced_end, unplaced_bound, unplaced_domain, unplaced_subst, unplaced_sides, unplaced_set, unplaced_property, unplaced_state, unplaced_operation, unplaced_machine}

-- the second is the first, places aside
pub record Aside (a c : List Lexeme) : Type 0 where
  pub is : map unplaced a ≡ c

-- one after the other
pub join : {a b c d : List Lexeme} → Aside a c → Aside b d → Aside (a ++ b) (c ++ d)
join {a = a} {b = b} {c = c} {d = d} e f = record { is = map-append unplaced a b ∙ (ap (λ (x : List Lexeme). x ++ map unplaced b) e.is ∙ ap (λ (x : List Lexeme). c ++ x) f.is) }

pub first : (x : Lexeme) {a c : List Lexeme} → Aside a c → Aside (x ∷ a) (unplaced x ∷ c)
first x {a = a} {c = c} e = record { is = ap (λ (y : List Lexeme). unplaced x ∷ y) e.is }

pub done : (n : ℕ) → Aside (Did n ∷ []) (Did n ∷ [])
done n = record { is = refl }

mutual
  pub term_aside : (t : RawTermTree) → Aside (term_out t) (term_out (unplaced_term t))
  term_aside (tree.Number n p) = record { is = refl }
  term_aside (tree.Name x) = record { is = refl }
  term_aside (tree.Atom a p) = record { is = refl }
  term_aside (tree.Binary o p l r) = join (join (term_aside l) (first (Said (operator_sort o) p) (term_aside r))) (done (operator_action o))
  term_aside (tree.Minus p t) = join (first (Said (Sign sign.Minus) p) (term_aside t)) (done MINUS)
  term_aside (tree.Card p t) = join (first (Said (Keyword keyword.Card) p) (term_aside t)) (done CARD)
  term_aside (tree.TruthOf p f) = join (first (Said (Keyword keyword.Bool) p) (formula_aside f)) (done BOOL)
  term_aside (tree.Listed p ts) = join (first (Said (Sign sign.OpenBrace) p) (first (Did NO_TERMS) (terms_aside ts))) (done LISTED)

  terms_aside : (ts : RawTerms) → Aside (listed_out ts) (listed_out (unplaced_terms ts))
  terms_aside tree.End = record { is = refl }
  terms_aside (tree.More t ts) = join (term_aside t) (first (Did APPEND_TERM) (terms_aside ts))

  pub formula_aside : (f : RawFormulaTree) → Aside (formula_out f) (formula_out (unplaced_formula f))
  formula_aside tree.True = record { is = refl }
  formula_aside tree.False = record { is = refl }
  formula_aside (tree.Not f) = join (formula_aside f) (done NOT)
  formula_aside (tree.And f g) = join (join (formula_aside f) (formula_aside g)) (done AND)
  formula_aside (tree.Or f g) = join (join (formula_aside f) (formula_aside g)) (done OR)
  formula_aside (tree.Implies f g) = join (join (formula_aside f) (formula_aside g)) (done IMPLIES)
  formula_aside (tree.Equivalent f g) = join (join (formula_aside f) (formula_aside g)) (done EQUIVALENT)
  formula_aside (tree.Relation r p s t) = join (join (term_aside s) (first (Said (relation_sort r) p) (term_aside t))) (done RELATION)
  formula_aside (tree.Every x d f) = join (join (first (Named x) (formula_aside d)) (formula_aside f)) (done FOR_ALL)
  formula_aside (tree.Exists x f) = join (first (Named x) (formula_aside f)) (done EXISTS)

entries_aside : (xs : List RawName) → Aside (flat_map name_entry xs) (flat_map name_entry (unplaced_names xs))
entries_aside [] = record { is = refl }
entries_aside (x ∷ xs) = first (Named x) (first (Did APPEND_NAME) (entries_aside xs))

names_aside : (xs : List RawName) → Aside (names_out xs) (names_out (unplaced_names xs))
names_aside xs = first (Did NO_NAMES) (entries_aside xs)

condition_aside : (c : Option RawFormulaTree) → Aside (condition_out c) (condition_out (unplaced_condition c))
condition_aside None = record { is = refl }
condition_aside (Some f) = join (formula_aside f) (done SOME_CONDITION)

literal_aside : (l : RawLiteral) → Aside (literal_out l) (literal_out (unplaced_literal l))
literal_aside (literal.Number minus n p) = record { is = refl }
literal_aside (literal.MaxInt p) = record { is = refl }
literal_aside (literal.MinInt p) = record { is = refl }

end_aside : (e : RawEnd) → Aside (end_out e) (end_out (unplaced_end e))
end_aside (end.Number n p) = record { is = refl }
end_aside (end.MaxInt p) = record { is = refl }
end_aside (end.MinInt p) = record { is = refl }
end_aside (end.Name x) = record { is = refl }

bound_aside : (b : RawBound) → Aside (bound_out b) (bound_out (unplaced_bound b))
bound_aside b = join (end_aside b.end) (done (bound_action b.minus))

domain_aside : (d : RawDomain) → Aside (domain_out d) (domain_out (unplaced_domain d))
domain_aside (domain.Range low high) = join (join (bound_aside low) (bound_aside high)) (done RANGE)
domain_aside (domain.Nat p) = record { is = refl }
domain_aside (domain.Nat1 p) = record { is = refl }
domain_aside (domain.Int p) = record { is = refl }
domain_aside (domain.Truths p) = record { is = refl }
domain_aside (domain.Name x) = record { is = refl }

mutual
  subst_aside : (s : RawSubstTree) → Aside (subst_out s) (subst_out (unplaced_subst s))
  subst_aside subst.Skip = record { is = refl }
  subst_aside (subst.Assign x t) = join (first (Named x) (term_aside t)) (done ASSIGN)
  subst_aside (subst.Among x d) = join (first (Named x) (domain_aside d)) (done AMONG)
  subst_aside (subst.If f s) = join (join (formula_aside f) (subst_aside s)) (done IF_WITHOUT_ELSE)
  subst_aside (subst.IfElse f s t) = join (join (join (formula_aside f) (subst_aside s)) (subst_aside t)) (done IF)
  subst_aside (subst.Choice ss) = join (first (Did NO_SIDES) (sides_aside ss)) (done CHOICE)
  subst_aside (subst.Any x f s) = join (join (first (Named x) (formula_aside f)) (subst_aside s)) (done ANY)
  subst_aside (subst.Parallel s t) = join (join (subst_aside s) (subst_aside t)) (done PARALLEL)

  sides_aside : (ss : RawSubsts) → Aside (choice_out ss) (choice_out (unplaced_sides ss))
  sides_aside subst.NoSide = record { is = refl }
  sides_aside (subst.Side s ss) = join (subst_aside s) (first (Did APPEND_SIDE) (sides_aside ss))

sets_aside : (xs : List RawSet) → Aside (flat_map set_entry xs) (flat_map set_entry (map unplaced_set xs))
sets_aside [] = record { is = refl }
sets_aside (x ∷ xs) = join (join (first (Named x.name) (names_aside x.elements)) (done APPEND_SET)) (sets_aside xs)

properties_aside : (xs : List RawProperty) → Aside (flat_map property_entry xs) (flat_map property_entry (map unplaced_property xs))
properties_aside [] = record { is = refl }
properties_aside (x ∷ xs) = join (join (first (Named x.name) (literal_aside x.literal)) (done APPEND_PROPERTY)) (properties_aside xs)

state_aside : (s : Option RawState) → Aside (state_out s) (state_out (unplaced_state s))
state_aside None = record { is = refl }
state_aside (Some s) = join (join (join (names_aside s.variables) (formula_aside s.invariant)) (subst_aside s.initialisation)) (done SOME_STATE)

operations_aside : (xs : List RawOperation) → Aside (flat_map operation_entry xs) (flat_map operation_entry (map unplaced_operation xs))
operations_aside [] = record { is = refl }
operations_aside (x ∷ xs) =
    join (join (join (join (join (names_aside x.results) (first (Named x.name) (names_aside x.parameters))) (condition_aside x.precondition)) (subst_aside x.body)) (done APPEND_OPERATION)) (operations_aside xs)

pub machine_aside : (m : RawMachine) → Aside (machine_out m) (machine_out (unplaced_machine m))
machine_aside m =
    let names = first (Named m.name) (names_aside m.sees) in
    let sets = join names (first (Did NO_SETS) (sets_aside m.sets)) in
    let constants = join sets (names_aside m.constants) in
    let properties = join constants (first (Did NO_PROPERTIES) (properties_aside m.properties)) in
    let state = join properties (state_aside m.state) in
    join (join state (first (Did NO_OPERATIONS) (operations_aside m.operations))) (done MACHINE)
