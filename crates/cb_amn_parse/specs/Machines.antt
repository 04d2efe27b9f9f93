-- What is written for machines, their substitutions and domains.
use Rattle.std.specs.Prelude.{ℕ, List, [], ◌∷◌, ◌++◌, Option, Some, None, Bool, true, false}
use Rattle.std.specs.List.{flat_map}
use Rattle.cb_lex.specs.declared.token.Place.{Place}
use Rattle.cb_lex.specs.declared.token.Sort.TheVariants as sort
use Rattle.cb_lex.specs.declared.token.Keyword.{Keyword}
use Rattle.cb_lex.specs.declared.token.Keyword.TheVariants as keyword
use Rattle.cb_lex.specs.declared.raw.domain.RawLiteral.{RawLiteral}
use Rattle.cb_lex.specs.declared.raw.domain.RawLiteral.TheVariants as literal
use Rattle.cb_lex.specs.declared.raw.domain.RawBound.{RawBound}
use Rattle.cb_lex.specs.declared.raw.domain.RawEnd.{RawEnd}
use Rattle.cb_lex.specs.declared.raw.domain.RawEnd.TheVariants as end
use Rattle.cb_lex.specs.declared.raw.domain.RawDomain.{RawDomain}
use Rattle.cb_lex.specs.declared.raw.domain.RawDomain.TheVariants as domain
use Rattle.cb_lex.specs.declared.raw.text.RawMachine.{RawMachine}
use Rattle.cb_lex.specs.declared.raw.text.RawSet.{RawSet}
use Rattle.cb_lex.specs.declared.raw.text.RawProperty.{RawProperty}
use Rattle.cb_lex.specs.declared.raw.text.RawState.{RawState}
use Rattle.cb_lex.specs.declared.raw.text.RawOperation.{RawOperation}
use Rattle.cb_lex.specs.RawSubstTree.{RawSubstTree, RawSubsts, raw_substs}
use Rattle.cb_lex.specs.RawSubstTree as tree
use Rattle.cb_grammar.specs.declared.actions.TheConstants.{MACHINE, NO_SETS, APPEND_SET, NO_PROPERTIES, APPEND_PROPERTY, LITERAL, MINUS_LITERAL, LIMIT_LITERAL, NO_STATE, SOME_STATE, NO_OPERATIONS, APPEND_OPERATION, PARALLEL, SKIP, ASSIGN, AMONG, IF, IF_WITHOUT_ELSE, NO_SIDES, APPEND_SIDE, CHOICE, ANY, NAMED_DOMAIN, SET_DOMAIN, RANGE, BOUND, MINUS_BOUND, NUMBER_END, LIMIT_END, NAME_END}
use Rattle.cb_amn_parse.specs.Lexemes.{Lexeme, Named, Said, Did}
use Rattle.cb_amn_parse.specs.Formulas.{term_out, formula_out, names_out, condition_out}

-- a keyword that is a value by itself
abbrev pub word_out : Keyword → Place → ℕ → List Lexeme
word_out k p action = Said (sort.Keyword k) p ∷ Did action ∷ []

abbrev pub number_action : Bool → ℕ
number_action false = LITERAL
number_action true = MINUS_LITERAL

abbrev pub literal_out : RawLiteral → List Lexeme
literal_out (literal.Number minus n p) = Said (sort.Number n) p ∷ Did (number_action minus) ∷ []
literal_out (literal.MaxInt p) = word_out keyword.MaxInt p LIMIT_LITERAL
literal_out (literal.MinInt p) = word_out keyword.MinInt p LIMIT_LITERAL

abbrev pub end_out : RawEnd → List Lexeme
end_out (end.Number n p) = Said (sort.Number n) p ∷ Did NUMBER_END ∷ []
end_out (end.MaxInt p) = word_out keyword.MaxInt p LIMIT_END
end_out (end.MinInt p) = word_out keyword.MinInt p LIMIT_END
end_out (end.Name x) = Named x ∷ Did NAME_END ∷ []

abbrev pub bound_action : Bool → ℕ
bound_action false = BOUND
bound_action true = MINUS_BOUND

abbrev pub bound_out : RawBound → List Lexeme
bound_out b = end_out b.end ++ Did (bound_action b.minus) ∷ []

abbrev pub domain_out : RawDomain → List Lexeme
domain_out (domain.Range low high) = bound_out low ++ bound_out high ++ Did RANGE ∷ []
domain_out (domain.Nat p) = word_out keyword.Nat p SET_DOMAIN
domain_out (domain.Nat1 p) = word_out keyword.Nat1 p SET_DOMAIN
domain_out (domain.Int p) = word_out keyword.Int p SET_DOMAIN
domain_out (domain.Truths p) = word_out keyword.Truths p SET_DOMAIN
domain_out (domain.Name x) = Named x ∷ Did NAMED_DOMAIN ∷ []

-- an ELSIF is an IF in the place of ELSE
abbrev mutual
  pub subst_out : RawSubstTree → List Lexeme
  subst_out tree.Skip = Did SKIP ∷ []
  subst_out (tree.Assign x t) = Named x ∷ term_out t ++ Did ASSIGN ∷ []
  subst_out (tree.Among x d) = Named x ∷ domain_out d ++ Did AMONG ∷ []
  subst_out (tree.If f s) = formula_out f ++ subst_out s ++ Did IF_WITHOUT_ELSE ∷ []
  subst_out (tree.IfElse f s t) = formula_out f ++ subst_out s ++ subst_out t ++ Did IF ∷ []
  subst_out (tree.Choice ss) = Did NO_SIDES ∷ choice_out ss ++ Did CHOICE ∷ []
  subst_out (tree.Any x f s) = Named x ∷ formula_out f ++ subst_out s ++ Did ANY ∷ []
  subst_out (tree.Parallel s t) = subst_out s ++ subst_out t ++ Did PARALLEL ∷ []

  pub choice_out : RawSubsts → List Lexeme
  choice_out tree.NoSide = []
  choice_out (tree.Side s ss) = subst_out s ++ Did APPEND_SIDE ∷ choice_out ss

abbrev pub sides_out : List RawSubstTree → List Lexeme
sides_out ss = Did NO_SIDES ∷ choice_out (raw_substs ss)

abbrev pub set_entry : RawSet → List Lexeme
set_entry s = Named s.name ∷ names_out s.elements ++ Did APPEND_SET ∷ []

abbrev pub sets_out : List RawSet → List Lexeme
sets_out ss = Did NO_SETS ∷ flat_map set_entry ss

abbrev pub property_entry : RawProperty → List Lexeme
property_entry p = Named p.name ∷ literal_out p.literal ++ Did APPEND_PROPERTY ∷ []

abbrev pub properties_out : List RawProperty → List Lexeme
properties_out ps = Did NO_PROPERTIES ∷ flat_map property_entry ps

abbrev pub state_out : Option RawState → List Lexeme
state_out None = Did NO_STATE ∷ []
state_out (Some s) = names_out s.variables ++ formula_out s.invariant ++ subst_out s.initialisation ++ Did SOME_STATE ∷ []

abbrev pub operation_entry : RawOperation → List Lexeme
operation_entry o = names_out o.results ++ Named o.name ∷ names_out o.parameters ++ condition_out o.precondition ++ subst_out o.body ++ Did APPEND_OPERATION ∷ []

abbrev pub operations_out : List RawOperation → List Lexeme
operations_out os = Did NO_OPERATIONS ∷ flat_map operation_entry os

abbrev pub machine_out : RawMachine → List Lexeme
machine_out m =
    Named m.name ∷ names_out m.sees ++ sets_out m.sets ++ names_out m.constants ++ properties_out m.properties ++ state_out m.state
    ++ operations_out m.operations ++ Did MACHINE ∷ []
