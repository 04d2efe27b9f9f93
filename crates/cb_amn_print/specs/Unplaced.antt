-- Raw values with all places set aside: each stands where a text begins.
use Rattle.std.specs.Prelude.{List, map, Option, Some, None}
use Rattle.cb_lex.specs.declared.raw.name.RawName.{RawName}
use Rattle.cb_lex.specs.declared.raw.domain.RawLiteral.{RawLiteral}
use Rattle.cb_lex.specs.declared.raw.domain.RawLiteral.TheVariants as literal
use Rattle.cb_lex.specs.declared.raw.domain.RawBound.{RawBound}
use Rattle.cb_lex.specs.declared.raw.domain.RawEnd.{RawEnd}
use Rattle.cb_lex.specs.declared.raw.domain.RawEnd.TheVariants as end
use Rattle.cb_lex.specs.declared.raw.domain.RawDomain.{RawDomain}
use Rattle.cb_lex.specs.declared.raw.domain.RawDomain.TheVariants as domain
use Rattle.cb_lex.specs.declared.raw.text.RawMachine.{RawMachine}
use Rattle.cb_lex.specs.declared.raw.text.RawSet.{RawSet}
use Rattle.cb_lex.specs.declared.raw.text.RawProperty.{RawProperty}
use Rattle.cb_lex.specs.declared.raw.text.RawState.{RawState}
use Rattle.cb_lex.specs.declared.raw.text.RawOperation.{RawOperation}
use Rattle.cb_lex.specs.RawTermTree.{RawTermTree, RawTerms, RawFormulaTree}
use Rattle.cb_lex.specs.RawTermTree as tree
use Rattle.cb_lex.specs.RawSubstTree.{RawSubstTree, RawSubsts}
use Rattle.cb_lex.specs.RawSubstTree as subst
use Rattle.cb_lex.specs.Lexes.{start}

abbrev pub unplaced_name : RawName → RawName
unplaced_name x = record { text = x.text; number = x.number; place = start }

abbrev pub unplaced_names : List RawName → List RawName
unplaced_names xs = map unplaced_name xs

abbrev mutual
  pub unplaced_term : RawTermTree → RawTermTree
  unplaced_term (tree.Number n p) = tree.Number n start
  unplaced_term (tree.Name x) = tree.Name (unplaced_name x)
  unplaced_term (tree.Atom a p) = tree.Atom a start
  unplaced_term (tree.Binary o p l r) = tree.Binary o start (unplaced_term l) (unplaced_term r)
  unplaced_term (tree.Minus p t) = tree.Minus start (unplaced_term t)
  unplaced_term (tree.Card p t) = tree.Card start (unplaced_term t)
  unplaced_term (tree.TruthOf p f) = tree.TruthOf start (unplaced_formula f)
  unplaced_term (tree.Listed p ts) = tree.Listed start (unplaced_terms ts)

  pub unplaced_terms : RawTerms → RawTerms
  unplaced_terms tree.End = tree.End
  unplaced_terms (tree.More t ts) = tree.More (unplaced_term t) (unplaced_terms ts)

  pub unplaced_formula : RawFormulaTree → RawFormulaTree
  unplaced_formula tree.True = tree.True
  unplaced_formula tree.False = tree.False
  unplaced_formula (tree.Not f) = tree.Not (unplaced_formula f)
  unplaced_formula (tree.And f g) = tree.And (unplaced_formula f) (unplaced_formula g)
  unplaced_formula (tree.Or f g) = tree.Or (unplaced_formula f) (unplaced_formula g)
  unplaced_formula (tree.Implies f g) = tree.Implies (unplaced_formula f) (unplaced_formula g)
  unplaced_formula (tree.Equivalent f g) = tree.Equivalent (unplaced_formula f) (unplaced_formula g)
  unplaced_formula (tree.Relation r p a b) = tree.Relation r start (unplaced_term a) (unplaced_term b)
  unplaced_formula (tree.Every x d f) = tree.Every (unplaced_name x) (unplaced_formula d) (unplaced_formula f)
  unplaced_formula (tree.Exists x f) = tree.Exists (unplaced_name x) (unplaced_formula f)

abbrev pub unplaced_condition : Option RawFormulaTree → Option RawFormulaTree
unplaced_condition None = None
unplaced_condition (Some f) = Some (unplaced_formula f)

abbrev pub unplaced_literal : RawLiteral → RawLiteral
unplaced_literal (literal.Number minus n p) = literal.Number minus n start
unplaced_literal (literal.MaxInt p) = literal.MaxInt start
unplaced_literal (literal.MinInt p) = literal.MinInt start

abbrev pub unplaced_end : RawEnd → RawEnd
unplaced_end (end.Number n p) = end.Number n start
unplaced_end (end.MaxInt p) = end.MaxInt start
unplaced_end (end.MinInt p) = end.MinInt start
unplaced_end (end.Name x) = end.Name (unplaced_name x)

abbrev pub unplaced_bound : RawBound → RawBound
unplaced_bound b = record { minus = b.minus; end = unplaced_end b.end }

abbrev pub unplaced_domain : RawDomain → RawDomain
unplaced_domain (domain.Range low high) = domain.Range (unplaced_bound low) (unplaced_bound high)
unplaced_domain (domain.Nat p) = domain.Nat start
unplaced_domain (domain.Nat1 p) = domain.Nat1 start
unplaced_domain (domain.Int p) = domain.Int start
unplaced_domain (domain.Truths p) = domain.Truths start
unplaced_domain (domain.Name x) = domain.Name (unplaced_name x)

abbrev mutual
  pub unplaced_subst : RawSubstTree → RawSubstTree
  unplaced_subst subst.Skip = subst.Skip
  unplaced_subst (subst.Assign x t) = subst.Assign (unplaced_name x) (unplaced_term t)
  unplaced_subst (subst.Among x d) = subst.Among (unplaced_name x) (unplaced_domain d)
  unplaced_subst (subst.If f s) = subst.If (unplaced_formula f) (unplaced_subst s)
  unplaced_subst (subst.IfElse f s t) = subst.IfElse (unplaced_formula f) (unplaced_subst s) (unplaced_subst t)
  unplaced_subst (subst.Choice ss) = subst.Choice (unplaced_sides ss)
  unplaced_subst (subst.Any x f s) = subst.Any (unplaced_name x) (unplaced_formula f) (unplaced_subst s)
  unplaced_subst (subst.Parallel s t) = subst.Parallel (unplaced_subst s) (unplaced_subst t)

  pub unplaced_sides : RawSubsts → RawSubsts
  unplaced_sides subst.NoSide = subst.NoSide
  unplaced_sides (subst.Side s ss) = subst.Side (unplaced_subst s) (unplaced_sides ss)

abbrev pub unplaced_set : RawSet → RawSet
unplaced_set s = record { name = unplaced_name s.name; elements = unplaced_names s.elements }

abbrev pub unplaced_property : RawProperty → RawProperty
unplaced_property p = record { name = unplaced_name p.name; literal = unplaced_literal p.literal }

abbrev pub unplaced_state : Option RawState → Option RawState
unplaced_state None = None
unplaced_state (Some s) = Some (record { variables = unplaced_names s.variables; invariant = unplaced_formula s.invariant; initialisation = unplaced_subst s.initialisation })

abbrev pub unplaced_operation : RawOperation → RawOperation
unplaced_operation o = record {
  results = unplaced_names o.results;
  name = unplaced_name o.name;
  parameters = unplaced_names o.parameters;
  precondition = unplaced_condition o.precondition;
  body = unplaced_subst o.body;
}

abbrev pub unplaced_machine : RawMachine → RawMachine
unplaced_machine m = record {
  name = unplaced_name m.name;
  sees = unplaced_names m.sees;
  sets = map unplaced_set m.sets;
  constants = unplaced_names m.constants;
  properties = map unplaced_property m.properties;
  state = unplaced_state m.state;
  operations = map unplaced_operation m.operations;
}
