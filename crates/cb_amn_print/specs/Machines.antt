-- The printed text of domains, substitutions and machines.
use Rattle.std.specs.Prelude.{ℕ, Bool, true, false, not, List, [], ◌∷◌, ◌++◌, Option, Some, None, codes}
use Rattle.cb_lex.specs.declared.token.Sort.TheVariants as sort
use Rattle.cb_lex.specs.declared.raw.name.RawName.{RawName}
use Rattle.cb_lex.specs.declared.raw.domain.RawLiteral.{RawLiteral}
use Rattle.cb_lex.specs.declared.raw.domain.RawLiteral.TheVariants as literal
use Rattle.cb_lex.specs.declared.raw.domain.RawBound.{RawBound}
use Rattle.cb_lex.specs.declared.raw.domain.RawEnd.{RawEnd}
use Rattle.cb_lex.specs.declared.raw.domain.RawEnd.TheVariants as end
use Rattle.cb_lex.specs.declared.raw.domain.RawDomain.{RawDomain}
use Rattle.cb_lex.specs.declared.raw.domain.RawDomain.TheVariants as domain
use Rattle.cb_lex.specs.declared.raw.text.RawMachine.{RawMachine}
use Rattle.cb_lex.specs.declared.raw.text.RawSet.{RawSet}
use Rattle.cb_lex.specs.declared.raw.text.RawProperty.{RawProperty}
use Rattle.cb_lex.specs.declared.raw.text.RawState.{RawState}
use Rattle.cb_lex.specs.declared.raw.text.RawOperation.{RawOperation}
use Rattle.cb_lex.specs.RawTermTree.{RawFormulaTree}
use Rattle.cb_lex.specs.RawSubstTree.{RawSubstTree, RawSubsts}
use Rattle.cb_lex.specs.RawSubstTree as tree
use Rattle.cb_shapes.specs.Full.{some}
use Rattle.cb_amn_print.specs.Tokens.{said, name_text, only_if}
use Rattle.cb_amn_print.specs.Formulas.{term_text, formula_text}

-- names with commas between them
abbrev pub names_text : Bool → List RawName → List ℕ
names_text first [] = []
names_text first (x ∷ xs) = only_if (not first) (codes ", ") ++ name_text x ++ names_text false xs

abbrev pub literal_text : RawLiteral → List ℕ
literal_text (literal.Number minus n p) = only_if minus (codes "- ") ++ said (sort.Number n)
literal_text (literal.MaxInt p) = codes "MAXINT "
literal_text (literal.MinInt p) = codes "MININT "

abbrev pub end_text : RawEnd → List ℕ
end_text (end.Number n p) = said (sort.Number n)
end_text (end.MaxInt p) = codes "MAXINT "
end_text (end.MinInt p) = codes "MININT "
end_text (end.Name x) = name_text x

abbrev pub bound_text : RawBound → List ℕ
bound_text b = only_if b.minus (codes "- ") ++ end_text b.end

abbrev pub domain_text : RawDomain → List ℕ
domain_text (domain.Range low high) = bound_text low ++ codes ".. " ++ bound_text high
domain_text (domain.Nat p) = codes "NAT "
domain_text (domain.Nat1 p) = codes "NAT1 "
domain_text (domain.Int p) = codes "INT "
domain_text (domain.Truths p) = codes "BOOL "
domain_text (domain.Name x) = name_text x

-- A `||` that is `inner` stands on the right of another: then it has BEGIN and END.
abbrev mutual
  pub subst_text : Bool → RawSubstTree → List ℕ
  subst_text inner tree.Skip = codes "skip "
  subst_text inner (tree.Assign x t) = name_text x ++ codes ":= " ++ term_text false t
  subst_text inner (tree.Among x d) = name_text x ++ codes ":: " ++ domain_text d
  subst_text inner (tree.If f s) = codes "IF " ++ formula_text false f ++ codes "THEN " ++ subst_text false s ++ codes "END "
  subst_text inner (tree.IfElse f s t) = codes "IF " ++ formula_text false f ++ codes "THEN " ++ subst_text false s ++ codes "ELSE " ++ subst_text false t ++ codes "END "
  subst_text inner (tree.Choice ss) = codes "CHOICE " ++ sides_text true ss ++ codes "END "
  subst_text inner (tree.Any x f s) = codes "ANY " ++ name_text x ++ codes "WHERE " ++ formula_text false f ++ codes "THEN " ++ subst_text false s ++ codes "END "
  subst_text inner (tree.Parallel s t) = only_if inner (codes "BEGIN ") ++ subst_text false s ++ codes "|| " ++ subst_text true t ++ only_if inner (codes "END ")

  -- the sides with OR between them
  pub sides_text : Bool → RawSubsts → List ℕ
  sides_text first tree.NoSide = []
  sides_text first (tree.Side s ss) = only_if (not first) (codes "OR ") ++ subst_text false s ++ sides_text false ss

abbrev pub set_text : RawSet → List ℕ
set_text s = name_text s.name ++ codes "= { " ++ names_text true s.elements ++ codes "} "

abbrev pub sets_text : Bool → List RawSet → List ℕ
sets_text first [] = []
sets_text first (s ∷ ss) = only_if (not first) (codes "; ") ++ set_text s ++ sets_text false ss

abbrev pub property_text : RawProperty → List ℕ
property_text p = name_text p.name ++ codes "= " ++ literal_text p.literal

abbrev pub properties_text : Bool → List RawProperty → List ℕ
properties_text first [] = []
properties_text first (p ∷ ps) = only_if (not first) (codes "& ") ++ property_text p ++ properties_text false ps

abbrev pub state_text : Option RawState → List ℕ
state_text None = []
state_text (Some s) = codes "VARIABLES " ++ names_text true s.variables ++ codes "INVARIANT " ++ formula_text false s.invariant ++ codes "INITIALISATION " ++ subst_text false s.initialisation

abbrev pub body_text : Option RawFormulaTree → RawSubstTree → List ℕ
body_text None s = subst_text false s
body_text (Some f) s = codes "PRE " ++ formula_text false f ++ codes "THEN " ++ subst_text false s ++ codes "END "

abbrev pub operation_text : RawOperation → List ℕ
operation_text o =
    names_text true o.results ++ only_if (some o.results) (codes "<-- ") ++ name_text o.name
    ++ only_if (some o.parameters) (codes "( ") ++ names_text true o.parameters ++ only_if (some o.parameters) (codes ") ")
    ++ codes "= " ++ body_text o.precondition o.body

abbrev pub operations_text : Bool → List RawOperation → List ℕ
operations_text first [] = []
operations_text first (o ∷ os) = only_if (not first) (codes "; ") ++ operation_text o ++ operations_text false os

-- a part of a machine that is left out where it is empty
abbrev pub part_text : {X : Type 0} → List ℕ → (Bool → List X → List ℕ) → List X → List ℕ
part_text word entries xs = only_if (some xs) word ++ entries true xs

-- all before the variables
abbrev pub head_text : RawMachine → List ℕ
head_text m =
    codes "MACHINE " ++ name_text m.name ++ part_text (codes "SEES ") names_text m.sees ++ part_text (codes "SETS ") sets_text m.sets
    ++ part_text (codes "CONSTANTS ") names_text m.constants ++ part_text (codes "PROPERTIES ") properties_text m.properties

abbrev pub machine_text : RawMachine → List ℕ
machine_text m = head_text m ++ state_text m.state ++ part_text (codes "OPERATIONS ") operations_text m.operations ++ codes "END "
