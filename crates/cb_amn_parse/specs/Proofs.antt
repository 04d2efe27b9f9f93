-- What is written for proofs.
use Rattle.std.specs.Prelude.{ℕ, Bool, true, false, List, [], ◌∷◌, ◌++◌}
use Rattle.std.specs.List.{flat_map}
use Rattle.cb_lex.specs.declared.token.Place.{Place}
use Rattle.cb_lex.specs.declared.token.Sort.TheVariants.{Number, Keyword}
use Rattle.cb_lex.specs.declared.token.Keyword.TheVariants as keyword
use Rattle.cb_lex.specs.declared.raw.proof.RawNumber.{RawNumber}
use Rattle.cb_lex.specs.declared.raw.proof.RawObligation.{RawObligation}
use Rattle.cb_lex.specs.declared.raw.proof.RawObligation.TheVariants as obligation
use Rattle.cb_lex.specs.declared.raw.proof.RawRow.{RawRow}
use Rattle.cb_lex.specs.declared.raw.proof.RawArguments.{RawArguments}
use Rattle.cb_lex.specs.declared.raw.proof.RawArguments.TheVariants as arguments
use Rattle.cb_lex.specs.declared.raw.proof.RawProof.{RawProof}
use Rattle.cb_lex.specs.RawCertTree.{RawCertTree, RawCerts, raw_certs}
use Rattle.cb_lex.specs.RawCertTree as tree
use Rattle.cb_grammar.specs.declared.actions.TheConstants.{NO_PROOFS, APPEND_PROOF, OBLIGATION_OF_OWNER, OBLIGATION_OF_START, OBLIGATION_OF_PART, OBLIGATION_OF_INITIALISATION, NO_NODES, APPEND_NODE, NO_ROWS, APPEND_ROW, ROW, MINUS_ROW, RULE, RULE_HYPOTHESIS, RULE_TWO_HYPOTHESES, RULE_ROWS, RULE_FORMULA, RULE_TERM, RULE_TWO_TERMS, RULE_HYPOTHESIS_TERM, RULE_TERM_NUMBER}
use Rattle.cb_amn_parse.specs.Lexemes.{Lexeme, Named, Said, Did}
use Rattle.cb_amn_parse.specs.Formulas.{term_out, formula_out}

abbrev pub numeral : RawNumber → Lexeme
numeral n = Said (Number n.value) n.place

abbrev pub obligation_out : RawObligation → List Lexeme
obligation_out (obligation.OfOwner g o n) = Named g ∷ Named o ∷ numeral n ∷ Did OBLIGATION_OF_OWNER ∷ []
obligation_out (obligation.OfStart p o n) = Said (Keyword keyword.Start) p ∷ Named o ∷ numeral n ∷ Did OBLIGATION_OF_START ∷ []
obligation_out (obligation.OfPart g o x n) = Named g ∷ Named o ∷ Named x ∷ numeral n ∷ Did OBLIGATION_OF_PART ∷ []
obligation_out (obligation.OfInitialisation g o p n) = Named g ∷ Named o ∷ Said (Keyword keyword.Initialisation) p ∷ numeral n ∷ Did OBLIGATION_OF_INITIALISATION ∷ []

abbrev pub row_action : Bool → ℕ
row_action false = ROW
row_action true = MINUS_ROW

abbrev pub row_out : RawRow → List Lexeme
row_out r = numeral r.hypothesis ∷ numeral r.multiplier ∷ Did (row_action r.minus) ∷ []

abbrev pub row_entry : RawRow → List Lexeme
row_entry r = row_out r ++ Did APPEND_ROW ∷ []

abbrev pub rows_out : List RawRow → List Lexeme
rows_out rs = Did NO_ROWS ∷ flat_map row_entry rs

abbrev pub arguments_out : RawArguments → List Lexeme
arguments_out arguments.Nothing = []
arguments_out (arguments.Hypothesis n) = numeral n ∷ []
arguments_out (arguments.TwoHypotheses m n) = numeral m ∷ numeral n ∷ []
arguments_out (arguments.Rows rs) = rows_out rs
arguments_out (arguments.Formula f) = formula_out f
arguments_out (arguments.Term t) = term_out t
arguments_out (arguments.TwoTerms s t) = term_out s ++ term_out t
arguments_out (arguments.HypothesisTerm n t) = numeral n ∷ term_out t
arguments_out (arguments.TermNumber t n) = term_out t ++ numeral n ∷ []

-- the action that makes a node of a rule with such arguments
abbrev pub rule_action : RawArguments → ℕ
rule_action arguments.Nothing = RULE
rule_action (arguments.Hypothesis n) = RULE_HYPOTHESIS
rule_action (arguments.TwoHypotheses m n) = RULE_TWO_HYPOTHESES
rule_action (arguments.Rows rs) = RULE_ROWS
rule_action (arguments.Formula f) = RULE_FORMULA
rule_action (arguments.Term t) = RULE_TERM
rule_action (arguments.TwoTerms s t) = RULE_TWO_TERMS
rule_action (arguments.HypothesisTerm n t) = RULE_HYPOTHESIS_TERM
rule_action (arguments.TermNumber t n) = RULE_TERM_NUMBER

abbrev mutual
  pub node_out : RawCertTree → List Lexeme
  node_out (tree.Node r cs) = Named r.word ∷ arguments_out r.arguments ++ Did NO_NODES ∷ children_out cs ++ Did (rule_action r.arguments) ∷ []

  pub children_out : RawCerts → List Lexeme
  children_out tree.NoChild = []
  children_out (tree.Child c cs) = node_out c ++ Did APPEND_NODE ∷ children_out cs

abbrev pub nodes_out : List RawCertTree → List Lexeme
nodes_out cs = Did NO_NODES ∷ children_out (raw_certs cs)

abbrev pub proof_entry : RawProof → List Lexeme
proof_entry p = obligation_out p.name ++ node_out p.cert ++ Did APPEND_PROOF ∷ []

abbrev pub proofs_out : List RawProof → List Lexeme
proofs_out ps = Did NO_PROOFS ∷ flat_map proof_entry ps
