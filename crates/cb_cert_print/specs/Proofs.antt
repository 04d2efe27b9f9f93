-- The printed text of proofs.
use Rattle.std.specs.Prelude.{ℕ, Bool, true, false, not, List, [], ◌∷◌, ◌++◌, codes}
use Rattle.cb_lex.specs.declared.token.Sort.TheVariants as sort
use Rattle.cb_lex.specs.declared.raw.name.RawName.{RawName}
use Rattle.cb_lex.specs.declared.raw.proof.RawNumber.{RawNumber}
use Rattle.cb_lex.specs.declared.raw.proof.RawObligation.{RawObligation}
use Rattle.cb_lex.specs.declared.raw.proof.RawObligation.TheVariants as obligation
use Rattle.cb_lex.specs.declared.raw.proof.RawRow.{RawRow}
use Rattle.cb_lex.specs.declared.raw.proof.RawArguments.{RawArguments}
use Rattle.cb_lex.specs.declared.raw.proof.RawArguments.TheVariants as arguments
use Rattle.cb_lex.specs.declared.raw.proof.RawRule.{RawRule}
use Rattle.cb_lex.specs.declared.raw.proof.RawProof.{RawProof}
use Rattle.cb_lex.specs.RawTermTree.{RawTermTree, RawFormulaTree}
use Rattle.cb_lex.specs.RawCertTree.{RawCertTree, RawCerts}
use Rattle.cb_lex.specs.RawCertTree as tree
use Rattle.cb_amn_print.specs.Tokens.{said, name_text, only_if}
use Rattle.cb_amn_print.specs.Formulas.{term_text, formula_text}

abbrev pub number_text : RawNumber → List ℕ
number_text n = said (sort.Number n.value)

-- the names before the number of an obligation, `:` behind each
abbrev pub part_text : RawName → List ℕ
part_text x = name_text x ++ codes ": "

abbrev pub obligation_text : RawObligation → List ℕ
obligation_text (obligation.OfOwner g o n) = part_text g ++ part_text o ++ number_text n
obligation_text (obligation.OfStart p o n) = codes "START : " ++ part_text o ++ number_text n
obligation_text (obligation.OfPart g o x n) = part_text g ++ part_text o ++ part_text x ++ number_text n
obligation_text (obligation.OfInitialisation g o p n) = part_text g ++ part_text o ++ codes "INITIALISATION : " ++ number_text n

abbrev pub multiplier_text : RawRow → List ℕ
multiplier_text r = only_if r.minus (codes "- ") ++ number_text r.multiplier

abbrev pub row_text : RawRow → List ℕ
row_text r = number_text r.hypothesis ++ codes "* " ++ multiplier_text r

-- the rows with commas between them
abbrev pub rows_text : Bool → List RawRow → List ℕ
rows_text first [] = []
rows_text first (r ∷ rs) = only_if (not first) (codes ", ") ++ row_text r ++ rows_text false rs

-- formulas and terms stand in brackets
abbrev pub boxed_formula : RawFormulaTree → List ℕ
boxed_formula f = codes "[ " ++ formula_text false f ++ codes "] "

abbrev pub boxed_term : RawTermTree → List ℕ
boxed_term t = codes "[ " ++ term_text false t ++ codes "] "

abbrev pub arguments_text : RawArguments → List ℕ
arguments_text arguments.Nothing = []
arguments_text (arguments.Hypothesis n) = number_text n
arguments_text (arguments.TwoHypotheses m n) = number_text m ++ number_text n
arguments_text (arguments.Rows rs) = codes "[ " ++ rows_text true rs ++ codes "] "
arguments_text (arguments.Formula f) = boxed_formula f
arguments_text (arguments.Term t) = boxed_term t
arguments_text (arguments.TwoTerms s t) = boxed_term s ++ boxed_term t
arguments_text (arguments.HypothesisTerm n t) = number_text n ++ boxed_term t
arguments_text (arguments.TermNumber t n) = boxed_term t ++ number_text n

abbrev pub has_premises : RawCertTree → Bool
has_premises (tree.Node r tree.NoChild) = false
has_premises (tree.Node r (tree.Child c cs)) = true

abbrev pub rule_text : RawRule → List ℕ
rule_text r = name_text r.word ++ arguments_text r.arguments

abbrev pub front_text : RawCertTree → List ℕ
front_text (tree.Node r cs) = rule_text r ++ only_if (has_premises (tree.Node r cs)) (codes "( ")

-- a rule, and in parentheses the certificates of its premises, where it has any
abbrev mutual
  pub cert_text : RawCertTree → List ℕ
  cert_text (tree.Node r cs) = front_text (tree.Node r cs) ++ certs_text true cs ++ only_if (has_premises (tree.Node r cs)) (codes ") ")

  -- the certificates with commas between them
  pub certs_text : Bool → RawCerts → List ℕ
  certs_text first tree.NoChild = []
  certs_text first (tree.Child c cs) = only_if (not first) (codes ", ") ++ cert_text c ++ certs_text false cs

abbrev pub proof_text : RawProof → List ℕ
proof_text p = codes "PROOF " ++ obligation_text p.name ++ cert_text p.cert ++ codes "END "
