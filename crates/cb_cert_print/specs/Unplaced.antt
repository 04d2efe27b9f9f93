-- Raw proofs with all places set aside: each stands where a text begins.
use Rattle.std.specs.Prelude.{List, map}
use Rattle.cb_lex.specs.declared.raw.proof.RawNumber.{RawNumber}
use Rattle.cb_lex.specs.declared.raw.proof.RawObligation.{RawObligation}
use Rattle.cb_lex.specs.declared.raw.proof.RawObligation.TheVariants as obligation
use Rattle.cb_lex.specs.declared.raw.proof.RawRow.{RawRow}
use Rattle.cb_lex.specs.declared.raw.proof.RawArguments.{RawArguments}
use Rattle.cb_lex.specs.declared.raw.proof.RawArguments.TheVariants as arguments
use Rattle.cb_lex.specs.declared.raw.proof.RawProof.{RawProof}
use Rattle.cb_lex.specs.RawCertTree.{RawCertTree, RawCerts}
use Rattle.cb_lex.specs.RawCertTree as tree
use Rattle.cb_lex.specs.Lexes.{start}
use Rattle.cb_amn_print.specs.Unplaced.{unplaced_name, unplaced_term, unplaced_formula}

abbrev pub unplaced_number : RawNumber → RawNumber
unplaced_number n = record { value = n.value; place = start }

abbrev pub unplaced_obligation : RawObligation → RawObligation
unplaced_obligation (obligation.OfOwner g o n) = obligation.OfOwner (unplaced_name g) (unplaced_name o) (unplaced_number n)
unplaced_obligation (obligation.OfStart p o n) = obligation.OfStart start (unplaced_name o) (unplaced_number n)
unplaced_obligation (obligation.OfPart g o x n) = obligation.OfPart (unplaced_name g) (unplaced_name o) (unplaced_name x) (unplaced_number n)
unplaced_obligation (obligation.OfInitialisation g o p n) = obligation.OfInitialisation (unplaced_name g) (unplaced_name o) start (unplaced_number n)

abbrev pub unplaced_row : RawRow → RawRow
unplaced_row r = record { hypothesis = unplaced_number r.hypothesis; minus = r.minus; multiplier = unplaced_number r.multiplier }

abbrev pub unplaced_arguments : RawArguments → RawArguments
unplaced_arguments arguments.Nothing = arguments.Nothing
unplaced_arguments (arguments.Hypothesis n) = arguments.Hypothesis (unplaced_number n)
unplaced_arguments (arguments.TwoHypotheses m n) = arguments.TwoHypotheses (unplaced_number m) (unplaced_number n)
unplaced_arguments (arguments.Rows rs) = arguments.Rows (map unplaced_row rs)
unplaced_arguments (arguments.Formula f) = arguments.Formula (unplaced_formula f)
unplaced_arguments (arguments.Term t) = arguments.Term (unplaced_term t)
unplaced_arguments (arguments.TwoTerms s t) = arguments.TwoTerms (unplaced_term s) (unplaced_term t)
unplaced_arguments (arguments.HypothesisTerm n t) = arguments.HypothesisTerm (unplaced_number n) (unplaced_term t)
unplaced_arguments (arguments.TermNumber t n) = arguments.TermNumber (unplaced_term t) (unplaced_number n)

abbrev mutual
  pub unplaced_cert : RawCertTree → RawCertTree
  unplaced_cert (tree.Node r cs) = tree.Node (record { word = unplaced_name r.word; arguments = unplaced_arguments r.arguments }) (unplaced_certs cs)

  pub unplaced_certs : RawCerts → RawCerts
  unplaced_certs tree.NoChild = tree.NoChild
  unplaced_certs (tree.Child c cs) = tree.Child (unplaced_cert c) (unplaced_certs cs)

abbrev pub unplaced_proof : RawProof → RawProof
unplaced_proof p = record { name = unplaced_obligation p.name; cert = unplaced_cert p.cert }

abbrev pub unplaced_proofs : List RawProof → List RawProof
unplaced_proofs ps = map unplaced_proof ps
