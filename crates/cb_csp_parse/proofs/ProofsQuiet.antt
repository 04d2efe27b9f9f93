-- What is written for proofs begins and ends no chain.
use Rattle.std.proofs.Common.{Bool, true, false, List, [], ◌∷◌, ◌++◌, refl}
use Rattle.std.specs.List.{flat_map}
use Rattle.cb_lex.specs.declared.raw.name.RawName.{RawName}
use Rattle.cb_lex.specs.declared.raw.proof.RawObligation.{RawObligation}
use Rattle.cb_lex.specs.declared.raw.proof.RawObligation.TheVariants as obligation
use Rattle.cb_lex.specs.declared.raw.proof.RawRow.{RawRow}
use Rattle.cb_lex.specs.declared.raw.proof.RawArguments.{RawArguments}
use Rattle.cb_lex.specs.declared.raw.proof.RawArguments.TheVariants as arguments
use Rattle.cb_lex.specs.declared.raw.proof.RawProof.{RawProof}
use Rattle.cb_lex.specs.RawCertTree.{RawCertTree, RawCerts, raw_certs}
use Rattle.cb_lex.specs.RawCertTree as tree
use Rattle.cb_lex.specs.RawTermTree.{RawTermTree}
use Rattle.cb_grammar.specs.declared.actions.TheConstants.{NO_PROOFS, APPEND_PROOF, NO_NODES, APPEND_NODE, NO_ROWS, APPEND_ROW}
use Rattle.cb_amn_parse.specs.Lexemes.{Named, Did}
use Rattle.cb_amn_parse.specs.Formulas.{term_out}
use Rattle.cb_amn_parse.specs.Proofs.{numeral, obligation_out, row_action, row_out, row_entry, rows_out, arguments_out, rule_action, node_out, children_out, nodes_out, proof_entry, proofs_out}
use Rattle.cb_amn_parse.proofs.Building.{Term}
use Rattle.cb_csp_parse.proofs.MachinesAgain.{go_term}
use Rattle.cb_csp_parse.proofs.Chains.{Quiet, quiet, more_quiet, quiet_append, formula_quiet}

pub obligation_quiet : (o : RawObligation) → Quiet (obligation_out o)
obligation_quiet (obligation.OfOwner g o n) = (refl, refl)
obligation_quiet (obligation.OfStart p o n) = (refl, refl)
obligation_quiet (obligation.OfPart g o x n) = (refl, refl)
obligation_quiet (obligation.OfInitialisation g o p n) = (refl, refl)

pub row_quiet : (r : RawRow) → Quiet (row_out r)
row_quiet r = signed r.minus
  where
    signed : (minus : Bool) → Quiet (numeral r.hypothesis ∷ numeral r.multiplier ∷ Did (row_action minus) ∷ [])
    signed true = (refl, refl)
    signed false = (refl, refl)

entries_quiet : (rs : List RawRow) → Quiet (flat_map row_entry rs)
entries_quiet [] = (refl, refl)
entries_quiet (r ∷ rs) =
    quiet_append (row_entry r) (flat_map row_entry rs) (quiet_append (row_out r) (Did APPEND_ROW ∷ []) (row_quiet r) (refl, refl)) (entries_quiet rs)

pub rows_quiet : (rs : List RawRow) → Quiet (rows_out rs)
rows_quiet rs = more_quiet (Did NO_ROWS) (flat_map row_entry rs) refl refl (entries_quiet rs)

term_quiet : (t : RawTermTree) → Quiet (term_out t)
term_quiet t = quiet (term_out t) [] (Term t ∷ []) (go_term t [])

arguments_quiet : (a : RawArguments) → Quiet (arguments_out a)
arguments_quiet arguments.Nothing = (refl, refl)
arguments_quiet (arguments.Hypothesis n) = (refl, refl)
arguments_quiet (arguments.TwoHypotheses m n) = (refl, refl)
arguments_quiet (arguments.Rows rs) = rows_quiet rs
arguments_quiet (arguments.Formula f) = formula_quiet f
arguments_quiet (arguments.Term t) = term_quiet t
arguments_quiet (arguments.TwoTerms s t) = quiet_append (term_out s) (term_out t) (term_quiet s) (term_quiet t)
arguments_quiet (arguments.HypothesisTerm n t) = more_quiet (numeral n) (term_out t) refl refl (term_quiet t)
arguments_quiet (arguments.TermNumber t n) = quiet_append (term_out t) (numeral n ∷ []) (term_quiet t) (refl, refl)

rule_quiet : (a : RawArguments) → Quiet (Did (rule_action a) ∷ [])
rule_quiet arguments.Nothing = (refl, refl)
rule_quiet (arguments.Hypothesis n) = (refl, refl)
rule_quiet (arguments.TwoHypotheses m n) = (refl, refl)
rule_quiet (arguments.Rows rs) = (refl, refl)
rule_quiet (arguments.Formula f) = (refl, refl)
rule_quiet (arguments.Term t) = (refl, refl)
rule_quiet (arguments.TwoTerms s t) = (refl, refl)
rule_quiet (arguments.HypothesisTerm n t) = (refl, refl)
rule_quiet (arguments.TermNumber t n) = (refl, refl)

rule_of : (w : RawName) (a : RawArguments) (cs : RawCerts) → Quiet (children_out cs) →
    Quiet (Named w ∷ arguments_out a ++ Did NO_NODES ∷ children_out cs ++ Did (rule_action a) ∷ [])
rule_of w a cs q =
    more_quiet (Named w) _ refl refl
    (quiet_append _ (Did (rule_action a) ∷ [])
    (quiet_append (arguments_out a) (Did NO_NODES ∷ children_out cs) (arguments_quiet a) (more_quiet (Did NO_NODES) (children_out cs) refl refl q))
    (rule_quiet a))

mutual
  pub node_quiet : (c : RawCertTree) → Quiet (node_out c)
  node_quiet (tree.Node r cs) = rule_of r.word r.arguments cs (children_quiet cs)

  children_quiet : (cs : RawCerts) → Quiet (children_out cs)
  children_quiet tree.NoChild = (refl, refl)
  children_quiet (tree.Child c cs) =
      quiet_append (node_out c) (Did APPEND_NODE ∷ children_out cs) (node_quiet c) (more_quiet (Did APPEND_NODE) (children_out cs) refl refl (children_quiet cs))

pub nodes_quiet : (cs : List RawCertTree) → Quiet (nodes_out cs)
nodes_quiet cs = more_quiet (Did NO_NODES) (children_out (raw_certs cs)) refl refl (children_quiet (raw_certs cs))

proof_quiet : (p : RawProof) → Quiet (proof_entry p)
proof_quiet p =
    quiet_append (obligation_out p.name ++ node_out p.cert) (Did APPEND_PROOF ∷ [])
    (quiet_append (obligation_out p.name) (node_out p.cert) (obligation_quiet p.name) (node_quiet p.cert)) (refl, refl)

each_quiet : (ps : List RawProof) → Quiet (flat_map proof_entry ps)
each_quiet [] = (refl, refl)
each_quiet (p ∷ ps) = quiet_append (proof_entry p) (flat_map proof_entry ps) (proof_quiet p) (each_quiet ps)

pub proofs_quiet : (ps : List RawProof) → Quiet (proofs_out ps)
proofs_quiet ps = more_quiet (Did NO_PROOFS) (flat_map proof_entry ps) refl refl (each_quiet ps)
