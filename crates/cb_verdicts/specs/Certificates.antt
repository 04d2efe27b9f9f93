-- The certificates that proofs write. Their terms have no kinds yet: those are told where a rule stands.
use Rattle.std.specs.Prelude.{ℕ, ℤ, pos, neg_ℤ, Bool, true, false, List, [], ◌∷◌, map, codes, bytes_eq, if◌then◌else◌}
use Rattle.cb_term.specs.Tree.{TermTree, FormulaTree}
use Rattle.cb_lex.specs.declared.raw.proof.RawRow.{RawRow}
use Rattle.cb_lex.specs.declared.raw.proof.RawRule.{RawRule}
use Rattle.cb_lex.specs.declared.raw.proof.RawArguments.{RawArguments}
use Rattle.cb_lex.specs.declared.raw.proof.RawArguments.TheVariants as given
use Rattle.cb_lex.specs.RawCertTree as raw
use Rattle.cb_lex.specs.RawCertTree.{RawCertTree, RawCerts}
use Rattle.cb_lex.specs.RawTermTree.{RawTermTree, RawFormulaTree}
use Rattle.cb_seq.specs.declared.rule.FormulaArgument.{FormulaArgument}
use Rattle.cb_seq.specs.declared.rule.FormulaArgument.TheVariants as formula
use Rattle.cb_seq.specs.declared.rule.TermArgument.{TermArgument}
use Rattle.cb_seq.specs.declared.rule.TermArgument.TheVariants as term
use Rattle.cb_seq.specs.declared.rule.Multiple.{Multiple}
use Rattle.cb_seq.specs.declared.rule.Rule.{Rule}
use Rattle.cb_seq.specs.declared.rule.Rule.TheVariants as rule
use Rattle.cb_seq.specs.Tree.{CertTree, Node, CertTrees, End, More}
use Rattle.cb_arguments.specs.Scopes.{Symbols}
use Rattle.cb_verdicts.specs.Proofs.{count}
use Rattle.cb_arguments.specs.Arguments.{is_clear, term_is_clear, formula_in, term_in}

-- ---- numbers

abbrev pub multiplier : Bool → ℤ → ℤ
multiplier true n = neg_ℤ n
multiplier false n = n

abbrev pub multiple : RawRow → Multiple
multiple r = record { row = count r.hypothesis; by = multiplier r.minus (pos (count r.multiplier)) }

-- ---- arguments

-- what is unclear whatever names there are fits nowhere
abbrev pub formula_argument : Symbols → RawFormulaTree → FormulaArgument
formula_argument symbols f = if is_clear symbols [] f then formula.Formula (formula_in symbols [] f) else formula.Unclear

abbrev pub term_argument : Symbols → RawTermTree → TermArgument
term_argument symbols t = if term_is_clear symbols [] t then term.Read (term_in symbols [] t) else term.Unclear

-- ---- rules by their words

-- the first rule whose word it is
abbrev pub by_word : List ℕ → List (List ℕ × Rule) → Rule
by_word w [] = rule.Hyp 0
by_word w (r ∷ rs) = if bytes_eq w r.0 then r.1 else by_word w rs

abbrev pub rules_alone : List (List ℕ × Rule)
rules_alone =
    (codes "EVAL", rule.Eval) ∷ (codes "REFL", rule.Refl) ∷ (codes "ANDR", rule.AndR) ∷ (codes "OR1", rule.Or1) ∷ (codes "OR2", rule.Or2)
    ∷ (codes "IMPR", rule.ImpR) ∷ (codes "NOTR", rule.NotR) ∷ (codes "IFFR", rule.IffR) ∷ (codes "ALLR", rule.AllR) ∷ (codes "BOOLR", rule.BoolR)
    ∷ (codes "EQLE", rule.EqLe) ∷ (codes "RNG", rule.Rng) ∷ (codes "MEMBER", rule.Member) ∷ (codes "SUBSET", rule.Subset) ∷ (codes "EXT", rule.Ext) ∷ []

abbrev pub rules_of_hypothesis : ℕ → List (List ℕ × Rule)
rules_of_hypothesis h =
    (codes "HYP", rule.Hyp h) ∷ (codes "EVALNOT", rule.EvalNot h) ∷ (codes "ANDL", rule.AndL h) ∷ (codes "ORL", rule.OrL h)
    ∷ (codes "IMPL", rule.ImpL h) ∷ (codes "IFFL", rule.IffL h) ∷ (codes "NOTL", rule.NotL h) ∷ (codes "EXL", rule.ExL h) ∷ (codes "EQ", rule.Eq h)
    ∷ (codes "BOOLL", rule.BoolL h) ∷ (codes "RNGL", rule.RngL h) ∷ (codes "MEMBERL", rule.MemberL h) ∷ []

abbrev pub rules_of_two_hypotheses : ℕ → ℕ → List (List ℕ × Rule)
rules_of_two_hypotheses h j = (codes "CONTRA", rule.Contra h j) ∷ (codes "EQIN", rule.EqIn h j) ∷ []

abbrev pub rules_of_formula : FormulaArgument → List (List ℕ × Rule)
rules_of_formula f = (codes "CUT", rule.Cut f) ∷ (codes "CASES", rule.Cases f) ∷ []

abbrev pub rules_of_term : TermArgument → List (List ℕ × Rule)
rules_of_term t = (codes "EXR", rule.ExR t) ∷ (codes "BOOLCASES", rule.BoolCases t) ∷ (codes "ELEMS", rule.Elems t) ∷ (codes "CARDPOS", rule.CardPos t) ∷ []

abbrev pub rules_of_two_terms : TermArgument → TermArgument → List (List ℕ × Rule)
rules_of_two_terms s t =
    (codes "SPLIT", rule.Split s t) ∷ (codes "MULSIGN", rule.MulSign s t) ∷ (codes "CARDADD", rule.CardAdd s t) ∷ (codes "CARDDEL", rule.CardDel s t)
    ∷ (codes "CARDSUB", rule.CardSub s t) ∷ []

abbrev pub rules_of_hypothesis_and_term : ℕ → TermArgument → List (List ℕ × Rule)
rules_of_hypothesis_and_term h t = (codes "ALLL", rule.AllL h t) ∷ (codes "SUBSETL", rule.SubsetL h t) ∷ []

abbrev pub rule_of_word : Symbols → List ℕ → RawArguments → Rule
rule_of_word symbols w given.Nothing = by_word w rules_alone
rule_of_word symbols w (given.Hypothesis h) = by_word w (rules_of_hypothesis (count h))
rule_of_word symbols w (given.TwoHypotheses h j) = by_word w (rules_of_two_hypotheses (count h) (count j))
rule_of_word symbols w (given.Rows rows) = rule.Lin (map multiple rows)
rule_of_word symbols w (given.Formula f) = by_word w (rules_of_formula (formula_argument symbols f))
rule_of_word symbols w (given.Term t) = by_word w (rules_of_term (term_argument symbols t))
rule_of_word symbols w (given.TwoTerms s t) = by_word w (rules_of_two_terms (term_argument symbols s) (term_argument symbols t))
rule_of_word symbols w (given.HypothesisTerm h t) = by_word w (rules_of_hypothesis_and_term (count h) (term_argument symbols t))
rule_of_word symbols w (given.TermNumber t d) = rule.DivMod (term_argument symbols t) d.value

abbrev pub rule_of : Symbols → RawRule → Rule
rule_of symbols r = rule_of_word symbols r.word.text r.arguments

-- ---- certificates

abbrev mutual
  pub cert_of : Symbols → RawCertTree → CertTree
  cert_of symbols (raw.Node r cs) = Node (rule_of symbols r) (certs_of_each symbols cs)

  pub certs_of_each : Symbols → RawCerts → CertTrees
  certs_of_each symbols raw.NoChild = End
  certs_of_each symbols (raw.Child c cs) = More (cert_of symbols c) (certs_of_each symbols cs)
