-- The pieces of certificates and of the names of obligations are spelled by the grammar.
use Rattle.std.proofs.Common.{◌≡◌, ℕ, Bool, true, false, List, [], ◌∷◌, ◌++◌, refl, inl, inr}
use Rattle.std.specs.Prelude.{codes}
use Rattle.std.specs.List.{flat_map}
use Rattle.cb_lex.specs.declared.token.Keyword.TheVariants as keyword
use Rattle.cb_lex.specs.declared.token.Sign.TheVariants as sign
use Rattle.cb_lex.specs.declared.token.Sort.TheVariants as sort
use Rattle.cb_lex.specs.declared.raw.name.RawName.{RawName}
use Rattle.cb_lex.specs.declared.raw.proof.RawNumber.{RawNumber}
use Rattle.cb_lex.specs.declared.raw.proof.RawObligation.{RawObligation}
use Rattle.cb_lex.specs.declared.raw.proof.RawObligation.TheVariants as obligation
use Rattle.cb_lex.specs.declared.raw.proof.RawRow.{RawRow}
use Rattle.cb_lex.specs.declared.raw.proof.RawArguments.{RawArguments}
use Rattle.cb_lex.specs.declared.raw.proof.RawArguments.TheVariants as given
use Rattle.cb_lex.specs.declared.raw.proof.RawProof.{RawProof}
use Rattle.cb_lex.specs.RawTermTree.{RawTermTree, RawFormulaTree}
use Rattle.cb_lex.specs.RawCertTree.{RawCertTree, RawCerts}
use Rattle.cb_lex.specs.RawCertTree as tree
use Rattle.cb_engine.specs.declared.Symbol.{Symbol}
use Rattle.cb_engine.specs.declared.Symbol.TheVariants.{Take, Keep, Act, Part}
use Rattle.cb_engine.specs.Lines.{alternatives, Among}
use Rattle.cb_grammar.specs.declared.table.TheConstants.{GRAMMAR}
use Rattle.cb_grammar.specs.declared.actions.TheConstants as action
use Rattle.cb_grammar.specs.Classes.{keyword_class, sign_class, words}
use Rattle.cb_grammar.specs.Numbers as part
use Rattle.cb_grammar.specs.Written.{opening, closing}
use Rattle.cb_amn_parse.specs.Lexemes.{Named, Did}
use Rattle.cb_amn_parse.specs.Formulas.{term_out, formula_out}
use Rattle.cb_amn_parse.specs.Proofs.{numeral, obligation_out, row_out, row_entry, arguments_out, rule_action, node_out, children_out, proof_entry, proofs_out}
use Rattle.cb_amn_print.proofs.Scripts.{Piece, Silent, Done, silent, nothing}
use Rattle.cb_amn_print.proofs.Pieces.{term_script, formula_script}
use Rattle.cb_amn_print.proofs.Lines.{keyword_read, join, sign_taken, word_taken, word_kept, number_kept, name_kept, act, by_table}
use Rattle.cb_amn_print.proofs.Spelled.{Laws, Fine, AllFine, parted, term_good, formula_good}
use Rattle.cb_amn_print.proofs.MachinePieces.{word, name}
use Rattle.cb_amn_print.specs.Tokens.{name_sort}
use Rattle.cb_cert_shapes.specs.Full.{IsWordOf, words_of, HasRows, IsFullCert, AreFullCerts, IsFullObligation, AreFull}
use Rattle.cb_cert_print.proofs.Pieces.{number, colon, obligation_script, row_script, rows_rest, boxed, arguments_script, cert_script, children_script, certs_rest, each_script, proofs_script}
use Rattle.cb_cert_print.proofs.Keyed.{G, by_key, AllKeyed, by_word, by_table_on}

-- ---- the lines of the table

abbrev colon_taken : Symbol
colon_taken = Take (sign_class sign.Member)

abbrev comma : Symbol
comma = Take (sign_class sign.Comma)

abbrev in_brackets : ℕ → List Symbol → List Symbol
in_brackets n k = Take (sign_class sign.OpenBracket) ∷ (Part n ∷ (Take (sign_class sign.CloseBracket) ∷ k))

abbrev part_line : List Symbol
part_line = colon_taken ∷ (Keep 1 ∷ (colon_taken ∷ (Keep 1 ∷ (colon_taken ∷ (Keep 2 ∷ (Act action.OBLIGATION_OF_PART ∷ []))))))

abbrev named_line : List Symbol
named_line = Keep 1 ∷ (colon_taken ∷ (Keep 2 ∷ (Act action.OBLIGATION_OF_PART ∷ [])))

abbrev initial_line : List Symbol
initial_line = Keep (keyword_class keyword.Initialisation) ∷ (colon_taken ∷ (Keep 2 ∷ (Act action.OBLIGATION_OF_INITIALISATION ∷ [])))

abbrev live_line : List Symbol
live_line = colon_taken ∷ (Keep 1 ∷ (colon_taken ∷ (Part part.obligation_1 ∷ [])))

abbrev first_node : List Symbol → List Symbol
first_node k = opening ∷ (Act action.NO_NODES ∷ (Part part.node ∷ (Act action.APPEND_NODE ∷ k)))

abbrev next_node : List Symbol → List Symbol
next_node k = comma ∷ (Part part.node ∷ (Act action.APPEND_NODE ∷ k))

of_part_lines : alternatives GRAMMAR part.of_part ≡ part_line ∷ []
of_part_lines = refl

live_lines : alternatives GRAMMAR part.obligation_1 ≡ named_line ∷ (initial_line ∷ [])
live_lines = refl

no_premise_lines : alternatives GRAMMAR part.no_premise ≡ (Act action.NO_NODES ∷ (Act action.RULE ∷ [])) ∷ []
no_premise_lines = refl

one_premise_lines : alternatives GRAMMAR part.one_premise ≡ (Part part.one_node ∷ (Act action.RULE ∷ [])) ∷ []
one_premise_lines = refl

two_premises_lines : alternatives GRAMMAR part.two_premises ≡ (Part part.two_nodes ∷ (Act action.RULE ∷ [])) ∷ []
two_premises_lines = refl

hypothesis_one_lines : alternatives GRAMMAR part.hypothesis_one_premise ≡ (Keep 2 ∷ (Part part.one_node ∷ (Act action.RULE_HYPOTHESIS ∷ []))) ∷ []
hypothesis_one_lines = refl

hypothesis_two_lines : alternatives GRAMMAR part.hypothesis_two_premises ≡ (Keep 2 ∷ (Part part.two_nodes ∷ (Act action.RULE_HYPOTHESIS ∷ []))) ∷ []
hypothesis_two_lines = refl

term_one_lines : alternatives GRAMMAR part.term_one_premise ≡ in_brackets part.term (Part part.one_node ∷ (Act action.RULE_TERM ∷ [])) ∷ []
term_one_lines = refl

two_terms_lines : alternatives GRAMMAR part.two_terms_two_premises ≡ in_brackets part.term (in_brackets part.term (Part part.two_nodes ∷ (Act action.RULE_TWO_TERMS ∷ []))) ∷ []
two_terms_lines = refl

one_node_lines : alternatives GRAMMAR part.one_node ≡ first_node (closing ∷ []) ∷ []
one_node_lines = refl

two_nodes_lines : alternatives GRAMMAR part.two_nodes ≡ first_node (next_node (closing ∷ [])) ∷ []
two_nodes_lines = refl

three_nodes_lines : alternatives GRAMMAR part.three_nodes ≡ first_node (next_node (next_node (closing ∷ []))) ∷ []
three_nodes_lines = refl

some_nodes_lines : alternatives GRAMMAR part.some_nodes ≡ first_node (Part part.some_nodes_1 ∷ (closing ∷ [])) ∷ []
some_nodes_lines = refl

more_nodes_lines : alternatives GRAMMAR part.some_nodes_1 ≡ next_node (Part part.some_nodes_1 ∷ []) ∷ ([] ∷ [])
more_nodes_lines = refl

abbrev minus_factor : List Symbol
minus_factor = Take (sign_class sign.Minus) ∷ (Keep 2 ∷ (Act action.MINUS_ROW ∷ []))

row_lines : alternatives GRAMMAR part.row ≡ (Keep 2 ∷ (Take (sign_class sign.Times) ∷ (Part part.row_1 ∷ []))) ∷ []
row_lines = refl

row_factor_lines : alternatives GRAMMAR part.row_1 ≡ minus_factor ∷ ((Keep 2 ∷ (Act action.ROW ∷ [])) ∷ [])
row_factor_lines = refl

abbrev next_row : List Symbol
next_row = comma ∷ (Part part.row ∷ (Act action.APPEND_ROW ∷ (Part part.node_1 ∷ [])))

more_rows_lines : alternatives GRAMMAR part.node_1 ≡ next_row ∷ ([] ∷ [])
more_rows_lines = refl

abbrev next_proof : List Symbol
next_proof = Take (keyword_class keyword.Proof) ∷ (Part part.obligation ∷ (Part part.node ∷ (Take (keyword_class keyword.End) ∷ (Act action.APPEND_PROOF ∷ (Part part.proofs_1 ∷ [])))))

proofs_lines : alternatives GRAMMAR part.proofs ≡ (Act action.NO_PROOFS ∷ (Part part.proofs_1 ∷ [])) ∷ []
proofs_lines = refl

more_proofs_lines : alternatives GRAMMAR part.proofs_1 ≡ next_proof ∷ ([] ∷ [])
more_proofs_lines = refl

-- the lines behind the words

abbrev sum_line : List Symbol
sum_line =
    Take (sign_class sign.OpenBracket) ∷ (Act action.NO_ROWS ∷ (Part part.row ∷ (Act action.APPEND_ROW ∷ (Part part.node_1 ∷ (Take (sign_class sign.CloseBracket) ∷ (Act action.NO_NODES ∷ (Act action.RULE_ROWS ∷ [])))))))

module _ (laws : Laws) where
  table : (n : ℕ) (ls : List (List Symbol)) → alternatives GRAMMAR n ≡ ls → (w : List Symbol) (p : List Piece) → Among ls w → G w p → G (Part n ∷ []) p
  table n ls e w p a g = by_table true laws.plain n ls e w p a g

  empty : G [] []
  empty = record { spelled = nothing true; fit = tt }

  named : (x : RawName) → Fine true (Named x) → G (Keep 1 ∷ []) (name x ∷ [])
  named x f = name_kept true (name_sort x) f.0 f.1

  numbered : (n : RawNumber) → Fine true (numeral n) → G (Keep 2 ∷ []) (number n ∷ [])
  numbered n f = number_kept true n.value f

  coloned : G (colon_taken ∷ []) (colon ∷ [])
  coloned = sign_taken true sign.Member

  -- ---- the names of obligations

  obligation_good : (o : RawObligation) → IsFullObligation o → AllFine true (obligation_out o) → G (Part part.obligation ∷ []) (obligation_script o)
  unfolding words
  obligation_good (obligation.OfOwner g o n) u f =
      by_word part.obligation _ (codes "INIT" ∷ []) g _ (refl, tt) u f.0 (join true coloned (join true (named o f.1.0) (join true coloned (join true (numbered n f.1.1.0) (act true action.OBLIGATION_OF_OWNER)))))
  obligation_good (obligation.OfStart p o n) u f =
      by_key part.obligation _ (sort.Keyword keyword.Start) _ refl (keyword_read keyword.Start) (join true coloned (join true (named o f.1.0) (join true coloned (join true (numbered n f.1.1.0) (act true action.OBLIGATION_OF_START)))))
  obligation_good (obligation.OfPart g o x n) (inl e, z) f =
      let q = table part.obligation_1 _ live_lines _ _ (inl refl) (join true (named x f.1.1.0) (join true coloned (join true (numbered n f.1.1.1.0) (act true action.OBLIGATION_OF_PART)))) in
      by_word part.obligation live_line (codes "LIVE" ∷ []) g _ (refl, tt) (inl e, z) f.0 (join true coloned (join true (named o f.1.0) (join true coloned q)))
  obligation_good (obligation.OfPart g o x n) (inr m, z) f =
      let q = table part.of_part _ of_part_lines _ _ (inl refl) (join true coloned (join true (named o f.1.0) (join true coloned (join true (named x f.1.1.0) (join true coloned (join true (numbered n f.1.1.1.0) (act true action.OBLIGATION_OF_PART))))))) in
      by_word part.obligation _ (codes "OP" ∷ (codes "LOOP" ∷ (codes "MATCH" ∷ []))) g _ (refl, (refl, (refl, tt))) (m, z) f.0 q
  obligation_good (obligation.OfInitialisation g o p n) u f =
      let q = table part.obligation_1 _ live_lines _ _ (inr (inl refl)) (join true (word_kept true keyword.Initialisation refl) (join true coloned (join true (numbered n f.1.1.1.0) (act true action.OBLIGATION_OF_INITIALISATION)))) in
      by_word part.obligation live_line (codes "LIVE" ∷ []) g _ (refl, tt) u f.0 (join true coloned (join true (named o f.1.0) (join true coloned q)))

  -- ---- what a rule is given

  in_box : (n : ℕ) (p : List Piece) → G (Part n ∷ []) p → G (in_brackets n []) (boxed p)
  in_box n p g = join true (sign_taken true sign.OpenBracket) (join true g (sign_taken true sign.CloseBracket))

  boxed_term : (t : RawTermTree) → AllFine true (term_out t) → G (in_brackets part.term []) (boxed (term_script false t))
  boxed_term t f = in_box part.term _ (term_good true laws t f).1

  boxed_formula : (g : RawFormulaTree) → AllFine true (formula_out g) → G (in_brackets part.formula []) (boxed (formula_script false g))
  boxed_formula g f = let h = formula_good true laws g f in in_box part.formula _ h.formula

  row_good : (r : RawRow) → AllFine true (row_out r) → G (Part part.row ∷ []) (row_script r)
  row_good r f = go r.minus
    where
      go : (m : Bool) → G (Part part.row ∷ []) (row_script (record { hypothesis = r.hypothesis; minus = m; multiplier = r.multiplier }))
      go true =
          let q = table part.row_1 _ row_factor_lines _ _ (inl refl) (join true (sign_taken true sign.Minus) (join true (numbered r.multiplier f.1.0) (act true action.MINUS_ROW))) in
          table part.row _ row_lines _ _ (inl refl) (join true (numbered r.hypothesis f.0) (join true (sign_taken true sign.Times) q))
      go false =
          let q = table part.row_1 _ row_factor_lines _ _ (inr (inl refl)) (join true (numbered r.multiplier f.1.0) (act true action.ROW)) in
          table part.row _ row_lines _ _ (inl refl) (join true (numbered r.hypothesis f.0) (join true (sign_taken true sign.Times) q))

  more_rows : (rs : List RawRow) → AllFine true (flat_map row_entry rs) → G (Part part.node_1 ∷ []) (rows_rest rs)
  more_rows [] f = table part.node_1 _ more_rows_lines _ _ (inr (inl refl)) empty
  more_rows (r ∷ rs) f =
      let q = parted true (row_entry r) (flat_map row_entry rs) f in
      let h = (parted true (row_out r) (Did action.APPEND_ROW ∷ []) q.0).0 in
      table part.node_1 _ more_rows_lines _ _ (inl refl) (join true (sign_taken true sign.Comma) (join true (row_good r h) (join true (act true action.APPEND_ROW) (more_rows rs q.1))))

  -- ---- certificates

  abbrev AllGood : RawCerts → Type 0
  AllGood tree.NoChild = Unit {0}
  AllGood (tree.Child c cs) = G (Part part.node ∷ []) (cert_script c) × AllGood cs

  next : (c : RawCertTree) (k : List Symbol) (p : List Piece) → G (Part part.node ∷ []) (cert_script c) → G k p → G (Part part.node ∷ (Act action.APPEND_NODE ∷ k)) (cert_script c ++ (Done action.APPEND_NODE ∷ p))
  next c k p g h = join true g (join true (act true action.APPEND_NODE) h)

  behind_comma : (c : RawCertTree) (k : List Symbol) (p : List Piece) → G (Part part.node ∷ []) (cert_script c) → G k p → G (next_node k) (Silent (sort.Sign sign.Comma) ∷ (cert_script c ++ (Done action.APPEND_NODE ∷ p)))
  behind_comma c k p g h = join true (sign_taken true sign.Comma) (next c k p g h)

  children : (c : RawCertTree) (cs : RawCerts) (k : List Symbol) → G (Part part.node ∷ []) (cert_script c) → G k (certs_rest cs) → G (first_node k) (children_script (tree.Child c cs))
  children c cs k g h = join true (sign_taken true sign.OpenParenthesis) (join true (act true action.NO_NODES) (next c k (certs_rest cs) g h))

  closed : G (closing ∷ []) (certs_rest tree.NoChild)
  closed = sign_taken true sign.CloseParenthesis

  one_good : (c : RawCertTree) → AllGood (tree.Child c tree.NoChild) → G (Part part.one_node ∷ []) (children_script (tree.Child c tree.NoChild))
  one_good c g = table part.one_node _ one_node_lines _ _ (inl refl) (children c tree.NoChild (closing ∷ []) g.0 closed)

  two_good : (c d : RawCertTree) → AllGood (tree.Child c (tree.Child d tree.NoChild)) → G (Part part.two_nodes ∷ []) (children_script (tree.Child c (tree.Child d tree.NoChild)))
  two_good c d g = table part.two_nodes _ two_nodes_lines _ _ (inl refl) (children c (tree.Child d tree.NoChild) (next_node (closing ∷ [])) g.0 (behind_comma d (closing ∷ []) (certs_rest tree.NoChild) g.1.0 closed))

  three_good : (c d e : RawCertTree) → AllGood (tree.Child c (tree.Child d (tree.Child e tree.NoChild))) → G (Part part.three_nodes ∷ []) (children_script (tree.Child c (tree.Child d (tree.Child e tree.NoChild))))
  three_good c d e g =
      let third = behind_comma e (closing ∷ []) (certs_rest tree.NoChild) g.1.1.0 closed in
      table part.three_nodes _ three_nodes_lines _ _ (inl refl)
      (children c (tree.Child d (tree.Child e tree.NoChild)) (next_node (next_node (closing ∷ []))) g.0 (behind_comma d (next_node (closing ∷ [])) (certs_rest (tree.Child e tree.NoChild)) g.1.0 third))

  rest_good : (cs : RawCerts) → AllGood cs → G (Part part.some_nodes_1 ∷ (closing ∷ [])) (certs_rest cs)
  rest_good tree.NoChild g = by_table_on laws.plain part.some_nodes_1 _ more_nodes_lines (closing ∷ []) [] _ (inr (inl refl)) closed
  rest_good (tree.Child c cs) g =
      by_table_on laws.plain part.some_nodes_1 _ more_nodes_lines (closing ∷ []) (next_node (Part part.some_nodes_1 ∷ [])) _ (inl refl) (behind_comma c (Part part.some_nodes_1 ∷ (closing ∷ [])) (certs_rest cs) g.0 (rest_good cs g.1))

  some_good : (c : RawCertTree) (cs : RawCerts) → AllGood (tree.Child c cs) → G (Part part.some_nodes ∷ []) (children_script (tree.Child c cs))
  some_good c cs g = table part.some_nodes _ some_nodes_lines _ _ (inl refl) (children c cs (Part part.some_nodes_1 ∷ (closing ∷ [])) g.0 (rest_good cs g.1))

  none_good : G (Act action.NO_NODES ∷ []) (children_script tree.NoChild)
  none_good = act true action.NO_NODES

  abbrev NodeGood : RawName → RawArguments → RawCerts → Type 0
  NodeGood x a cs = G (Part part.node ∷ []) (name x ∷ (arguments_script a ++ (children_script cs ++ (Done (rule_action a) ∷ []))))

  -- a rule with such arguments is one of these words
  abbrev WordsGood : RawArguments → Type 0
  WordsGood a = (x : RawName) (cs : RawCerts) → IsWordOf (words_of a cs) x → Fine true (Named x) → AllFine true (arguments_out a) → AllGood cs → NodeGood x a cs

  by_words : (body : List Symbol) (ws : List (List ℕ)) (x : RawName) (p : List Piece) → AllKeyed part.node body ws → IsWordOf ws x → Fine true (Named x) → G body p → G (Part part.node ∷ []) (name x ∷ p)
  by_words body ws x p a m f g = by_word part.node body ws x p a m f g

  nothing_good : WordsGood given.Nothing
  unfolding words
  nothing_good x tree.NoChild m f a g = by_words (Part part.no_premise ∷ []) (words_of given.Nothing tree.NoChild) x _ (refl, (refl, tt)) m f (table part.no_premise _ no_premise_lines _ _ (inl refl) (join true none_good (act true action.RULE)))
  nothing_good x (tree.Child c tree.NoChild) m f a g =
      by_words (Part part.one_premise ∷ []) (words_of given.Nothing (tree.Child c tree.NoChild)) x _ (refl, (refl, (refl, (refl, (refl, (refl, (refl, (refl, tt)))))))) m f (table part.one_premise _ one_premise_lines _ _ (inl refl) (join true (one_good c g) (act true action.RULE)))
  nothing_good x (tree.Child c (tree.Child d tree.NoChild)) m f a g =
      by_words (Part part.two_premises ∷ []) (words_of given.Nothing (tree.Child c (tree.Child d tree.NoChild))) x _ (refl, (refl, (refl, (refl, (refl, tt))))) m f (table part.two_premises _ two_premises_lines _ _ (inl refl) (join true (two_good c d g) (act true action.RULE)))
  nothing_good x (tree.Child c (tree.Child d (tree.Child e cs))) m f a g = absurd m.0

  hypothesis_good : (n : RawNumber) → WordsGood (given.Hypothesis n)
  unfolding words
  hypothesis_good n x tree.NoChild m f a g = by_words _ (words_of (given.Hypothesis n) tree.NoChild) x _ (refl, (refl, tt)) m f (join true (numbered n a.0) (join true none_good (act true action.RULE_HYPOTHESIS)))
  hypothesis_good n x (tree.Child c tree.NoChild) m f a g =
      by_words (Part part.hypothesis_one_premise ∷ []) (words_of (given.Hypothesis n) (tree.Child c tree.NoChild)) x _ (refl, (refl, (refl, (refl, (refl, (refl, (refl, (refl, tt)))))))) m f
      (table part.hypothesis_one_premise _ hypothesis_one_lines _ _ (inl refl) (join true (numbered n a.0) (join true (one_good c g) (act true action.RULE_HYPOTHESIS))))
  hypothesis_good n x (tree.Child c (tree.Child d tree.NoChild)) m f a g =
      by_words (Part part.hypothesis_two_premises ∷ []) (words_of (given.Hypothesis n) (tree.Child c (tree.Child d tree.NoChild))) x _ (refl, (refl, tt)) m f (table part.hypothesis_two_premises _ hypothesis_two_lines _ _ (inl refl) (join true (numbered n a.0) (join true (two_good c d g) (act true action.RULE_HYPOTHESIS))))
  hypothesis_good n x (tree.Child c (tree.Child d (tree.Child e cs))) m f a g = absurd m.0

  hypotheses_good : (n k : RawNumber) → WordsGood (given.TwoHypotheses n k)
  unfolding words
  hypotheses_good n k x tree.NoChild m f a g = by_words _ (words_of (given.TwoHypotheses n k) tree.NoChild) x _ (refl, tt) m f (join true (join true (numbered n a.0) (numbered k a.1.0)) (join true none_good (act true action.RULE_TWO_HYPOTHESES)))
  hypotheses_good n k x (tree.Child c tree.NoChild) m f a g = by_words _ (words_of (given.TwoHypotheses n k) (tree.Child c tree.NoChild)) x _ (refl, tt) m f (join true (join true (numbered n a.0) (numbered k a.1.0)) (join true (one_good c g) (act true action.RULE_TWO_HYPOTHESES)))
  hypotheses_good n k x (tree.Child c (tree.Child d cs)) m f a g = absurd m.0

  rows_good : (r : RawRow) (rs : List RawRow) → WordsGood (given.Rows (r ∷ rs))
  unfolding words
  rows_good r rs x tree.NoChild m f a g =
      let q = parted true (row_entry r) (flat_map row_entry rs) a.1 in
      let h = (parted true (row_out r) (Did action.APPEND_ROW ∷ []) q.0).0 in
      let all = join true (act true action.NO_ROWS) (join true (row_good r h) (join true (act true action.APPEND_ROW) (more_rows rs q.1))) in
      by_words sum_line (words_of (given.Rows (r ∷ rs)) tree.NoChild) x _ (refl, tt) m f (join true (join true (sign_taken true sign.OpenBracket) (join true all (sign_taken true sign.CloseBracket))) (join true none_good (act true action.RULE_ROWS)))
  rows_good r rs x (tree.Child c cs) m f a g = absurd m.0

  cut_good : (h : RawFormulaTree) → WordsGood (given.Formula h)
  unfolding words
  cut_good h x tree.NoChild m f a g = absurd m.0
  cut_good h x (tree.Child c tree.NoChild) m f a g = absurd m.0
  cut_good h x (tree.Child c (tree.Child d tree.NoChild)) m f a g = by_words _ (words_of (given.Formula h) (tree.Child c (tree.Child d tree.NoChild))) x _ (refl, (refl, tt)) m f (join true (boxed_formula h a) (join true (two_good c d g) (act true action.RULE_FORMULA)))
  cut_good h x (tree.Child c (tree.Child d (tree.Child e cs))) m f a g = absurd m.0

  elements_good : (t : RawTermTree) (x : RawName) (c : RawCertTree) (cs : RawCerts) → IsWordOf (codes "ELEMS" ∷ []) x → Fine true (Named x) → AllFine true (term_out t) → AllGood (tree.Child c cs) → NodeGood x (given.Term t) (tree.Child c cs)
  unfolding words
  elements_good t x c cs m f a g = by_words _ (codes "ELEMS" ∷ []) x _ (refl, tt) m f (join true (boxed_term t a) (join true (some_good c cs g) (act true action.RULE_TERM)))

  on_term_good : (t : RawTermTree) → WordsGood (given.Term t)
  unfolding words
  on_term_good t x tree.NoChild m f a g = absurd m.0
  on_term_good t x (tree.Child c tree.NoChild) (inl e, z) f a g = elements_good t x c tree.NoChild (inl e, z) f a g
  on_term_good t x (tree.Child c tree.NoChild) (inr m, z) f a g =
      by_words (Part part.term_one_premise ∷ []) (codes "EXR" ∷ (codes "CARDPOS" ∷ [])) x _ (refl, (refl, tt)) (m, z) f
      (table part.term_one_premise _ term_one_lines _ _ (inl refl) (join true (boxed_term t a) (join true (one_good c g) (act true action.RULE_TERM))))
  on_term_good t x (tree.Child c (tree.Child d tree.NoChild)) (inl e, z) f a g = elements_good t x c (tree.Child d tree.NoChild) (inl e, z) f a g
  on_term_good t x (tree.Child c (tree.Child d tree.NoChild)) (inr m, z) f a g = by_words _ (codes "BOOLCASES" ∷ []) x _ (refl, tt) (m, z) f (join true (boxed_term t a) (join true (two_good c d g) (act true action.RULE_TERM)))
  on_term_good t x (tree.Child c (tree.Child d (tree.Child e cs))) m f a g = elements_good t x c (tree.Child d (tree.Child e cs)) m f a g

  two_terms_good : (s t : RawTermTree) → WordsGood (given.TwoTerms s t)
  unfolding words
  two_terms_good s t x tree.NoChild m f a g = absurd m.0
  two_terms_good s t x (tree.Child c tree.NoChild) m f a g = absurd m.0
  two_terms_good s t x (tree.Child c (tree.Child d tree.NoChild)) m f a g =
      let q = parted true (term_out s) (term_out t) a in
      by_words (Part part.two_terms_two_premises ∷ []) (words_of (given.TwoTerms s t) (tree.Child c (tree.Child d tree.NoChild))) x _ (refl, (refl, (refl, tt))) m f
      (table part.two_terms_two_premises _ two_terms_lines _ _ (inl refl) (join true (join true (boxed_term s q.0) (boxed_term t q.1)) (join true (two_good c d g) (act true action.RULE_TWO_TERMS))))
  two_terms_good s t x (tree.Child c (tree.Child d (tree.Child e tree.NoChild))) m f a g =
      let q = parted true (term_out s) (term_out t) a in
      by_words _ (words_of (given.TwoTerms s t) (tree.Child c (tree.Child d (tree.Child e tree.NoChild)))) x _ (refl, (refl, tt)) m f (join true (join true (boxed_term s q.0) (boxed_term t q.1)) (join true (three_good c d e g) (act true action.RULE_TWO_TERMS)))
  two_terms_good s t x (tree.Child c (tree.Child d (tree.Child e (tree.Child h cs)))) m f a g = absurd m.0

  hypothesis_term_good : (n : RawNumber) (t : RawTermTree) → WordsGood (given.HypothesisTerm n t)
  unfolding words
  hypothesis_term_good n t x tree.NoChild m f a g = absurd m.0
  hypothesis_term_good n t x (tree.Child c tree.NoChild) m f a g = by_words _ (words_of (given.HypothesisTerm n t) (tree.Child c tree.NoChild)) x _ (refl, (refl, tt)) m f (join true (join true (numbered n a.0) (boxed_term t a.1)) (join true (one_good c g) (act true action.RULE_HYPOTHESIS_TERM)))
  hypothesis_term_good n t x (tree.Child c (tree.Child d cs)) m f a g = absurd m.0

  term_number_good : (t : RawTermTree) (n : RawNumber) → WordsGood (given.TermNumber t n)
  unfolding words
  term_number_good t n x tree.NoChild m f a g = absurd m.0
  term_number_good t n x (tree.Child c tree.NoChild) m f a g =
      let q = parted true (term_out t) (numeral n ∷ []) a in
      by_words _ (words_of (given.TermNumber t n) (tree.Child c tree.NoChild)) x _ (refl, tt) m f (join true (join true (boxed_term t q.0) (numbered n q.1.0)) (join true (one_good c g) (act true action.RULE_TERM_NUMBER)))
  term_number_good t n x (tree.Child c (tree.Child d cs)) m f a g = absurd m.0

  rule_good : (a : RawArguments) → HasRows a → WordsGood a
  rule_good given.Nothing r = nothing_good
  rule_good (given.Hypothesis n) r = hypothesis_good n
  rule_good (given.TwoHypotheses n k) r = hypotheses_good n k
  rule_good (given.Rows []) r = absurd r
  rule_good (given.Rows (w ∷ rs)) r = rows_good w rs
  rule_good (given.Formula h) r = cut_good h
  rule_good (given.Term t) r = on_term_good t
  rule_good (given.TwoTerms s t) r = two_terms_good s t
  rule_good (given.HypothesisTerm n t) r = hypothesis_term_good n t
  rule_good (given.TermNumber t n) r = term_number_good t n

  mutual
    cert_good : (c : RawCertTree) → IsFullCert c → AllFine true (node_out c) → G (Part part.node ∷ []) (cert_script c)
    cert_good (tree.Node r cs) u f =
        let d = (parted true ((Named r.word ∷ arguments_out r.arguments) ++ (Did action.NO_NODES ∷ children_out cs)) (Did (rule_action r.arguments) ∷ []) f).0 in
        let q = parted true (Named r.word ∷ arguments_out r.arguments) (Did action.NO_NODES ∷ children_out cs) d in
        let v = u.0 in
        rule_good r.arguments v.rows r.word cs v.word q.0.0 q.0.1 (certs_good cs u.1 q.1.1)

    certs_good : (cs : RawCerts) → AreFullCerts cs → AllFine true (children_out cs) → AllGood cs
    certs_good tree.NoChild u f = tt
    certs_good (tree.Child c cs) u f =
        let q = parted true (node_out c) (Did action.APPEND_NODE ∷ children_out cs) f in
        (cert_good c u.0 q.0, certs_good cs u.1 q.1.1)

  -- ---- proofs

  proof_taken : G (Take (keyword_class keyword.Proof) ∷ []) (word keyword.Proof ∷ [])
  proof_taken = record { spelled = silent true (keyword_class keyword.Proof) (sort.Keyword keyword.Proof) refl; fit = ((keyword_read keyword.Proof, refl), tt) }

  each_good : (ps : List RawProof) → AreFull ps → AllFine true (flat_map proof_entry ps) → G (Part part.proofs_1 ∷ []) (each_script ps)
  each_good [] u f = table part.proofs_1 _ more_proofs_lines _ _ (inr (inl refl)) empty
  each_good (p ∷ ps) u f =
      let q = parted true (proof_entry p) (flat_map proof_entry ps) f in
      let d = (parted true (obligation_out p.name ++ node_out p.cert) (Did action.APPEND_PROOF ∷ []) q.0).0 in
      let h = parted true (obligation_out p.name) (node_out p.cert) d in
      let v = u.0 in
      let one = join true proof_taken (join true (obligation_good p.name v.name h.0) (join true (cert_good p.cert v.cert h.1) (join true (word_taken true keyword.End refl) (act true action.APPEND_PROOF)))) in
      table part.proofs_1 _ more_proofs_lines _ _ (inl refl) (join true one (each_good ps u.1 q.1))

  pub proofs_good : (ps : List RawProof) → AreFull ps → AllFine true (proofs_out ps) → G (Part part.proofs ∷ []) (proofs_script ps)
  proofs_good ps u f = table part.proofs _ proofs_lines _ _ (inl refl) (join true (act true action.NO_PROOFS) (each_good ps u f.1))
