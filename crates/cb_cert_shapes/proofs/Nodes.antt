-- A proof whose items go on is full, and the items behind it go on from there.
use Rattle.std.proofs.Common.{◌≡◌, ℕ, Bool, true, false, List, [], ◌∷◌, ◌++◌, map, refl, ap, subst, arith}
use Rattle.std.specs.List.{flat_map}
use Rattle.cb_lex.specs.declared.raw.name.RawName.{RawName}
use Rattle.cb_lex.specs.declared.raw.proof.RawRow.{RawRow}
use Rattle.cb_lex.specs.declared.raw.proof.RawArguments.{RawArguments}
use Rattle.cb_lex.specs.declared.raw.proof.RawArguments.TheVariants as given
use Rattle.cb_lex.specs.RawCertTree.{RawCertTree, RawCerts}
use Rattle.cb_lex.specs.RawCertTree as tree
use Rattle.cb_grammar.specs.Classes.{words}
use Rattle.cb_grammar.specs.declared.actions.TheConstants.{NO_NODES, APPEND_NODE, APPEND_ROW}
use Rattle.cb_grammar.specs.Signatures.{formula_kind, term_kind, node_kind, row_kind, rows_kind}
use Rattle.cb_amn_parse.specs.Lexemes.{Lexeme, Did}
use Rattle.cb_amn_parse.specs.Formulas.{term_out}
use Rattle.cb_amn_parse.specs.Proofs.{numeral, row_entry, row_action, rows_out, arguments_out, rule_action, node_out, children_out}
use Rattle.cb_shapes.proofs.Finer.{turned}
use Rattle.cb_cert_shapes.specs.Full.{IsWordOf, words_of, HasRows, IsFullCert, AreFullCerts}
use Rattle.cb_cert_shapes.proofs.Table.{WordTable, mark, rule_effects, word_kind, no_rows, no_nodes, one_node, two_nodes, three_nodes, more_nodes, plain_words, hypothesis_words, two_hypotheses_words, rows_words, formula_words, term_words, two_terms_words, hypothesis_term_words, term_number_words}
use Rattle.cb_cert_shapes.proofs.Goes.{On, Goes, IsKind, only, grouped, term_goes, formula_goes}
use Rattle.cb_cert_shapes.proofs.Words.{word_at, look, word_of, rule_turned}

-- ---- how many nodes

data Count : Type 0 where
  Zero : Count
  One : Count
  Two : Count
  Three : Count
  More : Count

abbrev kind : Count → ℕ
kind Zero = no_nodes
kind One = one_node
kind Two = two_nodes
kind Three = three_nodes
kind More = more_nodes

abbrev next : Count → Count
next Zero = One
next One = Two
next Two = Three
next Three = More
next More = More

abbrev counted : Count → RawCerts → Count
counted n tree.NoChild = n
counted n (tree.Child c cs) = counted (next n) cs

more_counted : (cs : RawCerts) → counted More cs ≡ More
more_counted tree.NoChild = refl
more_counted (tree.Child c cs) = more_counted cs

append_goes : (n : Count) (more : List Lexeme) (k : List ℕ) → Goes (Did APPEND_NODE ∷ more) (node_kind ∷ kind n ∷ k) → Goes more (kind (next n) ∷ k)
append_goes Zero more k h = h
append_goes One more k h = h
append_goes Two more k h = h
append_goes Three more k h = h
append_goes More more k h = h

-- ---- the words of a rule

abbrev table_of : RawArguments → WordTable
table_of given.Nothing = plain_words
table_of (given.Hypothesis n) = hypothesis_words
table_of (given.TwoHypotheses m n) = two_hypotheses_words
table_of (given.Rows rs) = rows_words
table_of (given.Formula f) = formula_words
table_of (given.Term t) = term_words
table_of (given.TwoTerms s t) = two_terms_words
table_of (given.HypothesisTerm n t) = hypothesis_term_words
table_of (given.TermNumber t n) = term_number_words

abbrev marks : RawArguments → RawCerts → List ℕ
marks a cs = look (table_of a) (kind (counted Zero cs))

same_words : (a : RawArguments) (cs : RawCerts) → map word_at (marks a cs) ≡ words_of a cs
unfolding words
same_words given.Nothing tree.NoChild = refl
same_words given.Nothing (tree.Child a tree.NoChild) = refl
same_words given.Nothing (tree.Child a (tree.Child b tree.NoChild)) = refl
same_words given.Nothing (tree.Child a (tree.Child b (tree.Child c tree.NoChild))) = refl
same_words given.Nothing (tree.Child a (tree.Child b (tree.Child c (tree.Child d cs)))) = rw (more_counted cs) refl
same_words (given.Hypothesis n) tree.NoChild = refl
same_words (given.Hypothesis n) (tree.Child a tree.NoChild) = refl
same_words (given.Hypothesis n) (tree.Child a (tree.Child b tree.NoChild)) = refl
same_words (given.Hypothesis n) (tree.Child a (tree.Child b (tree.Child c tree.NoChild))) = refl
same_words (given.Hypothesis n) (tree.Child a (tree.Child b (tree.Child c (tree.Child d cs)))) = rw (more_counted cs) refl
same_words (given.TwoHypotheses m n) tree.NoChild = refl
same_words (given.TwoHypotheses m n) (tree.Child a tree.NoChild) = refl
same_words (given.TwoHypotheses m n) (tree.Child a (tree.Child b tree.NoChild)) = refl
same_words (given.TwoHypotheses m n) (tree.Child a (tree.Child b (tree.Child c tree.NoChild))) = refl
same_words (given.TwoHypotheses m n) (tree.Child a (tree.Child b (tree.Child c (tree.Child d cs)))) = rw (more_counted cs) refl
same_words (given.Rows rs) tree.NoChild = refl
same_words (given.Rows rs) (tree.Child a tree.NoChild) = refl
same_words (given.Rows rs) (tree.Child a (tree.Child b tree.NoChild)) = refl
same_words (given.Rows rs) (tree.Child a (tree.Child b (tree.Child c tree.NoChild))) = refl
same_words (given.Rows rs) (tree.Child a (tree.Child b (tree.Child c (tree.Child d cs)))) = rw (more_counted cs) refl
same_words (given.Formula f) tree.NoChild = refl
same_words (given.Formula f) (tree.Child a tree.NoChild) = refl
same_words (given.Formula f) (tree.Child a (tree.Child b tree.NoChild)) = refl
same_words (given.Formula f) (tree.Child a (tree.Child b (tree.Child c tree.NoChild))) = refl
same_words (given.Formula f) (tree.Child a (tree.Child b (tree.Child c (tree.Child d cs)))) = rw (more_counted cs) refl
same_words (given.Term t) tree.NoChild = refl
same_words (given.Term t) (tree.Child a tree.NoChild) = refl
same_words (given.Term t) (tree.Child a (tree.Child b tree.NoChild)) = refl
same_words (given.Term t) (tree.Child a (tree.Child b (tree.Child c tree.NoChild))) = refl
same_words (given.Term t) (tree.Child a (tree.Child b (tree.Child c (tree.Child d cs)))) = rw (more_counted cs) refl
same_words (given.TwoTerms s t) tree.NoChild = refl
same_words (given.TwoTerms s t) (tree.Child a tree.NoChild) = refl
same_words (given.TwoTerms s t) (tree.Child a (tree.Child b tree.NoChild)) = refl
same_words (given.TwoTerms s t) (tree.Child a (tree.Child b (tree.Child c tree.NoChild))) = refl
same_words (given.TwoTerms s t) (tree.Child a (tree.Child b (tree.Child c (tree.Child d cs)))) = rw (more_counted cs) refl
same_words (given.HypothesisTerm n t) tree.NoChild = refl
same_words (given.HypothesisTerm n t) (tree.Child a tree.NoChild) = refl
same_words (given.HypothesisTerm n t) (tree.Child a (tree.Child b tree.NoChild)) = refl
same_words (given.HypothesisTerm n t) (tree.Child a (tree.Child b (tree.Child c tree.NoChild))) = refl
same_words (given.HypothesisTerm n t) (tree.Child a (tree.Child b (tree.Child c (tree.Child d cs)))) = rw (more_counted cs) refl
same_words (given.TermNumber t n) tree.NoChild = refl
same_words (given.TermNumber t n) (tree.Child a tree.NoChild) = refl
same_words (given.TermNumber t n) (tree.Child a (tree.Child b tree.NoChild)) = refl
same_words (given.TermNumber t n) (tree.Child a (tree.Child b (tree.Child c tree.NoChild))) = refl
same_words (given.TermNumber t n) (tree.Child a (tree.Child b (tree.Child c (tree.Child d cs)))) = rw (more_counted cs) refl

-- ---- rows

row_goes : (minus : Bool) (rows i j : ℕ) (more : List Lexeme) (k : List ℕ) → Goes (Did (row_action minus) ∷ more) (j ∷ i ∷ rows ∷ k) → Goes more (row_kind ∷ rows ∷ k)
row_goes true rows i j more k h = only _ (λ m. Goes more m) (row_kind ∷ rows ∷ k) h
row_goes false rows i j more k h = only _ (λ m. Goes more m) (row_kind ∷ rows ∷ k) h

more_rows : (rs : List RawRow) (more : List Lexeme) (k : List ℕ) → Goes (flat_map row_entry rs ++ more) (rows_kind ∷ k) → Goes more (rows_kind ∷ k)
more_rows [] more k h = h
more_rows (r ∷ rs) more k (i, (j, h)) = more_rows rs more k (row_goes r.minus rows_kind i j (Did APPEND_ROW ∷ (flat_map row_entry rs ++ more)) k h)

rows_go : (r : RawRow) (rs : List RawRow) (more : List Lexeme) (k : List ℕ) → Goes (rows_out (r ∷ rs) ++ more) k → Goes more (rows_kind ∷ k)
rows_go r rs more k (i, (j, h)) = more_rows rs more k (row_goes r.minus no_rows i j (Did APPEND_ROW ∷ (flat_map row_entry rs ++ more)) k h)

abbrev first : List ℕ → ℕ
first [] = 0
first (x ∷ xs) = x

some_rows : (i w : ℕ) → rows_kind ∷ i ∷ [] ≡ no_rows ∷ w ∷ [] → ⊥
some_rows i w e = let q : rows_kind ≡ no_rows = ap first e in omega (arith, q)

-- ---- a rule

-- behind the word come the arguments, the nodes and the action
abbrev Behind : RawArguments → RawCerts → List Lexeme → List Lexeme
Behind a cs more = arguments_out a ++ Did NO_NODES ∷ (children_out cs ++ Did (rule_action a) ∷ more)

-- what is to be shown of a rule
abbrev Ends : RawName → RawArguments → RawCerts → List Lexeme → List ℕ → Type 0
Ends x a cs more k = (IsWordOf (words_of a cs) x × HasRows a × AreFullCerts cs) × Goes more (node_kind ∷ k)

module _ (x : RawName) (cs : RawCerts) (w : ℕ) (is : IsKind x w) (more : List Lexeme) (k : List ℕ) where
  abbrev nodes_kind : ℕ
  nodes_kind = kind (counted Zero cs)

  ends : (a : RawArguments) (taken js : List ℕ) → HasRows a → AreFullCerts cs × On (λ m. Goes more m) (turned (rule_effects taken (table_of a)) (nodes_kind ∷ js ++ w ∷ []) k) → Ends x a cs more k
  ends a taken js rows h =
      let t = rule_turned (λ m. Goes more m) taken (table_of a) nodes_kind js w k h.1 in
      ((subst (λ (ws : List (List ℕ)). IsWordOf ws x) (same_words a cs) (word_of (marks a cs) x w is t.0), rows, h.0), t.2)

  no_rows_end : AreFullCerts cs × On (λ m. Goes more m) (turned (rule_effects (rows_kind ∷ []) rows_words) (nodes_kind ∷ no_rows ∷ w ∷ []) k) → ⊥
  no_rows_end h =
      let t = rule_turned (λ m. Goes more m) (rows_kind ∷ []) rows_words nodes_kind (no_rows ∷ []) w k h.1 in
      some_rows (mark t.1.0) w t.1.1

  -- past the nodes
  abbrev Nodes : Type 0
  Nodes = (on : List Lexeme) (k : List ℕ) → Goes (children_out cs ++ on) (no_nodes ∷ k) → AreFullCerts cs × Goes on (nodes_kind ∷ k)

  rule_ends : Nodes → (a : RawArguments) → Goes (Behind a cs more) (w ∷ k) → Ends x a cs more k
  rule_ends nodes given.Nothing h = ends given.Nothing [] [] tt (nodes _ (w ∷ k) h)
  rule_ends nodes (given.Hypothesis m) (i, h) = ends (given.Hypothesis m) (word_kind ∷ []) (i ∷ []) tt (nodes _ (i ∷ w ∷ k) h)
  rule_ends nodes (given.TwoHypotheses l m) (i, (j, h)) = ends (given.TwoHypotheses l m) (word_kind ∷ word_kind ∷ []) (j ∷ i ∷ []) tt (nodes _ (j ∷ i ∷ w ∷ k) h)
  rule_ends nodes (given.Rows []) h = absurd (no_rows_end (nodes _ (no_rows ∷ w ∷ k) h))
  rule_ends nodes (given.Rows (r ∷ rs)) h = ends (given.Rows (r ∷ rs)) (rows_kind ∷ []) (rows_kind ∷ []) tt (nodes _ (rows_kind ∷ w ∷ k) (rows_go r rs _ (w ∷ k) h))
  rule_ends nodes (given.Formula f) h = ends (given.Formula f) (formula_kind ∷ []) (formula_kind ∷ []) tt (nodes _ (formula_kind ∷ w ∷ k) (formula_goes f _ (w ∷ k) h))
  rule_ends nodes (given.Term t) h = ends (given.Term t) (term_kind ∷ []) (term_kind ∷ []) tt (nodes _ (term_kind ∷ w ∷ k) (term_goes t _ (w ∷ k) h))
  rule_ends nodes (given.TwoTerms s t) h =
      let g = term_goes t _ (term_kind ∷ w ∷ k) (term_goes s _ (w ∷ k) (grouped (term_out s) (term_out t) _ (w ∷ k) h)) in
      ends (given.TwoTerms s t) (term_kind ∷ term_kind ∷ []) (term_kind ∷ term_kind ∷ []) tt (nodes _ (term_kind ∷ term_kind ∷ w ∷ k) g)
  rule_ends nodes (given.HypothesisTerm m t) (i, h) = ends (given.HypothesisTerm m t) (term_kind ∷ word_kind ∷ []) (term_kind ∷ i ∷ []) tt (nodes _ (term_kind ∷ i ∷ w ∷ k) (term_goes t _ (i ∷ w ∷ k) h))
  rule_ends nodes (given.TermNumber t m) h =
      let g = term_goes t _ (w ∷ k) (grouped (term_out t) (numeral m ∷ []) _ (w ∷ k) h) in
      ends (given.TermNumber t m) (word_kind ∷ term_kind ∷ []) (g.0 ∷ term_kind ∷ []) tt (nodes _ (g.0 ∷ term_kind ∷ w ∷ k) g.1)

-- ---- certificates

to_action : (a : RawArguments) (cs : RawCerts) (more : List Lexeme) (k : List ℕ) → Goes (((arguments_out a ++ Did NO_NODES ∷ children_out cs) ++ Did (rule_action a) ∷ []) ++ more) k → Goes (Behind a cs more) k
to_action a cs more k h =
    grouped (arguments_out a) (Did NO_NODES ∷ children_out cs) (Did (rule_action a) ∷ more) k (grouped (arguments_out a ++ Did NO_NODES ∷ children_out cs) (Did (rule_action a) ∷ []) more k h)

mutual
  pub full_cert : (c : RawCertTree) (more : List Lexeme) (k : List ℕ) → Goes (node_out c ++ more) k → IsFullCert c × Goes more (node_kind ∷ k)
  full_cert (tree.Node r cs) more k (w, is, h) =
      let e = rule_ends r.word cs w is more k (λ on k h. full_certs cs Zero on k h) r.arguments (to_action r.arguments cs more (w ∷ k) h) in
      ((record { word = e.0.0; rows = e.0.1 }, e.0.2), e.1)

  full_certs : (cs : RawCerts) (n : Count) (more : List Lexeme) (k : List ℕ) → Goes (children_out cs ++ more) (kind n ∷ k) → AreFullCerts cs × Goes more (kind (counted n cs) ∷ k)
  full_certs tree.NoChild n more k h = (tt, h)
  full_certs (tree.Child c cs) n more k h =
      let on : List Lexeme = children_out cs ++ more in
      let a = full_cert c (Did APPEND_NODE ∷ on) (kind n ∷ k) (grouped (node_out c) (Did APPEND_NODE ∷ children_out cs) more (kind n ∷ k) h) in
      let b = full_certs cs (next n) more k (append_goes n on k a.1) in
      ((a.0, b.0), b.1)
