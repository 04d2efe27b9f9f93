-- Proofs token by token: their text, and what is written for them.
use Rattle.std.proofs.Common.{◌≡◌, ℕ, Bool, true, false, List, [], ◌∷◌, ◌++◌, refl, ap, sym, ◌∙◌, append_assoc}
use Rattle.std.specs.Prelude.{codes}
use Rattle.std.specs.List.{flat_map}
use Rattle.std.proofs.lemmas.List.{append-nil, map-append}
use Rattle.cb_lex.specs.declared.token.Sort.TheVariants as sort
use Rattle.cb_lex.specs.declared.token.Keyword.TheVariants as keyword
use Rattle.cb_lex.specs.declared.token.Sign.TheVariants as sign
use Rattle.cb_lex.specs.declared.raw.proof.RawNumber.{RawNumber}
use Rattle.cb_lex.specs.declared.raw.proof.RawObligation.{RawObligation}
use Rattle.cb_lex.specs.declared.raw.proof.RawObligation.TheVariants as obligation
use Rattle.cb_lex.specs.declared.raw.proof.RawRow.{RawRow}
use Rattle.cb_lex.specs.declared.raw.proof.RawArguments.{RawArguments}
use Rattle.cb_lex.specs.declared.raw.proof.RawArguments.TheVariants as arguments
use Rattle.cb_lex.specs.declared.raw.proof.RawProof.{RawProof}
use Rattle.cb_lex.specs.RawTermTree.{RawTermTree}
use Rattle.cb_lex.specs.RawCertTree.{RawCertTree, RawCerts}
use Rattle.cb_lex.specs.RawCertTree as tree
use Rattle.cb_grammar.specs.declared.actions.TheConstants as action
use Rattle.cb_amn_parse.specs.Lexemes.{Lexeme, Named, Did}
use Rattle.cb_amn_parse.specs.Formulas.{term_out}
use Rattle.cb_amn_parse.specs.Proofs.{numeral, obligation_out, row_action, row_entry, arguments_out, rule_action, node_out, children_out, proof_entry, proofs_out}
use Rattle.cb_amn_print.specs.Tokens.{said, only_if}
use Rattle.cb_amn_print.specs.Formulas.{term_text, formula_text}
use Rattle.cb_amn_print.specs.Printed.{unplaced}
use Rattle.cb_amn_print.proofs.Scripts.{Piece, Kept, Done, text_of, told_of, text-append, told-append, text-both, told-both}
use Rattle.cb_amn_print.proofs.Pieces.{open_piece, close_piece, term_script, formula_script, term-text, formula-text, term-told, formula-told, told-name, bare}
use Rattle.cb_amn_print.proofs.MachinePieces.{word, mark, name, minus_if}
use Rattle.cb_cert_print.specs.Proofs.{number_text, obligation_text, row_text, rows_text, arguments_text, cert_text, certs_text, proof_text}

abbrev pub number : RawNumber → Piece
number n = Kept (sort.Number n.value)

abbrev pub colon : Piece
colon = mark sign.Member

-- ---- the names of obligations

abbrev pub obligation_script : RawObligation → List Piece
obligation_script (obligation.OfOwner g o n) = name g ∷ (colon ∷ (name o ∷ (colon ∷ (number n ∷ (Done action.OBLIGATION_OF_OWNER ∷ [])))))
obligation_script (obligation.OfStart p o n) = Kept (sort.Keyword keyword.Start) ∷ (colon ∷ (name o ∷ (colon ∷ (number n ∷ (Done action.OBLIGATION_OF_START ∷ [])))))
obligation_script (obligation.OfPart g o x n) = name g ∷ (colon ∷ (name o ∷ (colon ∷ (name x ∷ (colon ∷ (number n ∷ (Done action.OBLIGATION_OF_PART ∷ [])))))))
obligation_script (obligation.OfInitialisation g o p n) =
    name g ∷ (colon ∷ (name o ∷ (colon ∷ (Kept (sort.Keyword keyword.Initialisation) ∷ (colon ∷ (number n ∷ (Done action.OBLIGATION_OF_INITIALISATION ∷ [])))))))

obligation-text : (o : RawObligation) → text_of (obligation_script o) ≡ obligation_text o
obligation-text (obligation.OfOwner g o n) = simp (append_assoc, append-nil) refl
obligation-text (obligation.OfStart p o n) = simp (append_assoc, append-nil) refl
obligation-text (obligation.OfPart g o x n) = simp (append_assoc, append-nil) refl
obligation-text (obligation.OfInitialisation g o p n) = simp (append_assoc, append-nil) refl

obligation-told : (o : RawObligation) → told_of (obligation_script o) ≡ bare (obligation_out o)
obligation-told (obligation.OfOwner g o n) = let a = told-name g in let b = told-name o in simp (a, b) refl
obligation-told (obligation.OfStart p o n) = let b = told-name o in simp b refl
obligation-told (obligation.OfPart g o x n) = let a = told-name g in let b = told-name o in let c = told-name x in simp (a, b, c) refl
obligation-told (obligation.OfInitialisation g o p n) = let a = told-name g in let b = told-name o in simp (a, b) refl

-- ---- rows

abbrev pub row_script : RawRow → List Piece
row_script r = number r.hypothesis ∷ (mark sign.Times ∷ (minus_if r.minus ++ (number r.multiplier ∷ (Done (row_action r.minus) ∷ []))))

abbrev pub rows_rest : List RawRow → List Piece
rows_rest [] = []
rows_rest (r ∷ rs) = mark sign.Comma ∷ (row_script r ++ (Done action.APPEND_ROW ∷ rows_rest rs))

abbrev pub rows_script : List RawRow → List Piece
rows_script [] = Done action.NO_ROWS ∷ []
rows_script (r ∷ rs) = Done action.NO_ROWS ∷ (row_script r ++ (Done action.APPEND_ROW ∷ rows_rest rs))

row-text : (r : RawRow) → text_of (row_script r) ≡ row_text r
row-text r = go r.hypothesis r.minus r.multiplier
  where
    go : (h : RawNumber) (m : Bool) (k : RawNumber) → text_of (number h ∷ (mark sign.Times ∷ (minus_if m ++ (number k ∷ (Done (row_action m) ∷ []))))) ≡ number_text h ++ codes "* " ++ (only_if m (codes "- ") ++ number_text k)
    go h true k = simp (append_assoc, append-nil) refl
    go h false k = simp (append_assoc, append-nil) refl

row-told : (r : RawRow) → told_of (row_script r ++ (Done action.APPEND_ROW ∷ [])) ≡ bare (row_entry r)
row-told r = go r.hypothesis r.minus r.multiplier
  where
    go : (h : RawNumber) (m : Bool) (k : RawNumber) → told_of ((number h ∷ (mark sign.Times ∷ (minus_if m ++ (number k ∷ (Done (row_action m) ∷ []))))) ++ (Done action.APPEND_ROW ∷ [])) ≡ bare ((numeral h ∷ (numeral k ∷ (Did (row_action m) ∷ []))) ++ (Did action.APPEND_ROW ∷ []))
    go h true k = refl
    go h false k = refl

row-first-text : (r : RawRow) (rs : List RawRow) → text_of (rows_rest rs) ≡ rows_text false rs → text_of (row_script r ++ (Done action.APPEND_ROW ∷ rows_rest rs)) ≡ row_text r ++ rows_text false rs
row-first-text r rs e = text-both (row_script r) (Done action.APPEND_ROW ∷ rows_rest rs) (row_text r) (rows_text false rs) (row-text r) e

rows-rest-text : (rs : List RawRow) → text_of (rows_rest rs) ≡ rows_text false rs
rows-rest-text [] = refl
rows-rest-text (r ∷ rs) = ap (λ (x : List ℕ). said (sort.Sign sign.Comma) ++ x) (row-first-text r rs (rows-rest-text rs))

rows-text : (rs : List RawRow) → text_of (rows_script rs) ≡ rows_text true rs
rows-text [] = refl
rows-text (r ∷ rs) = row-first-text r rs (rows-rest-text rs)

row-first-told : (r : RawRow) (p : List Piece) → told_of (row_script r ++ (Done action.APPEND_ROW ∷ p)) ≡ bare (row_entry r) ++ told_of p
row-first-told r p = let a = row-told r in ap told_of (sym (append_assoc (row_script r) (Done action.APPEND_ROW ∷ []) p)) ∙ told-append (row_script r ++ (Done action.APPEND_ROW ∷ [])) p ∙ ap (λ (l : List Lexeme). l ++ told_of p) a

rows-rest-told : (rs : List RawRow) → told_of (rows_rest rs) ≡ bare (flat_map row_entry rs)
rows-rest-told [] = refl
rows-rest-told (r ∷ rs) = row-first-told r (rows_rest rs) ∙ ap (λ (l : List Lexeme). bare (row_entry r) ++ l) (rows-rest-told rs) ∙ sym (map-append unplaced (row_entry r) (flat_map row_entry rs))

rows-told : (rs : List RawRow) → told_of (rows_script rs) ≡ Did action.NO_ROWS ∷ bare (flat_map row_entry rs)
rows-told [] = refl
rows-told (r ∷ rs) = ap (λ (l : List Lexeme). Did action.NO_ROWS ∷ l) (rows-rest-told (r ∷ rs))

-- ---- what a rule is given

abbrev pub boxed : List Piece → List Piece
boxed p = mark sign.OpenBracket ∷ (p ++ (mark sign.CloseBracket ∷ []))

abbrev pub arguments_script : RawArguments → List Piece
arguments_script arguments.Nothing = []
arguments_script (arguments.Hypothesis n) = number n ∷ []
arguments_script (arguments.TwoHypotheses m n) = number m ∷ (number n ∷ [])
arguments_script (arguments.Rows rs) = boxed (rows_script rs)
arguments_script (arguments.Formula f) = boxed (formula_script false f)
arguments_script (arguments.Term t) = boxed (term_script false t)
arguments_script (arguments.TwoTerms s t) = boxed (term_script false s) ++ boxed (term_script false t)
arguments_script (arguments.HypothesisTerm n t) = number n ∷ boxed (term_script false t)
arguments_script (arguments.TermNumber t n) = boxed (term_script false t) ++ (number n ∷ [])

boxed-text : (p : List Piece) (t : List ℕ) → text_of p ≡ t → text_of (boxed p) ≡ codes "[ " ++ t ++ codes "] "
boxed-text p t e = simp (text-append, e, append_assoc, append-nil) refl

boxed-told : (p : List Piece) → told_of (boxed p) ≡ told_of p
boxed-told p = told-append p (mark sign.CloseBracket ∷ []) ∙ append-nil (told_of p)

arguments-text : (a : RawArguments) → text_of (arguments_script a) ≡ arguments_text a
arguments-text arguments.Nothing = refl
arguments-text (arguments.Hypothesis n) = append-nil (number_text n)
arguments-text (arguments.TwoHypotheses m n) = ap (λ (x : List ℕ). number_text m ++ x) (append-nil (number_text n))
arguments-text (arguments.Rows rs) = boxed-text (rows_script rs) (rows_text true rs) (rows-text rs)
arguments-text (arguments.Formula f) = boxed-text (formula_script false f) (formula_text false f) (formula-text false f)
arguments-text (arguments.Term t) = boxed-text (term_script false t) (term_text false t) (term-text false t)
arguments-text (arguments.TwoTerms s t) = text-both (boxed (term_script false s)) (boxed (term_script false t)) _ _ (boxed-text (term_script false s) (term_text false s) (term-text false s)) (boxed-text (term_script false t) (term_text false t) (term-text false t))
arguments-text (arguments.HypothesisTerm n t) = ap (λ (x : List ℕ). number_text n ++ x) (boxed-text (term_script false t) (term_text false t) (term-text false t))
arguments-text (arguments.TermNumber t n) = text-both (boxed (term_script false t)) (number n ∷ []) _ _ (boxed-text (term_script false t) (term_text false t) (term-text false t)) (append-nil (number_text n))

term-boxed-told : (t : RawTermTree) → told_of (boxed (term_script false t)) ≡ bare (term_out t)
term-boxed-told t = boxed-told (term_script false t) ∙ term-told false t

arguments-told : (a : RawArguments) → told_of (arguments_script a) ≡ bare (arguments_out a)
arguments-told arguments.Nothing = refl
arguments-told (arguments.Hypothesis n) = refl
arguments-told (arguments.TwoHypotheses m n) = refl
arguments-told (arguments.Rows rs) = boxed-told (rows_script rs) ∙ rows-told rs
arguments-told (arguments.Formula f) = boxed-told (formula_script false f) ∙ formula-told false f
arguments-told (arguments.Term t) = term-boxed-told t
arguments-told (arguments.TwoTerms s t) = told-both (boxed (term_script false s)) (boxed (term_script false t)) _ _ (term-boxed-told s) (term-boxed-told t) ∙ sym (map-append unplaced (term_out s) (term_out t))
arguments-told (arguments.HypothesisTerm n t) = ap (λ (l : List Lexeme). unplaced (numeral n) ∷ l) (term-boxed-told t)
arguments-told (arguments.TermNumber t n) = told-both (boxed (term_script false t)) (number n ∷ []) _ (unplaced (numeral n) ∷ []) (term-boxed-told t) refl ∙ sym (map-append unplaced (term_out t) (numeral n ∷ []))

-- ---- certificates

abbrev mutual
  pub cert_script : RawCertTree → List Piece
  cert_script (tree.Node r cs) = name r.word ∷ (arguments_script r.arguments ++ (children_script cs ++ (Done (rule_action r.arguments) ∷ [])))

  pub children_script : RawCerts → List Piece
  children_script tree.NoChild = Done action.NO_NODES ∷ []
  children_script (tree.Child c cs) = open_piece ∷ (Done action.NO_NODES ∷ (cert_script c ++ (Done action.APPEND_NODE ∷ certs_rest cs)))

  -- the certificates behind the first, and the parenthesis
  pub certs_rest : RawCerts → List Piece
  certs_rest tree.NoChild = close_piece ∷ []
  certs_rest (tree.Child c cs) = mark sign.Comma ∷ (cert_script c ++ (Done action.APPEND_NODE ∷ certs_rest cs))

mutual
  cert-text : (c : RawCertTree) → text_of (cert_script c) ≡ cert_text c
  cert-text (tree.Node r tree.NoChild) = let a = arguments-text r.arguments in simp (text-append, a, append_assoc, append-nil) refl
  cert-text (tree.Node r (tree.Child c cs)) =
      let a = arguments-text r.arguments in
      let b = cert-text c in
      let d = certs-text cs in
      simp (text-append, a, b, d, append_assoc, append-nil) refl

  certs-text : (cs : RawCerts) → text_of (certs_rest cs) ≡ certs_text false cs ++ codes ") "
  certs-text tree.NoChild = refl
  certs-text (tree.Child c cs) =
      let a = cert-text c in
      let b = certs-text cs in
      simp (text-append, a, b, append_assoc) refl

node_told : (w e : Lexeme) (a k : List Lexeme) → bare (((w ∷ a) ++ (Did action.NO_NODES ∷ k)) ++ (e ∷ [])) ≡ unplaced w ∷ (bare a ++ ((Did action.NO_NODES ∷ bare k) ++ (unplaced e ∷ [])))
node_told w e a k =
    map-append unplaced ((w ∷ a) ++ (Did action.NO_NODES ∷ k)) (e ∷ []) ∙ ap (λ (l : List Lexeme). l ++ (unplaced e ∷ [])) (map-append unplaced (w ∷ a) (Did action.NO_NODES ∷ k))
    ∙ append_assoc (unplaced w ∷ bare a) (Did action.NO_NODES ∷ bare k) (unplaced e ∷ [])

first_told : (c : RawCertTree) (cs : RawCerts) → told_of (cert_script c) ≡ bare (node_out c) → told_of (certs_rest cs) ≡ bare (children_out cs) → told_of (cert_script c ++ (Done action.APPEND_NODE ∷ certs_rest cs)) ≡ bare (children_out (tree.Child c cs))
first_told c cs a b =
    told-both (cert_script c) (Done action.APPEND_NODE ∷ certs_rest cs) (bare (node_out c)) (Did action.APPEND_NODE ∷ bare (children_out cs)) a (ap (λ (l : List Lexeme). Did action.APPEND_NODE ∷ l) b)
    ∙ sym (map-append unplaced (node_out c) (Did action.APPEND_NODE ∷ children_out cs))

mutual
  cert-told : (c : RawCertTree) → told_of (cert_script c) ≡ bare (node_out c)
  cert-told (tree.Node r cs) =
      let a = arguments-told r.arguments in
      let b = children-told cs in
      let c = told-name r.word in
      let l : told_of (cert_script (tree.Node r cs)) ≡ unplaced (Named r.word) ∷ (bare (arguments_out r.arguments) ++ ((Did action.NO_NODES ∷ bare (children_out cs)) ++ (Did (rule_action r.arguments) ∷ []))) = simp (told-append, a, b, c) refl in
      l ∙ sym (node_told (Named r.word) (Did (rule_action r.arguments)) (arguments_out r.arguments) (children_out cs))

  children-told : (cs : RawCerts) → told_of (children_script cs) ≡ Did action.NO_NODES ∷ bare (children_out cs)
  children-told tree.NoChild = refl
  children-told (tree.Child c cs) = ap (λ (l : List Lexeme). Did action.NO_NODES ∷ l) (first_told c cs (cert-told c) (certs-told cs))

  certs-told : (cs : RawCerts) → told_of (certs_rest cs) ≡ bare (children_out cs)
  certs-told tree.NoChild = refl
  certs-told (tree.Child c cs) = first_told c cs (cert-told c) (certs-told cs)

-- ---- proofs

abbrev pub proof_script : RawProof → List Piece
proof_script p = word keyword.Proof ∷ (obligation_script p.name ++ (cert_script p.cert ++ (word keyword.End ∷ (Done action.APPEND_PROOF ∷ []))))

abbrev pub each_script : List RawProof → List Piece
each_script [] = []
each_script (p ∷ ps) = proof_script p ++ each_script ps

abbrev pub proofs_script : List RawProof → List Piece
proofs_script ps = Done action.NO_PROOFS ∷ each_script ps

proof-text : (p : RawProof) → text_of (proof_script p) ≡ proof_text p
proof-text p = let a = obligation-text p.name in let b = cert-text p.cert in simp (text-append, a, b, append_assoc, append-nil) refl

proof_told : (o c : List Lexeme) (e : Lexeme) → bare ((o ++ c) ++ (e ∷ [])) ≡ bare o ++ (bare c ++ (unplaced e ∷ []))
proof_told o c e = simp (map-append, append_assoc) refl

proof-told : (p : RawProof) → told_of (proof_script p) ≡ bare (proof_entry p)
proof-told p =
    let a = obligation-told p.name in
    let b = cert-told p.cert in
    let l : told_of (proof_script p) ≡ bare (obligation_out p.name) ++ (bare (node_out p.cert) ++ (Did action.APPEND_PROOF ∷ [])) = simp (told-append, a, b) refl in
    l ∙ sym (proof_told (obligation_out p.name) (node_out p.cert) (Did action.APPEND_PROOF))

pub proofs-text : (ps : List RawProof) → text_of (proofs_script ps) ≡ flat_map proof_text ps
proofs-text [] = refl
proofs-text (p ∷ ps) = text-both (proof_script p) (each_script ps) (proof_text p) (flat_map proof_text ps) (proof-text p) (proofs-text ps)

each-told : (ps : List RawProof) → told_of (each_script ps) ≡ bare (flat_map proof_entry ps)
each-told [] = refl
each-told (p ∷ ps) = told-both (proof_script p) (each_script ps) (bare (proof_entry p)) (bare (flat_map proof_entry ps)) (proof-told p) (each-told ps) ∙ sym (map-append unplaced (proof_entry p) (flat_map proof_entry ps))

pub proofs-told : (ps : List RawProof) → told_of (proofs_script ps) ≡ bare (proofs_out ps)
proofs-told ps = ap (λ (l : List Lexeme). Did action.NO_PROOFS ∷ l) (each-told ps)
