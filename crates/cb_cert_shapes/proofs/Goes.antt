-- How kinds go on past what is written: a word may have its mark where it is one.
use Rattle.std.proofs.Common.{◌≡◌, ℕ, Bool, true, false, List, [], ◌∷◌, ◌++◌, refl, append_assoc, inl, inr, ◌⊎◌, sym, ◌∙◌, cond, subst}
use Rattle.std.specs.Prelude.{Option, Some, None, slice_get}
use Rattle.cb_lex.specs.declared.token.Token.{Token}
use Rattle.cb_lex.specs.declared.token.Sort.{Sort}
use Rattle.cb_lex.specs.declared.token.Sort.TheVariants as sort
use Rattle.cb_lex.specs.declared.raw.name.RawName.{RawName}
use Rattle.cb_lex.specs.declared.raw.sign.RawAtom.{RawAtom}
use Rattle.cb_lex.specs.declared.raw.sign.RawAtom.TheVariants as atom
use Rattle.cb_lex.specs.declared.raw.sign.RawOperator.{RawOperator}
use Rattle.cb_lex.specs.declared.raw.sign.RawOperator.TheVariants as operator
use Rattle.cb_lex.specs.RawTermTree.{RawTermTree, RawTerms, RawFormulaTree}
use Rattle.cb_lex.specs.RawTermTree as tree
use Rattle.cb_engine.specs.declared.Item.{Item}
use Rattle.cb_engine.specs.declared.Item.TheVariants.{Word, Do}
use Rattle.cb_grammar.specs.declared.actions.TheConstants.{MINUS, CARD, BOOL, LISTED, APPEND_TERM, NOT, AND, OR, IMPLIES, EQUIVALENT, FOR_ALL, EXISTS, RELATION}
use Rattle.cb_grammar.specs.Terminals.{word_class, class_of}
use Rattle.cb_grammar.specs.Signatures.{formula_kind, term_kind, terms_kind}
use Rattle.cb_amn_parse.specs.Lexemes.{Lexeme, Named, Said, Did, Lost, heard_at, heard, lexemes}
use Rattle.cb_amn_parse.specs.Words.{atom_action, operator_sort, operator_action, relation_sort}
use Rattle.cb_amn_parse.specs.Formulas.{term_out, listed_out, formula_out}
use Rattle.cb_shapes.proofs.Finer.{act, kinds}
use Rattle.cb_cert_shapes.proofs.Marked.{is_word, Stand}
use Rattle.cb_cert_shapes.proofs.Classes.{HasTokens}
use Rattle.cb_cert_shapes.proofs.Table.{finer, word_kind}

-- the kind of a name: none of its own, or its class as a word
abbrev pub IsKind : RawName → ℕ → Type 0
IsKind x w = (w ≡ word_kind) ⊎ ((x.number ≡ 0) × (word_class x.text ≡ w))

abbrev pub On : (List ℕ → Type 0) → Option (List ℕ) → Type 0
On P None = ⊥
On P (Some k) = P k

abbrev pub Goes : List Lexeme → List ℕ → Type 0
Goes [] k = Unit {0}
Goes (Named x ∷ ls) k = (w : ℕ) × IsKind x w × Goes ls (w ∷ k)
Goes (Said s p ∷ ls) k = (w : ℕ) × Goes ls (w ∷ k)
Goes (Lost ∷ ls) k = (w : ℕ) × Goes ls (w ∷ k)
Goes (Did a ∷ ls) k = On (λ m. Goes ls m) (act (finer.action a) k)

-- ---- what is spelled goes on

kinds_none : (out : List Item) → kinds finer out None ≡ None
kinds_none [] = refl
kinds_none (Word t ∷ out) = kinds_none out
kinds_none (Do a ∷ out) = kinds_none out

heard_goes : (t : Option Token) (ls : List Lexeme) (k : List ℕ) → Goes ls (word_kind ∷ k) → Goes (heard t ∷ ls) k
heard_goes None ls k h = (word_kind, h)
heard_goes (Some t) ls k h = go t.sort
  where
    go : (s : Sort) → Goes (heard_at s t.place ∷ ls) k
    go (sort.Word text) = (word_kind, inl refl, h)
    go (sort.Opened text n) = (word_kind, inl refl, h)
    go (sort.Number n) = (word_kind, h)
    go (sort.Keyword x) = (word_kind, h)
    go (sort.Sign x) = (word_kind, h)
    go sort.Finish = (word_kind, h)

-- a token with a word's class
marked_goes : (t : Token) (opened : Bool) (c : ℕ) (ls : List Lexeme) (k : List ℕ) → c ≡ class_of opened t.sort → is_word c ≡ true → Goes ls (c ∷ k) → Goes (heard (Some t) ∷ ls) k
marked_goes t opened c ls k e w h = go t.sort opened e
  where
    go : (s : Sort) (opened : Bool) → c ≡ class_of opened s → Goes (heard_at s t.place ∷ ls) k
    go (sort.Word text) opened e = (c, inr (refl, sym e), h)
    go (sort.Opened text n) true e = absurd (let i : is_word 1 ≡ true = rw e at w in cc)
    go (sort.Opened text n) false e = absurd (let i : is_word 119 ≡ true = rw e at w in cc)
    go (sort.Number n) opened e = (c, h)
    go (sort.Keyword x) opened e = (c, h)
    go (sort.Sign x) opened e = (c, h)
    go sort.Finish opened e = (c, h)

mark_kept : (c : ℕ) (k : List ℕ) → is_word c ≡ true → act (finer.action c) k ≡ Some (c ∷ k)
mark_kept c k w = rw w refl

pub items_go : (ts : List Token) (a out : List Item) (k last : List ℕ) → Stand a out → HasTokens ts out → kinds finer a (Some k) ≡ Some last → Goes (lexemes ts out) k
items_go ts [] [] k last s t e = tt
items_go ts [] (x ∷ out) k last s t e = absurd s
items_go ts (Word u ∷ a) [] k last s t e = absurd s
items_go ts (Do c ∷ a) [] k last s t e = absurd s
items_go ts (Word u ∷ a) (Word v ∷ out) k last s t e = heard_goes (slice_get ts v.index) (lexemes ts out) k (items_go ts a out (word_kind ∷ k) last s t.1 e)
items_go ts (Word u ∷ a) (Do d ∷ out) k last s t e = absurd s
items_go ts (Do c ∷ a) (Do d ∷ out) k last s t e = let q : c ≡ d = s.0 in go (act (finer.action d) k) (λ m f. items_go ts a out m last s.1 t f) (rw q at e)
  where
    go : (o : Option (List ℕ)) → ((m : List ℕ) → kinds finer a (Some m) ≡ Some last → Goes (lexemes ts out) m) → kinds finer a o ≡ Some last → On (λ m. Goes (lexemes ts out) m) o
    go None more e = absurd (let h : kinds finer a None ≡ None = kinds_none a in cc)
    go (Some m) more e = more m e
items_go ts (Do c ∷ a) (Word v ∷ out) k last s t e =
    let token = t.0 in
    let h : kinds finer a (Some (c ∷ k)) ≡ Some last = rw (mark_kept c k s.1) at e in
    rw token.1 (marked_goes token.0 token.2.0 c (lexemes ts out) k (s.0 ∙ token.2.1) s.1 (items_go ts a out (c ∷ k) last s.2 t.1 h))

-- past the front
pub goes_past : (a b : List Lexeme) (k : List ℕ) → Goes (a ++ b) k → (m : List ℕ) × Goes b m
goes_past [] b k h = (k, h)
goes_past (Named x ∷ a) b k h = goes_past a b (h.0 ∷ k) h.2
goes_past (Said s p ∷ a) b k h = goes_past a b (h.0 ∷ k) h.1
goes_past (Lost ∷ a) b k h = goes_past a b (h.0 ∷ k) h.1
goes_past (Did x ∷ a) b k h = go (act (finer.action x) k) (λ m i. goes_past a b m i) h
  where
    go : (o : Option (List ℕ)) → ((m : List ℕ) → Goes (a ++ b) m → (n : List ℕ) × Goes b n) → On (λ m. Goes (a ++ b) m) o → (n : List ℕ) × Goes b n
    go None more h = absurd h
    go (Some m) more h = more m h

-- ---- formulas and terms

-- where an action has one effect, it goes on from what this leaves
pub only : (b : Bool) (R : List ℕ → Type 0) (m : List ℕ) → On R (cond b (Some m) None) → R m
only true R m h = h
only false R m h = absurd h

-- whatever comes behind, what is written leaves one kind
abbrev pub Leaves : List Lexeme → ℕ → Type 0
Leaves ls x = (more : List Lexeme) (k : List ℕ) → Goes (ls ++ more) k → Goes more (x ∷ k)

pub grouped : (a b c : List Lexeme) (k : List ℕ) → Goes ((a ++ b) ++ c) k → Goes (a ++ (b ++ c)) k
grouped a b c k h = subst (λ (ls : List Lexeme). Goes ls k) (append_assoc a b c) h

past : (ls : List Lexeme) (x : ℕ) → Leaves ls x → (a : ℕ) (more : List Lexeme) (k : List ℕ) → Goes ((ls ++ Did a ∷ []) ++ more) k → Goes (Did a ∷ more) (x ∷ k)
past ls x l a more k h = l (Did a ∷ more) k (grouped ls (Did a ∷ []) more k h)

past_first : (ls : List Lexeme) (x : ℕ) → Leaves ls x → (on : List Lexeme) (a : ℕ) (more : List Lexeme) (k : List ℕ) → Goes (((ls ++ on) ++ Did a ∷ []) ++ more) k → Goes (on ++ Did a ∷ more) (x ∷ k)
past_first ls x l on a more k h = l (on ++ Did a ∷ more) k (grouped ls on (Did a ∷ more) k (grouped (ls ++ on) (Did a ∷ []) more k h))

past_two : (f g : List Lexeme) (x y : ℕ) → Leaves f x → Leaves g y → (a : ℕ) (more : List Lexeme) (k : List ℕ) → Goes (((f ++ g) ++ Did a ∷ []) ++ more) k → Goes (Did a ∷ more) (y ∷ x ∷ k)
past_two f g x y l m a more k h = m (Did a ∷ more) (x ∷ k) (past_first f x l g a more k h)

atom_goes : (a : RawAtom) (w : ℕ) (more : List Lexeme) (k : List ℕ) → Goes (Did (atom_action a) ∷ more) (w ∷ k) → Goes more (term_kind ∷ k)
atom_goes atom.True w more k h = only _ (λ m. Goes more m) (term_kind ∷ k) h
atom_goes atom.False w more k h = only _ (λ m. Goes more m) (term_kind ∷ k) h
atom_goes atom.MaxInt w more k h = only _ (λ m. Goes more m) (term_kind ∷ k) h
atom_goes atom.MinInt w more k h = only _ (λ m. Goes more m) (term_kind ∷ k) h
atom_goes atom.Nat w more k h = only _ (λ m. Goes more m) (term_kind ∷ k) h
atom_goes atom.Nat1 w more k h = only _ (λ m. Goes more m) (term_kind ∷ k) h
atom_goes atom.Int w more k h = only _ (λ m. Goes more m) (term_kind ∷ k) h
atom_goes atom.Truths w more k h = only _ (λ m. Goes more m) (term_kind ∷ k) h

operator_goes : (o : RawOperator) (w : ℕ) (more : List Lexeme) (k : List ℕ) → Goes (Did (operator_action o) ∷ more) (term_kind ∷ w ∷ term_kind ∷ k) → Goes more (term_kind ∷ k)
operator_goes operator.Plus w more k h = only _ (λ m. Goes more m) (term_kind ∷ k) h
operator_goes operator.Minus w more k h = only _ (λ m. Goes more m) (term_kind ∷ k) h
operator_goes operator.Times w more k h = only _ (λ m. Goes more m) (term_kind ∷ k) h
operator_goes operator.Divide w more k h = only _ (λ m. Goes more m) (term_kind ∷ k) h
operator_goes operator.Mod w more k h = only _ (λ m. Goes more m) (term_kind ∷ k) h
operator_goes operator.UpTo w more k h = only _ (λ m. Goes more m) (term_kind ∷ k) h
operator_goes operator.Union w more k h = only _ (λ m. Goes more m) (term_kind ∷ k) h
operator_goes operator.Intersection w more k h = only _ (λ m. Goes more m) (term_kind ∷ k) h

mutual
  pub term_goes : (t : RawTermTree) → Leaves (term_out t) term_kind
  term_goes (tree.Number n p) more k (w, h) = only _ (λ m. Goes more m) (term_kind ∷ k) h
  term_goes (tree.Name x) more k (w, e, h) = only _ (λ m. Goes more m) (term_kind ∷ k) h
  term_goes (tree.Atom a p) more k (w, h) = atom_goes a w more k h
  term_goes (tree.Binary o p l r) more k h =
      let a = past_first (term_out l) term_kind (term_goes l) (Said (operator_sort o) p ∷ term_out r) (operator_action o) more k h in
      operator_goes o a.0 more k (term_goes r (Did (operator_action o) ∷ more) (a.0 ∷ term_kind ∷ k) a.1)
  term_goes (tree.Minus p t) more k (w, h) = only _ (λ m. Goes more m) (term_kind ∷ k) (past (term_out t) term_kind (term_goes t) MINUS more (w ∷ k) h)
  term_goes (tree.Card p t) more k (w, h) = only _ (λ m. Goes more m) (term_kind ∷ k) (past (term_out t) term_kind (term_goes t) CARD more (w ∷ k) h)
  term_goes (tree.TruthOf p f) more k (w, h) = only _ (λ m. Goes more m) (term_kind ∷ k) (past (formula_out f) formula_kind (formula_goes f) BOOL more (w ∷ k) h)
  term_goes (tree.Listed p ts) more k (w, h) =
      only _ (λ m. Goes more m) (term_kind ∷ k) (listed_goes ts (Did LISTED ∷ more) (w ∷ k) (grouped (listed_out ts) (Did LISTED ∷ []) more (terms_kind ∷ w ∷ k) h))

  listed_goes : (ts : RawTerms) (more : List Lexeme) (k : List ℕ) → Goes (listed_out ts ++ more) (terms_kind ∷ k) → Goes more (terms_kind ∷ k)
  listed_goes tree.End more k h = h
  listed_goes (tree.More t ts) more k h =
      listed_goes ts more k (term_goes t (Did APPEND_TERM ∷ (listed_out ts ++ more)) (terms_kind ∷ k) (grouped (term_out t) (Did APPEND_TERM ∷ listed_out ts) more (terms_kind ∷ k) h))

  pub formula_goes : (f : RawFormulaTree) → Leaves (formula_out f) formula_kind
  formula_goes tree.True more k h = h
  formula_goes tree.False more k h = h
  formula_goes (tree.Not f) more k h = past (formula_out f) formula_kind (formula_goes f) NOT more k h
  formula_goes (tree.And f g) more k h = past_two (formula_out f) (formula_out g) formula_kind formula_kind (formula_goes f) (formula_goes g) AND more k h
  formula_goes (tree.Or f g) more k h = past_two (formula_out f) (formula_out g) formula_kind formula_kind (formula_goes f) (formula_goes g) OR more k h
  formula_goes (tree.Implies f g) more k h = past_two (formula_out f) (formula_out g) formula_kind formula_kind (formula_goes f) (formula_goes g) IMPLIES more k h
  formula_goes (tree.Equivalent f g) more k h = past_two (formula_out f) (formula_out g) formula_kind formula_kind (formula_goes f) (formula_goes g) EQUIVALENT more k h
  formula_goes (tree.Relation r p a b) more k h =
      let j = past_first (term_out a) term_kind (term_goes a) (Said (relation_sort r) p ∷ term_out b) RELATION more k h in
      only _ (λ m. Goes more m) (formula_kind ∷ k) (term_goes b (Did RELATION ∷ more) (j.0 ∷ term_kind ∷ k) j.1)
  formula_goes (tree.Every x d f) more k (w, e, h) =
      only _ (λ m. Goes more m) (formula_kind ∷ k) (past_two (formula_out d) (formula_out f) formula_kind formula_kind (formula_goes d) (formula_goes f) FOR_ALL more (w ∷ k) h)
  formula_goes (tree.Exists x f) more k (w, e, h) = only _ (λ m. Goes more m) (formula_kind ∷ k) (past (formula_out f) formula_kind (formula_goes f) EXISTS more (w ∷ k) h)
