-- Terms and formulas token by token: their text, and what is written for them.
use Rattle.std.proofs.Common.{◌≡◌, ℕ, zero, suc, Bool, true, false, List, [], ◌∷◌, ◌++◌, refl, ap, sym, ◌∙◌, arith, append_assoc}
use Rattle.std.specs.Prelude.{map, not, ◌==◌}
use Rattle.std.proofs.lemmas.List.{append-nil, map-append}
use Rattle.cb_lex.specs.declared.token.Place.{Place}
use Rattle.cb_lex.specs.declared.token.Sort.TheVariants as sort
use Rattle.cb_lex.specs.declared.token.Keyword.TheVariants as keyword
use Rattle.cb_lex.specs.declared.token.Sign.TheVariants as sign
use Rattle.cb_lex.specs.declared.raw.name.RawName.{RawName}
use Rattle.cb_lex.specs.declared.raw.sign.RawAtom.{RawAtom}
use Rattle.cb_lex.specs.declared.raw.sign.RawAtom.TheVariants as atom
use Rattle.cb_lex.specs.declared.raw.sign.RawOperator.{RawOperator}
use Rattle.cb_lex.specs.declared.raw.sign.RawOperator.TheVariants as operator
use Rattle.cb_lex.specs.declared.raw.sign.RawRelation.{RawRelation}
use Rattle.cb_lex.specs.declared.raw.sign.RawRelation.TheVariants as relation
use Rattle.cb_lex.specs.Lexes.{start}
use Rattle.cb_lex.specs.RawTermTree.{RawTermTree, RawTerms, RawFormulaTree}
use Rattle.cb_lex.specs.RawTermTree as tree
use Rattle.cb_grammar.specs.declared.actions.TheConstants as action
use Rattle.cb_amn_parse.specs.Lexemes.{Lexeme, Named, Said, Did, heard_at}
use Rattle.cb_amn_parse.specs.Words.{atom_sort, atom_action, operator_sort, operator_action, relation_sort}
use Rattle.cb_amn_parse.specs.Formulas.{term_out, listed_out, formula_out}
use Rattle.cb_amn_print.specs.Tokens.{said, name_sort, wrapped, only_if}
use Rattle.cb_amn_print.specs.Formulas.{is_and, is_or, is_arrow, term_text, terms_text, formula_text}
use Rattle.cb_amn_print.specs.Printed.{unplaced}
use Rattle.cb_amn_print.proofs.Scripts.{Piece, Silent, Kept, Done, text_of, told_of, text-append, told-append}

abbrev pub open_piece : Piece
open_piece = Silent (sort.Sign sign.OpenParenthesis)

abbrev pub close_piece : Piece
close_piece = Silent (sort.Sign sign.CloseParenthesis)

abbrev pub wrap : Bool → List Piece → List Piece
wrap true p = open_piece ∷ (p ++ (close_piece ∷ []))
wrap false p = p

abbrev pub comma_unless : Bool → List Piece
comma_unless true = []
comma_unless false = Silent (sort.Sign sign.Comma) ∷ []

abbrev mutual
  pub term_script : Bool → RawTermTree → List Piece
  term_script inner (tree.Number n p) = Kept (sort.Number n) ∷ (Done action.NUMBER_TERM ∷ [])
  term_script inner (tree.Name x) = Kept (name_sort x) ∷ (Done action.NAME_TERM ∷ [])
  term_script inner (tree.Atom a p) = Kept (atom_sort a) ∷ (Done (atom_action a) ∷ [])
  term_script inner (tree.Binary o p l r) = wrap inner (term_script true l ++ (Kept (operator_sort o) ∷ (term_script true r ++ (Done (operator_action o) ∷ []))))
  term_script inner (tree.Minus p t) = Kept (sort.Sign sign.Minus) ∷ (term_script true t ++ (Done action.MINUS ∷ []))
  term_script inner (tree.Card p t) = Kept (sort.Keyword keyword.Card) ∷ (open_piece ∷ (term_script false t ++ (close_piece ∷ (Done action.CARD ∷ []))))
  term_script inner (tree.TruthOf p f) = Kept (sort.Keyword keyword.Bool) ∷ (open_piece ∷ (formula_script false f ++ (close_piece ∷ (Done action.BOOL ∷ []))))
  term_script inner (tree.Listed p ts) = Kept (sort.Sign sign.OpenBrace) ∷ (Done action.NO_TERMS ∷ (terms_script true ts ++ (Silent (sort.Sign sign.CloseBrace) ∷ (Done action.LISTED ∷ []))))

  pub terms_script : Bool → RawTerms → List Piece
  terms_script first tree.End = []
  terms_script first (tree.More t ts) = comma_unless first ++ (term_script false t ++ (Done action.APPEND_TERM ∷ terms_script false ts))

  pub formula_script : Bool → RawFormulaTree → List Piece
  formula_script inner tree.True = Silent (sort.Keyword keyword.AlwaysTrue) ∷ (Done action.ALWAYS_TRUE ∷ [])
  formula_script inner tree.False = Silent (sort.Keyword keyword.AlwaysFalse) ∷ (Done action.ALWAYS_FALSE ∷ [])
  formula_script inner (tree.Not f) = Silent (sort.Keyword keyword.Not) ∷ (open_piece ∷ (formula_script false f ++ (close_piece ∷ (Done action.NOT ∷ []))))
  formula_script inner (tree.And f g) = wrap inner (formula_script (not (is_and f)) f ++ (Silent (sort.Sign sign.And) ∷ (formula_script true g ++ (Done action.AND ∷ []))))
  formula_script inner (tree.Or f g) = wrap inner (formula_script (not (is_or f)) f ++ (Silent (sort.Keyword keyword.Or) ∷ (formula_script true g ++ (Done action.OR ∷ []))))
  formula_script inner (tree.Implies f g) = wrap inner (formula_script true f ++ (Silent (sort.Sign sign.Implies) ∷ (formula_script true g ++ (Done action.IMPLIES ∷ []))))
  formula_script inner (tree.Equivalent f g) = wrap inner (formula_script true f ++ (Silent (sort.Sign sign.Equivalent) ∷ (formula_script true g ++ (Done action.EQUIVALENT ∷ []))))
  formula_script inner (tree.Relation r p a b) = term_script false a ++ (Kept (relation_sort r) ∷ (term_script false b ++ (Done action.RELATION ∷ [])))
  formula_script inner (tree.Every x d f) =
      Silent (sort.Sign sign.Bang) ∷ (Kept (name_sort x) ∷ (Silent (sort.Sign sign.Dot) ∷ (open_piece ∷ (formula_script (is_arrow d) d ++ (Silent (sort.Sign sign.Implies) ∷ (formula_script (is_arrow f) f ++ (close_piece ∷ (Done action.FOR_ALL ∷ []))))))))
  formula_script inner (tree.Exists x f) =
      Silent (sort.Sign sign.Hash) ∷ (Kept (name_sort x) ∷ (Silent (sort.Sign sign.Dot) ∷ (open_piece ∷ (formula_script (is_arrow f) f ++ (close_piece ∷ (Done action.EXISTS ∷ []))))))

-- ---- their text

text-wrap : (w : Bool) (p : List Piece) → text_of (wrap w p) ≡ wrapped w (text_of p)
text-wrap true p = simp (text-append, append_assoc) refl
text-wrap false p = sym (append-nil (text_of p))

text-comma : (first : Bool) → text_of (comma_unless first) ≡ only_if (not first) (said (sort.Sign sign.Comma))
text-comma true = refl
text-comma false = refl

mutual
  pub term-text : (inner : Bool) (t : RawTermTree) → text_of (term_script inner t) ≡ term_text inner t
  term-text inner (tree.Number n p) = append-nil (said (sort.Number n))
  term-text inner (tree.Name x) = append-nil (said (name_sort x))
  term-text inner (tree.Atom a p) = append-nil (said (atom_sort a))
  term-text inner (tree.Binary o p l r) =
      let a = term-text true l in
      let b = term-text true r in
      text-wrap inner _ ∙ ap (λ (x : List ℕ). wrapped inner x) (simp (text-append, a, b, append_assoc, append-nil) refl)
  term-text inner (tree.Minus p t) = let a = term-text true t in simp (text-append, a, append_assoc, append-nil) refl
  term-text inner (tree.Card p t) = let a = term-text false t in simp (text-append, a, append_assoc, append-nil) refl
  term-text inner (tree.TruthOf p f) = let a = formula-text false f in simp (text-append, a, append_assoc, append-nil) refl
  term-text inner (tree.Listed p ts) = let a = terms-text true ts in simp (text-append, a, append_assoc, append-nil) refl

  terms-text : (first : Bool) (ts : RawTerms) → text_of (terms_script first ts) ≡ terms_text first ts
  terms-text first tree.End = refl
  terms-text first (tree.More t ts) =
      let a = term-text false t in
      let b = terms-text false ts in
      let c = text-comma first in
      simp (text-append, a, b, c, append_assoc) refl

  pub formula-text : (inner : Bool) (f : RawFormulaTree) → text_of (formula_script inner f) ≡ formula_text inner f
  formula-text inner tree.True = refl
  formula-text inner tree.False = refl
  formula-text inner (tree.Not f) = let a = formula-text false f in simp (text-append, a, append_assoc, append-nil) refl
  formula-text inner (tree.And f g) =
      let a = formula-text (not (is_and f)) f in
      let b = formula-text true g in
      text-wrap inner _ ∙ ap (λ (x : List ℕ). wrapped inner x) (simp (text-append, a, b, append_assoc, append-nil) refl)
  formula-text inner (tree.Or f g) =
      let a = formula-text (not (is_or f)) f in
      let b = formula-text true g in
      text-wrap inner _ ∙ ap (λ (x : List ℕ). wrapped inner x) (simp (text-append, a, b, append_assoc, append-nil) refl)
  formula-text inner (tree.Implies f g) =
      let a = formula-text true f in
      let b = formula-text true g in
      text-wrap inner _ ∙ ap (λ (x : List ℕ). wrapped inner x) (simp (text-append, a, b, append_assoc, append-nil) refl)
  formula-text inner (tree.Equivalent f g) =
      let a = formula-text true f in
      let b = formula-text true g in
      text-wrap inner _ ∙ ap (λ (x : List ℕ). wrapped inner x) (simp (text-append, a, b, append_assoc, append-nil) refl)
  formula-text inner (tree.Relation r p c d) =
      let a = term-text false c in
      let b = term-text false d in
      simp (text-append, a, b, append_assoc, append-nil) refl
  formula-text inner (tree.Every x d f) =
      let a = formula-text (is_arrow d) d in
      let b = formula-text (is_arrow f) f in
      simp (text-append, a, b, append_assoc, append-nil) refl
  formula-text inner (tree.Exists x f) = let a = formula-text (is_arrow f) f in simp (text-append, a, append_assoc, append-nil) refl

-- ---- what is written for them

told-wrap : (w : Bool) (p : List Piece) → told_of (wrap w p) ≡ told_of p
told-wrap true p = told-append p (close_piece ∷ []) ∙ append-nil (told_of p)
told-wrap false p = refl

told-comma : (first : Bool) → told_of (comma_unless first) ≡ []
told-comma true = refl
told-comma false = refl

pub told-name : (x : RawName) → unplaced (heard_at (name_sort x) start) ≡ unplaced (Named x)
told-name x = go x.text x.number x.place
  where
    go : (text : List ℕ) (n : ℕ) (p : Place) → unplaced (heard_at (name_sort (record { text = text; number = n; place = p })) start) ≡ unplaced (Named (record { text = text; number = n; place = p }))
    go text zero p = refl
    go text (suc n) p = let e : (suc n == 0) ≡ false = grind arith in rw e refl

told-atom : (a : RawAtom) (p : Place) → unplaced (heard_at (atom_sort a) start) ≡ unplaced (Said (atom_sort a) p)
told-atom atom.True p = refl
told-atom atom.False p = refl
told-atom atom.MaxInt p = refl
told-atom atom.MinInt p = refl
told-atom atom.Nat p = refl
told-atom atom.Nat1 p = refl
told-atom atom.Int p = refl
told-atom atom.Truths p = refl

told-operator : (o : RawOperator) (p : Place) → unplaced (heard_at (operator_sort o) start) ≡ unplaced (Said (operator_sort o) p)
told-operator operator.Plus p = refl
told-operator operator.Minus p = refl
told-operator operator.Times p = refl
told-operator operator.Divide p = refl
told-operator operator.Mod p = refl
told-operator operator.UpTo p = refl
told-operator operator.Union p = refl
told-operator operator.Intersection p = refl

told-relation : (r : RawRelation) (p : Place) → unplaced (heard_at (relation_sort r) start) ≡ unplaced (Said (relation_sort r) p)
told-relation relation.Equal p = refl
told-relation relation.Unequal p = refl
told-relation relation.Less p = refl
told-relation relation.AtMost p = refl
told-relation relation.Greater p = refl
told-relation relation.AtLeast p = refl
told-relation relation.Member p = refl
told-relation relation.NotMember p = refl
told-relation relation.Subset p = refl

abbrev pub bare : List Lexeme → List Lexeme
bare ls = map unplaced ls

quantified_told : (n : Lexeme) (d f e : List Lexeme) → bare (((n ∷ d) ++ f) ++ e) ≡ unplaced n ∷ (bare d ++ (bare f ++ bare e))
quantified_told n d f e =
    let a : bare ((n ∷ (d ++ f)) ++ e) ≡ unplaced n ∷ (bare (d ++ f) ++ bare e) = simp map-append refl in
    let b : bare (d ++ f) ≡ bare d ++ bare f = simp map-append refl in
    a ∙ ap (λ (x : List Lexeme). unplaced n ∷ (x ++ bare e)) b ∙ ap (λ (x : List Lexeme). unplaced n ∷ x) (append_assoc (bare d) (bare f) (bare e))

mutual
  pub term-told : (inner : Bool) (t : RawTermTree) → told_of (term_script inner t) ≡ bare (term_out t)
  term-told inner (tree.Number n p) = refl
  term-told inner (tree.Name x) = ap (λ (l : Lexeme). l ∷ (Did action.NAME_TERM ∷ [])) (told-name x)
  term-told inner (tree.Atom a p) = ap (λ (l : Lexeme). l ∷ (Did (atom_action a) ∷ [])) (told-atom a p)
  term-told inner (tree.Binary o p l r) =
      let a = term-told true l in
      let b = term-told true r in
      let c = told-operator o p in
      told-wrap inner _ ∙ simp (told-append, a, b, c, map-append, append_assoc) refl
  term-told inner (tree.Minus p t) = let a = term-told true t in simp (told-append, a, map-append, append_assoc) refl
  term-told inner (tree.Card p t) = let a = term-told false t in simp (told-append, a, map-append, append_assoc) refl
  term-told inner (tree.TruthOf p f) = let a = formula-told false f in simp (told-append, a, map-append, append_assoc) refl
  term-told inner (tree.Listed p ts) = let a = terms-told true ts in simp (told-append, a, map-append, append_assoc) refl

  terms-told : (first : Bool) (ts : RawTerms) → told_of (terms_script first ts) ≡ bare (listed_out ts)
  terms-told first tree.End = refl
  terms-told first (tree.More t ts) =
      let a = term-told false t in
      let b = terms-told false ts in
      let c = told-comma first in
      simp (told-append, a, b, c, map-append, append_assoc) refl

  pub formula-told : (inner : Bool) (f : RawFormulaTree) → told_of (formula_script inner f) ≡ bare (formula_out f)
  formula-told inner tree.True = refl
  formula-told inner tree.False = refl
  formula-told inner (tree.Not f) = let a = formula-told false f in simp (told-append, a, map-append, append_assoc) refl
  formula-told inner (tree.And f g) =
      let a = formula-told (not (is_and f)) f in
      let b = formula-told true g in
      told-wrap inner _ ∙ simp (told-append, a, b, map-append, append_assoc) refl
  formula-told inner (tree.Or f g) =
      let a = formula-told (not (is_or f)) f in
      let b = formula-told true g in
      told-wrap inner _ ∙ simp (told-append, a, b, map-append, append_assoc) refl
  formula-told inner (tree.Implies f g) =
      let a = formula-told true f in
      let b = formula-told true g in
      told-wrap inner _ ∙ simp (told-append, a, b, map-append, append_assoc) refl
  formula-told inner (tree.Equivalent f g) =
      let a = formula-told true f in
      let b = formula-told true g in
      told-wrap inner _ ∙ simp (told-append, a, b, map-append, append_assoc) refl
  formula-told inner (tree.Relation r p x y) =
      let a = term-told false x in
      let b = term-told false y in
      let c = told-relation r p in
      simp (told-append, a, b, c, map-append, append_assoc) refl
  formula-told inner (tree.Every x d f) =
      let a = formula-told (is_arrow d) d in
      let b = formula-told (is_arrow f) f in
      let c = told-name x in
      let l : told_of (formula_script inner (tree.Every x d f)) ≡ unplaced (Named x) ∷ (bare (formula_out d) ++ (bare (formula_out f) ++ (Did action.FOR_ALL ∷ []))) = simp (told-append, a, b, c) refl in
      l ∙ sym (quantified_told (Named x) (formula_out d) (formula_out f) (Did action.FOR_ALL ∷ []))
  formula-told inner (tree.Exists x f) =
      let a = formula-told (is_arrow f) f in
      let c = told-name x in
      simp (told-append, a, c, map-append, append_assoc) refl
