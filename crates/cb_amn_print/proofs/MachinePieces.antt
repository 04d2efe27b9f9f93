-- Substitutions and machines token by token: their text, and what is written for them.
use Rattle.std.proofs.Common.{◌≡◌, ℕ, Bool, true, false, List, [], ◌∷◌, ◌++◌, refl, ap, sym, ◌∙◌, append_assoc}
use Rattle.std.specs.Prelude.{not}
use Rattle.std.specs.List.{flat_map}
use Rattle.std.proofs.lemmas.List.{append-nil, map-append}
use Rattle.cb_lex.specs.declared.token.Sort.TheVariants as sort
use Rattle.cb_lex.specs.declared.token.Keyword.{Keyword}
use Rattle.cb_lex.specs.declared.token.Keyword.TheVariants as keyword
use Rattle.cb_lex.specs.declared.token.Sign.{Sign}
use Rattle.cb_lex.specs.declared.token.Sign.TheVariants as sign
use Rattle.cb_lex.specs.declared.raw.name.RawName.{RawName}
use Rattle.cb_lex.specs.declared.raw.domain.RawLiteral.{RawLiteral}
use Rattle.cb_lex.specs.declared.raw.domain.RawLiteral.TheVariants as literal
use Rattle.cb_lex.specs.declared.raw.domain.RawBound.{RawBound}
use Rattle.cb_lex.specs.declared.raw.domain.RawEnd.{RawEnd}
use Rattle.cb_lex.specs.declared.raw.domain.RawEnd.TheVariants as end
use Rattle.cb_lex.specs.declared.raw.domain.RawDomain.{RawDomain}
use Rattle.cb_lex.specs.declared.raw.domain.RawDomain.TheVariants as domain
use Rattle.cb_lex.specs.RawSubstTree.{RawSubstTree, RawSubsts}
use Rattle.cb_lex.specs.RawSubstTree as tree
use Rattle.cb_grammar.specs.declared.actions.TheConstants as action
use Rattle.cb_amn_parse.specs.Lexemes.{Lexeme, Named, Did}
use Rattle.cb_amn_parse.specs.Formulas.{formula_out, name_entry, names_out}
use Rattle.cb_amn_parse.specs.Machines.{literal_out, number_action, end_out, bound_out, bound_action, domain_out, subst_out, choice_out}
use Rattle.cb_amn_print.specs.Tokens.{said, name_sort, name_text, only_if}
use Rattle.cb_amn_print.specs.Machines.{names_text, literal_text, end_text, bound_text, domain_text, subst_text, sides_text}
use Rattle.cb_amn_print.specs.Printed.{unplaced}
use Rattle.cb_amn_print.proofs.Scripts.{Piece, Silent, Kept, Done, text_of, told_of, text-append, told-append, text-both, told-both}
use Rattle.cb_amn_print.proofs.Pieces.{term_script, formula_script, term-text, formula-text, term-told, formula-told, told-name, bare}

abbrev pub word : Keyword → Piece
word k = Silent (sort.Keyword k)

abbrev pub mark : Sign → Piece
mark s = Silent (sort.Sign s)

abbrev pub name : RawName → Piece
name x = Kept (name_sort x)

-- ---- names

abbrev pub names_rest : List RawName → List Piece
names_rest [] = []
names_rest (x ∷ xs) = mark sign.Comma ∷ (name x ∷ (Done action.APPEND_NAME ∷ names_rest xs))

abbrev pub names_script : List RawName → List Piece
names_script [] = Done action.NO_NAMES ∷ []
names_script (x ∷ xs) = Done action.NO_NAMES ∷ (name x ∷ (Done action.APPEND_NAME ∷ names_rest xs))

names-rest-text : (xs : List RawName) → text_of (names_rest xs) ≡ names_text false xs
names-rest-text [] = refl
names-rest-text (x ∷ xs) = let a = names-rest-text xs in simp (a, append_assoc) refl

pub names-text : (xs : List RawName) → text_of (names_script xs) ≡ names_text true xs
names-text [] = refl
names-text (x ∷ xs) = let a = names-rest-text xs in simp a refl

names-rest-told : (xs : List RawName) → told_of (names_rest xs) ≡ bare (flat_map name_entry xs)
names-rest-told [] = refl
names-rest-told (x ∷ xs) = let a = names-rest-told xs in let b = told-name x in simp (a, b) refl

pub names-told : (xs : List RawName) → told_of (names_script xs) ≡ bare (names_out xs)
names-told [] = refl
names-told (x ∷ xs) = let a = names-rest-told xs in let b = told-name x in simp (a, b) refl

-- ---- literals and domains

abbrev pub minus_if : Bool → List Piece
minus_if true = mark sign.Minus ∷ []
minus_if false = []

abbrev pub literal_script : RawLiteral → List Piece
literal_script (literal.Number minus n p) = minus_if minus ++ (Kept (sort.Number n) ∷ (Done (number_action minus) ∷ []))
literal_script (literal.MaxInt p) = Kept (sort.Keyword keyword.MaxInt) ∷ (Done action.LIMIT_LITERAL ∷ [])
literal_script (literal.MinInt p) = Kept (sort.Keyword keyword.MinInt) ∷ (Done action.LIMIT_LITERAL ∷ [])

pub literal-text : (l : RawLiteral) → text_of (literal_script l) ≡ literal_text l
literal-text (literal.Number true n p) = ap (λ (x : List ℕ). said (sort.Sign sign.Minus) ++ x) (append-nil (said (sort.Number n)))
literal-text (literal.Number false n p) = append-nil (said (sort.Number n))
literal-text (literal.MaxInt p) = refl
literal-text (literal.MinInt p) = refl

pub literal-told : (l : RawLiteral) → told_of (literal_script l) ≡ bare (literal_out l)
literal-told (literal.Number true n p) = refl
literal-told (literal.Number false n p) = refl
literal-told (literal.MaxInt p) = refl
literal-told (literal.MinInt p) = refl

abbrev pub end_script : RawEnd → List Piece
end_script (end.Number n p) = Kept (sort.Number n) ∷ (Done action.NUMBER_END ∷ [])
end_script (end.MaxInt p) = Kept (sort.Keyword keyword.MaxInt) ∷ (Done action.LIMIT_END ∷ [])
end_script (end.MinInt p) = Kept (sort.Keyword keyword.MinInt) ∷ (Done action.LIMIT_END ∷ [])
end_script (end.Name x) = name x ∷ (Done action.NAME_END ∷ [])

end-text : (e : RawEnd) → text_of (end_script e) ≡ end_text e
end-text (end.Number n p) = append-nil (said (sort.Number n))
end-text (end.MaxInt p) = refl
end-text (end.MinInt p) = refl
end-text (end.Name x) = append-nil (name_text x)

end-told : (e : RawEnd) → told_of (end_script e) ≡ bare (end_out e)
end-told (end.Number n p) = refl
end-told (end.MaxInt p) = refl
end-told (end.MinInt p) = refl
end-told (end.Name x) = ap (λ (l : Lexeme). l ∷ (Did action.NAME_END ∷ [])) (told-name x)

abbrev pub bound_script : RawBound → List Piece
bound_script b = minus_if b.minus ++ (end_script b.end ++ (Done (bound_action b.minus) ∷ []))

bound-text : (b : RawBound) → text_of (bound_script b) ≡ bound_text b
bound-text b = go b.minus b.end
  where
    go : (m : Bool) (e : RawEnd) → text_of (minus_if m ++ (end_script e ++ (Done (bound_action m) ∷ []))) ≡ only_if m (said (sort.Sign sign.Minus)) ++ end_text e
    go true e = let a = end-text e in simp (text-append, a, append-nil) refl
    go false e = let a = end-text e in simp (text-append, a, append-nil) refl

bound-told : (b : RawBound) → told_of (bound_script b) ≡ bare (bound_out b)
bound-told b = go b.minus b.end
  where
    go : (m : Bool) (e : RawEnd) → told_of (minus_if m ++ (end_script e ++ (Done (bound_action m) ∷ []))) ≡ bare (end_out e ++ (Did (bound_action m) ∷ []))
    go true e = let a = end-told e in simp (told-append, a, map-append) refl
    go false e = let a = end-told e in simp (told-append, a, map-append) refl

abbrev pub kept_word : Keyword → ℕ → List Piece
kept_word k a = Kept (sort.Keyword k) ∷ (Done a ∷ [])

abbrev pub domain_script : RawDomain → List Piece
domain_script (domain.Range low high) = bound_script low ++ (mark sign.UpTo ∷ (bound_script high ++ (Done action.RANGE ∷ [])))
domain_script (domain.Nat p) = kept_word keyword.Nat action.SET_DOMAIN
domain_script (domain.Nat1 p) = kept_word keyword.Nat1 action.SET_DOMAIN
domain_script (domain.Int p) = kept_word keyword.Int action.SET_DOMAIN
domain_script (domain.Truths p) = kept_word keyword.Truths action.SET_DOMAIN
domain_script (domain.Name x) = name x ∷ (Done action.NAMED_DOMAIN ∷ [])

pub domain-text : (d : RawDomain) → text_of (domain_script d) ≡ domain_text d
domain-text (domain.Range low high) =
    let h : text_of (bound_script high ++ (Done action.RANGE ∷ [])) ≡ bound_text high = text-append (bound_script high) (Done action.RANGE ∷ []) ∙ append-nil (text_of (bound_script high)) ∙ bound-text high in
    text-both (bound_script low) (mark sign.UpTo ∷ (bound_script high ++ (Done action.RANGE ∷ []))) (bound_text low) (said (sort.Sign sign.UpTo) ++ bound_text high) (bound-text low) (ap (λ (x : List ℕ). said (sort.Sign sign.UpTo) ++ x) h)
    ∙ sym (append_assoc (bound_text low) (said (sort.Sign sign.UpTo)) (bound_text high))
domain-text (domain.Nat p) = refl
domain-text (domain.Nat1 p) = refl
domain-text (domain.Int p) = refl
domain-text (domain.Truths p) = refl
domain-text (domain.Name x) = append-nil (name_text x)

both_of : (a b c : List Lexeme) → bare ((a ++ b) ++ c) ≡ bare a ++ (bare b ++ bare c)
both_of a b c = simp (map-append, append_assoc) refl

pub domain-told : (d : RawDomain) → told_of (domain_script d) ≡ bare (domain_out d)
domain-told (domain.Range low high) =
    told-both (bound_script low) (mark sign.UpTo ∷ (bound_script high ++ (Done action.RANGE ∷ []))) (bare (bound_out low)) (bare (bound_out high) ++ (Did action.RANGE ∷ [])) (bound-told low)
    (told-both (bound_script high) (Done action.RANGE ∷ []) (bare (bound_out high)) (Did action.RANGE ∷ []) (bound-told high) refl)
    ∙ sym (both_of (bound_out low) (bound_out high) (Did action.RANGE ∷ []))
domain-told (domain.Nat p) = refl
domain-told (domain.Nat1 p) = refl
domain-told (domain.Int p) = refl
domain-told (domain.Truths p) = refl
domain-told (domain.Name x) = ap (λ (l : Lexeme). l ∷ (Did action.NAMED_DOMAIN ∷ [])) (told-name x)

-- ---- substitutions

abbrev pub begun : Bool → List Piece → List Piece
begun true p = word keyword.Begin ∷ (p ++ (word keyword.End ∷ []))
begun false p = p

abbrev pub or_unless : Bool → List Piece
or_unless true = []
or_unless false = word keyword.ChoiceOr ∷ []

abbrev mutual
  pub subst_script : Bool → RawSubstTree → List Piece
  subst_script inner tree.Skip = word keyword.Skip ∷ (Done action.SKIP ∷ [])
  subst_script inner (tree.Assign x t) = name x ∷ (mark sign.Assign ∷ (term_script false t ++ (Done action.ASSIGN ∷ [])))
  subst_script inner (tree.Among x d) = name x ∷ (mark sign.Among ∷ (domain_script d ++ (Done action.AMONG ∷ [])))
  subst_script inner (tree.If f s) = word keyword.If ∷ (formula_script false f ++ (word keyword.Then ∷ (subst_script false s ++ (word keyword.End ∷ (Done action.IF_WITHOUT_ELSE ∷ [])))))
  subst_script inner (tree.IfElse f s t) =
      word keyword.If ∷ (formula_script false f ++ (word keyword.Then ∷ (subst_script false s ++ (word keyword.Else ∷ (subst_script false t ++ (word keyword.End ∷ (Done action.IF ∷ [])))))))
  subst_script inner (tree.Choice ss) = word keyword.Choice ∷ (Done action.NO_SIDES ∷ (sides_script true ss ++ (word keyword.End ∷ (Done action.CHOICE ∷ []))))
  subst_script inner (tree.Any x f s) = word keyword.AnyOf ∷ (name x ∷ (word keyword.Where ∷ (formula_script false f ++ (word keyword.Then ∷ (subst_script false s ++ (word keyword.End ∷ (Done action.ANY ∷ [])))))))
  subst_script inner (tree.Parallel s t) = begun inner (subst_script false s ++ (mark sign.Parallel ∷ (subst_script true t ++ (Done action.PARALLEL ∷ []))))

  pub sides_script : Bool → RawSubsts → List Piece
  sides_script first tree.NoSide = []
  sides_script first (tree.Side s ss) = or_unless first ++ (subst_script false s ++ (Done action.APPEND_SIDE ∷ sides_script false ss))

text-begun : (w : Bool) (p : List Piece) → text_of (begun w p) ≡ only_if w (said (sort.Keyword keyword.Begin)) ++ (text_of p ++ only_if w (said (sort.Keyword keyword.End)))
text-begun true p = simp (text-append, append_assoc) refl
text-begun false p = sym (append-nil (text_of p))

text-or : (first : Bool) → text_of (or_unless first) ≡ only_if (not first) (said (sort.Keyword keyword.ChoiceOr))
text-or true = refl
text-or false = refl

mutual
  pub subst-text : (inner : Bool) (s : RawSubstTree) → text_of (subst_script inner s) ≡ subst_text inner s
  subst-text inner tree.Skip = refl
  subst-text inner (tree.Assign x t) = let a = term-text false t in simp (text-append, a, append_assoc, append-nil) refl
  subst-text inner (tree.Among x d) = let a = domain-text d in simp (text-append, a, append_assoc, append-nil) refl
  subst-text inner (tree.If f s) = let a = formula-text false f in let b = subst-text false s in simp (text-append, a, b, append_assoc, append-nil) refl
  subst-text inner (tree.IfElse f s t) = let a = formula-text false f in let b = subst-text false s in let c = subst-text false t in simp (text-append, a, b, c, append_assoc, append-nil) refl
  subst-text inner (tree.Choice ss) = let a = sides-text true ss in simp (text-append, a, append_assoc, append-nil) refl
  subst-text inner (tree.Any x f s) = let a = formula-text false f in let b = subst-text false s in simp (text-append, a, b, append_assoc, append-nil) refl
  subst-text inner (tree.Parallel s t) =
      let a = subst-text false s in
      let b = subst-text true t in
      text-begun inner _ ∙ simp (text-append, a, b, append_assoc, append-nil) refl

  sides-text : (first : Bool) (ss : RawSubsts) → text_of (sides_script first ss) ≡ sides_text first ss
  sides-text first tree.NoSide = refl
  sides-text first (tree.Side s ss) =
      let a = subst-text false s in
      let b = sides-text false ss in
      let c = text-or first in
      simp (text-append, a, b, c, append_assoc) refl

told-begun : (w : Bool) (p : List Piece) → told_of (begun w p) ≡ told_of p
told-begun true p = told-append p (word keyword.End ∷ []) ∙ append-nil (told_of p)
told-begun false p = refl

told-or : (first : Bool) → told_of (or_unless first) ≡ []
told-or true = refl
told-or false = refl

-- a list of three parts, as it is grouped
grouped : (l : Lexeme) (a b e : List Lexeme) → bare (((l ∷ a) ++ b) ++ e) ≡ unplaced l ∷ (bare a ++ (bare b ++ bare e))
grouped l a b e =
    let x : bare ((l ∷ (a ++ b)) ++ e) ≡ unplaced l ∷ (bare (a ++ b) ++ bare e) = simp map-append refl in
    let y : bare (a ++ b) ≡ bare a ++ bare b = simp map-append refl in
    x ∙ ap (λ (v : List Lexeme). unplaced l ∷ (v ++ bare e)) y ∙ ap (λ (v : List Lexeme). unplaced l ∷ v) (append_assoc (bare a) (bare b) (bare e))

mutual
  pub subst-told : (inner : Bool) (s : RawSubstTree) → told_of (subst_script inner s) ≡ bare (subst_out s)
  subst-told inner tree.Skip = refl
  subst-told inner (tree.Assign x t) = let a = term-told false t in let c = told-name x in simp (told-append, a, c, map-append) refl
  subst-told inner (tree.Among x d) = let a = domain-told d in let c = told-name x in simp (told-append, a, c, map-append) refl
  subst-told inner (tree.If f s) = let a = formula-told false f in let b = subst-told false s in simp (told-append, a, b, map-append, append_assoc) refl
  subst-told inner (tree.IfElse f s t) = let a = formula-told false f in let b = subst-told false s in let c = subst-told false t in simp (told-append, a, b, c, map-append, append_assoc) refl
  subst-told inner (tree.Choice ss) = let a = sides-told true ss in simp (told-append, a, map-append, append_assoc) refl
  subst-told inner (tree.Any x f s) =
      let a = formula-told false f in
      let b = subst-told false s in
      let c = told-name x in
      let l : told_of (subst_script inner (tree.Any x f s)) ≡ unplaced (Named x) ∷ (bare (formula_out f) ++ (bare (subst_out s) ++ (Did action.ANY ∷ []))) = simp (told-append, a, b, c) refl in
      l ∙ sym (grouped (Named x) (formula_out f) (subst_out s) (Did action.ANY ∷ []))
  subst-told inner (tree.Parallel s t) =
      let a = subst-told false s in
      let b = subst-told true t in
      told-begun inner _ ∙ simp (told-append, a, b, map-append, append_assoc) refl

  sides-told : (first : Bool) (ss : RawSubsts) → told_of (sides_script first ss) ≡ bare (choice_out ss)
  sides-told first tree.NoSide = refl
  sides-told first (tree.Side s ss) =
      let a = subst-told false s in
      let b = sides-told false ss in
      let c = told-or first in
      simp (told-append, a, b, c, map-append, append_assoc) refl
