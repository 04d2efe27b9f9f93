-- The pieces of terms and formulas are spelled by the grammar.
use Rattle.std.proofs.Common.{◌≡◌, ℕ, Bool, true, false, List, [], ◌∷◌, ◌++◌, refl, sym, append_assoc, subst, inl, inr}
use Rattle.std.specs.Prelude.{not}
use Rattle.std.proofs.lemmas.List.{append-nil}
use Rattle.cb_lex.specs.declared.token.Keyword.TheVariants as keyword
use Rattle.cb_lex.specs.declared.token.Sign.{Sign}
use Rattle.cb_lex.specs.declared.token.Sign.TheVariants as sign
use Rattle.cb_lex.specs.declared.token.Sort.TheVariants as sort
use Rattle.cb_lex.specs.declared.raw.name.RawName.{RawName}
use Rattle.cb_lex.specs.declared.raw.sign.RawAtom.{RawAtom}
use Rattle.cb_lex.specs.declared.raw.sign.RawAtom.TheVariants as atom
use Rattle.cb_lex.specs.declared.raw.sign.RawOperator.{RawOperator}
use Rattle.cb_lex.specs.declared.raw.sign.RawOperator.TheVariants as operator
use Rattle.cb_lex.specs.declared.raw.sign.RawRelation.{RawRelation}
use Rattle.cb_lex.specs.declared.raw.sign.RawRelation.TheVariants as relation
use Rattle.cb_lex.specs.RawTermTree.{RawTermTree, RawTerms, RawFormulaTree}
use Rattle.cb_lex.specs.RawTermTree as tree
use Rattle.cb_engine.specs.declared.Symbol.{Symbol}
use Rattle.cb_engine.specs.declared.Symbol.TheVariants.{Take, Keep, Act, Part}
use Rattle.cb_engine.specs.Lines.{alternatives, Among, Repeated}
use Rattle.cb_engine.specs.Lines.Repeated.{none, more}
use Rattle.cb_grammar.specs.declared.table.TheConstants.{GRAMMAR}
use Rattle.cb_grammar.specs.declared.actions.TheConstants as action
use Rattle.cb_grammar.specs.Classes.{keyword_class, sign_class}
use Rattle.cb_grammar.specs.Numbers as part
use Rattle.cb_grammar.specs.Written.{LinesArePlain, FormulaIsWritten, FormulaLine, PartIsWritten, PartLine, TermIsWritten, TermLine, SumIsWritten, SumLine, ProductIsWritten, ProductLine, opening, closing, and_unit, or_unit, times_factor, divided_factor, mod_factor, plus_product, minus_product}
use Rattle.cb_grammar.specs.Written.FormulaLine.{plain as formula_line_plain, implication as formula_line_implication, equivalence as formula_line_equivalence}
use Rattle.cb_grammar.specs.Written.PartLine.{unit as part_line_unit, conjunction as part_line_conjunction, disjunction as part_line_disjunction}
use Rattle.cb_grammar.specs.Written.TermLine.{sum as term_line_sum, range as term_line_range, union as term_line_union, intersection as term_line_intersection}
use Rattle.cb_grammar.specs.Written.SumLine.{sum as sum_line_sum}
use Rattle.cb_grammar.specs.Written.ProductLine.{product as product_line_product}
use Rattle.cb_written.specs.Units.{UnitIsWritten, UnitLine, relations, related}
use Rattle.cb_written.specs.Units.UnitLine.{always_true as unit_line_always_true, always_false as unit_line_always_false, not as unit_line_not, parentheses as unit_line_parentheses, relation as unit_line_relation, for_all as unit_line_for_all, exists as unit_line_exists}
use Rattle.cb_amn_parse.specs.Lexemes.{Lexeme, Named, Said, Did, Lost}
use Rattle.cb_amn_parse.specs.Words.{atom_sort, atom_action, operator_sort, operator_action, relation_sort}
use Rattle.cb_amn_parse.specs.Formulas.{term_out, listed_out, formula_out}
use Rattle.cb_amn_print.specs.Tokens.{name_sort}
use Rattle.cb_amn_print.specs.Formulas.{is_and, is_or, is_arrow}
use Rattle.cb_amn_print.proofs.Fronts.{IsRead, IsToken}
use Rattle.cb_amn_print.proofs.Scripts.{Piece, Silent, Kept, Done, nothing}
use Rattle.cb_amn_print.proofs.Pieces.{open_piece, close_piece, term_script, terms_script, formula_script}
use Rattle.cb_amn_print.proofs.Lines.{Good, Stands, join, sign_taken, word_taken, sign_kept, word_kept, number_kept, name_kept, act, by_line, by_table}

pub record Laws : Type 0 where
  pub plain : LinesArePlain
  pub formula : FormulaIsWritten
  pub part : PartIsWritten
  pub unit : UnitIsWritten
  pub term : TermIsWritten
  pub sum : SumIsWritten
  pub product : ProductIsWritten

-- the tokens of what is written may stand there
abbrev pub Fine : Bool → Lexeme → Type 0
Fine opened (Named x) = IsRead (name_sort x) × Stands opened (name_sort x)
Fine opened (Said s p) = IsToken s
Fine opened (Did a) = Unit {0}
Fine opened Lost = Unit {0}

abbrev pub AllFine : Bool → List Lexeme → Type 0
AllFine opened [] = Unit {0}
AllFine opened (l ∷ ls) = Fine opened l × AllFine opened ls

pub parted : (opened : Bool) (a b : List Lexeme) → AllFine opened (a ++ b) → AllFine opened a × AllFine opened b
parted opened [] b f = (tt, f)
parted opened (l ∷ a) b f = let q = parted opened a b f.1 in ((f.0, q.0), q.1)

abbrev named_factor : ℕ → ℕ → List Symbol
named_factor c a = Keep c ∷ (Act a ∷ [])

abbrev pub factors : List (List Symbol)
factors =
    named_factor 1 action.NAME_TERM ∷ (named_factor 2 action.NUMBER_TERM ∷
    (named_factor (keyword_class keyword.True) action.TRUTH_TERM ∷ (named_factor (keyword_class keyword.False) action.TRUTH_TERM ∷
    (named_factor (keyword_class keyword.MaxInt) action.LIMIT_TERM ∷ (named_factor (keyword_class keyword.MinInt) action.LIMIT_TERM ∷
    (named_factor (keyword_class keyword.Nat) action.SET_TERM ∷ (named_factor (keyword_class keyword.Nat1) action.SET_TERM ∷
    (named_factor (keyword_class keyword.Int) action.SET_TERM ∷ (named_factor (keyword_class keyword.Truths) action.SET_TERM ∷
    ((Keep (sign_class sign.Minus) ∷ (Part part.factor ∷ (Act action.MINUS ∷ []))) ∷
    ((Keep (keyword_class keyword.Card) ∷ (opening ∷ (Part part.term ∷ (closing ∷ (Act action.CARD ∷ []))))) ∷
    ((Keep (keyword_class keyword.Bool) ∷ (opening ∷ (Part part.formula ∷ (closing ∷ (Act action.BOOL ∷ []))))) ∷
    ((Keep (sign_class sign.OpenBrace) ∷ (Act action.NO_TERMS ∷ (Part part.set_end ∷ (Act action.LISTED ∷ [])))) ∷ [])))))))))))))

factor_start_lines : alternatives GRAMMAR part.factor_start ≡ factors
factor_start_lines = refl

abbrev more_terms : List Symbol
more_terms = Part part.term ∷ (Act action.APPEND_TERM ∷ (Part part.terms_1 ∷ []))

factor_lines : alternatives GRAMMAR part.factor ≡ (opening ∷ (Part part.term ∷ (closing ∷ []))) ∷ ((Part part.factor_start ∷ []) ∷ [])
factor_lines = refl

set_end_lines : alternatives GRAMMAR part.set_end ≡ (Take (sign_class sign.CloseBrace) ∷ []) ∷ ((Part part.terms ∷ (Take (sign_class sign.CloseBrace) ∷ [])) ∷ [])
set_end_lines = refl

terms_lines : alternatives GRAMMAR part.terms ≡ more_terms ∷ []
terms_lines = refl

terms_rest_lines : alternatives GRAMMAR part.terms_1 ≡ (Take (sign_class sign.Comma) ∷ more_terms) ∷ ([] ∷ [])
terms_rest_lines = refl

module _ (opened : Bool) (laws : Laws) where
  abbrev G : List Symbol → List Piece → Type 0
  G k p = Good opened k p

  empty : G [] []
  empty = record { spelled = nothing opened; fit = tt }

  -- ---- terms

  start : (w : List Symbol) (p : List Piece) → Among factors w → G w p → G (Part part.factor ∷ []) p
  start w p a g = by_table opened laws.plain part.factor _ factor_lines (Part part.factor_start ∷ []) p (inr (inl refl)) (by_table opened laws.plain part.factor_start factors factor_start_lines w p a g)

  enclosed : (p : List Piece) → G (Part part.term ∷ []) p → G (Part part.factor ∷ []) (open_piece ∷ (p ++ (close_piece ∷ [])))
  enclosed p g = by_table opened laws.plain part.factor _ factor_lines (opening ∷ (Part part.term ∷ (closing ∷ []))) _ (inl refl) (join opened (sign_taken opened sign.OpenParenthesis) (join opened g (sign_taken opened sign.CloseParenthesis)))

  product_of : (p : List Piece) → G (Part part.factor ∷ []) p → G (Part part.product ∷ []) p
  product_of p g = by_line opened part.product ProductLine laws.product _ p (product_line_product [] none) g

  sum_of : (p : List Piece) → G (Part part.product ∷ []) p → G (Part part.sum ∷ []) p
  sum_of p g = by_line opened part.sum SumLine laws.sum _ p (sum_line_sum [] none) g

  term_of : (p : List Piece) → G (Part part.sum ∷ []) p → G (Part part.term ∷ []) p
  term_of p g = by_line opened part.term TermLine laws.term _ p term_line_sum g

  abbrev Both : List Piece → List Piece → Type 0
  Both p q = G (Part part.factor ∷ []) p × G (Part part.term ∷ []) q

  single : (p : List Piece) → G (Part part.factor ∷ []) p → Both p p
  single p g = (g, term_of p (sum_of p (product_of p g)))

  multiplied : (p q : List Piece) (w : List Symbol) (k : List Piece) → Among (times_factor ∷ (divided_factor ∷ (mod_factor ∷ []))) w → G (Part part.factor ∷ []) p → G w k → G (Part part.term ∷ []) (p ++ k)
  multiplied p q w k a g h =
      let x : G (Part part.factor ∷ (w ++ [])) (p ++ k) = join opened g (subst (λ (y : List Symbol). G y k) (sym (append-nil w)) h) in
      term_of _ (sum_of _ (by_line opened part.product ProductLine laws.product _ _ (product_line_product (w ++ []) (more w [] a none)) x))

  added : (p : List Piece) (w : List Symbol) (k : List Piece) → Among (plus_product ∷ (minus_product ∷ [])) w → G (Part part.factor ∷ []) p → G w k → G (Part part.term ∷ []) (p ++ k)
  added p w k a g h =
      let x : G (Part part.product ∷ (w ++ [])) (p ++ k) = join opened (product_of p g) (subst (λ (y : List Symbol). G y k) (sym (append-nil w)) h) in
      term_of _ (by_line opened part.sum SumLine laws.sum _ _ (sum_line_sum (w ++ []) (more w [] a none)) x)

  -- an operand with its sign
  abbrev tail_piece : RawOperator → List Piece → List Piece
  tail_piece o q = Kept (operator_sort o) ∷ (q ++ (Done (operator_action o) ∷ []))

  joined : (o : RawOperator) (p q : List Piece) → G (Part part.factor ∷ []) p → G (Part part.factor ∷ []) q → G (Part part.term ∷ []) (p ++ tail_piece o q)
  joined operator.Plus p q g h = added p plus_product _ (inl refl) g (join opened (sign_kept opened sign.Plus) (join opened (product_of q h) (act opened action.BINARY)))
  joined operator.Minus p q g h = added p minus_product _ (inr (inl refl)) g (join opened (sign_kept opened sign.Minus) (join opened (product_of q h) (act opened action.SUBTRACT)))
  joined operator.Times p q g h = multiplied p q times_factor _ (inl refl) g (join opened (sign_kept opened sign.Times) (join opened h (act opened action.BINARY)))
  joined operator.Divide p q g h = multiplied p q divided_factor _ (inr (inl refl)) g (join opened (sign_kept opened sign.Divide) (join opened h (act opened action.BINARY)))
  joined operator.Mod p q g h = multiplied p q mod_factor _ (inr (inr (inl refl))) g (join opened (word_kept opened keyword.Mod refl) (join opened h (act opened action.BINARY)))
  joined operator.UpTo p q g h = by_line opened part.term TermLine laws.term _ _ term_line_range (join opened (sum_of p (product_of p g)) (join opened (sign_kept opened sign.UpTo) (join opened (sum_of q (product_of q h)) (act opened action.BINARY))))
  joined operator.Union p q g h = by_line opened part.term TermLine laws.term _ _ (term_line_union [] none) (join opened g (join opened (sign_kept opened sign.Union) (join opened h (act opened action.BINARY))))
  joined operator.Intersection p q g h = by_line opened part.term TermLine laws.term _ _ (term_line_intersection [] none) (join opened g (join opened (sign_kept opened sign.Intersection) (join opened h (act opened action.BINARY))))

  atom_good : (a : RawAtom) → G (Part part.factor ∷ []) (Kept (atom_sort a) ∷ (Done (atom_action a) ∷ []))
  atom_good atom.True = start _ _ (inr (inr (inl refl))) (join opened (word_kept opened keyword.True refl) (act opened action.TRUTH_TERM))
  atom_good atom.False = start _ _ (inr (inr (inr (inl refl)))) (join opened (word_kept opened keyword.False refl) (act opened action.TRUTH_TERM))
  atom_good atom.MaxInt = start _ _ (inr (inr (inr (inr (inl refl))))) (join opened (word_kept opened keyword.MaxInt refl) (act opened action.LIMIT_TERM))
  atom_good atom.MinInt = start _ _ (inr (inr (inr (inr (inr (inl refl)))))) (join opened (word_kept opened keyword.MinInt refl) (act opened action.LIMIT_TERM))
  atom_good atom.Nat = start _ _ (inr (inr (inr (inr (inr (inr (inl refl))))))) (join opened (word_kept opened keyword.Nat refl) (act opened action.SET_TERM))
  atom_good atom.Nat1 = start _ _ (inr (inr (inr (inr (inr (inr (inr (inl refl)))))))) (join opened (word_kept opened keyword.Nat1 refl) (act opened action.SET_TERM))
  atom_good atom.Int = start _ _ (inr (inr (inr (inr (inr (inr (inr (inr (inl refl))))))))) (join opened (word_kept opened keyword.Int refl) (act opened action.SET_TERM))
  atom_good atom.Truths = start _ _ (inr (inr (inr (inr (inr (inr (inr (inr (inr (inl refl)))))))))) (join opened (word_kept opened keyword.Truths refl) (act opened action.SET_TERM))

  -- ---- formulas

  part_of : (p : List Piece) → G (Part part.unit ∷ []) p → G (Part part.part ∷ []) p
  part_of p g = by_line opened part.part PartLine laws.part _ p part_line_unit g

  formula_of : (p : List Piece) → G (Part part.part ∷ []) p → G (Part part.formula ∷ []) p
  formula_of p g = by_line opened part.formula FormulaLine laws.formula _ p formula_line_plain g

  unit_by : (w : List Symbol) (p : List Piece) → UnitLine w → G w p → G (Part part.unit ∷ []) p
  unit_by w p l g = by_line opened part.unit UnitLine laws.unit w p l g

  grouped : (p : List Piece) → G (Part part.formula ∷ []) p → G (Part part.unit ∷ []) (open_piece ∷ (p ++ (close_piece ∷ [])))
  grouped p g = unit_by _ _ unit_line_parentheses (join opened (sign_taken opened sign.OpenParenthesis) (join opened g (sign_taken opened sign.CloseParenthesis)))

  -- units with a sign between them
  abbrev Chain : List Symbol → List Piece → Type 0
  Chain w p = (x : List Symbol) × (Repeated (w ∷ []) x × G (Part part.unit ∷ (w ++ x)) p)

  chain_of : (w : List Symbol) (p q : List Piece) → G (Part part.unit ∷ []) p → G w q → Chain w (p ++ q)
  chain_of w p q g h = ([], (none, join opened g (subst (λ (y : List Symbol). G y q) (sym (append-nil w)) h)))

  one_more : (w x : List Symbol) → Repeated (w ∷ []) x → Repeated (w ∷ []) (x ++ w)
  one_more w [] none = subst (λ (y : List Symbol). Repeated (w ∷ []) y) (append-nil w) (more w [] (inl refl) none)
  one_more w y (more v x a r) = rw (append_assoc v x w) (more v (x ++ w) a (one_more w x r))

  chain_on : (w : List Symbol) (p q : List Piece) → Chain w p → G w q → Chain w (p ++ q)
  chain_on w p q c h =
      let x : G ((Part part.unit ∷ (w ++ c.0)) ++ w) (p ++ q) = join opened c.1.1 h in
      (c.0 ++ w, (one_more w c.0 c.1.0, subst (λ (y : List Symbol). G (Part part.unit ∷ y) (p ++ q)) (append_assoc w c.0 w) x))

  pub record FormulaGood (f : RawFormulaTree) : Type 0 where
    pub unit : G (Part part.unit ∷ []) (formula_script true f)
    pub part_good : G (Part part.part ∷ []) (formula_script (is_arrow f) f)
    pub formula : G (Part part.formula ∷ []) (formula_script false f)
    pub ands : is_and f ≡ true → Chain and_unit (formula_script false f)
    pub ors : is_or f ≡ true → Chain or_unit (formula_script false f)

  -- a formula that is a unit anyway
  abbrev Alone : RawFormulaTree → Type 0
  Alone f = (formula_script true f ≡ formula_script false f) × ((is_arrow f ≡ false) × ((is_and f ≡ false) × (is_or f ≡ false)))

  alone : (f : RawFormulaTree) → Alone f → G (Part part.unit ∷ []) (formula_script false f) → FormulaGood f
  alone f a g = record {
    unit = subst (λ (p : List Piece). G (Part part.unit ∷ []) p) (sym a.0) g;
    part_good = subst (λ (b : Bool). G (Part part.part ∷ []) (formula_script b f)) (sym a.1.0) (part_of _ g);
    formula = formula_of _ (part_of _ g);
    ands = λ e. absurd (let q = a.1.1.0 in cc);
    ors = λ e. absurd (let q = a.1.1.1 in cc);
  }

  -- the left operand of a chain
  left_of : (w : List Symbol) (f : RawFormulaTree) (b : Bool) (q : List Piece) → G (Part part.unit ∷ []) (formula_script true f) → (b ≡ true → Chain w (formula_script false f)) → G w q → Chain w (formula_script (not b) f ++ q)
  left_of w f true q u c h = chain_on w (formula_script false f) q (c refl) h
  left_of w f false q u c h = chain_of w (formula_script true f) q u h

  and_good : (f g : RawFormulaTree) → FormulaGood f → FormulaGood g → FormulaGood (tree.And f g)
  and_good f g a b =
      let h : G and_unit (Silent (sort.Sign sign.And) ∷ (formula_script true g ++ (Done action.AND ∷ []))) = join opened (sign_taken opened sign.And) (join opened b.unit (act opened action.AND)) in
      let c = left_of and_unit f (is_and f) _ a.unit a.ands h in
      let p = by_line opened part.part PartLine laws.part _ _ (part_line_conjunction c.0 c.1.0) c.1.1 in
      record { unit = grouped _ (formula_of _ p); part_good = p; formula = formula_of _ p; ands = λ e. c; ors = λ e. absurd (cc) }

  or_good : (f g : RawFormulaTree) → FormulaGood f → FormulaGood g → FormulaGood (tree.Or f g)
  or_good f g a b =
      let h : G or_unit (Silent (sort.Keyword keyword.Or) ∷ (formula_script true g ++ (Done action.OR ∷ []))) = join opened (word_taken opened keyword.Or refl) (join opened b.unit (act opened action.OR)) in
      let c = left_of or_unit f (is_or f) _ a.unit a.ors h in
      let p = by_line opened part.part PartLine laws.part _ _ (part_line_disjunction c.0 c.1.0) c.1.1 in
      record { unit = grouped _ (formula_of _ p); part_good = p; formula = formula_of _ p; ands = λ e. absurd (cc); ors = λ e. c }

  arrow_good : (f : RawFormulaTree) → is_arrow f ≡ true → is_and f ≡ false → is_or f ≡ false → formula_script true f ≡ open_piece ∷ (formula_script false f ++ (close_piece ∷ [])) → G (Part part.formula ∷ []) (formula_script false f) → FormulaGood f
  arrow_good f e a o s g =
      let u : G (Part part.unit ∷ []) (formula_script true f) = subst (λ (p : List Piece). G (Part part.unit ∷ []) p) (sym s) (grouped _ g) in
      record {
        unit = u;
        part_good = subst (λ (b : Bool). G (Part part.part ∷ []) (formula_script b f)) (sym e) (part_of _ u);
        formula = g;
        ands = λ h. absurd (let q = a in cc);
        ors = λ h. absurd (let q = o in cc);
      }

  related_good : (r : RawRelation) (p q : List Piece) → G (Part part.term ∷ []) p → G (Part part.term ∷ []) q → G (Part part.unit ∷ []) (p ++ (Kept (relation_sort r) ∷ (q ++ (Done action.RELATION ∷ []))))
  related_good r p q g h = go r
    where
      by_sign : (s : Sign) → Among relations (Keep (sign_class s) ∷ related []) → G (Part part.unit ∷ []) (p ++ (Kept (sort.Sign s) ∷ (q ++ (Done action.RELATION ∷ []))))
      by_sign s a = unit_by _ _ (unit_line_relation _ a) (join opened g (join opened (sign_kept opened s) (join opened h (act opened action.RELATION))))

      go : (r : RawRelation) → G (Part part.unit ∷ []) (p ++ (Kept (relation_sort r) ∷ (q ++ (Done action.RELATION ∷ []))))
      go relation.Equal = by_sign sign.Equal (inl refl)
      go relation.Unequal = by_sign sign.Unequal (inr (inl refl))
      go relation.Less = by_sign sign.Less (inr (inr (inl refl)))
      go relation.AtMost = by_sign sign.AtMost (inr (inr (inr (inl refl))))
      go relation.Greater = by_sign sign.Greater (inr (inr (inr (inr (inl refl)))))
      go relation.AtLeast = by_sign sign.AtLeast (inr (inr (inr (inr (inr (inl refl))))))
      go relation.Member = by_sign sign.Member (inr (inr (inr (inr (inr (inr (inl refl)))))))
      go relation.NotMember = by_sign sign.NotMember (inr (inr (inr (inr (inr (inr (inr (inl refl))))))))
      go relation.Subset = by_sign sign.Subset (inr (inr (inr (inr (inr (inr (inr (inr (inl refl)))))))))

  named : (x : RawName) → Fine opened (Named x) → G (Keep 1 ∷ []) (Kept (name_sort x) ∷ [])
  named x f = name_kept opened (name_sort x) f.0 f.1

  -- ---- by recursion over the trees

  mutual
    pub term_good : (t : RawTermTree) → AllFine opened (term_out t) → Both (term_script true t) (term_script false t)
    term_good (tree.Number n p) f = single _ (start _ _ (inr (inl refl)) (join opened (number_kept opened n f.0) (act opened action.NUMBER_TERM)))
    term_good (tree.Name x) f = single _ (start _ _ (inl refl) (join opened (named x f.0) (act opened action.NAME_TERM)))
    term_good (tree.Atom a p) f = single _ (atom_good a)
    term_good (tree.Binary o p l r) f =
        let d = (parted opened (term_out l ++ (Said (operator_sort o) p ∷ term_out r)) (Did (operator_action o) ∷ []) f).0 in
        let e = parted opened (term_out l) (Said (operator_sort o) p ∷ term_out r) d in
        let j = joined o _ _ (term_good l e.0).0 (term_good r e.1.1).0 in
        (enclosed _ j, j)
    term_good (tree.Minus p t) f =
        let e = (parted opened (term_out t) (Did action.MINUS ∷ []) f.1).0 in
        single _ (start _ _ (inr (inr (inr (inr (inr (inr (inr (inr (inr (inr (inl refl))))))))))) (join opened (sign_kept opened sign.Minus) (join opened (term_good t e).0 (act opened action.MINUS))))
    term_good (tree.Card p t) f =
        let e = (parted opened (term_out t) (Did action.CARD ∷ []) f.1).0 in
        single _ (start _ _ (inr (inr (inr (inr (inr (inr (inr (inr (inr (inr (inr (inl refl))))))))))))
        (join opened (word_kept opened keyword.Card refl) (join opened (sign_taken opened sign.OpenParenthesis) (join opened (term_good t e).1 (join opened (sign_taken opened sign.CloseParenthesis) (act opened action.CARD))))))
    term_good (tree.TruthOf p g) f =
        let e = (parted opened (formula_out g) (Did action.BOOL ∷ []) f.1).0 in
        let h = formula_good g e in
        single _ (start _ _ (inr (inr (inr (inr (inr (inr (inr (inr (inr (inr (inr (inr (inl refl)))))))))))))
        (join opened (word_kept opened keyword.Bool refl) (join opened (sign_taken opened sign.OpenParenthesis) (join opened h.formula (join opened (sign_taken opened sign.CloseParenthesis) (act opened action.BOOL))))))
    term_good (tree.Listed p ts) f =
        let e = (parted opened (listed_out ts) (Did action.LISTED ∷ []) f.1.1).0 in
        let h = set_good ts e in
        let s = join opened (sign_kept opened sign.OpenBrace) (join opened (act opened action.NO_TERMS) (join opened h (act opened action.LISTED))) in
        let whole : G (Keep (sign_class sign.OpenBrace) ∷ (Act action.NO_TERMS ∷ (Part part.set_end ∷ (Act action.LISTED ∷ [])))) (term_script false (tree.Listed p ts)) =
        subst (λ (x : List Piece). G (Keep (sign_class sign.OpenBrace) ∷ (Act action.NO_TERMS ∷ (Part part.set_end ∷ (Act action.LISTED ∷ [])))) (Kept (sort.Sign sign.OpenBrace) ∷ (Done action.NO_TERMS ∷ x))) (append_assoc (terms_script true ts) (Silent (sort.Sign sign.CloseBrace) ∷ []) (Done action.LISTED ∷ [])) s in
        single _ (start _ _ (inr (inr (inr (inr (inr (inr (inr (inr (inr (inr (inr (inr (inr (inl refl)))))))))))))) whole)

    -- all terms and the brace
    set_good : (ts : RawTerms) → AllFine opened (listed_out ts) → G (Part part.set_end ∷ []) (terms_script true ts ++ (Silent (sort.Sign sign.CloseBrace) ∷ []))
    set_good tree.End f = by_table opened laws.plain part.set_end _ set_end_lines _ _ (inl refl) (sign_taken opened sign.CloseBrace)
    set_good (tree.More t ts) f =
        let e = parted opened (term_out t) (Did action.APPEND_TERM ∷ listed_out ts) f in
        let h = by_table opened laws.plain part.terms _ terms_lines _ _ (inl refl) (join opened (term_good t e.0).1 (join opened (act opened action.APPEND_TERM) (rest_good ts e.1.1))) in
        by_table opened laws.plain part.set_end _ set_end_lines _ _ (inr (inl refl)) (join opened h (sign_taken opened sign.CloseBrace))

    -- the terms behind the first
    rest_good : (ts : RawTerms) → AllFine opened (listed_out ts) → G (Part part.terms_1 ∷ []) (terms_script false ts)
    rest_good tree.End f = by_table opened laws.plain part.terms_1 _ terms_rest_lines _ _ (inr (inl refl)) empty
    rest_good (tree.More t ts) f =
        let e = parted opened (term_out t) (Did action.APPEND_TERM ∷ listed_out ts) f in
        by_table opened laws.plain part.terms_1 _ terms_rest_lines _ _ (inl refl) (join opened (sign_taken opened sign.Comma) (join opened (term_good t e.0).1 (join opened (act opened action.APPEND_TERM) (rest_good ts e.1.1))))

    pub formula_good : (f : RawFormulaTree) → AllFine opened (formula_out f) → FormulaGood f
    formula_good tree.True q = alone tree.True (refl, (refl, (refl, refl))) (unit_by _ _ unit_line_always_true (join opened (word_taken opened keyword.AlwaysTrue refl) (act opened action.ALWAYS_TRUE)))
    formula_good tree.False q = alone tree.False (refl, (refl, (refl, refl))) (unit_by _ _ unit_line_always_false (join opened (word_taken opened keyword.AlwaysFalse refl) (act opened action.ALWAYS_FALSE)))
    formula_good (tree.Not f) q =
        let e = (parted opened (formula_out f) (Did action.NOT ∷ []) q).0 in
        let h = formula_good f e in
        alone (tree.Not f) (refl, (refl, (refl, refl))) (unit_by _ _ unit_line_not
        (join opened (word_taken opened keyword.Not refl) (join opened (sign_taken opened sign.OpenParenthesis) (join opened h.formula (join opened (sign_taken opened sign.CloseParenthesis) (act opened action.NOT))))))
    formula_good (tree.And f g) q =
        let e = parted opened (formula_out f) (formula_out g) (parted opened (formula_out f ++ formula_out g) (Did action.AND ∷ []) q).0 in
        and_good f g (formula_good f e.0) (formula_good g e.1)
    formula_good (tree.Or f g) q =
        let e = parted opened (formula_out f) (formula_out g) (parted opened (formula_out f ++ formula_out g) (Did action.OR ∷ []) q).0 in
        or_good f g (formula_good f e.0) (formula_good g e.1)
    formula_good (tree.Implies f g) q =
        let e = parted opened (formula_out f) (formula_out g) (parted opened (formula_out f ++ formula_out g) (Did action.IMPLIES ∷ []) q).0 in
        let a = formula_good f e.0 in
        let b = formula_good g e.1 in
        arrow_good (tree.Implies f g) refl refl refl refl (by_line opened part.formula FormulaLine laws.formula _ _ formula_line_implication
        (join opened (part_of _ a.unit) (join opened (sign_taken opened sign.Implies) (join opened (part_of _ b.unit) (act opened action.IMPLIES)))))
    formula_good (tree.Equivalent f g) q =
        let e = parted opened (formula_out f) (formula_out g) (parted opened (formula_out f ++ formula_out g) (Did action.EQUIVALENT ∷ []) q).0 in
        let a = formula_good f e.0 in
        let b = formula_good g e.1 in
        arrow_good (tree.Equivalent f g) refl refl refl refl (by_line opened part.formula FormulaLine laws.formula _ _ formula_line_equivalence
        (join opened a.unit (join opened (sign_taken opened sign.Equivalent) (join opened b.unit (act opened action.EQUIVALENT)))))
    formula_good (tree.Relation r p x y) q =
        let d = (parted opened (term_out x ++ (Said (relation_sort r) p ∷ term_out y)) (Did action.RELATION ∷ []) q).0 in
        let e = parted opened (term_out x) (Said (relation_sort r) p ∷ term_out y) d in
        alone (tree.Relation r p x y) (refl, (refl, (refl, refl))) (related_good r _ _ (term_good x e.0).1 (term_good y e.1.1).1)
    formula_good (tree.Every x d f) q =
        let e = parted opened (formula_out d) (formula_out f) (parted opened (formula_out d ++ formula_out f) (Did action.FOR_ALL ∷ []) q.1).0 in
        let a = formula_good d e.0 in
        let b = formula_good f e.1 in
        alone (tree.Every x d f) (refl, (refl, (refl, refl))) (unit_by _ _ unit_line_for_all
        (join opened (sign_taken opened sign.Bang) (join opened (named x q.0) (join opened (sign_taken opened sign.Dot) (join opened (sign_taken opened sign.OpenParenthesis)
        (join opened a.part_good (join opened (sign_taken opened sign.Implies) (join opened b.part_good (join opened (sign_taken opened sign.CloseParenthesis) (act opened action.FOR_ALL))))))))))
    formula_good (tree.Exists x f) q =
        let e = (parted opened (formula_out f) (Did action.EXISTS ∷ []) q.1).0 in
        let a = formula_good f e in
        alone (tree.Exists x f) (refl, (refl, (refl, refl))) (unit_by _ _ unit_line_exists
        (join opened (sign_taken opened sign.Hash) (join opened (named x q.0) (join opened (sign_taken opened sign.Dot) (join opened (sign_taken opened sign.OpenParenthesis)
        (join opened a.part_good (join opened (sign_taken opened sign.CloseParenthesis) (act opened action.EXISTS))))))))
