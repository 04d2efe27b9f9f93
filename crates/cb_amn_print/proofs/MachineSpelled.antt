-- The pieces of domains and substitutions are spelled by the grammar.
use Rattle.std.proofs.Common.{◌≡◌, zero, Bool, true, false, List, [], ◌∷◌, ◌++◌, refl, sym, append_assoc, subst, inl, inr}
use Rattle.std.specs.List.{flat_map}
use Rattle.std.proofs.lemmas.List.{append-nil}
use Rattle.cb_lex.specs.declared.token.Keyword.TheVariants as keyword
use Rattle.cb_lex.specs.declared.token.Sign.TheVariants as sign
use Rattle.cb_lex.specs.declared.raw.name.RawName.{RawName}
use Rattle.cb_lex.specs.declared.raw.domain.RawLiteral.{RawLiteral}
use Rattle.cb_lex.specs.declared.raw.domain.RawLiteral.TheVariants as literal
use Rattle.cb_lex.specs.declared.raw.domain.RawBound.{RawBound}
use Rattle.cb_lex.specs.declared.raw.domain.RawEnd.{RawEnd}
use Rattle.cb_lex.specs.declared.raw.domain.RawEnd.TheVariants as end
use Rattle.cb_lex.specs.declared.raw.domain.RawDomain.{RawDomain}
use Rattle.cb_lex.specs.declared.raw.domain.RawDomain.TheVariants as domain
use Rattle.cb_lex.specs.RawSubstTree.{RawSubstTree, RawSubsts}
use Rattle.cb_lex.specs.RawSubstTree as tree
use Rattle.cb_engine.specs.declared.Symbol.{Symbol}
use Rattle.cb_engine.specs.declared.Symbol.TheVariants.{Take, Keep, Act, Part}
use Rattle.cb_engine.specs.Lines.{alternatives, Among, Repeated}
use Rattle.cb_engine.specs.Lines.Repeated.{none, more}
use Rattle.cb_grammar.specs.declared.table.TheConstants.{GRAMMAR}
use Rattle.cb_grammar.specs.declared.actions.TheConstants as action
use Rattle.cb_grammar.specs.Classes.{keyword_class, sign_class}
use Rattle.cb_grammar.specs.Numbers as part
use Rattle.cb_grammar.specs.Written.{SubstitutionIsWritten, SubstitutionLine, beside}
use Rattle.cb_grammar.specs.Written.SubstitutionLine.{substitution}
use Rattle.cb_written.specs.Substitutions.{SimpleIsWritten, SimpleLine, or_side, DomainIsWritten, DomainLine, BoundIsWritten, BoundLine, end_lines}
use Rattle.cb_written.specs.Substitutions.SimpleLine.{skip, assign, among, begin, if, choice, any}
use Rattle.cb_written.specs.Substitutions.DomainLine.{range, naturals, positives, integers, truths, named as named_domain}
use Rattle.cb_written.specs.Substitutions.BoundLine.{bound, minus}
use Rattle.cb_amn_parse.specs.Lexemes.{Named, Did}
use Rattle.cb_amn_parse.specs.Formulas.{term_out, formula_out, name_entry, names_out}
use Rattle.cb_amn_parse.specs.Machines.{literal_out, end_out, bound_out, bound_action, domain_out, subst_out, choice_out}
use Rattle.cb_amn_print.specs.Tokens.{name_sort}
use Rattle.cb_shapes.specs.Full.{IsFullSubst, AreFullSides}
use Rattle.cb_amn_print.proofs.Scripts.{Piece, Done, nothing}
use Rattle.cb_amn_print.proofs.Lines.{Good, join, sign_taken, word_taken, word_kept, number_kept, name_kept, act, by_line, by_table}
use Rattle.cb_amn_print.proofs.Spelled.{Laws, Fine, AllFine, parted, term_good, formula_good}
use Rattle.cb_amn_print.proofs.MachinePieces.{word, name, names_rest, names_script, literal_script, end_script, bound_script, domain_script, subst_script, sides_script}

pub record MoreLaws : Type 0 where
  pub laws : Laws
  pub substitution_law : SubstitutionIsWritten
  pub simple_law : SimpleIsWritten
  pub domain_law : DomainIsWritten
  pub bound_law : BoundIsWritten

abbrev first_name : List Symbol
first_name = Act action.NO_NAMES ∷ (Keep 1 ∷ (Act action.APPEND_NAME ∷ (Part part.names_1 ∷ [])))

abbrev next_name : List Symbol
next_name = Take (sign_class sign.Comma) ∷ (Keep 1 ∷ (Act action.APPEND_NAME ∷ (Part part.names_1 ∷ [])))

names_lines : alternatives GRAMMAR part.names ≡ first_name ∷ []
names_lines = refl

names_rest_lines : alternatives GRAMMAR part.names_1 ≡ next_name ∷ ([] ∷ [])
names_rest_lines = refl

abbrev literals : List (List Symbol)
literals =
    (Take (sign_class sign.Minus) ∷ (Keep 2 ∷ (Act action.MINUS_LITERAL ∷ []))) ∷ ((Keep 2 ∷ (Act action.LITERAL ∷ [])) ∷
    ((Keep (keyword_class keyword.MaxInt) ∷ (Act action.LIMIT_LITERAL ∷ [])) ∷ ((Keep (keyword_class keyword.MinInt) ∷ (Act action.LIMIT_LITERAL ∷ [])) ∷ [])))

literal_lines : alternatives GRAMMAR part.literal ≡ literals
literal_lines = refl

module _ (opened : Bool) (m : MoreLaws) where
  abbrev G : List Symbol → List Piece → Type 0
  G k p = Good opened k p

  pub empty : G [] []
  empty = record { spelled = nothing opened; fit = tt }

  pub name_good : (x : RawName) → Fine opened (Named x) → G (Keep 1 ∷ []) (name x ∷ [])
  name_good x f = name_kept opened (name_sort x) f.0 f.1

  names_rest_good : (xs : List RawName) → AllFine opened (flat_map name_entry xs) → G (Part part.names_1 ∷ []) (names_rest xs)
  names_rest_good [] f = by_table opened m.laws.plain part.names_1 _ names_rest_lines _ _ (inr (inl refl)) empty
  names_rest_good (x ∷ xs) f = by_table opened m.laws.plain part.names_1 _ names_rest_lines _ _ (inl refl) (join opened (sign_taken opened sign.Comma) (join opened (name_good x f.0) (join opened (act opened action.APPEND_NAME) (names_rest_good xs f.1.1))))

  pub names_good : (x : RawName) (xs : List RawName) → AllFine opened (names_out (x ∷ xs)) → G (Part part.names ∷ []) (names_script (x ∷ xs))
  names_good x xs f = by_table opened m.laws.plain part.names _ names_lines _ _ (inl refl) (join opened (act opened action.NO_NAMES) (join opened (name_good x f.1.0) (join opened (act opened action.APPEND_NAME) (names_rest_good xs f.1.1.1))))

  pub literal_good : (l : RawLiteral) → AllFine opened (literal_out l) → G (Part part.literal ∷ []) (literal_script l)
  literal_good (literal.Number true n p) f = by_table opened m.laws.plain part.literal _ literal_lines _ _ (inl refl) (join opened (sign_taken opened sign.Minus) (join opened (number_kept opened n f.0) (act opened action.MINUS_LITERAL)))
  literal_good (literal.Number false n p) f = by_table opened m.laws.plain part.literal _ literal_lines _ _ (inr (inl refl)) (join opened (number_kept opened n f.0) (act opened action.LITERAL))
  literal_good (literal.MaxInt p) f = by_table opened m.laws.plain part.literal _ literal_lines _ _ (inr (inr (inl refl))) (join opened (word_kept opened keyword.MaxInt refl) (act opened action.LIMIT_LITERAL))
  literal_good (literal.MinInt p) f = by_table opened m.laws.plain part.literal _ literal_lines _ _ (inr (inr (inr (inl refl)))) (join opened (word_kept opened keyword.MinInt refl) (act opened action.LIMIT_LITERAL))

  abbrev EndGood : RawEnd → Type 0
  EndGood e = (w : List Symbol) × (Among end_lines w × G w (end_script e))

  end_good : (e : RawEnd) → AllFine opened (end_out e) → EndGood e
  end_good (end.Number n p) f = (_, (inl refl, join opened (number_kept opened n f.0) (act opened action.NUMBER_END)))
  end_good (end.MaxInt p) f = (_, (inr (inl refl), join opened (word_kept opened keyword.MaxInt refl) (act opened action.LIMIT_END)))
  end_good (end.MinInt p) f = (_, (inr (inr (inl refl)), join opened (word_kept opened keyword.MinInt refl) (act opened action.LIMIT_END)))
  end_good (end.Name x) f = (_, (inr (inr (inr (inl refl))), join opened (name_good x f.0) (act opened action.NAME_END)))

  bound_good : (b : RawBound) → AllFine opened (bound_out b) → G (Part part.bound ∷ []) (bound_script b)
  bound_good b f = go b.minus b.end (parted opened (end_out b.end) (Did (bound_action b.minus) ∷ []) f).0
    where
      go : (s : Bool) (e : RawEnd) → AllFine opened (end_out e) → G (Part part.bound ∷ []) (bound_script (record { minus = s; end = e }))
      go true e f = let q = end_good e f in by_line opened part.bound BoundLine m.bound_law _ _ (minus q.0 q.1.0) (join opened (sign_taken opened sign.Minus) (join opened q.1.1 (act opened action.MINUS_BOUND)))
      go false e f = let q = end_good e f in by_line opened part.bound BoundLine m.bound_law _ _ (bound q.0 q.1.0) (join opened q.1.1 (act opened action.BOUND))

  pub domain_good : (d : RawDomain) → AllFine opened (domain_out d) → G (Part part.domain ∷ []) (domain_script d)
  domain_good (domain.Range low high) f =
      let q = parted opened (bound_out low) (bound_out high) (parted opened (bound_out low ++ bound_out high) (Did action.RANGE ∷ []) f).0 in
      by_line opened part.domain DomainLine m.domain_law _ _ range (join opened (bound_good low q.0) (join opened (sign_taken opened sign.UpTo) (join opened (bound_good high q.1) (act opened action.RANGE))))
  domain_good (domain.Nat p) f = by_line opened part.domain DomainLine m.domain_law _ _ naturals (join opened (word_kept opened keyword.Nat refl) (act opened action.SET_DOMAIN))
  domain_good (domain.Nat1 p) f = by_line opened part.domain DomainLine m.domain_law _ _ positives (join opened (word_kept opened keyword.Nat1 refl) (act opened action.SET_DOMAIN))
  domain_good (domain.Int p) f = by_line opened part.domain DomainLine m.domain_law _ _ integers (join opened (word_kept opened keyword.Int refl) (act opened action.SET_DOMAIN))
  domain_good (domain.Truths p) f = by_line opened part.domain DomainLine m.domain_law _ _ truths (join opened (word_kept opened keyword.Truths refl) (act opened action.SET_DOMAIN))
  domain_good (domain.Name x) f = by_line opened part.domain DomainLine m.domain_law _ _ named_domain (join opened (name_good x f.0) (act opened action.NAMED_DOMAIN))

  -- ---- substitutions

  pub record SubstGood (s : RawSubstTree) : Type 0 where
    pub simple : G (Part part.simple ∷ []) (subst_script true s)
    pub others : List Symbol
    pub are : Repeated (beside ∷ []) others
    pub chain : G (Part part.simple ∷ others) (subst_script false s)

  pub subst_part : (s : RawSubstTree) → SubstGood s → G (Part part.substitution ∷ []) (subst_script false s)
  subst_part s q = by_line opened part.substitution SubstitutionLine m.substitution_law _ _ (substitution q.others q.are) q.chain

  alone : (s : RawSubstTree) → subst_script true s ≡ subst_script false s → G (Part part.simple ∷ []) (subst_script false s) → SubstGood s
  alone s e g = record { simple = subst (λ (p : List Piece). G (Part part.simple ∷ []) p) (sym e) g; others = []; are = none; chain = g }

  simple_by : (w : List Symbol) (p : List Piece) → SimpleLine w → G w p → G (Part part.simple ∷ []) p
  simple_by w p l g = by_line opened part.simple SimpleLine m.simple_law w p l g

  one_more : (w x : List Symbol) → Repeated (w ∷ []) x → Repeated (w ∷ []) (x ++ w)
  one_more w [] none = subst (λ (y : List Symbol). Repeated (w ∷ []) y) (append-nil w) (more w [] (inl refl) none)
  one_more w y (more v x a r) = rw (append_assoc v x w) (more v (x ++ w) a (one_more w x r))

  parallel_good : (s t : RawSubstTree) → SubstGood s → SubstGood t → SubstGood (tree.Parallel s t)
  parallel_good s t a b =
      let c : G (Part part.simple ∷ (a.others ++ beside)) (subst_script false (tree.Parallel s t)) = join opened a.chain (join opened (sign_taken opened sign.Parallel) (join opened b.simple (act opened action.PARALLEL))) in
      let q = by_line opened part.substitution SubstitutionLine m.substitution_law _ _ (substitution (a.others ++ beside) (one_more beside a.others a.are)) c in
      record {
        simple = simple_by _ _ begin (join opened (word_taken opened keyword.Begin refl) (join opened q (word_taken opened keyword.End refl)));
        others = a.others ++ beside;
        are = one_more beside a.others a.are;
        chain = c;
      }

  sides_flat : (a b c : List Piece) → word keyword.Choice ∷ (Done action.NO_SIDES ∷ (a ++ (Done action.APPEND_SIDE ∷ (word keyword.ChoiceOr ∷ (b ++ (Done action.APPEND_SIDE ∷ (c ++ (word keyword.End ∷ (Done action.CHOICE ∷ []))))))))) ≡
      word keyword.Choice ∷ (Done action.NO_SIDES ∷ ((a ++ (Done action.APPEND_SIDE ∷ (word keyword.ChoiceOr ∷ (b ++ (Done action.APPEND_SIDE ∷ c))))) ++ (word keyword.End ∷ (Done action.CHOICE ∷ []))))
  sides_flat a b c = simp append_assoc refl

  mutual
    pub subst_good : (s : RawSubstTree) → IsFullSubst s → AllFine opened (subst_out s) → SubstGood s
    subst_good tree.Skip u f = alone tree.Skip refl (simple_by _ _ skip (join opened (word_taken opened keyword.Skip refl) (act opened action.SKIP)))
    subst_good (tree.Assign x t) u f =
        let q = (parted opened (term_out t) (Did action.ASSIGN ∷ []) f.1).0 in
        alone (tree.Assign x t) refl (simple_by _ _ assign (join opened (name_good x f.0) (join opened (sign_taken opened sign.Assign) (join opened (term_good opened m.laws t q).1 (act opened action.ASSIGN)))))
    subst_good (tree.Among x d) u f =
        let q = (parted opened (domain_out d) (Did action.AMONG ∷ []) f.1).0 in
        alone (tree.Among x d) refl (simple_by _ _ among (join opened (name_good x f.0) (join opened (sign_taken opened sign.Among) (join opened (domain_good d q) (act opened action.AMONG)))))
    subst_good (tree.If c s) u f =
        let q = parted opened (formula_out c) (subst_out s) (parted opened (formula_out c ++ subst_out s) (Did action.IF_WITHOUT_ELSE ∷ []) f).0 in
        let a = formula_good opened m.laws c q.0 in
        let b = subst_part s (subst_good s u q.1) in
        alone (tree.If c s) refl (simple_by _ _ (if zero _ (inr (inl refl)))
        (join opened (word_taken opened keyword.If refl) (join opened a.formula (join opened (word_taken opened keyword.Then refl) (join opened b (join opened (word_taken opened keyword.End refl) (act opened action.IF_WITHOUT_ELSE)))))))
    subst_good (tree.IfElse c s t) u f =
        let d = parted opened (formula_out c ++ subst_out s) (subst_out t) (parted opened ((formula_out c ++ subst_out s) ++ subst_out t) (Did action.IF ∷ []) f).0 in
        let q = parted opened (formula_out c) (subst_out s) d.0 in
        let a = formula_good opened m.laws c q.0 in
        let b = subst_part s (subst_good s u.0 q.1) in
        let e = subst_part t (subst_good t u.1 d.1) in
        alone (tree.IfElse c s t) refl (simple_by _ _ (if zero _ (inl refl))
        (join opened (word_taken opened keyword.If refl) (join opened a.formula (join opened (word_taken opened keyword.Then refl) (join opened b
        (join opened (word_taken opened keyword.Else refl) (join opened e (join opened (word_taken opened keyword.End refl) (act opened action.IF)))))))))
    subst_good (tree.Choice ss) u f =
        let q = (parted opened (choice_out ss) (Did action.CHOICE ∷ []) f.1).0 in
        alone (tree.Choice ss) refl (choice_good ss u q)
    subst_good (tree.Any x c s) u f =
        let q = parted opened (formula_out c) (subst_out s) (parted opened (formula_out c ++ subst_out s) (Did action.ANY ∷ []) f.1).0 in
        let a = formula_good opened m.laws c q.0 in
        let b = subst_part s (subst_good s u q.1) in
        alone (tree.Any x c s) refl (simple_by _ _ any
        (join opened (word_taken opened keyword.AnyOf refl) (join opened (name_good x f.0) (join opened (word_taken opened keyword.Where refl) (join opened a.formula
        (join opened (word_taken opened keyword.Then refl) (join opened b (join opened (word_taken opened keyword.End refl) (act opened action.ANY)))))))))
    subst_good (tree.Parallel s t) u f =
        let q = parted opened (subst_out s) (subst_out t) (parted opened (subst_out s ++ subst_out t) (Did action.PARALLEL ∷ []) f).0 in
        parallel_good s t (subst_good s u.0 q.0) (subst_good t u.1 q.1)

    -- two sides or more
    choice_good : (ss : RawSubsts) → IsFullSubst (tree.Choice ss) → AllFine opened (choice_out ss) → G (Part part.simple ∷ []) (subst_script false (tree.Choice ss))
    choice_good tree.NoSide u f = absurd u.0
    choice_good (tree.Side s tree.NoSide) u f = absurd u.0
    choice_good (tree.Side s (tree.Side t ss)) u f =
        let q = parted opened (subst_out s) (Did action.APPEND_SIDE ∷ choice_out (tree.Side t ss)) f in
        let r = parted opened (subst_out t) (Did action.APPEND_SIDE ∷ choice_out ss) q.1.1 in
        let a = subst_part s (subst_good s u.1.0 q.0) in
        let b = subst_part t (subst_good t u.1.1.0 r.0) in
        let c = sides_good ss u.1.1.1 r.1.1 in
        let ended : G (c.0 ++ (Take (keyword_class keyword.End) ∷ (Act action.CHOICE ∷ []))) (sides_script false ss ++ (word keyword.End ∷ (Done action.CHOICE ∷ []))) = join opened c.1.1 (join opened (word_taken opened keyword.End refl) (act opened action.CHOICE)) in
        let whole = join opened (word_taken opened keyword.Choice refl) (join opened (act opened action.NO_SIDES) (join opened a (join opened (act opened action.APPEND_SIDE) (join opened (word_taken opened keyword.ChoiceOr refl) (join opened b (join opened (act opened action.APPEND_SIDE) ended)))))) in
        simple_by _ _ (choice c.0 c.1.0) (subst (λ (p : List Piece). G (Take (keyword_class keyword.Choice) ∷ (Act action.NO_SIDES ∷ (Part part.substitution ∷ (Act action.APPEND_SIDE ∷ (or_side ++ (c.0 ++ (Take (keyword_class keyword.End) ∷ (Act action.CHOICE ∷ [])))))))) p) (sides_flat (subst_script false s) (subst_script false t) (sides_script false ss)) whole)

    -- the sides behind the second
    sides_good : (ss : RawSubsts) → AreFullSides ss → AllFine opened (choice_out ss) → (x : List Symbol) × (Repeated (or_side ∷ []) x × G x (sides_script false ss))
    sides_good tree.NoSide u f = ([], (none, empty))
    sides_good (tree.Side s ss) u f =
        let q = parted opened (subst_out s) (Did action.APPEND_SIDE ∷ choice_out ss) f in
        let b = subst_part s (subst_good s u.0 q.0) in
        let c = sides_good ss u.1 q.1.1 in
        let h : G (or_side ++ c.0) (word keyword.ChoiceOr ∷ (subst_script false s ++ (Done action.APPEND_SIDE ∷ sides_script false ss))) = join opened (word_taken opened keyword.ChoiceOr refl) (join opened b (join opened (act opened action.APPEND_SIDE) c.1.1)) in
        (or_side ++ c.0, (more or_side c.0 (inl refl) c.1.0, h))
