-- Units. Behind `(` of the table stands a formula or a term; so it is as if each had a line of its own.
use Rattle.std.specs.Prelude.{◌≡◌, ◌<◌, ℕ, zero, suc, List, [], ◌∷◌, ◌++◌, refl, length}
use Rattle.std.proofs.Common.{arith, ◌⊎◌, inl, inr, append_assoc}
use Rattle.cb_lex.specs.declared.token.Keyword.TheVariants as keyword
use Rattle.cb_lex.specs.declared.token.Sign.TheVariants as sign
use Rattle.cb_engine.specs.declared.Symbol.{Symbol}
use Rattle.cb_engine.specs.declared.Symbol.TheVariants.{Take, Keep, Act, Part, Gives, Then}
use Rattle.cb_engine.specs.declared.Terminal.{Terminal}
use Rattle.cb_engine.specs.declared.Item.{Item}
use Rattle.cb_engine.specs.Rules.Runs.{ends, takes, goes_on}
use Rattle.cb_engine.specs.Lines.{alternatives, OneOf, NoThen, Among}
use Rattle.cb_engine.specs.Repeating.{part_no_then}
use Rattle.cb_grammar.specs.declared.table.TheConstants.{GRAMMAR}
use Rattle.cb_grammar.specs.declared.actions.TheConstants as action
use Rattle.cb_grammar.specs.Classes.{keyword_class, sign_class}
use Rattle.cb_grammar.specs.Numbers as part
use Rattle.cb_grammar.specs.Written.{opening, closing, dot}
use Rattle.cb_written.specs.Units.{relations, UnitLine}
use Rattle.cb_written.specs.Units.UnitLine.{always_true, always_false, not, parentheses, relation, for_all, exists}
use Rattle.cb_written.proofs.Pieces.{Run, Into, Read, Means, take_no_then, among_no_then, under, open_part, close_part, open_only, close_only, expand, contract}

-- units that begin with a word or sign of their own
abbrev starts : List (List Symbol)
starts =
    (Take (keyword_class keyword.AlwaysTrue) ∷ Act action.ALWAYS_TRUE ∷ []) ∷
    (Take (keyword_class keyword.AlwaysFalse) ∷ Act action.ALWAYS_FALSE ∷ []) ∷
    (Take (keyword_class keyword.Not) ∷ opening ∷ Part part.formula ∷ closing ∷ Act action.NOT ∷ []) ∷
    (Take (sign_class sign.Bang) ∷ Keep 1 ∷ dot ∷ opening ∷ Part part.part ∷ Take (sign_class sign.Implies) ∷ Part part.part ∷ closing ∷ Act action.FOR_ALL ∷ []) ∷
    (Take (sign_class sign.Hash) ∷ Keep 1 ∷ dot ∷ opening ∷ Part part.part ∷ closing ∷ Act action.EXISTS ∷ []) ∷ []

-- each with something behind it, and then others
abbrev followed : List Symbol → List (List Symbol) → List (List Symbol) → List (List Symbol)
followed t [] others = others
followed t (h ∷ hs) others = (h ++ t) ∷ followed t hs others

of_followed : (t : List Symbol) (hs others : List (List Symbol)) (p : List Symbol) → Among (followed t hs others) p → ((h : List Symbol) × (Among hs h × p ≡ h ++ t)) ⊎ Among others p
of_followed t [] others p a = inr a
of_followed t (h ∷ hs) others p (inl e) = inl (h, (inl refl, e))
of_followed t (h ∷ hs) others p (inr a) = go (of_followed t hs others p a)
  where
    go : ((g : List Symbol) × (Among hs g × p ≡ g ++ t)) ⊎ Among others p → ((g : List Symbol) × (Among (h ∷ hs) g × p ≡ g ++ t)) ⊎ Among others p
    go (inl (g, (b, e))) = inl (g, (inr b, e))
    go (inr b) = inr b

one_followed : (t : List Symbol) (hs others : List (List Symbol)) (h : List Symbol) → Among hs h → Among (followed t hs others) (h ++ t)
one_followed t [] others h a = absurd a
one_followed t (g ∷ hs) others h (inl e) = inl (rw e refl)
one_followed t (g ∷ hs) others h (inr a) = inr (one_followed t hs others h a)

other_followed : (t : List Symbol) (hs others : List (List Symbol)) (p : List Symbol) → Among others p → Among (followed t hs others) p
other_followed t [] others p a = a
other_followed t (g ∷ hs) others p a = inr (other_followed t hs others p a)

abbrev none : List Symbol
none = []

abbrev headed : List Symbol
headed = Part part.factor_start ∷ Part part.term_tail ∷ []

abbrev tail_given : List Symbol
tail_given = Part part.formula_tail ∷ Gives 0 ∷ []

abbrev unit_others : List (List Symbol)
unit_others = (opening ∷ Part part.formula_or_term ∷ Then part.after_formula part.after_term ∷ []) ∷ (headed ++ Part part.relation ∷ []) ∷ []

abbrev either_others : List (List Symbol)
either_others = (opening ∷ Part part.formula_or_term ∷ Then part.inside_formula part.inside_term ∷ []) ∷ (headed ++ Part part.relation_or_none ∷ []) ∷ []

abbrev given : List (List Symbol)
given = (Gives 1 ∷ []) ∷ []

abbrev units : List (List Symbol)
units = followed none starts unit_others

abbrev eithers : List (List Symbol)
eithers = followed tail_given starts either_others

abbrev relations_or_none : List (List Symbol)
relations_or_none = followed tail_given relations given

unit_lines : alternatives GRAMMAR part.unit ≡ units
unit_lines = refl

either_lines : alternatives GRAMMAR part.formula_or_term ≡ eithers
either_lines = refl

relation_lines : alternatives GRAMMAR part.relation ≡ relations
relation_lines = refl

relation_or_none_lines : alternatives GRAMMAR part.relation_or_none ≡ relations_or_none
relation_or_none_lines = refl

formula_lines : alternatives GRAMMAR part.formula ≡ (Part part.unit ∷ Part part.formula_tail ∷ []) ∷ []
formula_lines = refl

term_lines : alternatives GRAMMAR part.term ≡ (Part part.factor ∷ Part part.term_tail ∷ []) ∷ []
term_lines = refl

factor_lines : alternatives GRAMMAR part.factor ≡ (opening ∷ Part part.term ∷ closing ∷ []) ∷ (Part part.factor_start ∷ []) ∷ []
factor_lines = refl

after_formula_lines : alternatives GRAMMAR part.after_formula ≡ (closing ∷ []) ∷ []
after_formula_lines = refl

after_term_lines : alternatives GRAMMAR part.after_term ≡ (closing ∷ Part part.term_tail ∷ Part part.relation ∷ []) ∷ []
after_term_lines = refl

inside_formula_lines : alternatives GRAMMAR part.inside_formula ≡ (closing ∷ tail_given) ∷ []
inside_formula_lines = refl

inside_term_lines : alternatives GRAMMAR part.inside_term ≡ (closing ∷ Part part.term_tail ∷ Part part.relation_or_none ∷ []) ∷ []
inside_term_lines = refl

-- a formula or a term, from its first unit or factor
to_formula : (k : List Symbol) → Into (Part part.unit ∷ Part part.formula_tail ∷ k) (Part part.formula ∷ k)
to_formula k = close_only part.formula _ formula_lines k

to_term : (k : List Symbol) → Into (headed ++ k) (Part part.term ∷ k)
to_term k ts out m = close_only part.term _ term_lines k ts out (close_part part.factor _ factor_lines (Part part.term_tail ∷ k) ts out (inr (inl m)))

enclosed_term : (k : List Symbol) → Into (opening ∷ Part part.term ∷ closing ∷ Part part.term_tail ∷ k) (Part part.term ∷ k)
enclosed_term k ts out m = close_only part.term _ term_lines k ts out (close_part part.factor _ factor_lines (Part part.term_tail ∷ k) ts out (inl m))

term_begun : (k : List Symbol) (ts : List Terminal) (out : List Item) → Run (Part part.term ∷ k) ts out → OneOf (λ a. Run (a ++ (Part part.term_tail ∷ k)) ts out) ((opening ∷ Part part.term ∷ closing ∷ []) ∷ (Part part.factor_start ∷ []) ∷ [])
term_begun k ts out m = open_part part.factor _ factor_lines (Part part.term_tail ∷ k) ts out (open_only part.term _ term_lines k ts out m)

to_unit : (p k : List Symbol) → Among unit_others p → NoThen (p ++ k) → Into (p ++ k) (Part part.unit ∷ k)
to_unit p k a free ts out m = contract part.unit units unit_lines [] p k (other_followed none starts unit_others p a) free ts out m

-- which sort it was
gives_formula : (a b : ℕ) (k : List Symbol) → Into (Gives 0 ∷ Then a b ∷ k) (Part a ∷ k)
gives_formula a b k ts out (goes_on m) = m
gives_formula a b k ts out (ends g) = let q = g refl in absurd (cc)

gives_term : (a b : ℕ) (k : List Symbol) → Into (Gives 1 ∷ Then a b ∷ k) (Part b ∷ k)
gives_term a b k ts out (goes_on m) = m
gives_term a b k ts out (ends g) = let q = g refl in absurd (cc)

gives_no_then : (s : ℕ) (k : List Symbol) → NoThen (Gives s ∷ k)
gives_no_then s k = λ a b j e. absurd (cc)

-- with its tail the formula goes on, and without it gives its sort
module _ (a b : ℕ) (k : List Symbol) where
  give : (u : List Symbol) → Into (u ++ (Part part.formula_tail ∷ Part a ∷ k)) (u ++ (tail_given ++ (Then a b ∷ k)))
  give u ts out m =
      rw (append_assoc u (Part part.formula_tail ∷ []) (Gives 0 ∷ Then a b ∷ k)) at (under (u ++ Part part.formula_tail ∷ []) (Part a ∷ k) (Gives 0 ∷ Then a b ∷ k) (part_no_then a k) (λ us o r. goes_on r) ts out (rw (append_assoc u (Part part.formula_tail ∷ []) (Part a ∷ k)) m))

  given_back : (u : List Symbol) → Into (u ++ (tail_given ++ (Then a b ∷ k))) (u ++ (Part part.formula_tail ∷ Part a ∷ k))
  given_back u ts out m =
      rw (append_assoc u (Part part.formula_tail ∷ []) (Part a ∷ k)) at (under (u ++ Part part.formula_tail ∷ []) (Gives 0 ∷ Then a b ∷ k) (Part a ∷ k) (gives_no_then 0 _) (gives_formula a b k) ts out (rw (append_assoc u (Part part.formula_tail ∷ []) (Gives 0 ∷ Then a b ∷ k)) m))

  -- a relation makes a formula of a term
  relation_reads : (u : List Symbol) (ts : List Terminal) (out : List Item) → Run (u ++ (Part part.relation_or_none ∷ Then a b ∷ k)) ts out →
      Run (u ++ (Part part.relation ∷ Part part.formula_tail ∷ Part a ∷ k)) ts out ⊎ Run (u ++ (Part b ∷ k)) ts out
  relation_reads u ts out m = let q = expand part.relation_or_none relations_or_none relation_or_none_lines u (Then a b ∷ k) ts out m in go q.0 (of_followed tail_given relations given q.0 q.1.0) q.1.1
    where
      go : (p : List Symbol) → ((h : List Symbol) × (Among relations h × p ≡ h ++ tail_given)) ⊎ Among given p → Run (u ++ (p ++ (Then a b ∷ k))) ts out → Run (u ++ (Part part.relation ∷ Part part.formula_tail ∷ Part a ∷ k)) ts out ⊎ Run (u ++ (Part b ∷ k)) ts out
      go p (inl (h, (c, e))) m =
          let n : Run ((u ++ h) ++ (tail_given ++ (Then a b ∷ k))) ts out = rw (append_assoc u h (tail_given ++ (Then a b ∷ k))) (rw (e, append_assoc h tail_given (Then a b ∷ k)) at m) in
          let r : Run (u ++ (h ++ (Part part.formula_tail ∷ Part a ∷ k))) ts out = rw (append_assoc u h (Part part.formula_tail ∷ Part a ∷ k)) at (given_back (u ++ h) ts out n) in
          inl (contract part.relation relations relation_lines u h (Part part.formula_tail ∷ Part a ∷ k) c (among_no_then relations refl h _ c) ts out r)
      go p (inr (inl e)) m = inr (under u (Gives 1 ∷ Then a b ∷ k) (Part b ∷ k) (gives_no_then 1 _) (gives_term a b k) ts out (rw e at m))
      go p (inr (inr e)) m = absurd e

  related : Into (Part part.relation ∷ Part part.formula_tail ∷ Part a ∷ k) (Part part.relation_or_none ∷ Then a b ∷ k)
  related ts out m =
      let q = expand part.relation relations relation_lines [] (Part part.formula_tail ∷ Part a ∷ k) ts out m in
      contract part.relation_or_none relations_or_none relation_or_none_lines [] (q.0 ++ tail_given) (Then a b ∷ k) (one_followed tail_given relations given q.0 q.1.0) (rw (append_assoc q.0 tail_given (Then a b ∷ k)) (among_no_then relations refl q.0 _ q.1.0)) ts out
      (rw (append_assoc q.0 tail_given (Then a b ∷ k)) (give q.0 ts out q.1.1))

  unrelated : Into (Part b ∷ k) (Part part.relation_or_none ∷ Then a b ∷ k)
  unrelated ts out m = contract part.relation_or_none relations_or_none relation_or_none_lines [] (Gives 1 ∷ []) (Then a b ∷ k) (other_followed tail_given relations given _ (inl refl)) (gives_no_then 1 _) ts out (goes_on m)

  to_either : (p : List Symbol) → Among either_others p → NoThen (p ++ (Then a b ∷ k)) → Into (p ++ (Then a b ∷ k)) (Part part.formula_or_term ∷ Then a b ∷ k)
  to_either p c free ts out m = contract part.formula_or_term eithers either_lines [] p (Then a b ∷ k) (other_followed tail_given starts either_others p c) free ts out m

-- a token and what is behind it
record Opened (c : ℕ) (j : List Symbol) (ts : List Terminal) (out : List Item) : Type 0 where
  pub rest : List Terminal
  pub runs : Run j rest out
  pub shorter : length rest < length ts
  pub back : (k : List Symbol) → Run k rest out → Run (Take c ∷ k) ts out

opened_of : (c : ℕ) (j : List Symbol) (ts : List Terminal) (out : List Item) → Run (Take c ∷ j) ts out → Opened c j ts out
opened_of c j ts out (takes {t = t} {ts = us} e m) = record { rest = us; runs = m; shorter = omega arith; back = λ k r. takes e r }
opened_of c j ts out (ends g) = let q = g refl in absurd (cc)

-- what is known of texts with less than so many tokens
record Known (f : ℕ) : Type 0 where
  pub reads : (a b : ℕ) (k : List Symbol) (ts : List Terminal) (out : List Item) → length ts < f → Run (Part part.formula_or_term ∷ Then a b ∷ k) ts out → Run (Part part.formula ∷ Part a ∷ k) ts out ⊎ Run (Part part.term ∷ Part b ∷ k) ts out
  pub of_formula : (a b : ℕ) (k : List Symbol) (ts : List Terminal) (out : List Item) → length ts < f → Run (Part part.formula ∷ Part a ∷ k) ts out → Run (Part part.formula_or_term ∷ Then a b ∷ k) ts out
  pub of_term : (a b : ℕ) (k : List Symbol) (ts : List Terminal) (out : List Item) → length ts < f → Run (Part part.term ∷ Part b ∷ k) ts out → Run (Part part.formula_or_term ∷ Then a b ∷ k) ts out

module _ (f : ℕ) (known : Known f) (a b : ℕ) (k : List Symbol) (ts : List Terminal) (out : List Item) (l : length ts < suc f) where
  -- a parenthesis within
  abbrev inner : List Symbol
  inner = Part part.formula_or_term ∷ Then part.inside_formula part.inside_term ∷ Then a b ∷ k

  abbrev outer : List Symbol
  outer = Part part.formula_or_term ∷ Then part.after_formula part.after_term ∷ Part part.formula_tail ∷ Part a ∷ k

  less : {c : ℕ} {j : List Symbol} (o : Opened c j ts out) → length o.rest < f
  less o = omega (arith, l, o.shorter)

  inside : Into (Part part.after_formula ∷ Part part.formula_tail ∷ Part a ∷ k) (Part part.inside_formula ∷ Then a b ∷ k)
  inside us o m = close_only part.inside_formula _ inside_formula_lines (Then a b ∷ k) us o (give a b k (closing ∷ []) us o (open_only part.after_formula _ after_formula_lines (Part part.formula_tail ∷ Part a ∷ k) us o m))

  outside : Into (Part part.inside_formula ∷ Then a b ∷ k) (Part part.after_formula ∷ Part part.formula_tail ∷ Part a ∷ k)
  outside us o m = close_only part.after_formula _ after_formula_lines (Part part.formula_tail ∷ Part a ∷ k) us o (given_back a b k (closing ∷ []) us o (open_only part.inside_formula _ inside_formula_lines (Then a b ∷ k) us o m))

  enclosed_formula : Into (opening ∷ outer) (Part part.formula ∷ Part a ∷ k)
  enclosed_formula us o m = to_formula (Part a ∷ k) us o (to_unit _ (Part part.formula_tail ∷ Part a ∷ k) (inl refl) (take_no_then _ _) us o m)

  inner_reads : Opened (sign_class sign.OpenParenthesis) inner ts out → Run (Part part.formula ∷ Part a ∷ k) ts out ⊎ Run (Part part.term ∷ Part b ∷ k) ts out
  inner_reads o = go (known.reads part.inside_formula part.inside_term (Then a b ∷ k) o.rest out (less o) o.runs)
    where
      of_relation : Run (Part part.term ∷ closing ∷ Part part.term_tail ∷ Part part.relation ∷ Part part.formula_tail ∷ Part a ∷ k) o.rest out ⊎ Run (Part part.term ∷ closing ∷ Part part.term_tail ∷ Part b ∷ k) o.rest out →
          Run (Part part.formula ∷ Part a ∷ k) ts out ⊎ Run (Part part.term ∷ Part b ∷ k) ts out
      of_relation (inl r) =
          let s = under (Part part.term ∷ []) _ _ (take_no_then _ _) (close_only part.after_term _ after_term_lines (Part part.formula_tail ∷ Part a ∷ k)) o.rest out r in
          inl (enclosed_formula ts out (o.back outer (known.of_term part.after_formula part.after_term (Part part.formula_tail ∷ Part a ∷ k) o.rest out (less o) s)))
      of_relation (inr r) = inr (enclosed_term (Part b ∷ k) ts out (o.back _ r))

      go : Run (Part part.formula ∷ Part part.inside_formula ∷ Then a b ∷ k) o.rest out ⊎ Run (Part part.term ∷ Part part.inside_term ∷ Then a b ∷ k) o.rest out → Run (Part part.formula ∷ Part a ∷ k) ts out ⊎ Run (Part part.term ∷ Part b ∷ k) ts out
      go (inl r) =
          let s = under (Part part.formula ∷ []) _ _ (part_no_then _ _) outside o.rest out r in
          inl (enclosed_formula ts out (o.back outer (known.of_formula part.after_formula part.after_term (Part part.formula_tail ∷ Part a ∷ k) o.rest out (less o) s)))
      go (inr r) =
          let s = under (Part part.term ∷ []) _ _ (part_no_then _ _) (open_only part.inside_term _ inside_term_lines (Then a b ∷ k)) o.rest out r in
          of_relation (relation_reads a b k (Part part.term ∷ closing ∷ Part part.term_tail ∷ []) o.rest out s)

  either_reads : Run (Part part.formula_or_term ∷ Then a b ∷ k) ts out → Run (Part part.formula ∷ Part a ∷ k) ts out ⊎ Run (Part part.term ∷ Part b ∷ k) ts out
  either_reads m = let q = expand part.formula_or_term eithers either_lines [] (Then a b ∷ k) ts out m in go q.0 (of_followed tail_given starts either_others q.0 q.1.0) q.1.1
    where
      of_head : Run (headed ++ (Part part.relation ∷ Part part.formula_tail ∷ Part a ∷ k)) ts out ⊎ Run (headed ++ (Part b ∷ k)) ts out → Run (Part part.formula ∷ Part a ∷ k) ts out ⊎ Run (Part part.term ∷ Part b ∷ k) ts out
      of_head (inl r) = inl (to_formula (Part a ∷ k) ts out (to_unit _ (Part part.formula_tail ∷ Part a ∷ k) (inr (inl refl)) (part_no_then _ _) ts out r))
      of_head (inr r) = inr (to_term (Part b ∷ k) ts out r)

      go : (p : List Symbol) → ((h : List Symbol) × (Among starts h × p ≡ h ++ tail_given)) ⊎ Among either_others p → Run (p ++ (Then a b ∷ k)) ts out → Run (Part part.formula ∷ Part a ∷ k) ts out ⊎ Run (Part part.term ∷ Part b ∷ k) ts out
      go p (inl (h, (c, e))) m =
          let n : Run (h ++ (tail_given ++ (Then a b ∷ k))) ts out = rw (e, append_assoc h tail_given (Then a b ∷ k)) at m in
          let r : Run ((h ++ none) ++ (Part part.formula_tail ∷ Part a ∷ k)) ts out = rw (append_assoc h none (Part part.formula_tail ∷ Part a ∷ k)) (given_back a b k h ts out n) in
          inl (to_formula (Part a ∷ k) ts out (contract part.unit units unit_lines [] (h ++ none) (Part part.formula_tail ∷ Part a ∷ k) (one_followed none starts unit_others h c) (among_no_then units refl (h ++ none) _ (one_followed none starts unit_others h c)) ts out r))
      go p (inr (inl e)) m = inner_reads (opened_of _ _ ts out (rw e at m))
      go p (inr (inr (inl e))) m = of_head (relation_reads a b k headed ts out (rw e at m))
      go p (inr (inr (inr e))) m = absurd e

  inner_either : (o : Opened (sign_class sign.OpenParenthesis) outer ts out) → Run inner o.rest out → Run (Part part.formula_or_term ∷ Then a b ∷ k) ts out
  inner_either o r = to_either a b k _ (inl refl) (take_no_then _ _) ts out (o.back inner r)

  term_inside : (us : List Terminal) (o : List Item) → Run (closing ∷ Part part.term_tail ∷ Part part.relation_or_none ∷ Then a b ∷ k) us o → Run (Part part.inside_term ∷ Then a b ∷ k) us o
  term_inside us o m = close_only part.inside_term _ inside_term_lines (Then a b ∷ k) us o m

  formula_either : Run (Part part.formula ∷ Part a ∷ k) ts out → Run (Part part.formula_or_term ∷ Then a b ∷ k) ts out
  formula_either m =
      let q = expand part.unit units unit_lines [] (Part part.formula_tail ∷ Part a ∷ k) ts out (open_only part.formula _ formula_lines (Part a ∷ k) ts out m) in
      go q.0 (of_followed none starts unit_others q.0 q.1.0) q.1.1
    where
      of_outer : (o : Opened (sign_class sign.OpenParenthesis) outer ts out) → Run (Part part.formula ∷ Part part.after_formula ∷ Part part.formula_tail ∷ Part a ∷ k) o.rest out ⊎ Run (Part part.term ∷ Part part.after_term ∷ Part part.formula_tail ∷ Part a ∷ k) o.rest out →
          Run (Part part.formula_or_term ∷ Then a b ∷ k) ts out
      of_outer o (inl r) =
          inner_either o (known.of_formula part.inside_formula part.inside_term (Then a b ∷ k) o.rest out (less o) (under (Part part.formula ∷ []) _ _ (part_no_then _ _) inside o.rest out r))
      of_outer o (inr r) =
          let s = under (Part part.term ∷ []) _ _ (part_no_then _ _) (open_only part.after_term _ after_term_lines (Part part.formula_tail ∷ Part a ∷ k)) o.rest out r in
          let t = under (Part part.term ∷ closing ∷ Part part.term_tail ∷ []) _ _ (part_no_then _ _) (related a b k) o.rest out s in
          inner_either o (known.of_term part.inside_formula part.inside_term (Then a b ∷ k) o.rest out (less o) (under (Part part.term ∷ []) _ _ (take_no_then _ _) term_inside o.rest out t))

      go : (p : List Symbol) → ((h : List Symbol) × (Among starts h × p ≡ h ++ none)) ⊎ Among unit_others p → Run (p ++ (Part part.formula_tail ∷ Part a ∷ k)) ts out → Run (Part part.formula_or_term ∷ Then a b ∷ k) ts out
      go p (inl (h, (c, e))) m =
          let n : Run (h ++ (Part part.formula_tail ∷ Part a ∷ k)) ts out = rw (e, append_assoc h none (Part part.formula_tail ∷ Part a ∷ k)) at m in
          let r : Run ((h ++ tail_given) ++ (Then a b ∷ k)) ts out = rw (append_assoc h tail_given (Then a b ∷ k)) (give a b k h ts out n) in
          contract part.formula_or_term eithers either_lines [] (h ++ tail_given) (Then a b ∷ k) (one_followed tail_given starts either_others h c) (among_no_then eithers refl (h ++ tail_given) _ (one_followed tail_given starts either_others h c)) ts out r
      go p (inr (inl e)) m =
          let o = opened_of (sign_class sign.OpenParenthesis) outer ts out (rw e at m) in
          of_outer o (known.reads part.after_formula part.after_term (Part part.formula_tail ∷ Part a ∷ k) o.rest out (less o) o.runs)
      go p (inr (inr (inl e))) m = to_either a b k _ (inr (inl refl)) (part_no_then _ _) ts out (under headed _ _ (part_no_then _ _) (related a b k) ts out (rw e at m))
      go p (inr (inr (inr e))) m = absurd e

  term_either : Run (Part part.term ∷ Part b ∷ k) ts out → Run (Part part.formula_or_term ∷ Then a b ∷ k) ts out
  term_either m = go (term_begun (Part b ∷ k) ts out m)
    where
      go : OneOf (λ c. Run (c ++ (Part part.term_tail ∷ Part b ∷ k)) ts out) ((opening ∷ Part part.term ∷ closing ∷ []) ∷ (Part part.factor_start ∷ []) ∷ []) → Run (Part part.formula_or_term ∷ Then a b ∷ k) ts out
      go (inl p) =
          let o = opened_of (sign_class sign.OpenParenthesis) (Part part.term ∷ closing ∷ Part part.term_tail ∷ Part b ∷ k) ts out p in
          let s = under (Part part.term ∷ closing ∷ Part part.term_tail ∷ []) _ _ (part_no_then _ _) (unrelated a b k) o.rest out o.runs in
          let t = under (Part part.term ∷ []) _ _ (take_no_then _ _) term_inside o.rest out s in
          to_either a b k _ (inl refl) (take_no_then _ _) ts out (o.back inner (known.of_term part.inside_formula part.inside_term (Then a b ∷ k) o.rest out (less o) t))
      go (inr (inl p)) = to_either a b k _ (inr (inl refl)) (part_no_then _ _) ts out (under headed _ _ (part_no_then _ _) (unrelated a b k) ts out p)
      go (inr (inr p)) = absurd p

all_known : (f : ℕ) → Known f
all_known zero = record { reads = λ a b k ts out l m. absurd (omega arith); of_formula = λ a b k ts out l m. absurd (omega arith); of_term = λ a b k ts out l m. absurd (omega arith) }
all_known (suc f) = let q = all_known f in record { reads = λ a b k ts out l m. either_reads f q a b k ts out l m; of_formula = λ a b k ts out l m. formula_either f q a b k ts out l m; of_term = λ a b k ts out l m. term_either f q a b k ts out l m }

-- units

abbrev enclosed : List Symbol → List Symbol
enclosed k = Part part.formula_or_term ∷ Then part.after_formula part.after_term ∷ k

unit_reads : (k : List Symbol) (ts : List Terminal) (out : List Item) → Run (Part part.unit ∷ k) ts out → Read UnitLine k ts out
unit_reads k ts out m = go (open_part part.unit units unit_lines k ts out m)
  where
    of_relation : Run (Part part.term ∷ Part part.relation ∷ k) ts out → Read UnitLine k ts out
    of_relation p = let q = expand part.relation relations relation_lines (Part part.term ∷ []) k ts out p in (Part part.term ∷ q.0, (relation q.0 q.1.0, q.1.1))

    within : (o : Opened (sign_class sign.OpenParenthesis) (enclosed k) ts out) → Run (Part part.formula ∷ Part part.after_formula ∷ k) o.rest out ⊎ Run (Part part.term ∷ Part part.after_term ∷ k) o.rest out → Read UnitLine k ts out
    within o (inl r) = (_, (parentheses, o.back _ (under (Part part.formula ∷ []) _ _ (part_no_then _ _) (open_only part.after_formula _ after_formula_lines k) o.rest out r)))
    within o (inr r) = of_relation (enclosed_term (Part part.relation ∷ k) ts out (o.back _ (under (Part part.term ∷ []) _ _ (part_no_then _ _) (open_only part.after_term _ after_term_lines k) o.rest out r)))

    go : OneOf (λ a. Run (a ++ k) ts out) units → Read UnitLine k ts out
    go (inl p) = (_, (always_true, p))
    go (inr (inl p)) = (_, (always_false, p))
    go (inr (inr (inl p))) = (_, (not, p))
    go (inr (inr (inr (inl p)))) = (_, (for_all, p))
    go (inr (inr (inr (inr (inl p))))) = (_, (exists, p))
    go (inr (inr (inr (inr (inr (inl p)))))) =
        let o = opened_of (sign_class sign.OpenParenthesis) (enclosed k) ts out p in
        let q = all_known (suc (length o.rest)) in
        within o (q.reads part.after_formula part.after_term k o.rest out (omega arith) o.runs)
    go (inr (inr (inr (inr (inr (inr (inl p))))))) = of_relation (to_term (Part part.relation ∷ k) ts out p)
    go (inr (inr (inr (inr (inr (inr (inr p))))))) = absurd p

of_enclosed : (k : List Symbol) → Into (opening ∷ enclosed k) (Part part.unit ∷ k)
of_enclosed k = to_unit _ k (inl refl) (take_no_then _ _)

related_spells : (k : List Symbol) → Into (Part part.term ∷ Part part.relation ∷ k) (Part part.unit ∷ k)
related_spells k ts out m = go (term_begun (Part part.relation ∷ k) ts out m)
  where
    go : OneOf (λ c. Run (c ++ (Part part.term_tail ∷ Part part.relation ∷ k)) ts out) ((opening ∷ Part part.term ∷ closing ∷ []) ∷ (Part part.factor_start ∷ []) ∷ []) → Run (Part part.unit ∷ k) ts out
    go (inl p) =
        let o = opened_of (sign_class sign.OpenParenthesis) (Part part.term ∷ closing ∷ Part part.term_tail ∷ Part part.relation ∷ k) ts out p in
        let s = under (Part part.term ∷ []) _ _ (take_no_then _ _) (close_only part.after_term _ after_term_lines k) o.rest out o.runs in
        let q = all_known (suc (length o.rest)) in
        of_enclosed k ts out (o.back (enclosed k) (q.of_term part.after_formula part.after_term k o.rest out (omega arith) s))
    go (inr (inl p)) = to_unit _ k (inr (inl refl)) (part_no_then _ _) ts out p
    go (inr (inr p)) = absurd p

unit_spells : (w : List Symbol) → UnitLine w → (k : List Symbol) → NoThen k → Into (w ++ k) (Part part.unit ∷ k)
unit_spells w always_true k free ts out m = close_part part.unit units unit_lines k ts out (inl m)
unit_spells w always_false k free ts out m = close_part part.unit units unit_lines k ts out (inr (inl m))
unit_spells w not k free ts out m = close_part part.unit units unit_lines k ts out (inr (inr (inl m)))
unit_spells w for_all k free ts out m = close_part part.unit units unit_lines k ts out (inr (inr (inr (inl m))))
unit_spells w exists k free ts out m = close_part part.unit units unit_lines k ts out (inr (inr (inr (inr (inl m)))))
unit_spells w parentheses k free ts out m =
    let o = opened_of (sign_class sign.OpenParenthesis) (Part part.formula ∷ closing ∷ k) ts out m in
    let s = under (Part part.formula ∷ []) _ _ (take_no_then _ _) (close_only part.after_formula _ after_formula_lines k) o.rest out o.runs in
    let q = all_known (suc (length o.rest)) in
    of_enclosed k ts out (o.back (enclosed k) (q.of_formula part.after_formula part.after_term k o.rest out (omega arith) s))
unit_spells w (relation r a) k free ts out m = related_spells k ts out (contract part.relation relations relation_lines (Part part.term ∷ []) r k a (among_no_then relations refl r k a) ts out m)

pub unit_means : Means part.unit UnitLine
unit_means = record { reads = unit_reads; spells = unit_spells }
