-- Pieces that the grammar's lines spell, and that may be printed.
use Rattle.std.proofs.Common.{◌≡◌, ℕ, suc, ◌<◌, Bool, true, false, List, [], ◌∷◌, ◌++◌, refl, sym, arith, subst, cond, inl, inr, eqb, ◌||◌, nat_eq}
use Rattle.std.specs.Prelude.{Some, ℤ}
use Rattle.std.proofs.lemmas.List.{append-nil}
use Rattle.std.specs.Cmp.Lexicographic.{pointwise}
use Rattle.cb_lex.specs.declared.token.Keyword.{Keyword}
use Rattle.cb_lex.specs.declared.token.Keyword.TheVariants as keyword
use Rattle.cb_lex.specs.declared.token.Sign.{Sign}
use Rattle.cb_lex.specs.declared.token.Sort.{Sort}
use Rattle.cb_lex.specs.declared.token.Sort.TheVariants as sort
use Rattle.cb_lex.specs.Spelling.{letters, keyword_of}
use Rattle.cb_engine.specs.declared.Symbol.{Symbol}
use Rattle.cb_engine.specs.declared.Symbol.TheVariants.{Take, Keep, Act, Part}
use Rattle.cb_engine.specs.declared.Terminal.{Terminal}
use Rattle.cb_engine.specs.declared.Item.{Item}
use Rattle.cb_engine.specs.Rules.{Spells, admits, group}
use Rattle.cb_engine.specs.Lines.{alternatives, OneOf, Among}
use Rattle.cb_grammar.specs.declared.table.TheConstants.{GRAMMAR}
use Rattle.cb_grammar.specs.Classes.{keyword_class, sign_class, words}
use Rattle.cb_grammar.specs.Terminals.{class_in, word_class, opens}
use Rattle.cb_grammar.specs.Misreadings.{language}
use Rattle.cb_grammar.specs.Written.{LinesArePlain, IsWritten}
use Rattle.cb_amn_print.proofs.Fronts.{IsRead}
use Rattle.cb_amn_print.proofs.Scripts.{Piece, Silent, Kept, Done, Spelled, AllFit, terms, items, and_then, silent, keeping, done, fit-append}

abbrev pub is_proof : Keyword → Bool
is_proof keyword.Proof = true
is_proof _ = false

pub keyword_read : (k : Keyword) → keyword_of (letters k) ≡ Some k
unfolding keyword_of
keyword_read keyword.Machine = refl
keyword_read keyword.Sees = refl
keyword_read keyword.Sets = refl
keyword_read keyword.Constants = refl
keyword_read keyword.Properties = refl
keyword_read keyword.Variables = refl
keyword_read keyword.Invariant = refl
keyword_read keyword.Initialisation = refl
keyword_read keyword.Operations = refl
keyword_read keyword.End = refl
keyword_read keyword.Pre = refl
keyword_read keyword.Then = refl
keyword_read keyword.If = refl
keyword_read keyword.Elsif = refl
keyword_read keyword.Else = refl
keyword_read keyword.Choice = refl
keyword_read keyword.ChoiceOr = refl
keyword_read keyword.AnyOf = refl
keyword_read keyword.Where = refl
keyword_read keyword.Begin = refl
keyword_read keyword.Channels = refl
keyword_read keyword.Controller = refl
keyword_read keyword.Machines = refl
keyword_read keyword.Start = refl
keyword_read keyword.Processes = refl
keyword_read keyword.Inv = refl
keyword_read keyword.System = refl
keyword_read keyword.Proof = refl
keyword_read keyword.Stop = refl
keyword_read keyword.SkipProcess = refl
keyword_read keyword.True = refl
keyword_read keyword.False = refl
keyword_read keyword.Truths = refl
keyword_read keyword.Nat = refl
keyword_read keyword.Nat1 = refl
keyword_read keyword.Int = refl
keyword_read keyword.MaxInt = refl
keyword_read keyword.MinInt = refl
keyword_read keyword.Skip = refl
keyword_read keyword.Any = refl
keyword_read keyword.Or = refl
keyword_read keyword.Not = refl
keyword_read keyword.Mod = refl
keyword_read keyword.Card = refl
keyword_read keyword.Bool = refl
keyword_read keyword.AlwaysTrue = refl
keyword_read keyword.AlwaysFalse = refl

keyword_stays : (opened : Bool) (k : Keyword) → is_proof k ≡ false → opens opened (sort.Keyword k) ≡ opened
keyword_stays true k e = refl
keyword_stays false keyword.Machine e = refl
keyword_stays false keyword.Sees e = refl
keyword_stays false keyword.Sets e = refl
keyword_stays false keyword.Constants e = refl
keyword_stays false keyword.Properties e = refl
keyword_stays false keyword.Variables e = refl
keyword_stays false keyword.Invariant e = refl
keyword_stays false keyword.Initialisation e = refl
keyword_stays false keyword.Operations e = refl
keyword_stays false keyword.End e = refl
keyword_stays false keyword.Pre e = refl
keyword_stays false keyword.Then e = refl
keyword_stays false keyword.If e = refl
keyword_stays false keyword.Elsif e = refl
keyword_stays false keyword.Else e = refl
keyword_stays false keyword.Choice e = refl
keyword_stays false keyword.ChoiceOr e = refl
keyword_stays false keyword.AnyOf e = refl
keyword_stays false keyword.Where e = refl
keyword_stays false keyword.Begin e = refl
keyword_stays false keyword.Channels e = refl
keyword_stays false keyword.Controller e = refl
keyword_stays false keyword.Machines e = refl
keyword_stays false keyword.Start e = refl
keyword_stays false keyword.Processes e = refl
keyword_stays false keyword.Inv e = refl
keyword_stays false keyword.System e = refl
keyword_stays false keyword.Proof e = absurd (cc)
keyword_stays false keyword.Stop e = refl
keyword_stays false keyword.SkipProcess e = refl
keyword_stays false keyword.True e = refl
keyword_stays false keyword.False e = refl
keyword_stays false keyword.Truths e = refl
keyword_stays false keyword.Nat e = refl
keyword_stays false keyword.Nat1 e = refl
keyword_stays false keyword.Int e = refl
keyword_stays false keyword.MaxInt e = refl
keyword_stays false keyword.MinInt e = refl
keyword_stays false keyword.Skip e = refl
keyword_stays false keyword.Any e = refl
keyword_stays false keyword.Or e = refl
keyword_stays false keyword.Not e = refl
keyword_stays false keyword.Mod e = refl
keyword_stays false keyword.Card e = refl
keyword_stays false keyword.Bool e = refl
keyword_stays false keyword.AlwaysTrue e = refl
keyword_stays false keyword.AlwaysFalse e = refl

sign_stays : (opened : Bool) (s : Sign) → opens opened (sort.Sign s) ≡ opened
sign_stays true s = refl
sign_stays false s = refl

number_stays : (opened : Bool) (n : ℤ) → opens opened (sort.Number n) ≡ opened
number_stays true n = refl
number_stays false n = refl

word_stays : (opened : Bool) (text : List ℕ) → opens opened (sort.Word text) ≡ opened
word_stays true text = refl
word_stays false text = refl

admits_itself : (c : ℕ) → admits c c ≡ true
admits_itself c = let e : eqb c c ≡ true = grind arith in rw e refl

-- a text is one of the grammar's names, though it may be a word in other places
group_in : (c : ℕ) (ws : List (List ℕ)) (text : List ℕ) → 127 < c → group (class_in c ws text) ≡ 1
group_in c [] text l = refl
group_in c (w ∷ ws) text l = go (pointwise nat_eq text w) (group_in (suc c) ws text (omega arith))
  where
    above : group c ≡ 1
    above = grind arith

    go : (b : Bool) → group (class_in (suc c) ws text) ≡ 1 → group (cond b c (class_in (suc c) ws text)) ≡ 1
    go true more = above
    go false more = more

admits_word : (text : List ℕ) → admits 1 (word_class text) ≡ true
admits_word text =
    let g : group (word_class text) ≡ 1 = group_in 128 words text (omega arith) in
    go (eqb 1 (word_class text)) (group (word_class text)) g
  where
    go : (b : Bool) (g : ℕ) → g ≡ 1 → (b || eqb 1 g) ≡ true
    go true g e = refl
    go false g e = rw e refl

-- a name that may stand there
pub data Stands (opened : Bool) (s : Sort) : Type 0 where
  plain : (text : List ℕ) → s ≡ sort.Word text → Stands opened s
  numbered : (text : List ℕ) (n : ℕ) → s ≡ sort.Opened text n → opened ≡ true → Stands opened s

-- what the symbols spell, and what may be printed
pub record Good (opened : Bool) (k : List Symbol) (p : List Piece) : Type 0 where
  pub spelled : Spelled opened k p
  pub fit : AllFit opened p

module _ (opened : Bool) where
  pub join : {u v : List Symbol} {p q : List Piece} → Good opened u p → Good opened v q → Good opened (u ++ v) (p ++ q)
  join {p = p} {q = q} a b = record { spelled = and_then opened a.spelled b.spelled; fit = fit-append opened p q a.fit b.fit }

  pub sign_taken : (s : Sign) → Good opened (Take (sign_class s) ∷ []) (Silent (sort.Sign s) ∷ [])
  sign_taken s = record { spelled = silent opened (sign_class s) (sort.Sign s) (admits_itself (sign_class s)); fit = ((tt, sign_stays opened s), tt) }

  pub word_taken : (k : Keyword) → is_proof k ≡ false → Good opened (Take (keyword_class k) ∷ []) (Silent (sort.Keyword k) ∷ [])
  word_taken k e = record { spelled = silent opened (keyword_class k) (sort.Keyword k) (admits_itself (keyword_class k)); fit = ((keyword_read k, keyword_stays opened k e), tt) }

  pub sign_kept : (s : Sign) → Good opened (Keep (sign_class s) ∷ []) (Kept (sort.Sign s) ∷ [])
  sign_kept s = record { spelled = keeping opened (sign_class s) (sort.Sign s) (admits_itself (sign_class s)); fit = ((tt, sign_stays opened s), tt) }

  pub word_kept : (k : Keyword) → is_proof k ≡ false → Good opened (Keep (keyword_class k) ∷ []) (Kept (sort.Keyword k) ∷ [])
  word_kept k e = record { spelled = keeping opened (keyword_class k) (sort.Keyword k) (admits_itself (keyword_class k)); fit = ((keyword_read k, keyword_stays opened k e), tt) }

  pub number_kept : (n : ℤ) → IsRead (sort.Number n) → Good opened (Keep 2 ∷ []) (Kept (sort.Number n) ∷ [])
  number_kept n r = record { spelled = keeping opened 2 (sort.Number n) refl; fit = ((r, number_stays opened n), tt) }

  pub name_kept : (s : Sort) → IsRead s → Stands opened s → Good opened (Keep 1 ∷ []) (Kept s ∷ [])
  name_kept s r (plain text e) = subst (λ (x : Sort). Good opened (Keep 1 ∷ []) (Kept x ∷ [])) (sym e) (record { spelled = keeping opened 1 (sort.Word text) (admits_word text); fit = ((subst (λ (x : Sort). IsRead x) e r, word_stays opened text), tt) })
  name_kept s r (numbered text n e o) =
      subst (λ (x : Sort). Good opened (Keep 1 ∷ []) (Kept x ∷ [])) (sym e) (record { spelled = keeping opened 1 (sort.Opened text n) (rw o refl); fit = ((subst (λ (x : Sort). IsRead x) e r, rw o refl), tt) })

  pub act : (a : ℕ) → Good opened (Act a ∷ []) (Done a ∷ [])
  act a = record { spelled = done opened a; fit = tt }

  pub by_line : (n : ℕ) (Shape : List Symbol → Type 0) → IsWritten n Shape → (w : List Symbol) (p : List Piece) → Shape w → Good opened w p → Good opened (Part n ∷ []) p
  by_line n Shape law w p l g = record { spelled = record { runs = λ i. (law (terms opened i p) (items opened i p)).1 (w, (l, g.spelled.runs i)) }; fit = g.fit }

  one_of : (ls : List (List Symbol)) (w : List Symbol) (ts : List Terminal) (out : List Item) → Among ls w → Spells language w ts out → OneOf (λ a. Spells language (a ++ []) ts out) ls
  one_of [] w ts out a m = absurd a
  one_of (l ∷ ls) w ts out (inl q) m = inl (rw append-nil (rw q at m))
  one_of (l ∷ ls) w ts out (inr a) m = inr (one_of ls w ts out a m)

  -- by one of its lines in the table
  pub by_table : LinesArePlain → (n : ℕ) (ls : List (List Symbol)) → alternatives GRAMMAR n ≡ ls → (w : List Symbol) (p : List Piece) → Among ls w → Good opened w p → Good opened (Part n ∷ []) p
  by_table law n ls e w p a g = record {
    spelled = record { runs = λ i. (law n [] (terms opened i p) (items opened i p)).1 (subst (λ (l : List (List Symbol)). OneOf (λ b. Spells language (b ++ []) (terms opened i p) (items opened i p)) l) (sym e) (one_of ls w (terms opened i p) (items opened i p) a (g.spelled.runs i))) };
    fit = g.fit;
  }
