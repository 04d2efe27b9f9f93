-- No opened name stands in a text, nor what a PROOF opens. So the words that are written for it may be printed.
use Rattle.std.proofs.Common.{◌≡◌, ℕ, zero, suc, ◌+◌, Bool, true, false, List, [], ◌∷◌, ◌++◌, take, drop, refl, sym, subst, eqb, ◌||◌, inl, inr, arith}
use Rattle.std.specs.Prelude.{Option, Some, None, not, ◌&&◌, if◌then◌else◌, slice_get}
use Rattle.std.proofs.lemmas.List.{append-nil}
use Rattle.cb_lex.specs.declared.token.Keyword.{Keyword}
use Rattle.cb_lex.specs.declared.token.Keyword.TheVariants as keyword
use Rattle.cb_lex.specs.declared.token.Sort.{Sort}
use Rattle.cb_lex.specs.declared.token.Sort.TheVariants as sort
use Rattle.cb_lex.specs.declared.token.Place.{Place}
use Rattle.cb_lex.specs.declared.token.Token.{Token}
use Rattle.cb_engine.specs.declared.Symbol.{Symbol}
use Rattle.cb_engine.specs.declared.Symbol.TheVariants.{Take, Keep, Act, Part, Gives, Then, Line}
use Rattle.cb_engine.specs.declared.Terminal.{Terminal}
use Rattle.cb_engine.specs.declared.Item.{Item}
use Rattle.cb_engine.specs.Rules.{Rules, Runs, kept, group, admits, chosen}
use Rattle.cb_engine.specs.Rules.Runs.{ends, takes, keeps, acts, keys, others, goes_on}
use Rattle.cb_engine.specs.Deciding.{both}
use Rattle.cb_engine.specs.Splitting.{split}
use Rattle.cb_engine.specs.Tables.{body, find_line, body_of, either, keyed_in, rules_of}
use Rattle.cb_grammar.specs.declared.table.TheConstants.{GRAMMAR}
use Rattle.cb_grammar.specs.declared.parts.Part.TheVariants as language_part
use Rattle.cb_grammar.specs.Classes.{keyword_class}
use Rattle.cb_grammar.specs.Misreadings.{language}
use Rattle.cb_grammar.specs.Numbers as part
use Rattle.cb_grammar.specs.Terminals.{class_of, terminals, opens}
use Rattle.cb_written.specs.Proofs.{BeforeProofsLine, BeforeProofsIsWritten}
use Rattle.cb_amn_parse.specs.Lexemes.{Lexeme, heard_at, heard, lexemes}
use Rattle.cb_amn_parse.specs.Spelling.{IsSpelled}
use Rattle.cb_amn_print.proofs.Fronts.{IsToken}
use Rattle.cb_amn_print.proofs.Heard.{is_without}
use Rattle.cb_amn_print.proofs.Lines.{plain}
use Rattle.cb_amn_print.proofs.Premises.{AllTokens}
use Rattle.cb_amn_print.proofs.Scripts.{dropped}
use Rattle.cb_amn_print.proofs.Spelled.{Fine, AllFine}

-- ---- classes of texts without proofs

-- neither that of PROOF nor that of an opened name which may not stand
abbrev usual : ℕ → Bool
usual c = not (eqb c 31) && not (eqb c 119)

abbrev usual_symbol : Symbol → Bool
usual_symbol (Take c) = usual c
usual_symbol (Keep c) = usual c
usual_symbol (Act a) = true
usual_symbol (Part n) = is_without n
usual_symbol (Gives s) = true
usual_symbol (Then a b) = is_without a && is_without b
usual_symbol (Line m c keep) = true

abbrev all_usual : List Symbol → Bool
all_usual [] = true
all_usual (s ∷ k) = usual_symbol s && all_usual k

abbrev usual_lines : List Symbol → Bool
usual_lines [] = true
usual_lines (Line m c keep ∷ g) = (not (is_without m) || (usual c && all_usual (body g))) && usual_lines g
usual_lines (_ ∷ g) = usual_lines g

table_usual : usual_lines GRAMMAR ≡ true
table_usual = refl

same : (a b : ℕ) → eqb a b ≡ true → a ≡ b
same a b e = grind arith

implied : (a b : Bool) → (not a || b) ≡ true → a ≡ true → b ≡ true
implied true b e h = e
implied false b e h = absurd (cc)

-- a line of a part without proofs
abbrev Usual : ℕ → Bool × List Symbol → Type 0
Usual c l = (usual c ≡ true) × (all_usual l.1 ≡ true)

found_usual : (g : List Symbol) (n c : ℕ) (l : Bool × List Symbol) → usual_lines g ≡ true → is_without n ≡ true → find_line g n c ≡ Some l → Usual c l
found_usual [] n c l u w e = absurd (cc)
found_usual (Line m k keep ∷ g) n c l u w e = go (eqb m n) (eqb k c) refl refl (λ f. found_usual g n c l (both u).1 w f) e
  where
    go : (a b : Bool) → eqb m n ≡ a → eqb k c ≡ b → (find_line g n c ≡ Some l → Usual c l) → (if a && b then Some (keep, body g) else find_line g n c) ≡ Some l → Usual c l
    go true true s t more f =
        let q : m ≡ n = same m n s in
        let r : k ≡ c = same k c t in
        let h : (usual k && all_usual (body g)) ≡ true = implied (is_without m) _ (both u).0 (rw q w) in
        let v : l ≡ (keep, body g) = cc in
        let x : usual k ≡ true = (both h).0 in
        let y : all_usual (body g) ≡ true = (both h).1 in
        (rw r at x, rw v y)
    go true false s t more f = more f
    go false b s t more f = more f
found_usual (Take x ∷ g) n c l u w e = found_usual g n c l u w e
found_usual (Keep x ∷ g) n c l u w e = found_usual g n c l u w e
found_usual (Act x ∷ g) n c l u w e = found_usual g n c l u w e
found_usual (Part x ∷ g) n c l u w e = found_usual g n c l u w e
found_usual (Gives x ∷ g) n c l u w e = found_usual g n c l u w e
found_usual (Then x y ∷ g) n c l u w e = found_usual g n c l u w e

-- a class whose group is usual is so too
grouped_usual : (d : ℕ) → usual (group d) ≡ true → usual d ≡ true
grouped_usual d e = go (eqb d 31) (eqb d 119) refl refl
  where
    go : (a b : Bool) → eqb d 31 ≡ a → eqb d 119 ≡ b → (not a && not b) ≡ true
    go true b s t = let q : d ≡ 31 = same d 31 s in absurd (let h : usual (group 31) ≡ true = rw q at e in cc)
    go false true s t = let q : d ≡ 119 = same d 119 t in absurd (let h : usual (group 119) ≡ true = rw q at e in cc)
    go false false s t = refl

admitted_usual : (c d : ℕ) → usual c ≡ true → admits c d ≡ true → usual d ≡ true
admitted_usual c d u e = go (eqb c d) refl e
  where
    go : (a : Bool) → eqb c d ≡ a → (a || eqb c (group d)) ≡ true → usual d ≡ true
    go true s f = let q : c ≡ d = same c d s in rw q at u
    go false s f = let q : c ≡ group d = same c (group d) f in grouped_usual d (rw q at u)

keyed_usual : (n d : ℕ) (l : Bool × List Symbol) → is_without n ≡ true → keyed_in GRAMMAR n d ≡ Some l → Usual d l
keyed_usual n zero l w e = absurd (cc)
keyed_usual n (suc d) l w e = go (find_line GRAMMAR n (suc d)) refl e
  where
    go : (o : Option (Bool × List Symbol)) → find_line GRAMMAR n (suc d) ≡ o → either o (find_line GRAMMAR n (group (suc d))) ≡ Some l → Usual (suc d) l
    go None f h = let q = found_usual GRAMMAR n (group (suc d)) l table_usual w h in (grouped_usual (suc d) q.0, q.1)
    go (Some x) f h = let q : find_line GRAMMAR n (suc d) ≡ Some l = cc in found_usual GRAMMAR n (suc d) l table_usual w q

other_usual : (n : ℕ) (b : List Symbol) → is_without n ≡ true → body_of (find_line GRAMMAR n 0) ≡ Some b → all_usual b ≡ true
other_usual n b w e = go (find_line GRAMMAR n 0) refl e
  where
    go : (o : Option (Bool × List Symbol)) → find_line GRAMMAR n 0 ≡ o → body_of o ≡ Some b → all_usual b ≡ true
    go None f h = absurd (cc)
    go (Some x) f h = let q : x.1 ≡ b = cc in let y : all_usual x.1 ≡ true = (found_usual GRAMMAR n 0 x table_usual w f).1 in rw q at y

usual-append : (a b : List Symbol) → all_usual a ≡ true → all_usual b ≡ true → all_usual (a ++ b) ≡ true
usual-append [] b u v = v
usual-append (s ∷ a) b u v = let h : usual_symbol s ≡ true = (both u).0 in rw h (usual-append a b (both u).1 v)

abbrev AllUsual : List Terminal → Type 0
AllUsual [] = Unit {0}
AllUsual (t ∷ ts) = (usual t.class ≡ true) × AllUsual ts

runs_usual : {k : List Symbol} {ts : List Terminal} {out : List Item} → Runs (rules_of GRAMMAR) true k ts out → all_usual k ≡ true → AllUsual ts
runs_usual (ends e) u = tt
runs_usual (takes {c = c} {t = t} e m) u = (admitted_usual c t.class (both u).0 e, runs_usual m (both u).1)
runs_usual (keeps {c = c} {t = t} e m) u = (admitted_usual c t.class (both u).0 e, runs_usual m (both u).1)
runs_usual (acts m) u = runs_usual m u
runs_usual (keys {n = n} {k = k} {t = t} keep b e m) u =
    let q = keyed_usual n t.class (keep, b) (both u).0 e in
    (q.0, runs_usual m (usual-append b k q.1 (both u).1))
runs_usual (others {n = n} {k = k} b e m) u = runs_usual m (usual-append b k (other_usual n b (both u).0 e) (both u).1)
runs_usual (goes_on {s = s} {a = a} {b = b} {k = k} m) u = runs_usual m (go s)
  where
    go : (s : ℕ) → (is_without (chosen a b s) && all_usual k) ≡ true
    go zero = let q = both u in let p = both q.0 in let h : is_without a ≡ true = p.0 in rw h q.1
    go (suc s) = let q = both u in let p = both q.0 in let h : is_without b ≡ true = p.1 in rw h q.1

-- ---- the words that are written

fine_token : (s : Sort) (p : Place) → IsToken s → usual (class_of false s) ≡ true → Fine false (heard_at s p)
fine_token (sort.Word text) p r u = (r, plain text refl)
fine_token (sort.Opened text n) p r u = absurd (cc)
fine_token (sort.Number n) p r u = r
fine_token (sort.Keyword k) p r u = r
fine_token (sort.Sign s) p r u = tt
fine_token sort.Finish p r u = tt

keyword_kept : (k : Keyword) → usual (keyword_class k) ≡ true → opens false (sort.Keyword k) ≡ false
keyword_kept keyword.Proof u = absurd (cc)
keyword_kept _ u = refl

flag_kept : (s : Sort) → usual (class_of false s) ≡ true → opens false s ≡ false
flag_kept (sort.Keyword k) u = keyword_kept k u
flag_kept (sort.Word text) u = refl
flag_kept (sort.Opened text n) u = refl
flag_kept (sort.Number n) u = refl
flag_kept (sort.Sign s) u = refl
flag_kept sort.Finish u = refl

-- each terminal is a token whose word may stand
abbrev AllHear : List Token → List Terminal → Type 0
AllHear all [] = Unit {0}
AllHear all (t ∷ ts) = Fine false (heard (slice_get all t.index)) × AllHear all ts

terminals_hear : (all : List Token) (i : ℕ) (ts : List Token) (us vs : List Terminal) → drop i all ≡ ts → AllTokens ts → (n : ℕ) → take n (terminals false i ts) ≡ us ++ vs → AllUsual us → AllHear all us
terminals_hear all i ts [] vs d a n e u = tt
terminals_hear all i [] (x ∷ us) vs d a zero e u = absurd (cc)
terminals_hear all i [] (x ∷ us) vs d a (suc n) e u = absurd (cc)
terminals_hear all i (t ∷ ts) (x ∷ us) vs d a zero e u = absurd (cc)
terminals_hear all i (t ∷ ts) (x ∷ us) vs d a (suc n) e u =
    let h = dropped all i t ts d in
    let q : record { class = class_of false t.sort; index = i } ≡ x = cc in
    let r : take n (terminals (opens false t.sort) (i + 1) ts) ≡ us ++ vs = cc in
    let c : usual (class_of false t.sort) ≡ true = subst (λ (y : Terminal). usual y.class ≡ true) (sym q) u.0 in
    let k : opens false t.sort ≡ false = flag_kept t.sort c in
    let f : Fine false (heard (slice_get all i)) = subst (λ (o : Option Token). Fine false (heard o)) (sym h.0) (fine_token t.sort t.place a.0 c) in
    (subst (λ (y : Terminal). Fine false (heard (slice_get all y.index))) q f, terminals_hear all (i + 1) ts us vs h.1 a.1 n (rw k at r) u.1)

items_fine : {r : Rules} {k : List Symbol} {ts : List Terminal} {out : List Item} (all : List Token) → Runs r true k ts out → AllHear all ts → AllFine false (lexemes all out)
items_fine all (ends e) h = tt
items_fine all (takes e m) h = items_fine all m h.1
items_fine all (keeps e m) h = (h.0, items_fine all m h.1)
items_fine all (acts m) h = (tt, items_fine all m h)
items_fine all (keys {t = t} {out = out} keep b e m) h = go keep (items_fine all m h.1)
  where
    go : (keep : Bool) → AllFine false (lexemes all out) → AllFine false (lexemes all (kept keep t out))
    go true f = (h.0, f)
    go false f = f
items_fine all (others b e m) h = items_fine all m h
items_fine all (goes_on m) h = items_fine all m h

-- ---- a text and the token behind it

nothing_behind : {c : ℕ} {ts : List Terminal} {out : List Item} {k : List Symbol} → Runs (rules_of GRAMMAR) true k ts out → k ≡ Take c ∷ [] → out ≡ []
nothing_behind (ends e) q = refl
nothing_behind (takes e m) q = at_end m (cc)
  where
    at_end : {k : List Symbol} {ts : List Terminal} {out : List Item} → Runs (rules_of GRAMMAR) true k ts out → k ≡ [] → out ≡ []
    at_end (ends e) q = refl
    at_end (takes e m) q = absurd (cc)
    at_end (keeps e m) q = absurd (cc)
    at_end (acts m) q = absurd (cc)
    at_end (keys keep b e m) q = absurd (cc)
    at_end (others b e m) q = absurd (cc)
    at_end (goes_on m) q = absurd (cc)
nothing_behind (keeps e m) q = absurd (cc)
nothing_behind (acts m) q = absurd (cc)
nothing_behind (keys keep b e m) q = absurd (cc)
nothing_behind (others b e m) q = absurd (cc)
nothing_behind (goes_on m) q = absurd (cc)

text_and_one : (c : ℕ) (ts : List Token) (n : ℕ) (items : List Item) → AllTokens ts → Runs (rules_of GRAMMAR) true (Part part.text ∷ (Take c ∷ [])) (take n (terminals false 0 ts)) items → AllFine false (lexemes ts items)
text_and_one c ts n items a m =
    let s = split m (Part part.text ∷ []) (Take c ∷ []) (λ x y j e. absurd (cc)) refl in
    let late : s.late ≡ [] = nothing_behind s.rest refl in
    let r : Runs (rules_of GRAMMAR) true ((Part part.text ∷ []) ++ []) (s.front ++ []) (s.early ++ []) = s.again [] [] [] (ends (λ e. refl)) in
    let r1 : Runs (rules_of GRAMMAR) true (Part part.text ∷ []) s.front (s.early ++ []) = subst (λ (x : List Terminal). Runs (rules_of GRAMMAR) true (Part part.text ∷ []) x (s.early ++ [])) (append-nil s.front) r in
    let h = terminals_hear ts 0 ts s.front s.back refl a n s.tokens (runs_usual r1 refl) in
    let f : AllFine false (lexemes ts (s.early ++ [])) = items_fine ts r1 h in
    let e : items ≡ s.early ++ [] = subst (λ (x : List Item). items ≡ s.early ++ x) late s.items in
    subst (λ (x : List Item). AllFine false (lexemes ts x)) (sym e) f

-- what is written for a text
pub text_fine : BeforeProofsIsWritten → (ts : List Token) (taken : ℕ) (out : List Lexeme) → AllTokens ts → IsSpelled language_part.Text 0 false ts taken out → AllFine false out
unfolding language
text_fine law ts taken out a q =
    let l = (law (take taken (terminals false 0 ts)) q.items).0 q.read.whole.spelled in
    subst (λ (x : List Lexeme). AllFine false x) q.told (go l.0 l.1.0 l.1.1)
  where
    runs_as : (w v : List Symbol) → w ≡ v → Runs (rules_of GRAMMAR) true w (take taken (terminals false 0 ts)) q.items → Runs (rules_of GRAMMAR) true v (take taken (terminals false 0 ts)) q.items
    runs_as w v e m = subst (λ (x : List Symbol). Runs (rules_of GRAMMAR) true x (take taken (terminals false 0 ts)) q.items) e m

    pick : (u v w : List Symbol) → u ≡ Part part.text ∷ [] → (x : List Symbol) → v ≡ x → w ≡ u ++ v → w ≡ Part part.text ∷ x
    pick u v w e x f g = cc

    go : (w : List Symbol) → BeforeProofsLine w → Runs (rules_of GRAMMAR) true w (take taken (terminals false 0 ts)) q.items → AllFine false (lexemes ts q.items)
    go w (u, v, e, inl f, g) m = text_and_one _ ts taken q.items a (runs_as w _ (pick u v w e _ f g) m)
    go w (u, v, e, inr (inl f), g) m = text_and_one _ ts taken q.items a (runs_as w _ (pick u v w e _ f g) m)
    go w (u, v, e, inr (inr f), g) m = absurd f
