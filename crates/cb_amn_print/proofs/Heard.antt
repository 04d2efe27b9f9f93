-- What is written for a part holds the words of its tokens; and where opened names may not stand, none of them is opened.
use Rattle.std.proofs.Common.{◌≡◌, ℕ, zero, suc, ◌+◌, Bool, true, false, List, [], ◌∷◌, ◌++◌, take, drop, refl, sym, ◌∙◌, arith, subst, eqb, ◌||◌}
use Rattle.std.specs.Prelude.{Option, Some, None, not, ◌&&◌, if◌then◌else◌, slice_get}
use Rattle.cb_lex.specs.declared.token.Keyword.TheVariants as keyword
use Rattle.cb_lex.specs.declared.token.Sort.{Sort}
use Rattle.cb_lex.specs.declared.token.Sort.TheVariants as sort
use Rattle.cb_lex.specs.declared.token.Place.{Place}
use Rattle.cb_lex.specs.declared.token.Token.{Token}
use Rattle.cb_engine.specs.declared.Symbol.{Symbol}
use Rattle.cb_engine.specs.declared.Symbol.TheVariants.{Take, Keep, Act, Part, Gives, Then, Line}
use Rattle.cb_engine.specs.declared.Terminal.{Terminal}
use Rattle.cb_engine.specs.declared.Item.{Item}
use Rattle.cb_engine.specs.Rules.{Rules, Runs, Spells, kept, group, admits, stands, chosen}
use Rattle.cb_engine.specs.Rules.Runs.{ends, takes, keeps, acts, keys, others, goes_on}
use Rattle.cb_engine.specs.Tables.{body, find_line, body_of, either, keyed_in, rules_of}
use Rattle.cb_grammar.specs.declared.table.TheConstants.{GRAMMAR}
use Rattle.cb_grammar.specs.Misreadings.{language, symbols_of}
use Rattle.cb_grammar.specs.declared.parts.Part.{Part as LanguagePart}
use Rattle.cb_grammar.specs.Parts.{number_of}
use Rattle.cb_grammar.specs.Classes.{keyword_class}
use Rattle.cb_lex.specs.declared.token.Keyword.{Keyword}
use Rattle.cb_amn_parse.specs.Spelling.{IsSpelled}
use Rattle.cb_grammar.specs.Terminals.{class_of, terminals, opens}
use Rattle.cb_amn_parse.specs.Lexemes.{Lexeme, heard_at, heard, lexemes}
use Rattle.cb_amn_print.proofs.Fronts.{IsToken, both}
use Rattle.cb_amn_print.proofs.Lines.{plain, numbered}
use Rattle.cb_amn_print.proofs.Scripts.{dropped}
use Rattle.cb_amn_print.proofs.Spelled.{Fine, AllFine}
use Rattle.cb_amn_print.proofs.Premises.{AllTokens}

-- ---- parts without PROOF and without opened names

-- a class that is neither that of PROOF nor that of an opened name which may not stand, nor that of the end
abbrev usual : ℕ → Bool
usual c = not (eqb c 31) && (not (eqb c 119) && not (eqb c 3))

-- the parts of texts with proofs
abbrev with_proofs : List ℕ
with_proofs = 1 ∷ (2 ∷ (3 ∷ (75 ∷ (91 ∷ (114 ∷ [])))))

abbrev pub is_without : ℕ → Bool
is_without n = not (stands with_proofs n)

abbrev usual_symbol : Symbol → Bool
usual_symbol (Take c) = usual c
usual_symbol (Keep c) = usual c
usual_symbol (Act a) = true
usual_symbol (Part n) = is_without n
usual_symbol (Gives s) = true
usual_symbol (Then a b) = is_without a && is_without b
usual_symbol (Line m c keep) = true

abbrev all_usual : List Symbol → Bool
all_usual [] = true
all_usual (s ∷ k) = usual_symbol s && all_usual k

abbrev usual_lines : List Symbol → Bool
usual_lines [] = true
usual_lines (Line m c keep ∷ g) = (not (is_without m) || (usual c && all_usual (body g))) && usual_lines g
usual_lines (Take c ∷ g) = usual_lines g
usual_lines (Keep c ∷ g) = usual_lines g
usual_lines (Act a ∷ g) = usual_lines g
usual_lines (Part n ∷ g) = usual_lines g
usual_lines (Gives s ∷ g) = usual_lines g
usual_lines (Then a b ∷ g) = usual_lines g

table_usual : usual_lines GRAMMAR ≡ true
table_usual = refl

same : (a b : ℕ) → eqb a b ≡ true → a ≡ b
same a b e = grind arith

implied : (a b : Bool) → (not a || b) ≡ true → a ≡ true → b ≡ true
implied true b e h = e
implied false b e h = absurd (cc)

found_usual : (g : List Symbol) (n c : ℕ) (l : Bool × List Symbol) → usual_lines g ≡ true → is_without n ≡ true → find_line g n c ≡ Some l → (usual c ≡ true) × (all_usual l.1 ≡ true)
found_usual [] n c l u w e = absurd (cc)
found_usual (Line m k keep ∷ g) n c l u w e = go (eqb m n) (eqb k c) refl refl (λ f. found_usual g n c l (both u).1 w f) e
  where
    go : (a b : Bool) → eqb m n ≡ a → eqb k c ≡ b → (find_line g n c ≡ Some l → (usual c ≡ true) × (all_usual l.1 ≡ true)) → (if a && b then Some (keep, body g) else find_line g n c) ≡ Some l → (usual c ≡ true) × (all_usual l.1 ≡ true)
    go true true s t more f =
        let q : m ≡ n = same m n s in
        let r : k ≡ c = same k c t in
        let h : (usual k && all_usual (body g)) ≡ true = implied (is_without m) _ (both u).0 (rw q w) in
        let v : l ≡ (keep, body g) = cc in
        let x : usual k ≡ true = (both h).0 in
        let y : all_usual (body g) ≡ true = (both h).1 in
        (rw r at x, rw v y)
    go true false s t more f = more f
    go false b s t more f = more f
found_usual (Take x ∷ g) n c l u w e = found_usual g n c l u w e
found_usual (Keep x ∷ g) n c l u w e = found_usual g n c l u w e
found_usual (Act x ∷ g) n c l u w e = found_usual g n c l u w e
found_usual (Part x ∷ g) n c l u w e = found_usual g n c l u w e
found_usual (Gives x ∷ g) n c l u w e = found_usual g n c l u w e
found_usual (Then x y ∷ g) n c l u w e = found_usual g n c l u w e

-- a class whose group is usual is so too
grouped_usual : (d : ℕ) → usual (group d) ≡ true → usual d ≡ true
grouped_usual d e = go (eqb d 31) (eqb d 119) (eqb d 3) refl refl refl
  where
    go : (a b c : Bool) → eqb d 31 ≡ a → eqb d 119 ≡ b → eqb d 3 ≡ c → (not a && (not b && not c)) ≡ true
    go true b c s t u = let q : d ≡ 31 = same d 31 s in absurd (let h : usual (group 31) ≡ true = rw q at e in cc)
    go false true c s t u = let q : d ≡ 119 = same d 119 t in absurd (let h : usual (group 119) ≡ true = rw q at e in cc)
    go false false true s t u = let q : d ≡ 3 = same d 3 u in absurd (let h : usual (group 3) ≡ true = rw q at e in cc)
    go false false false s t u = refl

admitted_usual : (c d : ℕ) → usual c ≡ true → admits c d ≡ true → usual d ≡ true
admitted_usual c d u e = go (eqb c d) refl e
  where
    go : (a : Bool) → eqb c d ≡ a → (a || eqb c (group d)) ≡ true → usual d ≡ true
    go true s f = let q : c ≡ d = same c d s in rw q at u
    go false s f = let q : c ≡ group d = same c (group d) f in grouped_usual d (rw q at u)

keyed_usual : (n d : ℕ) (l : Bool × List Symbol) → is_without n ≡ true → keyed_in GRAMMAR n d ≡ Some l → (usual d ≡ true) × (all_usual l.1 ≡ true)
keyed_usual n zero l w e = absurd (cc)
keyed_usual n (suc d) l w e = go (find_line GRAMMAR n (suc d)) refl e
  where
    go : (o : Option (Bool × List Symbol)) → find_line GRAMMAR n (suc d) ≡ o → either o (find_line GRAMMAR n (group (suc d))) ≡ Some l → (usual (suc d) ≡ true) × (all_usual l.1 ≡ true)
    go None f h = let q = found_usual GRAMMAR n (group (suc d)) l table_usual w h in (grouped_usual (suc d) q.0, q.1)
    go (Some x) f h = found_usual GRAMMAR n (suc d) l table_usual w (f ∙ h)

other_usual : (n : ℕ) (b : List Symbol) → is_without n ≡ true → body_of (find_line GRAMMAR n 0) ≡ Some b → all_usual b ≡ true
other_usual n b w e = go (find_line GRAMMAR n 0) refl e
  where
    go : (o : Option (Bool × List Symbol)) → find_line GRAMMAR n 0 ≡ o → body_of o ≡ Some b → all_usual b ≡ true
    go None f h = absurd (cc)
    go (Some x) f h = let q : x.1 ≡ b = cc in let y : all_usual x.1 ≡ true = (found_usual GRAMMAR n 0 x table_usual w f).1 in rw q at y

usual-append : (a b : List Symbol) → all_usual a ≡ true → all_usual b ≡ true → all_usual (a ++ b) ≡ true
usual-append [] b u v = v
usual-append (s ∷ a) b u v = let h : usual_symbol s ≡ true = (both u).0 in rw h (usual-append a b (both u).1 v)

abbrev AllUsual : List Terminal → Type 0
AllUsual [] = Unit {0}
AllUsual (t ∷ ts) = (usual t.class ≡ true) × AllUsual ts

-- what such symbols spell
runs_usual : {k : List Symbol} {ts : List Terminal} {out : List Item} → Runs (rules_of GRAMMAR) true k ts out → all_usual k ≡ true → AllUsual ts
runs_usual (ends e) u = tt
runs_usual (takes {c = c} {t = t} e m) u = (admitted_usual c t.class (both u).0 e, runs_usual m (both u).1)
runs_usual (keeps {c = c} {t = t} e m) u = (admitted_usual c t.class (both u).0 e, runs_usual m (both u).1)
runs_usual (acts m) u = runs_usual m u
runs_usual (keys {n = n} {k = k} {t = t} keep b e m) u =
    let q = keyed_usual n t.class (keep, b) (both u).0 e in
    (q.0, runs_usual m (usual-append b k q.1 (both u).1))
runs_usual (others {n = n} {k = k} b e m) u = runs_usual m (usual-append b k (other_usual n b (both u).0 e) (both u).1)
runs_usual (goes_on {s = s} {a = a} {b = b} {k = k} m) u = runs_usual m (go s)
  where
    go : (s : ℕ) → (is_without (chosen a b s) && all_usual k) ≡ true
    go zero = let q = both u in let p = both q.0 in let h : is_without a ≡ true = p.0 in rw h q.1
    go (suc s) = let q = both u in let p = both q.0 in let h : is_without b ≡ true = p.1 in rw h q.1

-- ---- the words that are written

-- a terminal is a token whose word may stand
abbrev Hears : Bool → List Token → Terminal → Type 0
Hears opened all t = Fine opened (heard (slice_get all t.index))

abbrev AllHear : Bool → List Token → List Terminal → Type 0
AllHear opened all [] = Unit {0}
AllHear opened all (t ∷ ts) = Hears opened all t × AllHear opened all ts

fine_token : (opened : Bool) (s : Sort) (p : Place) → IsToken s → (usual (class_of opened s) ≡ true) → Fine opened (heard_at s p)
fine_token opened (sort.Word text) p r u = (r, plain text refl)
fine_token true (sort.Opened text zero) p r u = absurd (omega (arith, r.1.1.0))
fine_token true (sort.Opened text (suc n)) p r u = let e : eqb (suc n) 0 ≡ false = grind arith in rw e (r, numbered text (suc n) refl refl)
fine_token false (sort.Opened text n) p r u = absurd (cc)
fine_token opened (sort.Number n) p r u = r
fine_token opened (sort.Keyword k) p r u = r
fine_token opened (sort.Sign s) p r u = tt
fine_token opened sort.Finish p r u = tt

-- PROOF is not among them
keyword_kept : (k : Keyword) → usual (keyword_class k) ≡ true → opens false (sort.Keyword k) ≡ false
keyword_kept keyword.Proof u = absurd (cc)
keyword_kept _ u = refl

flag_kept : (opened : Bool) (s : Sort) → usual (class_of opened s) ≡ true → opens opened s ≡ opened
flag_kept true s u = refl
flag_kept false (sort.Keyword k) u = keyword_kept k u
flag_kept false (sort.Word text) u = refl
flag_kept false (sort.Opened text n) u = refl
flag_kept false (sort.Number n) u = refl
flag_kept false (sort.Sign s) u = refl
flag_kept false sort.Finish u = refl

terminals_hear : (opened : Bool) (all : List Token) (i : ℕ) (ts : List Token) (n : ℕ) → drop i all ≡ ts → AllTokens ts → AllUsual (take n (terminals opened i ts)) → AllHear opened all (take n (terminals opened i ts))
terminals_hear opened all i ts zero e a u = tt
terminals_hear opened all i [] (suc n) e a u = tt
terminals_hear opened all i (t ∷ ts) (suc n) e a u =
    let d = dropped all i t ts e in
    let k : opens opened t.sort ≡ opened = flag_kept opened t.sort u.0 in
    let v : AllUsual (take n (terminals opened (i + 1) ts)) = subst (λ (b : Bool). AllUsual (take n (terminals b (i + 1) ts))) k u.1 in
    let h : AllHear opened all (take n (terminals (opens opened t.sort) (i + 1) ts)) = subst (λ (b : Bool). AllHear opened all (take n (terminals b (i + 1) ts))) (sym k) (terminals_hear opened all (i + 1) ts n d.1 a.1 v) in
    (subst (λ (o : Option Token). Fine opened (heard o)) (sym d.0) (fine_token opened t.sort t.place a.0 u.0), h)

items_fine : {r : Rules} {k : List Symbol} {ts : List Terminal} {out : List Item} (opened : Bool) (all : List Token) → Runs r true k ts out → AllHear opened all ts → AllFine opened (lexemes all out)
items_fine opened all (ends e) h = tt
items_fine opened all (takes e m) h = items_fine opened all m h.1
items_fine opened all (keeps e m) h = (h.0, items_fine opened all m h.1)
items_fine opened all (acts m) h = (tt, items_fine opened all m h)
items_fine opened all (keys {t = t} {out = out} keep b e m) h = go keep (items_fine opened all m h.1)
  where
    go : (keep : Bool) → AllFine opened (lexemes all out) → AllFine opened (lexemes all (kept keep t out))
    go true f = (h.0, f)
    go false f = f
items_fine opened all (others b e m) h = items_fine opened all m h
items_fine opened all (goes_on m) h = items_fine opened all m h

-- all that is written for such a part of a text
pub spelled_fine : (p : LanguagePart) (depth : ℕ) (opened : Bool) (ts : List Token) (taken : ℕ) (out : List Lexeme) → is_without (number_of p) ≡ true → AllTokens ts → IsSpelled p depth opened ts taken out → AllFine opened out
unfolding language
spelled_fine p depth opened ts taken out w a q =
    let u = runs_usual q.read.whole.spelled (rw w refl) in
    let h = terminals_hear opened ts 0 ts taken refl a u in
    subst (λ (x : List Lexeme). AllFine opened x) q.told (items_fine opened ts q.read.whole.spelled h)

last_usual : (ts : List Terminal) (t : Terminal) → AllUsual (ts ++ t ∷ []) → usual t.class ≡ true
last_usual [] t u = u.0
last_usual (x ∷ ts) t u = last_usual ts t u.1

-- such a part never goes up to the end of the text
pub no_end : (p : LanguagePart) (ts : List Terminal) (t : Terminal) (out : List Item) → is_without (number_of p) ≡ true → t.class ≡ 3 → Spells language (symbols_of p) (ts ++ t ∷ []) out → ⊥
unfolding language
no_end p ts t out w e m = let u : usual t.class ≡ true = last_usual ts t (runs_usual m (rw w refl)) in let v : usual 3 ≡ true = rw e at u in cc
