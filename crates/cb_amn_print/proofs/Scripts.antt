-- What is printed, token by token: which are kept, and what is done between them.
use Rattle.std.proofs.Common.{◌≡◌, ℕ, zero, suc, ◌+◌, Bool, true, false, List, [], ◌∷◌, ◌++◌, length, take, drop, refl, ap, sym, ◌∙◌, arith, append_assoc}
use Rattle.std.specs.Prelude.{Option, Some, map, slice_get, Ok}
use Rattle.cb_lex.specs.declared.token.Place.{Place}
use Rattle.cb_lex.specs.declared.token.Token.{Token}
use Rattle.cb_lex.specs.declared.token.Sort.{Sort}
use Rattle.cb_lex.specs.declared.token.Sort.TheVariants as sort
use Rattle.cb_lex.specs.Lexes.{Lexes, moved, start}
use Rattle.cb_lex.specs.Lexes.Lexes.{finish, gap, makes}
use Rattle.cb_engine.specs.declared.Symbol.{Symbol}
use Rattle.cb_engine.specs.declared.Symbol.TheVariants.{Take, Keep, Act}
use Rattle.cb_engine.specs.declared.Terminal.{Terminal}
use Rattle.cb_engine.specs.declared.Item.{Item}
use Rattle.cb_engine.specs.declared.Item.TheVariants.{Word, Do}
use Rattle.cb_engine.specs.Rules.{Rules, Runs, Spells, kept, admits}
use Rattle.cb_engine.specs.Rules.Runs.{ends, takes, keeps, acts, keys, others, goes_on}
use Rattle.cb_grammar.specs.Misreadings.{language}
use Rattle.cb_grammar.specs.Terminals.{class_of, terminals, opens}
use Rattle.cb_amn_parse.specs.Lexemes.{Lexeme, Did, heard_at, heard, lexemes}
use Rattle.cb_amn_print.specs.Tokens.{sort_text, said}
use Rattle.cb_amn_print.specs.Printed.{unplaced}
use Rattle.cb_amn_print.proofs.Fronts.{IsRead, front_said, drop_of}

pub data Piece : Type 0 where
  Silent : Sort → Piece
  Kept : Sort → Piece
  Done : ℕ → Piece

-- the printed text
abbrev pub text_of : List Piece → List ℕ
text_of [] = []
text_of (Silent s ∷ p) = said s ++ text_of p
text_of (Kept s ∷ p) = said s ++ text_of p
text_of (Done a ∷ p) = text_of p

-- what is written, places aside
abbrev pub told_of : List Piece → List Lexeme
told_of [] = []
told_of (Silent s ∷ p) = told_of p
told_of (Kept s ∷ p) = unplaced (heard_at s start) ∷ told_of p
told_of (Done a ∷ p) = Did a ∷ told_of p

-- the pieces of tokens from a number on
module _ (opened : Bool) where
  abbrev pub terms : ℕ → List Piece → List Terminal
  terms i [] = []
  terms i (Silent s ∷ p) = record { class = class_of opened s; index = i } ∷ terms (i + 1) p
  terms i (Kept s ∷ p) = record { class = class_of opened s; index = i } ∷ terms (i + 1) p
  terms i (Done a ∷ p) = terms i p

  abbrev pub items : ℕ → List Piece → List Item
  items i [] = []
  items i (Silent s ∷ p) = items (i + 1) p
  items i (Kept s ∷ p) = Word (record { class = class_of opened s; index = i }) ∷ items (i + 1) p
  items i (Done a ∷ p) = Do a ∷ items i p

  -- each token may be printed, and opens nothing
  abbrev pub Fits : Sort → Type 0
  Fits s = IsRead s × (opens opened s ≡ opened)

  abbrev pub AllFit : List Piece → Type 0
  AllFit [] = Unit {0}
  AllFit (Silent s ∷ p) = Fits s × AllFit p
  AllFit (Kept s ∷ p) = Fits s × AllFit p
  AllFit (Done a ∷ p) = AllFit p

  -- the symbols spell the pieces, wherever they stand
  pub record Spelled (k : List Symbol) (p : List Piece) : Type 0 where
    pub runs : (i : ℕ) → Spells language k (terms i p) (items i p)

abbrev pub count : List Piece → ℕ
count [] = 0
count (Silent s ∷ p) = 1 + count p
count (Kept s ∷ p) = 1 + count p
count (Done a ∷ p) = count p

-- ---- one piece after the other

appended : {r : Rules} {u : List Symbol} {ts : List Terminal} {out : List Item} → Runs r true u ts out → (v : List Symbol) (us : List Terminal) (o : List Item) → Runs r true v us o → Runs r true (u ++ v) (ts ++ us) (out ++ o)
appended {u = u} (ends g) v us o n = let e : u ≡ [] = g refl in rw e n
appended (takes e m) v us o n = takes e (appended m v us o n)
appended (keeps e m) v us o n = keeps e (appended m v us o n)
appended (acts m) v us o n = acts (appended m v us o n)
appended (keys {k = k} {t = t} {out = out} keep b e m) v us o n = rw (kept_before keep t out o) (keys keep b e (rw (append_assoc b k v) at (appended m v us o n)))
  where
    kept_before : (keep : Bool) (t : Terminal) (early o : List Item) → kept keep t early ++ o ≡ kept keep t (early ++ o)
    kept_before true t early o = refl
    kept_before false t early o = refl
appended (others {k = k} b e m) v us o n = others b e (rw (append_assoc b k v) at (appended m v us o n))
appended (goes_on m) v us o n = goes_on (appended m v us o n)

module _ (opened : Bool) where
  terms-append : (i : ℕ) (p q : List Piece) → terms opened i (p ++ q) ≡ terms opened i p ++ terms opened (i + count p) q
  terms-append i [] q = let e : i + 0 ≡ i = omega arith in rw e refl
  terms-append i (Silent s ∷ p) q = let e : i + (1 + count p) ≡ (i + 1) + count p = omega arith in rw (e, terms-append (i + 1) p q) refl
  terms-append i (Kept s ∷ p) q = let e : i + (1 + count p) ≡ (i + 1) + count p = omega arith in rw (e, terms-append (i + 1) p q) refl
  terms-append i (Done a ∷ p) q = terms-append i p q

  items-append : (i : ℕ) (p q : List Piece) → items opened i (p ++ q) ≡ items opened i p ++ items opened (i + count p) q
  items-append i [] q = let e : i + 0 ≡ i = omega arith in rw e refl
  items-append i (Silent s ∷ p) q = let e : i + (1 + count p) ≡ (i + 1) + count p = omega arith in rw (e, items-append (i + 1) p q) refl
  items-append i (Kept s ∷ p) q = let e : i + (1 + count p) ≡ (i + 1) + count p = omega arith in rw (e, items-append (i + 1) p q) refl
  items-append i (Done a ∷ p) q = ap (λ (x : List Item). Do a ∷ x) (items-append i p q)

  pub and_then : {u v : List Symbol} {p q : List Piece} → Spelled opened u p → Spelled opened v q → Spelled opened (u ++ v) (p ++ q)
  and_then {u = u} {v = v} {p = p} {q = q} a b = record { runs = λ i. rw (terms-append i p q, items-append i p q) (appended (a.runs i) v (terms opened (i + count p) q) (items opened (i + count p) q) (b.runs (i + count p))) }

  pub nothing : Spelled opened [] []
  nothing = record { runs = λ i. ends (λ e. refl) }

  pub silent : (c : ℕ) (s : Sort) → admits c (class_of opened s) ≡ true → Spelled opened (Take c ∷ []) (Silent s ∷ [])
  silent c s e = record { runs = λ i. takes e (ends (λ f. refl)) }

  pub keeping : (c : ℕ) (s : Sort) → admits c (class_of opened s) ≡ true → Spelled opened (Keep c ∷ []) (Kept s ∷ [])
  keeping c s e = record { runs = λ i. keeps e (ends (λ f. refl)) }

  pub done : (a : ℕ) → Spelled opened (Act a ∷ []) (Done a ∷ [])
  done a = record { runs = λ i. acts (ends (λ e. refl)) }

  pub fit-append : (p q : List Piece) → AllFit opened p → AllFit opened q → AllFit opened (p ++ q)
  fit-append [] q a b = b
  fit-append (Silent s ∷ p) q a b = (a.0, fit-append p q a.1 b)
  fit-append (Kept s ∷ p) q a b = (a.0, fit-append p q a.1 b)
  fit-append (Done x ∷ p) q a b = fit-append p q a b

pub text-append : (p q : List Piece) → text_of (p ++ q) ≡ text_of p ++ text_of q
text-append [] q = refl
text-append (Silent s ∷ p) q = ap (λ (x : List ℕ). said s ++ x) (text-append p q) ∙ sym (append_assoc (said s) (text_of p) (text_of q))
text-append (Kept s ∷ p) q = ap (λ (x : List ℕ). said s ++ x) (text-append p q) ∙ sym (append_assoc (said s) (text_of p) (text_of q))
text-append (Done a ∷ p) q = text-append p q

pub told-append : (p q : List Piece) → told_of (p ++ q) ≡ told_of p ++ told_of q
told-append [] q = refl
told-append (Silent s ∷ p) q = told-append p q
told-append (Kept s ∷ p) q = ap (λ (x : List Lexeme). unplaced (heard_at s start) ∷ x) (told-append p q)
told-append (Done a ∷ p) q = ap (λ (x : List Lexeme). Did a ∷ x) (told-append p q)

pub text-both : (p q : List Piece) (a b : List ℕ) → text_of p ≡ a → text_of q ≡ b → text_of (p ++ q) ≡ a ++ b
text-both p q a b e f = text-append p q ∙ ap (λ (x : List ℕ). x ++ text_of q) e ∙ ap (λ (x : List ℕ). a ++ x) f

pub told-both : (p q : List Piece) (a b : List Lexeme) → told_of p ≡ a → told_of q ≡ b → told_of (p ++ q) ≡ a ++ b
told-both p q a b e f = told-append p q ∙ ap (λ (x : List Lexeme). x ++ told_of q) e ∙ ap (λ (x : List Lexeme). a ++ x) f

-- ---- its tokens

-- the tokens of the pieces, with their places
pub record Cut (opened : Bool) (p : List Piece) (at : Place) : Type 0 where
  pub tokens : List Token
  pub last : Token
  pub ends : last.sort ≡ sort.Finish
  pub cut : Lexes (text_of p) at (Ok (tokens ++ last ∷ []))
  pub classes : (i : ℕ) → terminals opened i tokens ≡ terms opened i p
  pub told : (i : ℕ) (all : List Token) → drop i all ≡ tokens → map unplaced (lexemes all (items opened i p)) ≡ told_of p

unplaced_twice : (s : Sort) (at : Place) → unplaced (heard_at s at) ≡ unplaced (heard_at s start)
unplaced_twice (sort.Word text) at = refl
unplaced_twice (sort.Opened text number) at = refl
unplaced_twice (sort.Number n) at = refl
unplaced_twice (sort.Keyword k) at = refl
unplaced_twice (sort.Sign s) at = refl
unplaced_twice sort.Finish at = refl

pub dropped : (all : List Token) (i : ℕ) (t : Token) (ts : List Token) → drop i all ≡ t ∷ ts → (slice_get all i ≡ Some t) × (drop (i + 1) all ≡ ts)
dropped all i t ts e = let n : i + 1 ≡ suc i = omega arith in rw n (go all i e)
  where
    go : (all : List Token) (i : ℕ) → drop i all ≡ t ∷ ts → (slice_get all i ≡ Some t) × (drop (suc i) all ≡ ts)
    go [] zero e = absurd (cc)
    go [] (suc i) e = absurd (cc)
    go (x ∷ all) zero e = (cc, cc)
    go (x ∷ all) (suc i) e = go all i e

token_cut : (s : Sort) (xs : List ℕ) (at : Place) (ts : List Token) → IsRead s → Lexes xs (moved (moved at (take (length (sort_text s)) (sort_text s ++ 32 ∷ xs))) (32 ∷ [])) (Ok ts) → Lexes (said s ++ xs) at (Ok (record { sort = s; place = at } ∷ ts))
token_cut s xs at ts q m =
    let blank : Lexes (32 ∷ xs) (moved at (take (length (sort_text s)) (sort_text s ++ 32 ∷ xs))) (Ok ts) = gap 1 refl m in
    let behind : Lexes (drop (length (sort_text s)) (sort_text s ++ 32 ∷ xs)) (moved at (take (length (sort_text s)) (sort_text s ++ 32 ∷ xs))) (Ok ts) = rw (drop_of (sort_text s) (32 ∷ xs)) blank in
    let whole : Lexes (sort_text s ++ 32 ∷ xs) at (Ok (record { sort = s; place = at } ∷ ts)) = makes s (length (sort_text s)) (front_said s xs q) behind in
    rw (append_assoc (sort_text s) (32 ∷ []) xs) whole

module _ (opened : Bool) where
  classed : (s : Sort) (at : Place) (p : List Piece) (ts : List Token) (i : ℕ) → opens opened s ≡ opened → terminals opened (i + 1) ts ≡ terms opened (i + 1) p →
      terminals opened i (record { sort = s; place = at } ∷ ts) ≡ record { class = class_of opened s; index = i } ∷ terms opened (i + 1) p
  classed s at p ts i e f =
      ap (λ (b : Bool). record { class = class_of opened s; index = i } ∷ terminals b (i + 1) ts) e ∙ ap (λ (l : List Terminal). record { class = class_of opened s; index = i } ∷ l) f

  kept_told : (s : Sort) (at : Place) (p : List Piece) (ts all : List Token) (i : ℕ) → slice_get all i ≡ Some (record { sort = s; place = at }) → map unplaced (lexemes all (items opened (i + 1) p)) ≡ told_of p →
      map unplaced (lexemes all (items opened i (Kept s ∷ p))) ≡ told_of (Kept s ∷ p)
  kept_told s at p ts all i e f =
      ap (λ (t : Option Token). unplaced (heard t) ∷ map unplaced (lexemes all (items opened (i + 1) p))) e ∙ ap (λ (l : Lexeme). l ∷ map unplaced (lexemes all (items opened (i + 1) p))) (unplaced_twice s at) ∙ ap (λ (l : List Lexeme). unplaced (heard_at s start) ∷ l) f

  -- printed pieces are cut into their tokens
  pub cut_of : (p : List Piece) (at : Place) → AllFit opened p → Cut opened p at
  cut_of [] at f = record { tokens = []; last = record { sort = sort.Finish; place = at }; ends = refl; cut = finish refl; classes = λ i. refl; told = λ i all e. refl }
  cut_of (Done a ∷ p) at f =
      let q = cut_of p at f in
      record { tokens = q.tokens; last = q.last; ends = q.ends; cut = q.cut; classes = q.classes; told = λ i all e. ap (λ (l : List Lexeme). Did a ∷ l) (q.told i all e) }
  cut_of (Silent s ∷ p) at f =
      let q = cut_of p (moved (moved at (take (length (sort_text s)) (sort_text s ++ 32 ∷ text_of p))) (32 ∷ [])) f.1 in
      record {
        tokens = record { sort = s; place = at } ∷ q.tokens;
        last = q.last;
        ends = q.ends;
        cut = token_cut s (text_of p) at (q.tokens ++ q.last ∷ []) f.0.0 q.cut;
        classes = λ i. classed s at p q.tokens i f.0.1 (q.classes (i + 1));
        told = λ i all e. q.told (i + 1) all (dropped all i _ q.tokens e).1;
      }
  cut_of (Kept s ∷ p) at f =
      let q = cut_of p (moved (moved at (take (length (sort_text s)) (sort_text s ++ 32 ∷ text_of p))) (32 ∷ [])) f.1 in
      record {
        tokens = record { sort = s; place = at } ∷ q.tokens;
        last = q.last;
        ends = q.ends;
        cut = token_cut s (text_of p) at (q.tokens ++ q.last ∷ []) f.0.0 q.cut;
        classes = λ i. classed s at p q.tokens i f.0.1 (q.classes (i + 1));
        told = λ i all e. let d = dropped all i (record { sort = s; place = at }) q.tokens e in kept_told s at p q.tokens all i d.0 (q.told (i + 1) all d.1);
      }
