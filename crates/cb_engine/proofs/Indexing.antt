use Rattle.std.proofs.Common.{◌≡◌, ℕ, ◌<◌, ◌+◌, ◌*◌, zero, suc, Bool, true, false, ◌&&◌, eqb, List, [], ◌∷◌, refl, ap, sym, ◌∙◌, arith, drop, length, get_or, replicate, set, ◌≢◌}
use Rattle.std.proofs.lemmas.List.{get_or-set_same, get_or-set_other}
use Rattle.std.proofs.lemmas.Option.{slice_get-get_or}
use Rattle.std.proofs.lemmas.Grind.{common_steps}
use Rattle.std.specs.Prelude.{Some, None}
use Rattle.std.specs.List.{slice_get}
use Rattle.cb_engine.specs.declared.Symbol.{Symbol}
use Rattle.cb_engine.specs.declared.Symbol.TheVariants.{Take, Keep, Act, Part, Gives, Then, Line}
use Rattle.cb_engine.specs.Tables.{body, find_line}
use Rattle.cb_engine.specs.Indexed.{Points, IsIndexFrom}

pub at_place : (g : List Symbol) (l : ℕ) (s : Symbol) → slice_get g l ≡ Some s → drop l g ≡ s ∷ drop (suc l) g
at_place [] zero s e = absurd (cc)
at_place (x ∷ g) zero s e = let q : x ≡ s = cc in rw q refl
at_place [] (suc l) s e = absurd (cc)
at_place (x ∷ g) (suc l) s e = at_place g l s e

abbrev nothing : ℕ → List ℕ
nothing n = replicate n 0

pub get_zeros : (n i : ℕ) → ◌≡◌ {A = ℕ} (get_or (nothing n) i 0) 0
get_zeros zero zero = refl
get_zeros zero (suc i) = refl
get_zeros (suc n) zero = refl
get_zeros (suc n) (suc i) = get_zeros n i

pub drop_all : (g : List Symbol) → drop (length g) g ≡ []
drop_all [] = refl
drop_all (x ∷ g) = drop_all g

pub points_none : (g : List Symbol) (n c : ℕ) → find_line (drop (length g) g) n c ≡ None
points_none g n c = rw (drop_all g) refl

-- a symbol that is no line changes nothing
abbrev pub not_line : Symbol → Type 0
not_line s = (n k : ℕ) (keep : Bool) → s ≡ Line n k keep → ⊥

pub skipped : (g : List Symbol) (l n c : ℕ) (s : Symbol) → slice_get g l ≡ Some s → not_line s → find_line (drop l g) n c ≡ find_line (drop (suc l) g) n c
skipped g l n c s e never = rw (at_place g l s e) (go s never)
  where
    go : (s : Symbol) → not_line s → find_line (s ∷ drop (suc l) g) n c ≡ find_line (drop (suc l) g) n c
    go (Take _) never = refl
    go (Keep _) never = refl
    go (Act _) never = refl
    go (Part _) never = refl
    go (Gives _) never = refl
    go (Then _ _) never = refl
    go (Line a b k) never = absurd (never a b k refl)

points_back : (g : List Symbol) (l m n c p : ℕ) → find_line (drop l g) n c ≡ find_line (drop m g) n c → Points g m n c p → Points g l n c p
points_back g l m n c zero e q = rw e q
points_back g l m n c (suc p) e q = (q.0, q.1, rw e q.2)

pub index_skips : (g : List Symbol) (l : ℕ) (s : Symbol) (places : List ℕ) → slice_get g l ≡ Some s → not_line s → IsIndexFrom g (suc l) places → IsIndexFrom g l places
index_skips g l s places e never q = record {
  long = q.long;
  points = λ n c a b. points_back g l (suc l) n c (get_or places (n * 256 + c) 0) (skipped g l n c s e never) (q.points n c a b);
}

apart_slots : (n c m k : ℕ) → c < 256 → k < 256 → (eqb m n && eqb k c) ≡ false → n * 256 + c ≡ m * 256 + k → ⊥
apart_slots n c m k lc lk e q =
    let a : n ≡ m = omega arith in
    let b : c ≡ k = omega arith in
    go (eqb_same m n (sym a)) (eqb_same k c (sym b)) e
  where
    eqb_same : (x y : ℕ) → x ≡ y → eqb x y ≡ true
    eqb_same x y e = grind arith

    go : eqb m n ≡ true → eqb k c ≡ true → (eqb m n && eqb k c) ≡ false → ⊥
    go x y e = let f : true ≡ false = rw (x, y) at e in absurd (cc)

same_number : (a b : ℕ) → eqb a b ≡ true → a ≡ b
same_number a b e = grind arith

both_true : (a b : Bool) → (a && b) ≡ true → (a ≡ true) × (b ≡ true)
both_true true b e = (refl, e)
both_true false b e = absurd (cc)

index_line_at : (g : List Symbol) (l m k : ℕ) (keep : Bool) (places : List ℕ) → length g < 65536 → l < length g → m < 256 → k < 256 → slice_get g l ≡ Some (Line m k keep) → IsIndexFrom g (suc l) places →
    (n c : ℕ) → n < 256 → c < 256 → (b : Bool) → (eqb m n && eqb k c) ≡ b → Points g l n c (get_or (set places (m * 256 + k) (suc l)) (n * 256 + c) 0)
index_line_at g l m k keep places small le lm lk e q n c ln lc true f =
    let x : (eqb m n ≡ true) × (eqb k c ≡ true) = both_true (eqb m n) (eqb k c) f in
    let a : m ≡ n = same_number m n x.0 in
    let b : k ≡ c = same_number k c x.1 in
    let i : n * 256 + c < length places = omega (arith, q.long) in
    let p : get_or (set places (m * 256 + k) (suc l)) (n * 256 + c) 0 ≡ suc l = rw (a, b) (get_or-set_same places (n * 256 + c) (suc l) 0 i) in
    let d : find_line (drop l g) n c ≡ Some (keep, body (drop (suc l) g)) = rw (at_place g l (Line m k keep) e, f) refl in
    let s : slice_get g l ≡ Some (Line n c keep) = rw (← a, ← b) e in
    rw p (keep, s, d)
index_line_at g l m k keep places small le lm lk e q n c ln lc false f =
    let no : n * 256 + c ≢ m * 256 + k = λ r. apart_slots n c m k lc lk f r in
    let p : get_or (set places (m * 256 + k) (suc l)) (n * 256 + c) 0 ≡ get_or places (n * 256 + c) 0 = get_or-set_other places (m * 256 + k) (n * 256 + c) (suc l) 0 no in
    let d : find_line (drop l g) n c ≡ find_line (drop (suc l) g) n c = rw (at_place g l (Line m k keep) e, f) refl in
    rw p (points_back g l (suc l) n c (get_or places (n * 256 + c) 0) d (q.points n c ln lc))

pub index_line : (g : List Symbol) (l m k : ℕ) (keep : Bool) (places : List ℕ) → length g < 65536 → l < length g → m < 256 → k < 256 → slice_get g l ≡ Some (Line m k keep) → IsIndexFrom g (suc l) places → IsIndexFrom g l (set places (m * 256 + k) (suc l))
index_line g l m k keep places small le lm lk e q = record {
  long = grind (arith, common_steps, q.long);
  points = λ n c ln lc. index_line_at g l m k keep places small le lm lk e q n c ln lc (eqb m n && eqb k c) refl;
}

pub index_none : (g : List Symbol) (places : List ℕ) → places ≡ replicate 65536 0 → IsIndexFrom g (length g) places
index_none g places e = record {
  long = rw e refl;
  points = λ n c ln lc. let p : get_or places (n * 256 + c) 0 ≡ 0 = rw e (get_zeros 65536 (n * 256 + c)) in rw p (points_none g n c);
}

pub index_line_or : (g : List Symbol) (l m k : ℕ) (keep : Bool) (places : List ℕ) (d : Symbol) → length g < 65536 → l < length g → m < 256 → k < 256 → get_or g l d ≡ Line m k keep → IsIndexFrom g (suc l) places → IsIndexFrom g l (set places (m * 256 + k) (suc l))
index_line_or g l m k keep places d small le lm lk e q =
    let s : slice_get g l ≡ Some (Line m k keep) = slice_get-get_or g l d le ∙ ap (λ (y : Symbol). Some y) e in
    index_line g l m k keep places small le lm lk s q

pub index_skips_or : (g : List Symbol) (l : ℕ) (places : List ℕ) (d : Symbol) → l < length g → not_line (get_or g l d) → IsIndexFrom g (suc l) places → IsIndexFrom g l places
index_skips_or g l places d le never q = index_skips g l (get_or g l d) places (slice_get-get_or g l d le) never q
