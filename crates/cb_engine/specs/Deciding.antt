-- A test over the lines of a grammar, which shows that one token decides.
use Rattle.std.specs.Prelude.{◌≡◌, ℕ, ◌<◌, zero, suc, Bool, true, false, not, ◌||◌, ◌&&◌, eqb, nat_lt, List, [], ◌∷◌, Option, Some, None, refl}
use Rattle.std.proofs.Common.{arith, cond, ◌⊎◌, inl, inr, sym}
use Rattle.cb_engine.specs.declared.Symbol.{Symbol}
use Rattle.cb_engine.specs.declared.Symbol.TheVariants.{Take, Keep, Act, Part, Gives, Then, Line}
use Rattle.cb_engine.specs.Rules.{Hints, Decides, Fits, Within, has, stands, group, firsts}
use Rattle.cb_engine.specs.Tables.{body, find_line, rules_of, body_of, keyed_in, either}
use Rattle.cb_engine.specs.Readings.{Light, weigh}

abbrev pub within : List ℕ → List ℕ → Bool
within [] b = true
within (x ∷ a) b = has b x && within a b

abbrev pub fits : Hints → List ℕ → List Symbol → Bool
fits h tail [] = true
fits h tail (Take d ∷ k) = fits h tail k
fits h tail (Keep d ∷ k) = fits h tail k
fits h tail (Act a ∷ k) = fits h tail k
fits h tail (Part n ∷ k) = within (firsts h tail k) (h.after n) && fits h tail k
fits h tail (Gives s ∷ k) = fits h tail k
fits h tail (Line l0 l1 l2 ∷ k) = fits h tail k
fits h tail (Then a b ∷ k) =
    within (h.may a) h.first_sort && (within (h.may b) h.second_sort && (within (firsts h tail k) (h.after a) && (within (firsts h tail k) (h.after b) && fits h tail k)))

-- some token is of the class c and admitted by one of these
abbrev pub meets : List ℕ → ℕ → Bool
meets [] c = false
meets (d ∷ ds) c = eqb d c || (eqb (group d) c || (eqb d (group c) || meets ds c))

abbrev pub apart_from : Hints → ℕ → ℕ → Option (Bool × List Symbol) → Bool
apart_from h n c None = true
apart_from h n c (Some o) = not (meets (firsts h (h.after n) o.1) c)

-- a line with a key, or the one without
abbrev pub line_is_fine : List Symbol → Hints → (ℕ → ℕ) → ℕ → ℕ → List Symbol → Bool
line_is_fine all h wt n zero b = fits h (h.after n) b && (within (firsts h (h.after n) b) (h.may n) && nat_lt (weigh wt b) (wt n))
line_is_fine all h wt n (suc c) b =
    fits h (h.after n) b && (has (h.may n) (suc c) && (apart_from h n (suc c) (find_line all n 0) && nat_lt (weigh wt b) 1000))

abbrev pub each_is_fine : List Symbol → Hints → (ℕ → ℕ) → List Symbol → Bool
each_is_fine all h wt [] = true
each_is_fine all h wt (Line n c keep ∷ g) = line_is_fine all h wt n c (body g) && each_is_fine all h wt g
each_is_fine all h wt (_ ∷ g) = each_is_fine all h wt g

eqb_self : (c : ℕ) → eqb c c ≡ true
eqb_self c = grind arith

pub both : {a b : Bool} → (a && b) ≡ true → (a ≡ true) × (b ≡ true)
both {a = true} {b = true} e = (refl, refl)
both {a = true} {b = false} e = absurd (cc)
both {a = false} e = absurd (cc)

pub chosen_true : {x y : Bool} (b : Bool) → cond b x y ≡ true → ((b ≡ true) × (x ≡ true)) ⊎ ((b ≡ false) × (y ≡ true))
chosen_true true e = inl (refl, e)
chosen_true false e = inr (refl, e)

either_true : (a b : Bool) → (a || b) ≡ true → (a ≡ true) ⊎ (b ≡ true)
either_true true b e = inl refl
either_true false b e = inr e

or_left : (a b : Bool) → a ≡ true → (a || b) ≡ true
or_left true b e = refl
or_left false b e = absurd (cc)

or_right : (a b : Bool) → b ≡ true → (a || b) ≡ true
or_right true b e = refl
or_right false b e = e

same : (a b : ℕ) → eqb a b ≡ true → a ≡ b
same a b e = grind arith

pub group_group : (d : ℕ) → group (group d) ≡ group d
group_group d = go (nat_lt d 120) refl (nat_lt d 128)
  where
    go : (b : Bool) → nat_lt d 120 ≡ b → (c : Bool) → group (cond b d (cond c 2 1)) ≡ cond b d (cond c 2 1)
    go true e c = rw e refl
    go false e true = refl
    go false e false = refl

within_stands : (a b : List ℕ) → within a b ≡ true → (c : ℕ) → stands a c ≡ true → has b c ≡ true
within_stands [] b e c g = absurd (cc)
within_stands (x ∷ a) b e c g = go (within_stands a b (both e).1 c) (either_true (eqb x c) (stands a c) g)
  where
    go : (stands a c ≡ true → has b c ≡ true) → ((eqb x c ≡ true) ⊎ (stands a c ≡ true)) → has b c ≡ true
    go more (inl s) = let q : x ≡ c = same x c s in rw (← q) (both e).0
    go more (inr m) = more m

pub within_says : (a b : List ℕ) → within a b ≡ true → Within a b
within_says a b e c g = go (either_true (stands a c) (stands a (group c)) g)
  where
    twice : (x : Bool) → (x || x) ≡ true → x ≡ true
    twice true e = refl
    twice false e = e

    go : ((stands a c ≡ true) ⊎ (stands a (group c) ≡ true)) → has b c ≡ true
    go (inl m) = within_stands a b e c m
    go (inr m) =
        let q : (stands b (group c) || stands b (group (group c))) ≡ true = within_stands a b e (group c) m in
        let p : (stands b (group c) || stands b (group c)) ≡ true = rw (group_group c) at q in
        or_right (stands b c) _ (twice (stands b (group c)) p)

-- a class that is admitted by one of these and by a key
stands_meets : (l : List ℕ) (c d : ℕ) → stands l d ≡ true → (d ≡ c) ⊎ ((group d ≡ c) ⊎ (d ≡ group c)) → meets l c ≡ true
stands_meets [] c d e w = absurd (cc)
stands_meets (x ∷ l) c d e w = go (λ m. stands_meets l c d m w) (either_true (eqb x d) (stands l d) e) w
  where
    go : (stands l d ≡ true → meets l c ≡ true) → ((eqb x d ≡ true) ⊎ (stands l d ≡ true)) → (d ≡ c) ⊎ ((group d ≡ c) ⊎ (d ≡ group c)) → meets (x ∷ l) c ≡ true
    go more (inl s) (inl v) = let q : x ≡ d = same x d s in let p : eqb x c ≡ true = rw (q, v) (eqb_self c) in or_left (eqb x c) (eqb (group x) c || (eqb x (group c) || meets l c)) p
    go more (inl s) (inr (inl v)) = let q : x ≡ d = same x d s in let p : eqb (group x) c ≡ true = rw (q, v) (eqb_self c) in or_right (eqb x c) (eqb (group x) c || (eqb x (group c) || meets l c)) (or_left (eqb (group x) c) (eqb x (group c) || meets l c) p)
    go more (inl s) (inr (inr v)) = let q : x ≡ d = same x d s in let p : eqb x (group c) ≡ true = rw (q, v) (eqb_self (group c)) in or_right (eqb x c) (eqb (group x) c || (eqb x (group c) || meets l c)) (or_right (eqb (group x) c) (eqb x (group c) || meets l c) (or_left (eqb x (group c)) (meets l c) p))
    go more (inr m) w = or_right (eqb x c) (eqb (group x) c || (eqb x (group c) || meets l c)) (or_right (eqb (group x) c) (eqb x (group c) || meets l c) (or_right (eqb x (group c)) (meets l c) (more m)))

pub has_meets : (l : List ℕ) (c d : ℕ) → has l d ≡ true → (c ≡ d) ⊎ (c ≡ group d) → meets l c ≡ true
has_meets l c d e w = go (either_true (stands l d) (stands l (group d)) e) w
  where
    go : ((stands l d ≡ true) ⊎ (stands l (group d) ≡ true)) → (c ≡ d) ⊎ (c ≡ group d) → meets l c ≡ true
    go (inl m) (inl v) = stands_meets l c d m (inl (sym v))
    go (inl m) (inr v) = stands_meets l c d m (inr (inl (sym v)))
    go (inr m) (inl v) = stands_meets l c (group d) m (inr (inr (rw v refl)))
    go (inr m) (inr v) = stands_meets l c (group d) m (inl (sym v))

pub has_of : (l : List ℕ) (c d : ℕ) → has l c ≡ true → (c ≡ d) ⊎ (c ≡ group d) → has l d ≡ true
has_of l c d e (inl v) = rw (← v) e
has_of l c d e (inr v) =
    let p : (stands l (group d) || stands l (group (group d))) ≡ true = rw v at e in
    let q : (stands l (group d) || stands l (group d)) ≡ true = rw (group_group d) at p in
    or_right (stands l d) _ (once (stands l (group d)) q)
  where
    once : (x : Bool) → (x || x) ≡ true → x ≡ true
    once true e = refl
    once false e = e

pub fits_says : (h : Hints) (tail : List ℕ) (k : List Symbol) → fits h tail k ≡ true → Fits h tail k
fits_says h tail [] e = tt
fits_says h tail (Take d ∷ k) e = fits_says h tail k e
fits_says h tail (Keep d ∷ k) e = fits_says h tail k e
fits_says h tail (Act a ∷ k) e = fits_says h tail k e
fits_says h tail (Part n ∷ k) e = (within_says _ _ (both e).0, fits_says h tail k (both e).1)
fits_says h tail (Gives s ∷ k) e = fits_says h tail k e
fits_says h tail (Line l0 l1 l2 ∷ k) e = fits_says h tail k e
fits_says h tail (Then a b ∷ k) e =
    let p = both e in
    let q = both p.1 in
    let s = both q.1 in
    let t = both s.1 in
    (within_says _ _ p.0, within_says _ _ q.0, within_says _ _ s.0, within_says _ _ t.0, fits_says h tail k t.1)

pub no_zero : (d : ℕ) → 0 < d → group d ≡ 0 → ⊥
no_zero d l e = go (nat_lt d 120) (nat_lt d 128) refl e
  where
    go : (b c : Bool) → nat_lt d 120 ≡ b → cond b d (cond c 2 1) ≡ 0 → ⊥
    go true c f e = omega arith
    go false true f e = absurd (cc)
    go false false f e = absurd (cc)

-- what is found is one of the lines
pub found : (all : List Symbol) (h : Hints) (wt : ℕ → ℕ) (g : List Symbol) (n c : ℕ) (l : Bool × List Symbol) → each_is_fine all h wt g ≡ true → find_line g n c ≡ Some l → line_is_fine all h wt n c l.1 ≡ true
found all h wt [] n c l e f = absurd (cc)
found all h wt (Line m k keep ∷ g) n c l e f = go (found all h wt g n c l (both e).1) (eqb m n && eqb k c) refl f
  where
    go : (find_line g n c ≡ Some l → line_is_fine all h wt n c l.1 ≡ true) → (t : Bool) → (eqb m n && eqb k c) ≡ t → cond t (Some (keep, body g)) (find_line g n c) ≡ Some l → line_is_fine all h wt n c l.1 ≡ true
    go more true s f =
        let q : l ≡ (keep, body g) = cc in
        let p : (eqb m n ≡ true) × (eqb k c ≡ true) = both s in
        let a : m ≡ n = grind arith in
        let b : k ≡ c = grind arith in
        rw (q, ← a, ← b) (both e).0
    go more false s f = more f
found all h wt (Take x ∷ g) n c l e f = found all h wt g n c l e f
found all h wt (Keep x ∷ g) n c l e f = found all h wt g n c l e f
found all h wt (Act x ∷ g) n c l e f = found all h wt g n c l e f
found all h wt (Part x ∷ g) n c l e f = found all h wt g n c l e f
found all h wt (Gives x ∷ g) n c l e f = found all h wt g n c l e f
found all h wt (Then x y ∷ g) n c l e f = found all h wt g n c l e f

pub body_some : (o : Option (Bool × List Symbol)) (b : List Symbol) → body_of o ≡ Some b → (l : Bool × List Symbol) × (o ≡ Some l) × (b ≡ l.1)
body_some None b e = absurd (cc)
body_some (Some l) b e = (l, refl, cc)

module _ (all : List Symbol) (h : Hints) (wt : ℕ → ℕ) (e : each_is_fine all h wt all ≡ true) where
  apart_says : (n c d : ℕ) (o : Option (Bool × List Symbol)) (b : List Symbol) → (c ≡ d) ⊎ (c ≡ group d) → apart_from h n c o ≡ true → body_of o ≡ Some b → has (firsts h (h.after n) b) d ≡ true → ⊥
  apart_says n c d None b v a f g = absurd (cc)
  apart_says n c d (Some o) b v a f g =
      let q : b ≡ o.1 = cc in
      let p : has (firsts h (h.after n) o.1) d ≡ true = rw q at g in
      let m : meets (firsts h (h.after n) o.1) c ≡ true = has_meets _ c d p v in
      go (meets (firsts h (h.after n) o.1) c) a m
    where
      go : (t : Bool) → not t ≡ true → t ≡ true → ⊥
      go true g m = absurd (cc)
      go false g m = absurd (cc)

  pub record KeyLine (n c : ℕ) (alt : Bool × List Symbol) : Type 0 where
    pub may : has (h.may n) c ≡ true
    pub apart : (b : List Symbol) → body_of (find_line all n 0) ≡ Some b → has (firsts h (h.after n) b) c ≡ true → ⊥
    pub light : weigh wt alt.1 < 1000
    pub fit : Fits h (h.after n) alt.1

  key_at : (n c d : ℕ) (alt : Bool × List Symbol) → find_line all n (suc c) ≡ Some alt → (suc c ≡ d) ⊎ (suc c ≡ group d) → KeyLine n d alt
  key_at n c d alt g v =
      let x : (fits h (h.after n) alt.1 ≡ true) × ((has (h.may n) (suc c) && (apart_from h n (suc c) (find_line all n 0) && nat_lt (weigh wt alt.1) 1000)) ≡ true) = both (found all h wt all n (suc c) alt e g) in
      let u : (has (h.may n) (suc c) ≡ true) × ((apart_from h n (suc c) (find_line all n 0) && nat_lt (weigh wt alt.1) 1000) ≡ true) = both x.1 in
      let w : (apart_from h n (suc c) (find_line all n 0) ≡ true) × (nat_lt (weigh wt alt.1) 1000 ≡ true) = both u.1 in
      record {
        may = has_of (h.may n) (suc c) d u.0 v;
        apart = λ b f m. apart_says n (suc c) d (find_line all n 0) b v w.0 f m;
        light = grind arith;
        fit = fits_says h (h.after n) alt.1 x.0;
      }

  key_line : (n c : ℕ) (alt : Bool × List Symbol) → keyed_in all n c ≡ Some alt → KeyLine n c alt
  key_line n zero alt g = absurd (cc)
  key_line n (suc c) alt g = go (find_line all n (suc c)) refl (group (suc c)) refl g
    where
      go : (o : Option (Bool × List Symbol)) → find_line all n (suc c) ≡ o → (k : ℕ) → group (suc c) ≡ k → either o (find_line all n (group (suc c))) ≡ Some alt → KeyLine n (suc c) alt
      go (Some l) f k p q = key_at n c (suc c) alt (cc) (inl refl)
      go None f zero p q = absurd (no_zero (suc c) (omega arith) p)
      go None f (suc k) p q = key_at n k (suc c) alt (rw p at q) (inr (sym p))

  pub record OtherLine (n : ℕ) (b : List Symbol) : Type 0 where
    pub may : Within (firsts h (h.after n) b) (h.may n)
    pub light : weigh wt b < wt n
    pub fit : Fits h (h.after n) b

  other_line : (n : ℕ) (b : List Symbol) → body_of (find_line all n 0) ≡ Some b → OtherLine n b
  other_line n b g = go (body_some (find_line all n 0) b g)
    where
      go : ((l : Bool × List Symbol) × (find_line all n 0 ≡ Some l) × (b ≡ l.1)) → OtherLine n b
      go (l, f, a) =
          let x : (fits h (h.after n) l.1 ≡ true) × ((within (firsts h (h.after n) l.1) (h.may n) && nat_lt (weigh wt l.1) (wt n)) ≡ true) = both (found all h wt all n 0 l e f) in
          let u : (within (firsts h (h.after n) l.1) (h.may n) ≡ true) × (nat_lt (weigh wt l.1) (wt n) ≡ true) = both x.1 in
          let w : weigh wt l.1 < wt n = grind arith in
          record {
            may = rw a (within_says _ _ u.0);
            light = rw a w;
            fit = rw a (fits_says h (h.after n) l.1 x.0);
          }

  pub decides : Decides (rules_of all) h
  decides = record {
    key_may = λ n c alt g. (key_line n c alt g).may;
    other_may = λ n b g. (other_line n b g).may;
    apart = λ n c alt b g o f. (key_line n c alt g).apart b o f;
    key_fits = λ n c alt g. (key_line n c alt g).fit;
    other_fits = λ n b g. (other_line n b g).fit;
  }

  pub light : Light (rules_of all) wt
  light = record {
    key = λ n c alt g. (key_line n c alt g).light;
    other = λ n b g. (other_line n b g).light;
  }
