-- A part spells what one of its alternatives spells, so that its lines can be read as those of a plain grammar.
use Rattle.std.specs.Prelude.{◌≡◌, ◌<◌, ℕ, zero, suc, Bool, true, false, ◌||◌, ◌&&◌, eqb, List, [], ◌∷◌, ◌++◌, Option, Some, None, refl, if◌then◌else◌}
use Rattle.std.proofs.Common.{arith, cond, ◌⊎◌, inl, inr, subst, sym, ap, ◌≢◌}
use Rattle.cb_engine.specs.declared.Symbol.{Symbol}
use Rattle.cb_engine.specs.declared.Symbol.TheVariants.{Take, Keep, Act, Part, Gives, Then, Line}
use Rattle.cb_engine.specs.declared.Terminal.{Terminal}
use Rattle.cb_engine.specs.declared.Item.{Item}
use Rattle.cb_engine.specs.declared.Item.TheVariants.{Word}
use Rattle.cb_engine.specs.Rules.{Runs, group, admits, kept}
use Rattle.cb_engine.specs.Rules.Runs.{ends, takes, keeps, acts, keys, others, goes_on}
use Rattle.cb_engine.specs.Tables.{body, find_line, rules_of, body_of, keyed_in, either}
use Rattle.cb_engine.specs.Deciding.{body_some, no_zero}
use Rattle.cb_engine.specs.Plain.{each_alone, plain, only_found}

-- what an alternative spells: its key, if it has one, and what it goes on with
abbrev pub line_symbols : ℕ → Bool → List Symbol → List Symbol
line_symbols zero keep b = b
line_symbols (suc c) true b = Keep (suc c) ∷ b
line_symbols (suc c) false b = Take (suc c) ∷ b

-- the alternatives of a part
abbrev pub alternatives : List Symbol → ℕ → List (List Symbol)
alternatives [] n = []
alternatives (Line m c keep ∷ g) n = if eqb m n then line_symbols c keep (body g) ∷ alternatives g n else alternatives g n
alternatives (_ ∷ g) n = alternatives g n

abbrev pub OneOf : (List Symbol → Type 0) → List (List Symbol) → Type 0
OneOf P [] = ⊥
OneOf P (a ∷ rest) = P a ⊎ OneOf P rest

-- no sort is asked for there
abbrev pub NoThen : List Symbol → Type 0
NoThen k = (a b : ℕ) (j : List Symbol) → k ≡ Then a b ∷ j → ⊥

abbrev pub Among : List (List Symbol) → List Symbol → Type 0
Among ws x = OneOf (λ w. x ≡ w) ws

-- pieces one after the other, each one of these
pub data Repeated (ws : List (List Symbol)) : List Symbol → Type 0 where
  none : Repeated ws []
  more : (w x : List Symbol) → Among ws w → Repeated ws x → Repeated ws (w ++ x)

same : (a b : ℕ) → eqb a b ≡ true → a ≡ b
same a b e = grind arith

either_true : (a b : Bool) → (a || b) ≡ true → (a ≡ true) ⊎ (b ≡ true)
either_true true b e = inl refl
either_true false b e = inr e

-- an alternative that is found is one of them
one_found : (P : List Symbol → Type 0) (g : List Symbol) (n c : ℕ) (l : Bool × List Symbol) → find_line g n c ≡ Some l → P (line_symbols c l.0 l.1) → OneOf P (alternatives g n)
one_found P [] n c l e p = absurd (cc)
one_found P (Line m k keep ∷ g) n c l e p = go (eqb m n) (eqb k c) refl e (λ f. one_found P g n c l f p)
  where
    go : (b d : Bool) → eqb k c ≡ d → cond (b && d) (Some (keep, body g)) (find_line g n c) ≡ Some l → (find_line g n c ≡ Some l → OneOf P (alternatives g n)) → OneOf P (cond b (line_symbols k keep (body g) ∷ alternatives g n) (alternatives g n))
    go true true s f next =
        let q : l ≡ (keep, body g) = cc in
        let v : k ≡ c = same k c s in
        inl (rw v (rw q at p))
    go true false s f next = inr (next f)
    go false d s f next = next f
one_found P (Take x ∷ g) n c l e p = one_found P g n c l e p
one_found P (Keep x ∷ g) n c l e p = one_found P g n c l e p
one_found P (Act x ∷ g) n c l e p = one_found P g n c l e p
one_found P (Part x ∷ g) n c l e p = one_found P g n c l e p
one_found P (Gives x ∷ g) n c l e p = one_found P g n c l e p
one_found P (Then x y ∷ g) n c l e p = one_found P g n c l e p

-- one of them stands among the lines
pub record Stands (P : List Symbol → Type 0) (g : List Symbol) (n : ℕ) : Type 0 where
  pub front : List Symbol
  pub back : List Symbol
  pub key : ℕ
  pub keep : Bool
  pub there : g ≡ front ++ Line n key keep ∷ back
  pub holds : P (line_symbols key keep (body back))

further : (P : List Symbol → Type 0) (s : Symbol) (g : List Symbol) (n : ℕ) → Stands P g n → Stands P (s ∷ g) n
further P s g n q = record { front = s ∷ q.front; back = q.back; key = q.key; keep = q.keep; there = ap (λ (y : List Symbol). s ∷ y) q.there; holds = q.holds }

one_stands : (P : List Symbol → Type 0) (g : List Symbol) (n : ℕ) → OneOf P (alternatives g n) → Stands P g n
one_stands P [] n p = absurd p
one_stands P (Line m k keep ∷ g) n p = go (eqb m n) refl p (λ q. one_stands P g n q)
  where
    go : (b : Bool) → eqb m n ≡ b → OneOf P (cond b (line_symbols k keep (body g) ∷ alternatives g n) (alternatives g n)) → (OneOf P (alternatives g n) → Stands P g n) → Stands P (Line m k keep ∷ g) n
    go true s (inl h) next =
        let v : m ≡ n = same m n s in
        record { front = []; back = g; key = k; keep = keep; there = ap (λ (y : ℕ). Line y k keep ∷ g) v; holds = h }
    go true s (inr q) next = further P (Line m k keep) g n (next q)
    go false s q next = further P (Line m k keep) g n (next q)
one_stands P (Take x ∷ g) n p = further P (Take x) g n (one_stands P g n p)
one_stands P (Keep x ∷ g) n p = further P (Keep x) g n (one_stands P g n p)
one_stands P (Act x ∷ g) n p = further P (Act x) g n (one_stands P g n p)
one_stands P (Part x ∷ g) n p = further P (Part x) g n (one_stands P g n p)
one_stands P (Gives x ∷ g) n p = further P (Gives x) g n (one_stands P g n p)
one_stands P (Then x y ∷ g) n p = further P (Then x y) g n (one_stands P g n p)

module _ (g : List Symbol) (alone : each_alone g g ≡ true) where
  abbrev After : List Symbol → List Terminal → List Item → List Symbol → Type 0
  After k ts out a = Runs (rules_of g) true (a ++ k) ts out

  keyed : (n c : ℕ) (k : List Symbol) (t : Terminal) (ts : List Terminal) (out : List Item) (keep : Bool) (b : List Symbol) → 0 < c → admits c t.class ≡ true → find_line g n c ≡ Some (keep, b) → Runs (rules_of g) true (b ++ k) ts out → OneOf (After k (t ∷ ts) (kept keep t out)) (alternatives g n)
  keyed n zero k t ts out keep b l a f m = absurd (omega arith)
  keyed n (suc c) k t ts out true b l a f m = one_found (After k (t ∷ ts) (Word t ∷ out)) g n (suc c) (true, b) f (keeps a m)
  keyed n (suc c) k t ts out false b l a f m = one_found (After k (t ∷ ts) out) g n (suc c) (false, b) f (takes a m)

  self : (c : ℕ) → eqb c c ≡ true
  self c = grind arith

  or_right : (a b : Bool) → b ≡ true → (a || b) ≡ true
  or_right true b e = refl
  or_right false b e = e

  by_class : (n d : ℕ) (k : List Symbol) (t : Terminal) (ts : List Terminal) (out : List Item) (keep : Bool) (b : List Symbol) → t.class ≡ d → keyed_in g n d ≡ Some (keep, b) → Runs (rules_of g) true (b ++ k) ts out → OneOf (After k (t ∷ ts) (kept keep t out)) (alternatives g n)
  by_class n zero k t ts out keep b w e m = absurd (cc)
  by_class n (suc d) k t ts out keep b w e m = go (find_line g n (suc d)) refl e
    where
      itself : admits (suc d) t.class ≡ true
      itself = rw (w, self (suc d)) refl

      its_group : admits (group (suc d)) t.class ≡ true
      its_group = rw w (or_right (eqb (group (suc d)) (suc d)) (eqb (group (suc d)) (group (suc d))) (self (group (suc d))))

      positive : (x : ℕ) → (x ≡ 0 → ⊥) → 0 < x
      positive zero never = absurd (never refl)
      positive (suc x) never = omega arith

      go : (o : Option (Bool × List Symbol)) → find_line g n (suc d) ≡ o → either o (find_line g n (group (suc d))) ≡ Some (keep, b) → OneOf (After k (t ∷ ts) (kept keep t out)) (alternatives g n)
      go None f q = keyed n (group (suc d)) k t ts out keep b (positive (group (suc d)) (no_zero (suc d) (omega arith))) its_group q m
      go (Some l) f q = let p : l ≡ (keep, b) = cc in keyed n (suc d) k t ts out keep b (omega arith) itself (rw p at f) m

  -- what a part spells, one of its alternatives spells
  pub unfolded : {l : List Symbol} {ts : List Terminal} {out : List Item} → Runs (rules_of g) true l ts out → (n : ℕ) (k : List Symbol) → l ≡ Part n ∷ k → OneOf (After k ts out) (alternatives g n)
  unfolded (ends e) n k w = let q = e refl in absurd (cc)
  unfolded (takes a m) n k w = absurd (cc)
  unfolded (keeps a m) n k w = absurd (cc)
  unfolded (acts m) n k w = absurd (cc)
  unfolded (goes_on m) n k w = absurd (cc)
  unfolded (keys {n = p} {k = j} {t = t} {ts = ts} {out = out} keep b e m) n k w =
      let a : p ≡ n = cc in
      let c : j ≡ k = cc in
      by_class n t.class k t ts out keep b refl (rw a at e) (rw c at m)
  unfolded (others {n = p} {k = j} {ts = ts} {out = out} b e m) n k w =
      let a : p ≡ n = cc in
      let c : j ≡ k = cc in
      let o = body_some (find_line g n 0) b (rw a at e) in
      let q : Runs (rules_of g) true (b ++ k) ts out = rw c at m in
      one_found (After k ts out) g n 0 o.0 o.1 (rw o.2 at q)

  admitted : (c d : ℕ) → admits (suc c) d ≡ true → (d ≢ 0) × ((suc c ≡ d) ⊎ (suc c ≡ group d))
  admitted c zero a = absurd (unlike (either_true (eqb (suc c) 0) (eqb (suc c) 0) a))
    where
      unlike : ((eqb (suc c) 0 ≡ true) ⊎ (eqb (suc c) 0 ≡ true)) → ⊥
      unlike (inl s) = let q : suc c ≡ 0 = same (suc c) 0 s in omega arith
      unlike (inr s) = let q : suc c ≡ 0 = same (suc c) 0 s in omega arith
  admitted c (suc d) a = (λ e. absurd (cc), go (either_true (eqb (suc c) (suc d)) (eqb (suc c) (group (suc d))) a))
    where
      go : ((eqb (suc c) (suc d) ≡ true) ⊎ (eqb (suc c) (group (suc d)) ≡ true)) → (suc c ≡ suc d) ⊎ (suc c ≡ group (suc d))
      go (inl s) = inl (same (suc c) (suc d) s)
      go (inr s) = inr (same (suc c) (group (suc d)) s)

  taken : {l : List Symbol} {ts : List Terminal} {out : List Item} → Runs (rules_of g) true l ts out → (n c : ℕ) (b k : List Symbol) → l ≡ Take (suc c) ∷ (b ++ k) → ((d : ℕ) → d ≢ 0 → (suc c ≡ d) ⊎ (suc c ≡ group d) → keyed_in g n d ≡ Some (false, b)) → Runs (rules_of g) true (Part n ∷ k) ts out
  taken (ends e) n c b k w f = let q = e refl in absurd (cc)
  taken (takes {c = x} {k = j} {t = t} {ts = ts} {out = out} a m) n c b k w f =
      let p : x ≡ suc c = cc in
      let q : j ≡ b ++ k = cc in
      let v = admitted c t.class (rw p at a) in
      keys false b (f t.class v.0 v.1) (rw q at m)
  taken (keeps a m) n c b k w f = absurd (cc)
  taken (acts m) n c b k w f = absurd (cc)
  taken (keys keep x e m) n c b k w f = absurd (cc)
  taken (others x e m) n c b k w f = absurd (cc)
  taken (goes_on m) n c b k w f = absurd (cc)

  kept_one : {l : List Symbol} {ts : List Terminal} {out : List Item} → Runs (rules_of g) true l ts out → (n c : ℕ) (b k : List Symbol) → l ≡ Keep (suc c) ∷ (b ++ k) → ((d : ℕ) → d ≢ 0 → (suc c ≡ d) ⊎ (suc c ≡ group d) → keyed_in g n d ≡ Some (true, b)) → Runs (rules_of g) true (Part n ∷ k) ts out
  kept_one (ends e) n c b k w f = let q = e refl in absurd (cc)
  kept_one (keeps {c = x} {k = j} {t = t} {ts = ts} {out = out} a m) n c b k w f =
      let p : x ≡ suc c = cc in
      let q : j ≡ b ++ k = cc in
      let v = admitted c t.class (rw p at a) in
      keys true b (f t.class v.0 v.1) (rw q at m)
  kept_one (takes a m) n c b k w f = absurd (cc)
  kept_one (acts m) n c b k w f = absurd (cc)
  kept_one (keys keep x e m) n c b k w f = absurd (cc)
  kept_one (others x e m) n c b k w f = absurd (cc)
  kept_one (goes_on m) n c b k w f = absurd (cc)

  the_line : (front back : List Symbol) (n c : ℕ) (keep : Bool) → g ≡ front ++ Line n (suc c) keep ∷ back → (d : ℕ) → d ≢ 0 → (suc c ≡ d) ⊎ (suc c ≡ group d) → keyed_in g n d ≡ Some (keep, body back)
  the_line front back n c keep e d z w =
      let a : each_alone (front ++ Line n (suc c) keep ∷ back) (front ++ Line n (suc c) keep ∷ back) ≡ true = subst (λ (y : List Symbol). each_alone y y ≡ true) e alone in
      subst (λ (y : List Symbol). keyed_in y n d ≡ Some (keep, body back)) (sym e) (plain front back n (suc c) d keep a z w)

  the_other : (front back : List Symbol) (n : ℕ) (keep : Bool) → g ≡ front ++ Line n 0 keep ∷ back → body_of (find_line g n 0) ≡ Some (body back)
  the_other front back n keep e =
      let a : each_alone (front ++ Line n 0 keep ∷ back) (front ++ Line n 0 keep ∷ back) ≡ true = subst (λ (y : List Symbol). each_alone y y ≡ true) e alone in
      subst (λ (y : List Symbol). body_of (find_line y n 0) ≡ Some (body back)) (sym e) (ap body_of (only_found front back n 0 keep a))

  by_line : (front back : List Symbol) (n c : ℕ) (keep : Bool) (k : List Symbol) (ts : List Terminal) (out : List Item) → g ≡ front ++ Line n c keep ∷ back → Runs (rules_of g) true (line_symbols c keep (body back) ++ k) ts out → Runs (rules_of g) true (Part n ∷ k) ts out
  by_line front back n zero keep k ts out e m = others (body back) (the_other front back n keep e) m
  by_line front back n (suc c) true k ts out e m = kept_one m n c (body back) k refl (the_line front back n c true e)
  by_line front back n (suc c) false k ts out e m = taken m n c (body back) k refl (the_line front back n c false e)

  -- what one of its alternatives spells, a part spells
  pub folded : (n : ℕ) (k : List Symbol) (ts : List Terminal) (out : List Item) → OneOf (After k ts out) (alternatives g n) → Runs (rules_of g) true (Part n ∷ k) ts out
  folded n k ts out o =
      let s = one_stands (After k ts out) g n o in
      by_line s.front s.back n s.key s.keep k ts out s.there s.holds

  -- so it is where the alternatives are known
  pub opened : (n : ℕ) (lines : List (List Symbol)) → alternatives g n ≡ lines → (k : List Symbol) (ts : List Terminal) (out : List Item) → Runs (rules_of g) true (Part n ∷ k) ts out → OneOf (λ a. Runs (rules_of g) true (a ++ k) ts out) lines
  opened n lines e k ts out m = subst (λ (l : List (List Symbol)). OneOf (λ a. Runs (rules_of g) true (a ++ k) ts out) l) e (unfolded m n k refl)

  pub closed : (n : ℕ) (lines : List (List Symbol)) → alternatives g n ≡ lines → (k : List Symbol) (ts : List Terminal) (out : List Item) → OneOf (λ a. Runs (rules_of g) true (a ++ k) ts out) lines → Runs (rules_of g) true (Part n ∷ k) ts out
  closed n lines e k ts out o = folded n k ts out (subst (λ (l : List (List Symbol)). OneOf (λ a. Runs (rules_of g) true (a ++ k) ts out) l) (sym e) o)
