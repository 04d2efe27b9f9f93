-- The grammar's lines by a word, changed so that they write the word's mark, which is an action with the number of its class, in
-- its place. So kinds can tell which word it is.
use Rattle.std.proofs.Common.{◌≡◌, ℕ, zero, suc, Bool, true, false, ◌&&◌, eqb, List, [], ◌∷◌, ◌++◌, refl, ap, arith, cond, ◌∙◌, inl, inr, ◌⊎◌}
use Rattle.std.specs.Prelude.{Option, Some, None, nat_lt}
use Rattle.cb_engine.specs.declared.Symbol.{Symbol}
use Rattle.cb_engine.specs.declared.Symbol.TheVariants.{Take, Keep, Act, Part, Gives, Then, Line}
use Rattle.cb_engine.specs.declared.Terminal.{Terminal}
use Rattle.cb_engine.specs.declared.Item.{Item}
use Rattle.cb_engine.specs.declared.Item.TheVariants.{Word, Do}
use Rattle.cb_engine.specs.Rules.{Runs, kept, group}
use Rattle.cb_engine.specs.Rules.Runs.{ends, takes, keeps, acts, keys, others, goes_on}
use Rattle.cb_engine.specs.Tables.{body, body_of, find_line, rules_of, keyed_in, either}

-- the classes of words
abbrev pub is_word : ℕ → Bool
is_word c = nat_lt 127 c

abbrev marked_to : Bool → ℕ → ℕ → Bool → List Symbol → List Symbol
marked_to true n c keep l = Line n c false ∷ Act c ∷ l
marked_to false n c keep l = Line n c keep ∷ l

abbrev pub marked : List Symbol → List Symbol
marked [] = []
marked (Line n c keep ∷ l) = marked_to (keep && is_word c) n c keep (marked l)
marked (Take x ∷ l) = Take x ∷ marked l
marked (Keep x ∷ l) = Keep x ∷ marked l
marked (Act x ∷ l) = Act x ∷ marked l
marked (Part x ∷ l) = Part x ∷ marked l
marked (Gives x ∷ l) = Gives x ∷ marked l
marked (Then x y ∷ l) = Then x y ∷ marked l

-- ---- what is found in it

same_body : (l : List Symbol) → body (marked l) ≡ body l
same_body [] = refl
same_body (Line n c keep ∷ l) = go (keep && is_word c)
  where
    go : (b : Bool) → body (marked_to b n c keep (marked l)) ≡ []
    go true = refl
    go false = refl
same_body (Take x ∷ l) = ap (λ (b : List Symbol). Take x ∷ b) (same_body l)
same_body (Keep x ∷ l) = ap (λ (b : List Symbol). Keep x ∷ b) (same_body l)
same_body (Act x ∷ l) = ap (λ (b : List Symbol). Act x ∷ b) (same_body l)
same_body (Part x ∷ l) = ap (λ (b : List Symbol). Part x ∷ b) (same_body l)
same_body (Gives x ∷ l) = ap (λ (b : List Symbol). Gives x ∷ b) (same_body l)
same_body (Then x y ∷ l) = ap (λ (b : List Symbol). Then x y ∷ b) (same_body l)

abbrev alternative_to : Bool → ℕ → Bool × List Symbol → Bool × List Symbol
alternative_to true c a = (false, Act c ∷ a.1)
alternative_to false c a = a

abbrev alternative : ℕ → Option (Bool × List Symbol) → Option (Bool × List Symbol)
alternative c None = None
alternative c (Some a) = Some (alternative_to (a.0 && is_word c) c a)

same : (a b : ℕ) → eqb a b ≡ true → a ≡ b
same a b e = grind arith

found_marked : (l : List Symbol) (n c : ℕ) → find_line (marked l) n c ≡ alternative c (find_line l n c)
found_marked [] n c = refl
found_marked (Line m k keep ∷ l) n c = lined (keep && is_word k) (go (keep && is_word k) refl (eqb k c) refl (eqb m n) (found_marked l n c))
  where
    lined : (b : Bool) → cond (eqb m n && eqb k c) (Some (cond b false keep, cond b (Act k ∷ body (marked l)) (body (marked l)))) (find_line (marked l) n c) ≡ alternative c (cond (eqb m n && eqb k c) (Some (keep, body l)) (find_line l n c)) → find_line (marked_to b m k keep (marked l)) n c ≡ alternative c (find_line (Line m k keep ∷ l) n c)
    lined true e = e
    lined false e = e

    go : (b : Bool) → (keep && is_word k) ≡ b → (s : Bool) → eqb k c ≡ s → (t : Bool) → find_line (marked l) n c ≡ alternative c (find_line l n c) →
        cond (t && s) (Some (cond b false keep, cond b (Act k ∷ body (marked l)) (body (marked l)))) (find_line (marked l) n c) ≡ alternative c (cond (t && s) (Some (keep, body l)) (find_line l n c))
    go b e s f false more = more
    go b e false f true more = more
    go true e true f true more = let q : k ≡ c = same k c f in let i : (keep && is_word c) ≡ true = rw q at e in rw (same_body l, q, i) refl
    go false e true f true more = let q : k ≡ c = same k c f in let i : (keep && is_word c) ≡ false = rw q at e in rw (same_body l, i) refl
found_marked (Take x ∷ l) n c = found_marked l n c
found_marked (Keep x ∷ l) n c = found_marked l n c
found_marked (Act x ∷ l) n c = found_marked l n c
found_marked (Part x ∷ l) n c = found_marked l n c
found_marked (Gives x ∷ l) n c = found_marked l n c
found_marked (Then x y ∷ l) n c = found_marked l n c

-- a group is no class of a word
no_word : (c : ℕ) → is_word (group c) ≡ false
no_word c = grind arith

grouped : (c : ℕ) (o : Option (Bool × List Symbol)) → alternative (group c) o ≡ o
grouped c None = refl
grouped c (Some a) = go a.0
  where
    go : (keep : Bool) → Some (alternative_to (keep && is_word (group c)) (group c) a) ≡ Some a
    go true = rw (no_word c) refl
    go false = refl

-- the line is the same, or the word has its mark
abbrev Instead : List Symbol → ℕ → ℕ → Bool → List Symbol → Type 0
Instead l n c keep b = (keyed_in (marked l) n c ≡ Some (keep, b)) ⊎ ((keep ≡ true) × (is_word c ≡ true) × (keyed_in (marked l) n c ≡ Some (false, Act c ∷ b)))

key_marked : (l : List Symbol) (n c : ℕ) (keep : Bool) (b : List Symbol) → keyed_in l n c ≡ Some (keep, b) → Instead l n c keep b
key_marked l n zero keep b e = absurd (cc)
key_marked l n (suc c) keep b e = go (find_line l n (suc c)) refl e
  where
    by_group : find_line l n (suc c) ≡ None → find_line l n (group (suc c)) ≡ Some (keep, b) → keyed_in (marked l) n (suc c) ≡ Some (keep, b)
    by_group f e = rw (found_marked l n (suc c), found_marked l n (group (suc c)), f, e) (grouped (suc c) (Some (keep, b)))

    by_class : (keep : Bool) → find_line l n (suc c) ≡ Some (keep, b) → (w : Bool) → is_word (suc c) ≡ w → Instead l n (suc c) keep b
    by_class true f true i = inr (refl, i, rw (found_marked l n (suc c), f, i) refl)
    by_class true f false i = inl (rw (found_marked l n (suc c), f, i) refl)
    by_class false f w i = inl (rw (found_marked l n (suc c), f) refl)

    go : (o : Option (Bool × List Symbol)) → find_line l n (suc c) ≡ o → either o (find_line l n (group (suc c))) ≡ Some (keep, b) → Instead l n (suc c) keep b
    go None f e = inl (by_group f e)
    go (Some a) f e = let q : find_line l n (suc c) ≡ Some (keep, b) = cc in by_class keep q (is_word (suc c)) refl

other_marked : (l : List Symbol) (n : ℕ) (b : List Symbol) → body_of (find_line l n 0) ≡ Some b → body_of (find_line (marked l) n 0) ≡ Some b
other_marked l n b e = rw (found_marked l n 0) (go (find_line l n 0) e)
  where
    at : (keep : Bool) (x : List Symbol) → body_of (Some (alternative_to (keep && false) 0 (keep, x))) ≡ Some x
    at true x = refl
    at false x = refl

    go : (o : Option (Bool × List Symbol)) → body_of o ≡ Some b → body_of (alternative 0 o) ≡ Some b
    go None e = absurd (cc)
    go (Some a) e = at a.0 a.1 ∙ e

-- ---- what is spelled by it

-- the items are the same, but that some words have their marks instead
abbrev pub Stand : List Item → List Item → Type 0
Stand [] [] = Unit {0}
Stand [] (x ∷ b) = ⊥
Stand (x ∷ a) [] = ⊥
Stand (Word t ∷ a) (Word u ∷ b) = Stand a b
Stand (Word t ∷ a) (Do d ∷ b) = ⊥
Stand (Do c ∷ a) (Do d ∷ b) = (c ≡ d) × Stand a b
Stand (Do c ∷ a) (Word t ∷ b) = (c ≡ t.class) × (is_word c ≡ true) × Stand a b

stand_kept : (keep : Bool) (t : Terminal) (a b : List Item) → Stand a b → Stand (kept keep t a) (kept keep t b)
stand_kept true t a b s = s
stand_kept false t a b s = s

-- the tokens are spelled by the changed lines too
abbrev pub SpelledInstead : List Symbol → List Symbol → List Terminal → List Item → Type 0
SpelledInstead l k ts out = (a : List Item) × Runs (rules_of (marked l)) true k ts a × Stand a out

pub spelled_marked : (l : List Symbol) {k : List Symbol} {ts : List Terminal} {out : List Item} → Runs (rules_of l) true k ts out → SpelledInstead l k ts out
spelled_marked l (ends e) = ([], ends e, tt)
spelled_marked l (takes e m) = let h = spelled_marked l m in (h.0, takes e h.1, h.2)
spelled_marked l (keeps {t = t} e m) = let h = spelled_marked l m in (Word t ∷ h.0, keeps e h.1, h.2)
spelled_marked l (acts {a = a} m) = let h = spelled_marked l m in (Do a ∷ h.0, acts h.1, (refl, h.2))
spelled_marked l (keys {n = n} {k = k} {t = t} {ts = ts} {out = out} keep b e m) = go keep (key_marked l n t.class keep b e) (spelled_marked l m)
  where
    go : (keep : Bool) → Instead l n t.class keep b → SpelledInstead l (b ++ k) ts out → SpelledInstead l (Part n ∷ k) (t ∷ ts) (kept keep t out)
    go keep (inl f) h = (kept keep t h.0, keys keep b f h.1, stand_kept keep t h.0 out h.2)
    go true (inr (i, w, f)) h = (Do t.class ∷ h.0, keys false (Act t.class ∷ b) f (acts h.1), (refl, w, h.2))
    go false (inr (i, w, f)) h = absurd (cc)
spelled_marked l (others {n = n} b e m) = let h = spelled_marked l m in (h.0, others b (other_marked l n b e) h.1, h.2)
spelled_marked l (goes_on m) = let h = spelled_marked l m in (h.0, goes_on h.1, h.2)
