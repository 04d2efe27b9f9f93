-- Each line counts: a token takes every line of its part whose key admits it, so the order of the lines says nothing.
use Rattle.std.specs.Prelude.{◌≡◌, ℕ, zero, suc, ◌+◌, Bool, true, false, ◌||◌, ◌&&◌, eqb, List, [], ◌∷◌, ◌++◌, Option, Some, None, refl, if◌then◌else◌}
use Rattle.std.proofs.Common.{arith, cond, ◌⊎◌, inl, inr, subst, sym, ◌≢◌, ◌≤◌}
use Rattle.cb_engine.specs.declared.Symbol.{Symbol}
use Rattle.cb_engine.specs.declared.Symbol.TheVariants.{Take, Keep, Act, Part, Gives, Then, Line}
use Rattle.cb_engine.specs.Rules.{group}
use Rattle.cb_engine.specs.Tables.{body, find_line, keyed_in, either}
use Rattle.cb_engine.specs.Deciding.{both}

-- how many lines the part has with the key
abbrev pub lines_with : List Symbol → ℕ → ℕ → ℕ
lines_with [] n c = 0
lines_with (Line m k keep ∷ g) n c = if eqb m n && eqb k c then 1 + lines_with g n c else lines_with g n c
lines_with (_ ∷ g) n c = lines_with g n c

-- no other line of the part has the key, and none has the key of its group
abbrev pub alone : List Symbol → ℕ → ℕ → Bool
alone all n c = eqb (lines_with all n c) 1 && (eqb (group c) c || eqb (lines_with all n (group c)) 0)

abbrev pub each_alone : List Symbol → List Symbol → Bool
each_alone all [] = true
each_alone all (Line n c keep ∷ g) = alone all n c && each_alone all g
each_alone all (_ ∷ g) = each_alone all g

self : (c : ℕ) → eqb c c ≡ true
self c = grind arith

same : (a b : ℕ) → eqb a b ≡ true → a ≡ b
same a b e = grind arith

none_with : (g : List Symbol) (n c : ℕ) → lines_with g n c ≡ 0 → find_line g n c ≡ None
none_with [] n c e = refl
none_with (Line m k keep ∷ g) n c e = go (eqb m n && eqb k c) (none_with g n c) e
  where
    go : (b : Bool) → (lines_with g n c ≡ 0 → find_line g n c ≡ None) → cond b (1 + lines_with g n c) (lines_with g n c) ≡ 0 → cond b (Some (keep, body g)) (find_line g n c) ≡ None
    go true more e = absurd (omega arith)
    go false more e = more e
none_with (Take x ∷ g) n c e = none_with g n c e
none_with (Keep x ∷ g) n c e = none_with g n c e
none_with (Act x ∷ g) n c e = none_with g n c e
none_with (Part x ∷ g) n c e = none_with g n c e
none_with (Gives x ∷ g) n c e = none_with g n c e
none_with (Then x y ∷ g) n c e = none_with g n c e

-- a line that stands there is counted
counted : (front back : List Symbol) (n c : ℕ) (keep : Bool) → 1 ≤ lines_with (front ++ Line n c keep ∷ back) n c
counted [] back n c keep = rw (self n, self c) (omega arith)
counted (Line m k w ∷ f) back n c keep = go (eqb m n && eqb k c) (counted f back n c keep)
  where
    go : (b : Bool) → 1 ≤ lines_with (f ++ Line n c keep ∷ back) n c → 1 ≤ cond b (1 + lines_with (f ++ Line n c keep ∷ back) n c) (lines_with (f ++ Line n c keep ∷ back) n c)
    go true e = omega arith
    go false e = e
counted (Take x ∷ f) back n c keep = counted f back n c keep
counted (Keep x ∷ f) back n c keep = counted f back n c keep
counted (Act x ∷ f) back n c keep = counted f back n c keep
counted (Part x ∷ f) back n c keep = counted f back n c keep
counted (Gives x ∷ f) back n c keep = counted f back n c keep
counted (Then x y ∷ f) back n c keep = counted f back n c keep

-- the only one is found
only_one : (front back : List Symbol) (n c : ℕ) (keep : Bool) → lines_with (front ++ Line n c keep ∷ back) n c ≡ 1 → find_line (front ++ Line n c keep ∷ back) n c ≡ Some (keep, body back)
only_one [] back n c keep e = rw (self n, self c) refl
only_one (Line m k w ∷ f) back n c keep e = go (eqb m n && eqb k c) (counted f back n c keep) (only_one f back n c keep) e
  where
    go : (b : Bool) → 1 ≤ lines_with (f ++ Line n c keep ∷ back) n c → (lines_with (f ++ Line n c keep ∷ back) n c ≡ 1 → find_line (f ++ Line n c keep ∷ back) n c ≡ Some (keep, body back)) →
        cond b (1 + lines_with (f ++ Line n c keep ∷ back) n c) (lines_with (f ++ Line n c keep ∷ back) n c) ≡ 1 → cond b (Some (w, body (f ++ Line n c keep ∷ back))) (find_line (f ++ Line n c keep ∷ back) n c) ≡ Some (keep, body back)
    go true l more e = absurd (omega arith)
    go false l more e = more e
only_one (Take x ∷ f) back n c keep e = only_one f back n c keep e
only_one (Keep x ∷ f) back n c keep e = only_one f back n c keep e
only_one (Act x ∷ f) back n c keep e = only_one f back n c keep e
only_one (Part x ∷ f) back n c keep e = only_one f back n c keep e
only_one (Gives x ∷ f) back n c keep e = only_one f back n c keep e
only_one (Then x y ∷ f) back n c keep e = only_one f back n c keep e

-- a line that stands there is tested
alone_at : (all front back : List Symbol) (n c : ℕ) (keep : Bool) → each_alone all (front ++ Line n c keep ∷ back) ≡ true → alone all n c ≡ true
alone_at all [] back n c keep e = (both e).0
alone_at all (Line m k w ∷ f) back n c keep e = alone_at all f back n c keep (both e).1
alone_at all (Take x ∷ f) back n c keep e = alone_at all f back n c keep e
alone_at all (Keep x ∷ f) back n c keep e = alone_at all f back n c keep e
alone_at all (Act x ∷ f) back n c keep e = alone_at all f back n c keep e
alone_at all (Part x ∷ f) back n c keep e = alone_at all f back n c keep e
alone_at all (Gives x ∷ f) back n c keep e = alone_at all f back n c keep e
alone_at all (Then x y ∷ f) back n c keep e = alone_at all f back n c keep e

-- what is found is tested
alone_found : (all g : List Symbol) (n c : ℕ) (l : Bool × List Symbol) → each_alone all g ≡ true → find_line g n c ≡ Some l → alone all n c ≡ true
alone_found all [] n c l e f = absurd (cc)
alone_found all (Line m k keep ∷ g) n c l e f = go (alone_found all g n c l (both e).1) (eqb m n && eqb k c) refl f
  where
    go : (find_line g n c ≡ Some l → alone all n c ≡ true) → (t : Bool) → (eqb m n && eqb k c) ≡ t → cond t (Some (keep, body g)) (find_line g n c) ≡ Some l → alone all n c ≡ true
    go more true s f =
        let p : (eqb m n ≡ true) × (eqb k c ≡ true) = both s in
        let a : m ≡ n = same m n p.0 in
        let b : k ≡ c = same k c p.1 in
        rw (← a, ← b) (both e).0
    go more false s f = more f
alone_found all (Take x ∷ g) n c l e f = alone_found all g n c l e f
alone_found all (Keep x ∷ g) n c l e f = alone_found all g n c l e f
alone_found all (Act x ∷ g) n c l e f = alone_found all g n c l e f
alone_found all (Part x ∷ g) n c l e f = alone_found all g n c l e f
alone_found all (Gives x ∷ g) n c l e f = alone_found all g n c l e f
alone_found all (Then x y ∷ g) n c l e f = alone_found all g n c l e f

-- the line that stands there is the one that is found
pub only_found : (front back : List Symbol) (n c : ℕ) (keep : Bool) → each_alone (front ++ Line n c keep ∷ back) (front ++ Line n c keep ∷ back) ≡ true → find_line (front ++ Line n c keep ∷ back) n c ≡ Some (keep, body back)
only_found front back n c keep e =
    let a : alone (front ++ Line n c keep ∷ back) n c ≡ true = alone_at (front ++ Line n c keep ∷ back) front back n c keep e in
    only_one front back n c keep (same (lines_with (front ++ Line n c keep ∷ back) n c) 1 (both a).0)

pub plain : (front back : List Symbol) (n c d : ℕ) (keep : Bool) → each_alone (front ++ Line n c keep ∷ back) (front ++ Line n c keep ∷ back) ≡ true → d ≢ 0 → (c ≡ d) ⊎ (c ≡ group d) → keyed_in (front ++ Line n c keep ∷ back) n d ≡ Some (keep, body back)
plain front back n c zero keep e z w = absurd (z refl)
plain front back n c (suc d) keep e z (inl w) =
    let a : alone (front ++ Line n c keep ∷ back) n c ≡ true = alone_at (front ++ Line n c keep ∷ back) front back n c keep e in
    let o : lines_with (front ++ Line n c keep ∷ back) n c ≡ 1 = same (lines_with (front ++ Line n c keep ∷ back) n c) 1 (both a).0 in
    let f : find_line (front ++ Line n c keep ∷ back) n c ≡ Some (keep, body back) = only_one front back n c keep o in
    let g : find_line (front ++ Line n c keep ∷ back) n (suc d) ≡ Some (keep, body back) = subst (λ (y : ℕ). find_line (front ++ Line n c keep ∷ back) n y ≡ Some (keep, body back)) w f in
    rw g refl
plain front back n c (suc d) keep e z (inr w) = go (find_line (front ++ Line n c keep ∷ back) n (suc d)) refl
  where
    one : find_line (front ++ Line n c keep ∷ back) n c ≡ Some (keep, body back)
    one =
        let a : alone (front ++ Line n c keep ∷ back) n c ≡ true = alone_at (front ++ Line n c keep ∷ back) front back n c keep e in
        only_one front back n c keep (same (lines_with (front ++ Line n c keep ∷ back) n c) 1 (both a).0)

    go : (o : Option (Bool × List Symbol)) → find_line (front ++ Line n c keep ∷ back) n (suc d) ≡ o → either o (find_line (front ++ Line n c keep ∷ back) n (group (suc d))) ≡ Some (keep, body back)
    go None f = subst (λ (y : ℕ). find_line (front ++ Line n c keep ∷ back) n y ≡ Some (keep, body back)) w one
    go (Some l) f = words (eqb (group (suc d)) (suc d)) refl (both (alone_found (front ++ Line n c keep ∷ back) (front ++ Line n c keep ∷ back) n (suc d) l e f)).1
      where
        words : (b : Bool) → eqb (group (suc d)) (suc d) ≡ b → (b || eqb (lines_with (front ++ Line n c keep ∷ back) n (group (suc d))) 0) ≡ true → Some l ≡ Some (keep, body back)
        words true s q =
            let p : group (suc d) ≡ suc d = same (group (suc d)) (suc d) s in
            let r : find_line (front ++ Line n c keep ∷ back) n (group (suc d)) ≡ Some (keep, body back) = subst (λ (y : ℕ). find_line (front ++ Line n c keep ∷ back) n y ≡ Some (keep, body back)) w one in
            let t : find_line (front ++ Line n c keep ∷ back) n (suc d) ≡ Some (keep, body back) = subst (λ (y : ℕ). find_line (front ++ Line n c keep ∷ back) n y ≡ Some (keep, body back)) p r in
            cc
        words false s q =
            let k : lines_with (front ++ Line n c keep ∷ back) n (group (suc d)) ≡ 0 = same (lines_with (front ++ Line n c keep ∷ back) n (group (suc d))) 0 q in
            let r : lines_with (front ++ Line n c keep ∷ back) n c ≡ 0 = subst (λ (y : ℕ). lines_with (front ++ Line n c keep ∷ back) n y ≡ 0) (sym w) k in
            let m : 1 ≤ lines_with (front ++ Line n c keep ∷ back) n c = counted front back n c keep in
            absurd (omega arith)
