-- Which words have which marks, and what an action of rules or of obligations takes.
use Rattle.std.proofs.Common.{◌≡◌, ℕ, zero, suc, ◌+◌, ◌<◌, ◌≤◌, Bool, true, false, ◌&&◌, List, [], ◌∷◌, ◌++◌, map, refl, sym, ◌∙◌, ap, inl, inr, ◌⊎◌, arith, cond, eqb, nat_eq}
use Rattle.std.specs.Prelude.{Some, if◌then◌else◌}
use Rattle.std.specs.Cmp.Lexicographic.{pointwise}
use Rattle.cb_lex.specs.declared.raw.name.RawName.{RawName}
use Rattle.cb_engine.specs.Kinds.{Effect, same_kinds}
use Rattle.cb_engine.specs.Leading.{kinds_same}
use Rattle.cb_grammar.specs.Classes.{words}
use Rattle.cb_grammar.specs.Terminals.{class_in}
use Rattle.cb_grammar.specs.Signatures.{obligation_kind, node_kind}
use Rattle.cb_shapes.proofs.Finer.{turned}
use Rattle.cb_cert_shapes.specs.Full.{IsWordOf}
use Rattle.cb_cert_shapes.proofs.Table.{mark, WordTable, words_effects, rule_effects, group_effects}
use Rattle.cb_cert_shapes.proofs.Goes.{IsKind, On}

-- ---- the word of a class

same_text : (a b : List ℕ) → pointwise nat_eq a b ≡ true → a ≡ b
same_text [] [] e = refl
same_text [] (y ∷ b) e = absurd (cc)
same_text (x ∷ a) [] e = absurd (cc)
same_text (x ∷ a) (y ∷ b) e = go (nat_eq x y) refl (same_text a b) e
  where
    go : (t : Bool) → nat_eq x y ≡ t → (pointwise nat_eq a b ≡ true → a ≡ b) → (t && pointwise nat_eq a b) ≡ true → x ∷ a ≡ y ∷ b
    go true f more e = let p : x ≡ y = grind arith in let q : a ≡ b = more e in rw (p, q) refl
    go false f more e = absurd (cc)

abbrev at : List (List ℕ) → ℕ → List ℕ
at [] i = []
at (w ∷ ws) zero = w
at (w ∷ ws) (suc i) = at ws i

abbrev pub word_at : ℕ → List ℕ
word_at i = at words i

not_before : (c : ℕ) (ws : List (List ℕ)) (text : List ℕ) → (class_in c ws text ≡ 1) ⊎ (c ≤ class_in c ws text)
not_before c [] text = inl refl
not_before c (w ∷ ws) text = go (pointwise nat_eq text w) (not_before (suc c) ws text)
  where
    go : (b : Bool) → (class_in (suc c) ws text ≡ 1) ⊎ (suc c ≤ class_in (suc c) ws text) → (cond b c (class_in (suc c) ws text) ≡ 1) ⊎ (c ≤ cond b c (class_in (suc c) ws text))
    go true m = inr (omega arith)
    go false (inl e) = inl e
    go false (inr l) = inr (omega (arith, l))

found : (c : ℕ) (ws : List (List ℕ)) (text : List ℕ) (i : ℕ) → 1 < c → class_in c ws text ≡ c + i → text ≡ at ws i
found c [] text i l e = absurd (omega (arith, l, e))
found c (w ∷ ws) text zero l e = go (pointwise nat_eq text w) refl (not_before (suc c) ws text) e
  where
    go : (b : Bool) → pointwise nat_eq text w ≡ b → (class_in (suc c) ws text ≡ 1) ⊎ (suc c ≤ class_in (suc c) ws text) → cond b c (class_in (suc c) ws text) ≡ c + 0 → text ≡ w
    go true f m e = same_text text w f
    go false f (inl a) e = absurd (omega (arith, l, a, e))
    go false f (inr a) e = absurd (omega (arith, l, a, e))
found c (w ∷ ws) text (suc i) l e = go (pointwise nat_eq text w) (λ f. found (suc c) ws text i (omega (arith, l)) f) e
  where
    go : (b : Bool) → (class_in (suc c) ws text ≡ suc c + i → text ≡ at ws i) → cond b c (class_in (suc c) ws text) ≡ c + suc i → text ≡ at ws i
    go true more e = absurd (omega (arith, e))
    go false more e = more (omega (arith, e))

-- the mark is one of these words'
abbrev pub IsAmong : List ℕ → ℕ → Type 0
IsAmong [] w = ⊥
IsAmong (i ∷ is) w = (mark i ≡ w) ⊎ IsAmong is w

among_left : (a b : List ℕ) (w : ℕ) → IsAmong a w → IsAmong (a ++ b) w
among_left [] b w m = absurd m
among_left (i ∷ a) b w (inl e) = inl e
among_left (i ∷ a) b w (inr m) = inr (among_left a b w m)

among_right : (a b : List ℕ) (w : ℕ) → IsAmong b w → IsAmong (a ++ b) w
among_right [] b w m = m
among_right (i ∷ a) b w m = inr (among_right a b w m)

pub word_of : (is : List ℕ) (x : RawName) (w : ℕ) → IsKind x w → IsAmong is w → IsWordOf (map word_at is) x
word_of [] x w k m = absurd m
word_of (i ∷ is) x w (inl z) (inl e) = absurd (omega (arith, z, e))
word_of (i ∷ is) x w (inr k) (inl e) = (inl (found 128 words x.text i (omega arith) (k.1 ∙ sym e)), k.0)
word_of (i ∷ is) x w k (inr m) = let h = word_of is x w k m in (inr h.0, h.1)

-- ---- what an action takes

pub last_same : (a b : List ℕ) (x y : ℕ) → a ++ x ∷ [] ≡ b ++ y ∷ [] → x ≡ y
last_same a b x y e = sym (last_of 0 a x) ∙ (ap (last 0) e ∙ last_of 0 b y)
  where
    last : ℕ → List ℕ → ℕ
    last d [] = d
    last d (x ∷ xs) = last x xs

    last_of : (d : ℕ) (xs : List ℕ) (x : ℕ) → last d (xs ++ x ∷ []) ≡ x
    last_of d [] x = refl
    last_of d (y ∷ xs) x = last_of y xs x

-- the words of a table with so many nodes
abbrev pub look : WordTable → ℕ → List ℕ
look [] n = []
look (e ∷ es) n = if eqb e.0 n then e.1 ++ look es n else look es n

-- the word is one of these, behind what is taken with it, and the kinds that are left go on
abbrev pub Took : (List ℕ → Type 0) → List ℕ → List ℕ → List ℕ → ℕ → List ℕ → Type 0
Took R is given js w k = IsAmong is w × ((i : ℕ) × (given ++ mark i ∷ [] ≡ js ++ w ∷ [])) × R k

pub group_turned : (R : List ℕ → Type 0) (given is js : List ℕ) (w : ℕ) (k : List ℕ) → On R (turned (group_effects given is) (js ++ w ∷ []) k) → Took R is given js w (obligation_kind ∷ k)
group_turned R given [] js w k h = absurd h
group_turned R given (i ∷ is) js w k h = go (same_kinds (given ++ mark i ∷ []) (js ++ w ∷ [])) refl (group_turned R given is js w k) h
  where
    go : (b : Bool) → same_kinds (given ++ mark i ∷ []) (js ++ w ∷ []) ≡ b → (On R (turned (group_effects given is) (js ++ w ∷ []) k) → Took R is given js w (obligation_kind ∷ k)) →
        On R (cond b (Some (obligation_kind ∷ k)) (turned (group_effects given is) (js ++ w ∷ []) k)) → Took R (i ∷ is) given js w (obligation_kind ∷ k)
    go true e more h = let q : given ++ mark i ∷ [] ≡ js ++ w ∷ [] = kinds_same _ _ e in (inl (last_same given js (mark i) w q), (i, q), h)
    go false e more h = let t = more h in (inr t.0, t.1, t.2)

turned_append : (R : List ℕ → Type 0) (a b : List Effect) (n k : List ℕ) → On R (turned (a ++ b) n k) → On R (turned a n k) ⊎ On R (turned b n k)
turned_append R [] b n k h = inr h
turned_append R (e ∷ a) b n k h = go (same_kinds e.takes n) (turned_append R a b n k) h
  where
    go : (t : Bool) → (On R (turned (a ++ b) n k) → On R (turned a n k) ⊎ On R (turned b n k)) → On R (cond t (Some (e.leaves ++ k)) (turned (a ++ b) n k)) → On R (cond t (Some (e.leaves ++ k)) (turned a n k)) ⊎ On R (turned b n k)
    go true more h = inl h
    go false more h = more h

words_turned : (R : List ℕ → Type 0) (nodes n : ℕ) (given is js : List ℕ) (w : ℕ) (k : List ℕ) → On R (turned (words_effects nodes given is) (n ∷ js ++ w ∷ []) k) → (nodes ≡ n) × Took R is given js w (node_kind ∷ k)
words_turned R nodes n given [] js w k h = absurd h
words_turned R nodes n given (i ∷ is) js w k h = go (same_kinds (nodes ∷ given ++ mark i ∷ []) (n ∷ js ++ w ∷ [])) refl (words_turned R nodes n given is js w k) h
  where
    go : (b : Bool) → same_kinds (nodes ∷ given ++ mark i ∷ []) (n ∷ js ++ w ∷ []) ≡ b → (On R (turned (words_effects nodes given is) (n ∷ js ++ w ∷ []) k) → (nodes ≡ n) × Took R is given js w (node_kind ∷ k)) →
        On R (cond b (Some (node_kind ∷ k)) (turned (words_effects nodes given is) (n ∷ js ++ w ∷ []) k)) → (nodes ≡ n) × Took R (i ∷ is) given js w (node_kind ∷ k)
    go true e more h =
        let l : nodes ∷ given ++ mark i ∷ [] ≡ n ∷ js ++ w ∷ [] = kinds_same _ _ e in
        let a : nodes ≡ n = cc in
        let q : given ++ mark i ∷ [] ≡ js ++ w ∷ [] = cc in
        (a, (inl (last_same given js (mark i) w q), (i, q), h))
    go false e more h = let t = more h in (t.0, (inr t.1.0, t.1.1, t.1.2))

pub rule_turned : (R : List ℕ → Type 0) (given : List ℕ) (table : WordTable) (n : ℕ) (js : List ℕ) (w : ℕ) (k : List ℕ) → On R (turned (rule_effects given table) (n ∷ js ++ w ∷ []) k) → Took R (look table n) given js w (node_kind ∷ k)
rule_turned R given [] n js w k h = absurd h
rule_turned R given (e ∷ es) n js w k h = go (turned_append R (words_effects e.0 given e.1) (rule_effects given es) (n ∷ js ++ w ∷ []) k h) (rule_turned R given es n js w k)
  where
    same_number : (m : ℕ) → m ≡ n → eqb m n ≡ true
    same_number m q = grind arith

    onward : (b : Bool) → Took R (look es n) given js w (node_kind ∷ k) → Took R (cond b (e.1 ++ look es n) (look es n)) given js w (node_kind ∷ k)
    onward true t = (among_right e.1 (look es n) w t.0, t.1, t.2)
    onward false t = t

    go : On R (turned (words_effects e.0 given e.1) (n ∷ js ++ w ∷ []) k) ⊎ On R (turned (rule_effects given es) (n ∷ js ++ w ∷ []) k) → (On R (turned (rule_effects given es) (n ∷ js ++ w ∷ []) k) → Took R (look es n) given js w (node_kind ∷ k)) →
        Took R (look (e ∷ es) n) given js w (node_kind ∷ k)
    go (inl h) more =
        let t = words_turned R e.0 n given e.1 js w k h in
        let q : eqb e.0 n ≡ true = same_number e.0 t.0 in
        rw q (among_left e.1 (look es n) w t.1.0, t.1.1, t.1.2)
    go (inr h) more = onward (eqb e.0 n) (more h)
