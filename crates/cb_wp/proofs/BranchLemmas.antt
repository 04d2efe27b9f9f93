-- Counts of branches, and branches after others.
use Rattle.std.proofs.Common.{◌≡◌, ◌≤◌, ℕ, zero, suc, ◌+◌, ◌*◌, min, List, [], ◌∷◌, ◌++◌, map, flat_map, refl, sym, ap, ap₂, ◌∙◌, append_assoc, length, drop, arith, inl, inr}
use Rattle.std.proofs.Math.Nat.{mul-le-mul}
use Rattle.std.proofs.lemmas.Bool.{cases_lt}
use Rattle.std.proofs.lemmas.List.{append-nil}
use Rattle.cb_term.specs.declared.name.Name.{Name}
use Rattle.cb_term.specs.declared.kind.Kind.{Kind}
use Rattle.cb_term.specs.declared.kind.Domain.{Domain}
use Rattle.cb_term.specs.Tree.{FormulaTree, Not}
use Rattle.cb_spec.specs.Domains.{kind_of_domain}
use Rattle.cb_spec.specs.SubstTree.{SubstTree, Together, If, AnyOf, SubstTrees, End, More, sides_of}
use Rattle.cb_obligations.specs.Branches.{Item, Bind, Guard, Assigned, Branch, numbered, opened, binds, guarded, bound_branch, joined_branch, branches_from, branches_of_each}
use Rattle.cb_wp.specs.Parts as begun
use Rattle.cb_wp.specs.Parts.{branch_of, begun_of, after}
use Rattle.cb_wp.specs.declared.branches.Begun.{Begun}

-- where one factor is at least 257, the product is 0 or at least 257
large : (a b : ℕ) → 257 ≤ a → 1 ≤ b → min (min a 257 * min b 257) 257 ≡ min (a * b) 257
large a b la lb =
    let la' : 257 ≤ min a 257 = omega arith in
    let lb' : 1 ≤ min b 257 = omega arith in
    let l : 257 * 1 ≤ min a 257 * min b 257 = mul-le-mul la' lb' in
    let r : 257 * 1 ≤ a * b = mul-le-mul la lb in
    omega (arith, l, r)

large_right : (a b : ℕ) → 1 ≤ a → 257 ≤ b → min (min a 257 * min b 257) 257 ≡ min (a * b) 257
large_right a b la lb =
    let la' : 1 ≤ min a 257 = omega arith in
    let lb' : 257 ≤ min b 257 = omega arith in
    let l : 1 * 257 ≤ min a 257 * min b 257 = mul-le-mul la' lb' in
    let r : 1 * 257 ≤ a * b = mul-le-mul la lb in
    omega (arith, l, r)

small : (a b : ℕ) → a ≤ 257 → b ≤ 257 → min (min a 257 * min b 257) 257 ≡ min (a * b) 257
small a b la lb =
    let l : min a 257 ≡ a = omega arith in
    let r : min b 257 ≡ b = omega arith in
    ap₂ (λ x y. min (x * y) 257) l r

pub product_least : (a b : ℕ) → min (min a 257 * min b 257) 257 ≡ min (a * b) 257
product_least zero b = omega arith
product_least (suc a) zero = omega arith
product_least (suc a) (suc b) =
    elim (cases_lt (suc a) 257) [
      | inr l ↦ large (suc a) (suc b) l (omega arith)
      | inl l ↦ elim (cases_lt (suc b) 257) [ inl r ↦ small (suc a) (suc b) (omega arith) (omega arith) | inr r ↦ large_right (suc a) (suc b) (omega arith) r ]
    ]

map_append : {A B : Type 0} (f : A → B) (xs ys : List A) → map f (xs ++ ys) ≡ map f xs ++ map f ys
map_append f [] ys = refl
map_append f (x ∷ xs) ys = ap (λ zs. f x ∷ zs) (map_append f xs ys)

binds_append : (is js : List Item) → binds (is ++ js) ≡ binds is + binds js
binds_append [] js = omega arith
binds_append (Bind x kind ∷ is) js = omega (arith, binds_append is js)
binds_append (Guard p ∷ is) js = binds_append is js

-- the branches, each after the one begun
abbrev pub follow : ℕ × Branch → List Branch → List (ℕ × Branch)
follow c qs = after (λ k. qs) c

alike : (m n : ℕ) (is js : List Item) (us vs : Assigned) → m ≡ n → is ≡ js → us ≡ vs →
    let p : ℕ × Branch = (m, record { items = is; writes = us }) in let q : ℕ × Branch = (n, record { items = js; writes = vs }) in p ≡ q
alike m n is js us vs e f g = λ i. (e i, record { items = f i; writes = g i })

-- what is put behind a branch stands in front of those that follow it
put_behind : (c : ℕ × Branch) (n : ℕ) (is : List Item) (f : Branch → Branch) →
    ((q : Branch) → n + binds q.items ≡ c.0 + binds (f q).items) → ((q : Branch) → (f q).items ≡ is ++ q.items) → ((q : Branch) → (f q).writes ≡ q.writes) →
    (qs : List Branch) → follow (n, joined_branch c.1 (record { items = is; writes = [] })) qs ≡ follow c (map f qs)
put_behind c n is f e g h [] = refl
put_behind c n is f e g h (q ∷ qs) =
    ap₂ (λ x xs. x ∷ xs)
    (alike (n + binds q.items) (c.0 + binds (f q).items) ((c.1.items ++ is) ++ q.items) (c.1.items ++ (f q).items)
    ((c.1.writes ++ []) ++ q.writes) (c.1.writes ++ (f q).writes)
    (e q)
    (append_assoc c.1.items is q.items ∙ ap (λ js. c.1.items ++ js) (sym (g q)))
    (append_assoc c.1.writes [] q.writes ∙ ap (λ ws. c.1.writes ++ ws) (sym (h q))))
    (put_behind c n is f e g h qs)

guard_behind : (c : ℕ × Branch) (p : FormulaTree) (qs : List Branch) →
    follow (c.0, joined_branch c.1 (record { items = Guard p ∷ []; writes = [] })) qs ≡ follow c (map (guarded p) qs)
guard_behind c p qs = put_behind c c.0 (Guard p ∷ []) (guarded p) (λ q. refl) (λ q. refl) (λ q. refl) qs

name_behind : (c : ℕ × Branch) (n : ℕ) (x : Name) (kind : Kind) (p : FormulaTree) → n ≡ c.0 + 1 → (qs : List Branch) →
    follow (n, joined_branch c.1 (record { items = Bind x kind ∷ Guard p ∷ []; writes = [] })) qs ≡ follow c (map (bound_branch x kind p) qs)
name_behind c n x kind p e qs =
    put_behind c n (Bind x kind ∷ Guard p ∷ []) (bound_branch x kind p) (λ q. omega (arith, e)) (λ q. refl) (λ q. refl) qs

both_follow : (c : ℕ × Branch) (qs rs : List Branch) → follow c (qs ++ rs) ≡ follow c qs ++ follow c rs
both_follow c qs rs = map_append (λ (q : Branch). (c.0 + binds q.items, joined_branch c.1 q)) qs rs

followed_twice : (c : ℕ × Branch) (q : Branch) (rs : List Branch) → follow (c.0 + binds q.items, joined_branch c.1 q) rs ≡ follow c (map (joined_branch q) rs)
followed_twice c q [] = refl
followed_twice c q (r ∷ rs) =
    ap₂ (λ x xs. x ∷ xs)
    (alike (c.0 + binds q.items + binds r.items) (c.0 + binds (q.items ++ r.items)) ((c.1.items ++ q.items) ++ r.items) (c.1.items ++ (q.items ++ r.items))
    ((c.1.writes ++ q.writes) ++ r.writes) (c.1.writes ++ (q.writes ++ r.writes))
    (omega (arith, binds_append q.items r.items)) (append_assoc c.1.items q.items r.items) (append_assoc c.1.writes q.writes r.writes))
    (followed_twice c q rs)

-- each branch of the second side after each of the first
sides_follow : (c : ℕ × Branch) (f : ℕ → List Branch) (qs : List Branch) →
    flat_map (after f) (follow c qs) ≡ follow c (flat_map (λ (q : Branch). map (joined_branch q) (f (c.0 + binds q.items))) qs)
sides_follow c f [] = refl
sides_follow c f (q ∷ qs) =
    ap₂ (λ xs ys. xs ++ ys) (followed_twice c q (f (c.0 + binds q.items))) (sides_follow c f qs)
    ∙ sym (both_follow c (map (joined_branch q) (f (c.0 + binds q.items))) (flat_map (λ (q : Branch). map (joined_branch q) (f (c.0 + binds q.items))) qs))

-- ---- the branches by cases, behind those that are there before

pub of_together : (scope : List Name) (a b : SubstTree) (c : ℕ × Branch) (firsts old new : List (ℕ × Branch)) →
    firsts ≡ after (λ k. branches_from k scope a) c → new ≡ old ++ flat_map (after (λ k. branches_from k scope b)) firsts →
    new ≡ old ++ after (λ k. branches_from k scope (Together a b)) c
of_together scope a b c firsts old new is_firsts all =
    all
    ∙ ap (λ xs. old ++ flat_map (after (λ k. branches_from k scope b)) xs) is_firsts
    ∙ ap (λ xs. old ++ xs) (sides_follow c (λ k. branches_from k scope b) (branches_from c.0 scope a))

-- one side of a choice more
pub of_side : (scope : List Name) (s : SubstTree) (ss rest : SubstTrees) (c : ℕ × Branch) (all new whole : List (ℕ × Branch)) → ss ≡ More s rest →
    new ≡ all ++ after (λ k. branches_from k scope s) c → all ++ after (λ k. branches_of_each k scope ss) c ≡ whole →
    new ++ after (λ k. branches_of_each k scope rest) c ≡ whole
of_side scope s ss rest c all new whole is is_new so_far =
    let more : List (ℕ × Branch) = after (λ k. branches_from k scope s) c in
    let left : List (ℕ × Branch) = after (λ k. branches_of_each k scope rest) c in
    ap (λ xs. xs ++ left) is_new ∙ append_assoc all more left
    ∙ ap (λ xs. all ++ xs) (sym (both_follow c (branches_from c.0 scope s) (branches_of_each c.0 scope rest)) ∙ ap (λ ss. after (λ k. branches_of_each k scope ss) c) (sym is))
    ∙ so_far

pub of_if : (scope : List Name) (a b : SubstTree) (p : FormulaTree) (c d e : ℕ × Branch) (old mid new : List (ℕ × Branch)) →
    d ≡ begun.guarded c (opened scope p) → e ≡ begun.guarded c (Not (opened scope p)) →
    mid ≡ old ++ after (λ k. branches_from k scope a) d → new ≡ mid ++ after (λ k. branches_from k scope b) e →
    new ≡ old ++ after (λ k. branches_from k scope (If p a b)) c
of_if scope a b p c d e old mid new is_d is_e first second =
    let f : ℕ → List Branch = λ k. branches_from k scope a in
    let g : ℕ → List Branch = λ k. branches_from k scope b in
    second
    ∙ ap (λ xs. xs ++ after g e) first
    ∙ append_assoc old (after f d) (after g e)
    ∙ ap₂ (λ us vs. old ++ (us ++ vs))
    (ap (after f) is_d ∙ guard_behind c (opened scope p) (f c.0))
    (ap (after g) is_e ∙ guard_behind c (Not (opened scope p)) (g c.0))
    ∙ ap (λ xs. old ++ xs) (sym (both_follow c (map (guarded (opened scope p)) (f c.0)) (map (guarded (Not (opened scope p))) (g c.0))))

pub of_any : (scope inner : List Name) (a : SubstTree) (z : Name) (domain : Domain) (p : FormulaTree) (n : ℕ) (c d : ℕ × Branch) (old new : List (ℕ × Branch)) →
    n ≡ c.0 + 1 → inner ≡ numbered z n ∷ scope → d ≡ begun.bound c n z (kind_of_domain domain) (opened inner p) →
    new ≡ old ++ after (λ k. branches_from k inner a) d → new ≡ old ++ after (λ k. branches_from k scope (AnyOf z domain p a)) c
of_any scope inner a z domain p n c d old new is_n is_inner is_d all =
    let here : ℕ → List Name = λ m. numbered z m ∷ scope in
    let f : List Name → ℕ → List Branch = λ xs k. branches_from k xs a in
    all
    ∙ ap (λ xs. old ++ xs) (ap (after (f inner)) is_d
    ∙ ap (λ xs. after (f xs) (begun.bound c n z (kind_of_domain domain) (opened xs p))) is_inner
    ∙ name_behind c n (numbered z n) (kind_of_domain domain) (opened (here n) p) is_n (f (here n) n)
    ∙ ap (λ m. follow c (map (bound_branch (numbered z m) (kind_of_domain domain) (opened (here m) p)) (f (here m) m))) is_n)

pub of_none : (each : ℕ × Branch → List (ℕ × Branch)) (left all whole : List (ℕ × Branch)) → left ≡ [] → all ++ flat_map each left ≡ whole → all ≡ whole
of_none each left all whole is so_far = sym (append-nil all) ∙ ap (λ xs. all ++ flat_map each xs) (sym is) ∙ so_far

pub nothing_left : (l : List Begun) → length l ≡ 0 → l ≡ []
nothing_left [] h = refl
nothing_left (x ∷ xs) h = absurd (omega (arith, h))

pub no_side_left : (ss : List SubstTree) (i : ℕ) → length ss ≤ i → sides_of (drop i ss) ≡ End
no_side_left [] zero le = refl
no_side_left [] (suc i) le = refl
no_side_left (s ∷ ss) zero le = absurd (omega (arith, le))
no_side_left (s ∷ ss) (suc i) le = no_side_left ss i (omega (arith, le))

-- ---- without numbers

plain_begun : (bs : List Begun) → map (λ (b : Begun). branch_of b.branch) bs ≡ map (λ (c : ℕ × Branch). c.1) (map begun_of bs)
plain_begun [] = refl
plain_begun (b ∷ bs) = ap (λ qs. branch_of b.branch ∷ qs) (plain_begun bs)

plain_follow : (qs : List Branch) → map (λ (c : ℕ × Branch). c.1) (follow (0, record { items = []; writes = [] }) qs) ≡ qs
plain_follow [] = refl
plain_follow (q ∷ qs) = ap (λ rs. q ∷ rs) (plain_follow qs)

pub all_plain : (bs : List Begun) (qs : List Branch) → map begun_of bs ≡ follow (0, record { items = []; writes = [] }) qs →
    map (λ (b : Begun). branch_of b.branch) bs ≡ qs
all_plain bs qs e = plain_begun bs ∙ ap (map (λ (c : ℕ × Branch). c.1)) e ∙ plain_follow qs
