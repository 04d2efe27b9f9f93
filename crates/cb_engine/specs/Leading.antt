-- What is spelled writes items that fit.
use Rattle.std.proofs.Common.{◌≡◌, ℕ, zero, suc, Bool, true, false, not, ◌&&◌, eqb, List, [], ◌∷◌, ◌++◌, refl, ap, append_assoc, arith, cond, ◌≢◌, subst, ◌||◌}
use Rattle.std.specs.Prelude.{Option, Some, None}
use Rattle.cb_engine.specs.declared.Symbol.{Symbol}
use Rattle.cb_engine.specs.declared.Symbol.TheVariants.{Take, Keep, Act, Part, Gives, Then, Line}
use Rattle.cb_engine.specs.declared.Terminal.{Terminal}
use Rattle.cb_engine.specs.declared.Item.{Item}
use Rattle.cb_engine.specs.Rules.{Rules, Runs, chosen, kept, group, admits}
use Rattle.cb_engine.specs.Rules.Runs.{ends, takes, keeps, acts, keys, others, goes_on}
use Rattle.cb_engine.specs.Tables.{body, find_line, rules_of, keyed_in, either}
use Rattle.cb_engine.specs.declared.Reading.{Reading}
use Rattle.cb_engine.specs.declared.Reading.TheVariants as reading
use Rattle.cb_engine.specs.Readings.{IsReading}
use Rattle.cb_engine.specs.Deciding.{both, body_some, no_zero, group_group}
use Rattle.cb_engine.specs.Kinds.{Leaves, Signature, Signatures, strip, kinds, same_kinds, ends_plain, ends_sorted, when_left, onward, leads, entered, line_leads, all_lead, Leads}

same_number : (a b : ℕ) → eqb a b ≡ true → a ≡ b
same_number a b e = grind arith

pub kinds_same : (l k : List ℕ) → same_kinds l k ≡ true → l ≡ k
kinds_same [] [] e = refl
kinds_same [] (y ∷ k) e = absurd (cc)
kinds_same (x ∷ l) [] e = absurd (cc)
kinds_same (x ∷ l) (y ∷ k) e =
    let a : x ≡ y = same_number x y (both e).0 in
    let b : l ≡ k = kinds_same l k (both e).1 in
    rw (a, b) refl

-- what is below stays below
pub strip_under : (p k r : List ℕ) (rest : List ℕ) → strip p k ≡ Some rest → strip p (k ++ r) ≡ Some (rest ++ r)
strip_under [] k r rest e = let q : k ≡ rest = cc in rw q refl
strip_under (x ∷ p) [] r rest e = absurd (cc)
strip_under (x ∷ p) (y ∷ k) r rest e = go (eqb x y) (strip_under p k r rest) e
  where
    go : (b : Bool) → (strip p k ≡ Some rest → strip p (k ++ r) ≡ Some (rest ++ r)) → cond b (strip p k) None ≡ Some rest → cond b (strip p (k ++ r)) None ≡ Some (rest ++ r)
    go true more e = more e
    go false more e = absurd (cc)

pub strip_is : (p k rest : List ℕ) → strip p k ≡ Some rest → k ≡ p ++ rest
strip_is [] k rest e = cc
strip_is (x ∷ p) [] rest e = absurd (cc)
strip_is (x ∷ p) (y ∷ k) rest e = go (eqb x y) refl (strip_is p k rest) e
  where
    go : (b : Bool) → eqb x y ≡ b → (strip p k ≡ Some rest → k ≡ p ++ rest) → cond b (strip p k) None ≡ Some rest → y ∷ k ≡ x ∷ p ++ rest
    go true f more e = let q : x ≡ y = same_number x y f in let m : k ≡ p ++ rest = more e in rw (q, m) refl
    go false f more e = absurd (cc)

pub left_some : (f : List ℕ → Bool) (o : Option (List ℕ)) → when_left f o ≡ true → (k : List ℕ) × (o ≡ Some k) × (f k ≡ true)
left_some f None e = absurd (cc)
left_some f (Some k) e = (k, refl, e)

-- how a stack goes on past a part
abbrev pub Past : Signatures → Signature → List Symbol → Signature → List ℕ → Type 0
Past g top k s r = onward (λ x. leads g top k None x) (λ m x. leads g top k (Some m) x) s r ≡ true

past_plain : (plain : List ℕ → Bool) (by : ℕ → List ℕ → Bool) (s : Signature) (r : List ℕ) → s.sorted ≡ false → onward plain by s r ≡ true → plain (s.leaves ++ r) ≡ true
past_plain plain by s r e q = rw e at q

past_by : (plain : List ℕ → Bool) (by : ℕ → List ℕ → Bool) (s : Signature) (r : List ℕ) → s.sorted ≡ true → onward plain by s r ≡ true → (by 0 (s.leaves ++ r) ≡ true) × (by 1 (s.second ++ r) ≡ true)
past_by plain by s r e q = both (rw e at q)

not_true : (b : Bool) → not b ≡ true → b ≡ false
not_true true e = absurd (cc)
not_true false e = refl

module _ (g : Signatures) (top s : Signature) (k : List Symbol) (r : List ℕ) (past : Past g top k s r) where
  join_end : (n : List ℕ) → ends_plain s n ≡ true → leads g top k None (n ++ r) ≡ true
  join_end n e =
      let f : s.sorted ≡ false = not_true s.sorted (both e).0 in
      let q : n ≡ s.leaves = kinds_same n s.leaves (both e).1 in
      rw q (past_plain (leads g top k None) (λ x. leads g top k (Some x)) s r f past)

  join_sort : (m : ℕ) (n : List ℕ) → ends_sorted s m n ≡ true → leads g top k (Some m) (n ++ r) ≡ true
  join_sort zero n e =
      let q : n ≡ s.leaves = kinds_same n s.leaves (both e).1 in
      rw q (past_by (leads g top k None) (λ x. leads g top k (Some x)) s r (both e).0 past).0
  join_sort (suc m) n e =
      let q : n ≡ s.second = kinds_same n s.second (both e).1 in
      rw q (any_sort k (past_by (leads g top k None) (λ x. leads g top k (Some x)) s r (both e).0 past).1)
    where
      any_sort : (k : List Symbol) → leads g top k (Some 1) (s.second ++ r) ≡ true → leads g top k (Some (suc m)) (s.second ++ r) ≡ true
      any_sort [] e = e
      any_sort (Then x y ∷ b) e = e
      any_sort (Take c ∷ b) e = e
      any_sort (Keep c ∷ b) e = e
      any_sort (Act a ∷ b) e = e
      any_sort (Part n ∷ b) e = e
      any_sort (Gives n ∷ b) e = e
      any_sort (Line l0 l1 l2 ∷ b) e = e

  -- past a part within a body
  join_onward : (b : List Symbol) (t : Signature) (n : List ℕ) → ((n : List ℕ) → leads g s b None n ≡ true → leads g top (b ++ k) None (n ++ r) ≡ true) → ((m : ℕ) (n : List ℕ) → leads g s b (Some m) n ≡ true → leads g top (b ++ k) (Some m) (n ++ r) ≡ true) →
      when_left (onward (λ x. leads g s b None x) (λ m x. leads g s b (Some m) x) t) (strip t.takes n) ≡ true →
      when_left (onward (λ x. leads g top (b ++ k) None x) (λ m x. leads g top (b ++ k) (Some m) x) t) (strip t.takes (n ++ r)) ≡ true
  join_onward b t n plain by e =
      let l = left_some (onward (λ x. leads g s b None x) (λ m x. leads g s b (Some m) x) t) (strip t.takes n) e in
      rw (strip_under t.takes n r l.0 l.1) (go l.0 t.sorted l.2)
    where
      go : (rest : List ℕ) (c : Bool) → cond c (leads g s b (Some 0) (t.leaves ++ rest) && leads g s b (Some 1) (t.second ++ rest)) (leads g s b None (t.leaves ++ rest)) ≡ true →
          cond c (leads g top (b ++ k) (Some 0) (t.leaves ++ (rest ++ r)) && leads g top (b ++ k) (Some 1) (t.second ++ (rest ++ r))) (leads g top (b ++ k) None (t.leaves ++ (rest ++ r))) ≡ true
      go rest true e =
          let x : leads g top (b ++ k) (Some 0) (t.leaves ++ (rest ++ r)) ≡ true = rw (← append_assoc t.leaves) (by 0 (t.leaves ++ rest) (both e).0) in
          let y : leads g top (b ++ k) (Some 1) (t.second ++ (rest ++ r)) ≡ true = rw (← append_assoc t.second) (by 1 (t.second ++ rest) (both e).1) in
          rw (x, y) refl
      go rest false e = rw (← append_assoc t.leaves) (plain (t.leaves ++ rest) e)

  pub join : (b : List Symbol) (m : Option ℕ) (n : List ℕ) → leads g s b m n ≡ true → leads g top (b ++ k) m (n ++ r) ≡ true
  join [] None n e = join_end n e
  join (Take c ∷ b) None n e = join b None n e
  join (Keep c ∷ b) None n e = join b None (g.word (group c) ∷ n) e
  join (Act a ∷ b) None n e =
      let l = left_some (λ x. leads g s b None ((g.action a).leaves ++ x)) (strip (g.action a).takes n) e in
      rw (strip_under (g.action a).takes n r l.0 l.1, ← append_assoc (g.action a).leaves) (join b None ((g.action a).leaves ++ l.0) l.2)
  join (Part p ∷ b) None n e = join_onward b (g.part p) n (λ n e. join b None n e) (λ m n e. join b (Some m) n e) e
  join (Gives m ∷ b) None n e = join b (Some m) n e
  join (Then x y ∷ b) None n e = absurd (cc)
  join (Line l0 l1 l2 ∷ b) None n e = absurd (cc)
  join [] (Some m) n e = join_sort m n e
  join (Then x y ∷ b) (Some m) n e = join_onward b (g.part (chosen x y m)) n (λ n e. join b None n e) (λ m n e. join b (Some m) n e) e
  join (Take c ∷ b) (Some m) n e = absurd (cc)
  join (Keep c ∷ b) (Some m) n e = absurd (cc)
  join (Act a ∷ b) (Some m) n e = absurd (cc)
  join (Part p ∷ b) (Some m) n e = absurd (cc)
  join (Gives p ∷ b) (Some m) n e = absurd (cc)
  join (Line l0 l1 l2 ∷ b) (Some m) n e = absurd (cc)

kinds_kept : (g : Signatures) (keep : Bool) (t : Terminal) (out : List Item) (n : List ℕ) → kinds g (kept keep t out) n ≡ kinds g out (entered g t.class keep n)
kinds_kept g true t out n = refl
kinds_kept g false t out n = refl

entered_under : (g : Signatures) (c : ℕ) (keep : Bool) (n r : List ℕ) → entered g c keep n ++ r ≡ entered g c keep (n ++ r)
entered_under g c true n r = refl
entered_under g c false n r = refl

entered_group : (g : Signatures) (c : ℕ) (keep : Bool) (n : List ℕ) → entered g (group c) keep n ≡ entered g c keep n
entered_group g c true n = rw (group_group c) refl
entered_group g c false n = refl

-- a token that is admitted has the group of the class that admits it
admitted_group : (c d : ℕ) → admits c d ≡ true → group c ≡ group d
admitted_group c d e = go (eqb c d) refl e
  where
    go : (b : Bool) → eqb c d ≡ b → (b || eqb c (group d)) ≡ true → group c ≡ group d
    go true f e = let q : c ≡ d = same_number c d f in rw q refl
    go false f e = let q : c ≡ group d = same_number c (group d) e in rw (q, group_group d) refl

-- what is spelled leads to what the symbols leave
pub led : {r : Rules} {k : List Symbol} {ts : List Terminal} {out : List Item} (g : Signatures) (top : Signature) → Leads r g → Runs r true k ts out → (n : List ℕ) → leads g top k None n ≡ true → kinds g out n ≡ Some top.leaves
led g top q (ends {k = k} e) n l = go k (e refl) l
  where
    go : (k : List Symbol) → k ≡ [] → leads g top k None n ≡ true → Some n ≡ Some top.leaves
    go [] e l = ap (λ (y : List ℕ). Some y) (kinds_same n top.leaves (both l).1)
    go (x ∷ k) e l = absurd (cc)
led g top q (takes e m) n l = led g top q m n l
led g top q (keeps {c = c} {k = k} {t = t} e m) n l =
    led g top q m (g.word (group t.class) ∷ n) (subst (λ (y : ℕ). leads g top k None (g.word y ∷ n) ≡ true) (admitted_group c t.class e) l)
led g top q (acts {a = a} {k = k} m) n l =
    let s = left_some (λ x. leads g top k None ((g.action a).leaves ++ x)) (strip (g.action a).takes n) l in
    rw s.1 (led g top q m ((g.action a).leaves ++ s.0) s.2)
led g top q (keys {n = p} {k = k} {t = t} {out = out} keep b e m) n l =
    let s = left_some (onward (λ x. leads g top k None x) (λ i x. leads g top k (Some i) x) (g.part p)) (strip (g.part p).takes n) l in
    let i : n ≡ (g.part p).takes ++ s.0 = strip_is (g.part p).takes n s.0 s.1 in
    let j = join g top (g.part p) k s.0 s.2 b None (entered g t.class keep (g.part p).takes) (q.key p t.class (keep, b) e) in
    rw (kinds_kept g keep t out n, i) (led g top q m (entered g t.class keep ((g.part p).takes ++ s.0)) (rw entered_under at j))
led g top q (others {n = p} {k = k} b e m) n l =
    let s = left_some (onward (λ x. leads g top k None x) (λ i x. leads g top k (Some i) x) (g.part p)) (strip (g.part p).takes n) l in
    let i : n ≡ (g.part p).takes ++ s.0 = strip_is (g.part p).takes n s.0 s.1 in
    let j = join g top (g.part p) k s.0 s.2 b None (g.part p).takes (q.other p b e) in
    rw i (led g top q m ((g.part p).takes ++ s.0) j)
led g top q (goes_on m) n l = led g top q m n l

-- the test says so
pub found_leads : (g : Signatures) (l : List Symbol) (n c : ℕ) (o : Bool × List Symbol) → all_lead g l ≡ true → find_line l n c ≡ Some o → line_leads g n c o.0 o.1 ≡ true
found_leads g [] n c o e f = absurd (cc)
found_leads g (Line m k keep ∷ l) n c o e f = go (found_leads g l n c o (both e).1) (eqb m n && eqb k c) refl f
  where
    go : (find_line l n c ≡ Some o → line_leads g n c o.0 o.1 ≡ true) → (t : Bool) → (eqb m n && eqb k c) ≡ t → cond t (Some (keep, body l)) (find_line l n c) ≡ Some o → line_leads g n c o.0 o.1 ≡ true
    go more true s f =
        let q : o ≡ (keep, body l) = cc in
        let p : (eqb m n ≡ true) × (eqb k c ≡ true) = both s in
        let a : m ≡ n = same_number m n p.0 in
        let b : k ≡ c = same_number k c p.1 in
        rw (q, ← a, ← b) (both e).0
    go more false s f = more f
found_leads g (Take x ∷ l) n c o e f = found_leads g l n c o e f
found_leads g (Keep x ∷ l) n c o e f = found_leads g l n c o e f
found_leads g (Act x ∷ l) n c o e f = found_leads g l n c o e f
found_leads g (Part x ∷ l) n c o e f = found_leads g l n c o e f
found_leads g (Gives x ∷ l) n c o e f = found_leads g l n c o e f
found_leads g (Then x y ∷ l) n c o e f = found_leads g l n c o e f

pub tested : (g : Signatures) (l : List Symbol) → all_lead g l ≡ true → Leads (rules_of l) g
tested g l e = record {
  key = λ n c alt f. key_leads n c alt f;
  other = λ n b f. let o = body_some (find_line l n 0) b f in rw o.2 (found_leads g l n 0 o.0 e o.1);
}
  where
    at_key : (n c : ℕ) (alt : Bool × List Symbol) → c ≢ 0 → line_leads g n c alt.0 alt.1 ≡ true → leads g (g.part n) alt.1 None (entered g c alt.0 (g.part n).takes) ≡ true
    at_key n zero alt z q = absurd (z refl)
    at_key n (suc c) alt z q = q

    key_leads : (n c : ℕ) (alt : Bool × List Symbol) → keyed_in l n c ≡ Some alt → leads g (g.part n) alt.1 None (entered g c alt.0 (g.part n).takes) ≡ true
    key_leads n zero alt f = absurd (cc)
    key_leads n (suc c) alt f = go (find_line l n (suc c)) refl f
      where
        go : (o : Option (Bool × List Symbol)) → find_line l n (suc c) ≡ o → either o (find_line l n (group (suc c))) ≡ Some alt → leads g (g.part n) alt.1 None (entered g (suc c) alt.0 (g.part n).takes) ≡ true
        go (Some x) h f = found_leads g l n (suc c) alt e (cc)
        go None h f = rw (entered_group g (suc c) alt.0 (g.part n).takes) at (at_key n (group (suc c)) alt (λ z. no_zero (suc c) (omega arith) z) (found_leads g l n (group (suc c)) alt e f))

-- so it is with what a reading writes
pub reading_leaves : (r : Rules) (g : Signatures) (top : Signature) (n : ℕ) (ts : List Terminal) (answer : Reading) → Leads r g → leads g top (Part n ∷ []) None [] ≡ true → IsReading r (Part n ∷ []) ts answer → Leaves g top.leaves answer
reading_leaves r g top n ts (reading.Whole to out) q l e = led g top q e.spelled [] l
reading_leaves r g top n ts (reading.Fault to) q l e = tt
