-- What is spelled writes items that follow the finer kinds.
use Rattle.std.proofs.Common.{◌≡◌, ℕ, zero, suc, ◌≢◌, Bool, true, false, ◌&&◌, ◌||◌, eqb, List, [], ◌∷◌, ◌++◌, refl, append_assoc, arith, cond, subst, sym}
use Rattle.std.specs.Prelude.{Option, Some, None}
use Rattle.std.specs.List.{list_any, list_all}
use Rattle.cb_engine.specs.declared.Symbol.{Symbol}
use Rattle.cb_engine.specs.declared.Symbol.TheVariants.{Take, Keep, Act, Part, Gives, Then, Line}
use Rattle.cb_engine.specs.declared.Terminal.{Terminal}
use Rattle.cb_engine.specs.declared.Item.{Item}
use Rattle.cb_engine.specs.declared.Item.TheVariants.{Do}
use Rattle.cb_engine.specs.Rules.{Rules, Runs, chosen, kept, group}
use Rattle.cb_engine.specs.Rules.Runs.{ends, takes, keeps, acts, keys, others, goes_on}
use Rattle.cb_engine.specs.Tables.{body, find_line, rules_of, keyed_in, either}
use Rattle.cb_engine.specs.Deciding.{both, body_some, no_zero}
use Rattle.cb_engine.specs.Kinds.{Effect, same_kinds, strip}
use Rattle.cb_engine.specs.Leading.{kinds_same, strip_under, strip_is, left_some}
use Rattle.cb_shapes.proofs.Finer.{Outcome, Passage, Finer, onto, split, turned, within, act, kinds, same_sort, ends_as, passes, leads, entered, line_leads, all_lead}

-- ---- lists

or_right : (a b : Bool) → b ≡ true → (a || b) ≡ true
or_right true b e = refl
or_right false b e = e

any_map : {X : Type 0} (f h : X → Bool) → ((x : X) → f x ≡ true → h x ≡ true) → (xs : List X) → list_any f xs ≡ true → list_any h xs ≡ true
any_map f h m [] e = absurd (cc)
any_map f h m (x ∷ xs) e = go (f x) refl (any_map f h m xs) e
  where
    go : (b : Bool) → f x ≡ b → (list_any f xs ≡ true → list_any h xs ≡ true) → (b || list_any f xs) ≡ true → (h x || list_any h xs) ≡ true
    go true p more e = let q : h x ≡ true = m x p in rw q refl
    go false p more e = or_right (h x) (list_any h xs) (more e)

all_map : {X : Type 0} (f h : X → Bool) → ((x : X) → f x ≡ true → h x ≡ true) → (xs : List X) → list_all f xs ≡ true → list_all h xs ≡ true
all_map f h m [] e = refl
all_map f h m (x ∷ xs) e =
    let a : h x ≡ true = m x (both e).0 in
    let b : list_all h xs ≡ true = all_map f h m xs (both e).1 in
    rw (a, b) refl

-- what is so of all is so of the one that there is
met : {X : Type 0} (f h : X → Bool) (xs : List X) → list_all f xs ≡ true → list_any h xs ≡ true → (x : X) × (f x ≡ true) × (h x ≡ true)
met f h [] a e = absurd (cc)
met {X = X} f h (x ∷ xs) a e = go (h x) refl (met f h xs (both a).1) e
  where
    go : (b : Bool) → h x ≡ b → (list_any h xs ≡ true → (y : X) × (f y ≡ true) × (h y ≡ true)) → (b || list_any h xs) ≡ true → (y : X) × (f y ≡ true) × (h y ≡ true)
    go true p more e = (x, (both a).0, p)
    go false p more e = more e

-- ---- what is below stays below

split_under : (w n r : List ℕ) (p : List ℕ × List ℕ) → split w n ≡ Some p → split w (n ++ r) ≡ Some (p.0, p.1 ++ r)
split_under [] n r p e = let q : p ≡ ([], n) = cc in rw q refl
split_under (x ∷ w) [] r p e = absurd (cc)
split_under (x ∷ w) (y ∷ n) r p e = go (split w n) refl (split_under w n r) e
  where
    go : (o : Option (List ℕ × List ℕ)) → split w n ≡ o → ((q : List ℕ × List ℕ) → split w n ≡ Some q → split w (n ++ r) ≡ Some (q.0, q.1 ++ r)) → onto y o ≡ Some p → onto y (split w (n ++ r)) ≡ Some (p.0, p.1 ++ r)
    go None f more e = absurd (cc)
    go (Some q) f more e =
        let h : split w (n ++ r) ≡ Some (q.0, q.1 ++ r) = more q f in
        let i : p ≡ (y ∷ q.0, q.1) = cc in
        rw (h, i) refl

turned_under : (es : List Effect) (k n r m : List ℕ) → turned es k n ≡ Some m → turned es k (n ++ r) ≡ Some (m ++ r)
turned_under [] k n r m e = absurd (cc)
turned_under (x ∷ es) k n r m e = go (same_kinds x.takes k) (turned_under es k n r m) e
  where
    go : (b : Bool) → (turned es k n ≡ Some m → turned es k (n ++ r) ≡ Some (m ++ r)) → cond b (Some (x.leaves ++ n)) (turned es k n) ≡ Some m → cond b (Some (x.leaves ++ (n ++ r))) (turned es k (n ++ r)) ≡ Some (m ++ r)
    go true more e = let q : m ≡ x.leaves ++ n = cc in rw (q, append_assoc x.leaves) refl
    go false more e = more e

act_under : (es : List Effect) (n r m : List ℕ) → act es n ≡ Some m → act es (n ++ r) ≡ Some (m ++ r)
act_under [] n r m e = absurd (cc)
act_under (x ∷ es) n r m e = go (split x.takes n) refl e
  where
    go : (o : Option (List ℕ × List ℕ)) → split x.takes n ≡ o → within (x ∷ es) o ≡ Some m → within (x ∷ es) (split x.takes (n ++ r)) ≡ Some (m ++ r)
    go None f e = absurd (cc)
    go (Some p) f e = rw (split_under x.takes n r p f) (turned_under (x ∷ es) p.0 p.1 r m e)

same_sorts : (m n : Option ℕ) → same_sort m n ≡ true → m ≡ n
same_sorts None None e = refl
same_sorts None (Some n) e = absurd (cc)
same_sorts (Some m) None e = absurd (cc)
same_sorts (Some m) (Some n) e = let q : m ≡ n = grind arith in rw q refl

passes_under : (f h : Option ℕ → List ℕ → Bool) (n r : List ℕ) → ((m : Option ℕ) (k : List ℕ) → f m k ≡ true → h m (k ++ r) ≡ true) → (p : Passage) → passes f n p ≡ true → passes h (n ++ r) p ≡ true
passes_under f h n r more p e =
    let l = left_some (λ x. list_all (λ o. f o.0 (o.1 ++ x)) p.leaves) (strip p.takes n) e in
    rw (strip_under p.takes n r l.0 l.1)
    (all_map (λ (o : Outcome). f o.0 (o.1 ++ l.0)) (λ (o : Outcome). h o.0 (o.1 ++ (l.0 ++ r))) (λ o i. rw (← append_assoc o.1) (more o.0 (o.1 ++ l.0) i)) p.leaves l.2)

-- symbols that lead to each outcome of a part, behind which others go on
module _ (g : Finer) (top s : List Outcome) (k : List Symbol) (r : List ℕ) (past : list_all (λ o. leads g top k o.0 (o.1 ++ r)) s ≡ true) where
  join_as : (m : Option ℕ) (n : List ℕ) (o : Outcome) → leads g top k o.0 (o.1 ++ r) ≡ true → ends_as m n o ≡ true → leads g top k m (n ++ r) ≡ true
  join_as m n o l e =
      let a : m ≡ o.0 = same_sorts m o.0 (both e).0 in
      let b : n ≡ o.1 = kinds_same n o.1 (both e).1 in
      rw (a, b) l

  join_end : (m : Option ℕ) (n : List ℕ) → list_any (ends_as m n) s ≡ true → leads g top k m (n ++ r) ≡ true
  join_end m n e =
      let o = met (λ (o : Outcome). leads g top k o.0 (o.1 ++ r)) (ends_as m n) s past e in
      join_as m n o.0 o.1 o.2

  join : (b : List Symbol) (m : Option ℕ) (n : List ℕ) → leads g s b m n ≡ true → leads g top (b ++ k) m (n ++ r) ≡ true
  join [] m n e = join_end m n e
  join (Take c ∷ b) None n e = join b None n e
  join (Keep c ∷ b) None n e = join b None (g.word ∷ n) e
  join (Act a ∷ b) None n e =
      let l = left_some (λ x. leads g s b None x) (act (g.action a) n) e in
      rw (act_under (g.action a) n r l.0 l.1) (join b None l.0 l.2)
  join (Part p ∷ b) None n e =
      any_map (passes (λ m x. leads g s b m x) n) (passes (λ m x. leads g top (b ++ k) m x) (n ++ r)) (λ p i. passes_under (λ m x. leads g s b m x) (λ m x. leads g top (b ++ k) m x) n r (λ m x j. join b m x j) p i) (g.part p) e
  join (Gives m ∷ b) None n e = join b (Some m) n e
  join (Then x y ∷ b) None n e = absurd (cc)
  join (Line l0 l1 l2 ∷ b) None n e = absurd (cc)
  join (Then x y ∷ b) (Some m) n e =
      any_map (passes (λ i z. leads g s b i z) n) (passes (λ i z. leads g top (b ++ k) i z) (n ++ r)) (λ p i. passes_under (λ i z. leads g s b i z) (λ i z. leads g top (b ++ k) i z) n r (λ i z j. join b i z j) p i) (g.part (chosen x y m)) e
  join (Take c ∷ b) (Some m) n e = absurd (cc)
  join (Keep c ∷ b) (Some m) n e = absurd (cc)
  join (Act a ∷ b) (Some m) n e = absurd (cc)
  join (Part p ∷ b) (Some m) n e = absurd (cc)
  join (Gives p ∷ b) (Some m) n e = absurd (cc)
  join (Line l0 l1 l2 ∷ b) (Some m) n e = absurd (cc)

-- ---- what is spelled

-- what the test says of the rules
pub record Leads (r : Rules) (g : Finer) : Type 0 where
  pub key : (n c : ℕ) (alt : Bool × List Symbol) → r.keyed n c ≡ Some alt → list_all (λ p. leads g p.leaves alt.1 None (entered g alt.0 p.takes)) (g.part n) ≡ true
  pub other : (n : ℕ) (b : List Symbol) → r.otherwise n ≡ Some b → list_all (λ p. leads g p.leaves b None p.takes) (g.part n) ≡ true

-- the kinds after the items are those of an outcome
pub record Follows (g : Finer) (top : List Outcome) (out : List Item) (n : List ℕ) : Type 0 where
  pub end : List ℕ
  pub run : kinds g out (Some n) ≡ Some end
  pub one : list_any (ends_as None end) top ≡ true

acted_follows : (g : Finer) (top : List Outcome) (a : ℕ) (out : List Item) (n m : List ℕ) → act (g.action a) n ≡ Some m → Follows g top out m → Follows g top (Do a ∷ out) n
acted_follows g top a out n m e h = record { end = h.end; run = rw e h.run; one = h.one }

kept_follows : (g : Finer) (top : List Outcome) (keep : Bool) (t : Terminal) (out : List Item) (n : List ℕ) → Follows g top out (entered g keep n) → Follows g top (kept keep t out) n
kept_follows g top true t out n h = record { end = h.end; run = h.run; one = h.one }
kept_follows g top false t out n h = h

entered_under : (g : Finer) (keep : Bool) (n r : List ℕ) → entered g keep n ++ r ≡ entered g keep (n ++ r)
entered_under g true n r = refl
entered_under g false n r = refl

past_rest : (g : Finer) (top : List Outcome) (k b : List Symbol) (on : List ℕ → List ℕ) (p : Passage) (r : List ℕ) → ((l r : List ℕ) → on l ++ r ≡ on (l ++ r)) →
    list_all (λ o. leads g top k o.0 (o.1 ++ r)) p.leaves ≡ true → leads g p.leaves b None (on p.takes) ≡ true → leads g top (b ++ k) None (on (p.takes ++ r)) ≡ true
past_rest g top k b on p r under l e = subst (λ (x : List ℕ). leads g top (b ++ k) None x ≡ true) (under p.takes r) (join g top p.leaves k r l b None (on p.takes) e)

-- past a part by one of its lines
past : (g : Finer) (top : List Outcome) (k b : List Symbol) (on : List ℕ → List ℕ) (n : List ℕ) (ps : List Passage) → ((l r : List ℕ) → on l ++ r ≡ on (l ++ r)) →
    list_any (passes (λ m x. leads g top k m x) n) ps ≡ true → list_all (λ p. leads g p.leaves b None (on p.takes)) ps ≡ true → leads g top (b ++ k) None (on n) ≡ true
past g top k b on n ps under l q =
    let p = met (λ (p : Passage). leads g p.leaves b None (on p.takes)) (passes (λ m x. leads g top k m x) n) ps q l in
    let s = left_some (λ x. list_all (λ o. leads g top k o.0 (o.1 ++ x)) p.0.leaves) (strip p.0.takes n) p.2 in
    let i : n ≡ p.0.takes ++ s.0 = strip_is p.0.takes n s.0 s.1 in
    subst (λ (x : List ℕ). leads g top (b ++ k) None (on x) ≡ true) (sym i) (past_rest g top k b on p.0 s.0 under s.2 p.1)

pub follows : {r : Rules} {k : List Symbol} {ts : List Terminal} {out : List Item} (g : Finer) (top : List Outcome) → Leads r g → Runs r true k ts out → (n : List ℕ) → leads g top k None n ≡ true → Follows g top out n
follows g top q (ends {k = k} e) n l = go k (e refl) l
  where
    go : (k : List Symbol) → k ≡ [] → leads g top k None n ≡ true → Follows g top [] n
    go [] e l = record { end = n; run = refl; one = l }
    go (x ∷ k) e l = absurd (cc)
follows g top q (takes e m) n l = follows g top q m n l
follows g top q (keeps e m) n l = let h = follows g top q m (g.word ∷ n) l in record { end = h.end; run = h.run; one = h.one }
follows g top q (acts {a = a} {k = k} {out = out} m) n l =
    let s = left_some (λ x. leads g top k None x) (act (g.action a) n) l in
    acted_follows g top a out n s.0 s.1 (follows g top q m s.0 s.2)
follows g top q (keys {n = p} {k = k} {t = t} {out = out} keep b e m) n l =
    kept_follows g top keep t out n (follows g top q m (entered g keep n) (past g top k b (entered g keep) n (g.part p) (entered_under g keep) l (q.key p t.class (keep, b) e)))
follows g top q (others {n = p} {k = k} b e m) n l = follows g top q m n (past g top k b (λ x. x) n (g.part p) (λ x y. refl) l (q.other p b e))
follows g top q (goes_on m) n l = follows g top q m n l

-- ---- the test says so

same : (a b : ℕ) → eqb a b ≡ true → a ≡ b
same a b e = grind arith

found_leads : (g : Finer) (l : List Symbol) (n c : ℕ) (o : Bool × List Symbol) → all_lead g l ≡ true → find_line l n c ≡ Some o → line_leads g n c o.0 o.1 ≡ true
found_leads g [] n c o e f = absurd (cc)
found_leads g (Line m k keep ∷ l) n c o e f = go (found_leads g l n c o (both e).1) (eqb m n && eqb k c) refl f
  where
    go : (find_line l n c ≡ Some o → line_leads g n c o.0 o.1 ≡ true) → (t : Bool) → (eqb m n && eqb k c) ≡ t → cond t (Some (keep, body l)) (find_line l n c) ≡ Some o → line_leads g n c o.0 o.1 ≡ true
    go more true s f =
        let q : o ≡ (keep, body l) = cc in
        let p : (eqb m n ≡ true) × (eqb k c ≡ true) = both s in
        let a : m ≡ n = same m n p.0 in
        let b : k ≡ c = same k c p.1 in
        rw (q, ← a, ← b) (both e).0
    go more false s f = more f
found_leads g (Take x ∷ l) n c o e f = found_leads g l n c o e f
found_leads g (Keep x ∷ l) n c o e f = found_leads g l n c o e f
found_leads g (Act x ∷ l) n c o e f = found_leads g l n c o e f
found_leads g (Part x ∷ l) n c o e f = found_leads g l n c o e f
found_leads g (Gives x ∷ l) n c o e f = found_leads g l n c o e f
found_leads g (Then x y ∷ l) n c o e f = found_leads g l n c o e f

pub tested : (g : Finer) (l : List Symbol) → all_lead g l ≡ true → Leads (rules_of l) g
tested g l e = record {
  key = λ n c alt f. key_leads n c alt f;
  other = λ n b f. let o = body_some (find_line l n 0) b f in rw o.2 (found_leads g l n 0 o.0 e o.1);
}
  where
    at_key : (n c : ℕ) (alt : Bool × List Symbol) → c ≢ 0 → line_leads g n c alt.0 alt.1 ≡ true → list_all (λ p. leads g p.leaves alt.1 None (entered g alt.0 p.takes)) (g.part n) ≡ true
    at_key n zero alt z q = absurd (z refl)
    at_key n (suc c) alt z q = q

    key_leads : (n c : ℕ) (alt : Bool × List Symbol) → keyed_in l n c ≡ Some alt → list_all (λ p. leads g p.leaves alt.1 None (entered g alt.0 p.takes)) (g.part n) ≡ true
    key_leads n zero alt f = absurd (cc)
    key_leads n (suc c) alt f = go (find_line l n (suc c)) refl f
      where
        go : (o : Option (Bool × List Symbol)) → find_line l n (suc c) ≡ o → either o (find_line l n (group (suc c))) ≡ Some alt → list_all (λ p. leads g p.leaves alt.1 None (entered g alt.0 p.takes)) (g.part n) ≡ true
        go (Some x) h f = found_leads g l n (suc c) alt e (cc)
        go None h f = at_key n (group (suc c)) alt (λ z. no_zero (suc c) (omega arith) z) (found_leads g l n (group (suc c)) alt e f)
