-- Marks put in and taken out, and what that says of rows.
use Rattle.std.proofs.Common.{◌≡◌, ℕ, zero, suc, ◌+◌, ◌<◌, ◌≤◌, Bool, true, false, ltb, if◌then◌else◌, Option, Some, None, List, [], ◌∷◌, ◌++◌, length, slice_get, get_or, set, refl, sym, ap, subst, ◌∙◌, arith, eq-eqb}
use Rattle.std.specs.Prelude.{⊤}
use Rattle.std.proofs.lemmas.Bool.{lt-ltb, le-ltb, ne_eqb}
use Rattle.std.specs.List.{insert, remove, HoldsAt, AllWithin}
use Rattle.cb_offers.specs.declared.offers.Side.{Side}
use Rattle.cb_offers.specs.declared.marks.Mark.{Mark}
use Rattle.cb_offers.specs.Tables.{first_in, next, or_else}
use Rattle.cb_offers.specs.Marks.{mark_on, marks_from, put_mark, take_mark, IsHere, IsGap}
use Rattle.std.proofs.lemmas.List.Edits.{length-insert}
use Rattle.std.proofs.lemmas.List.{get_or_default}

-- ---- at a place in a list of marks

lesser_rest : (n : Mark) (ns : List Mark) (c p : ℕ) → AllWithin (λ m. m.controller < c) (n ∷ ns) 0 (suc p) → AllWithin (λ m. m.controller < c) ns 0 p
lesser_rest n ns c p h k d lo below = h (suc k) d (omega arith) (omega (arith, below))

lesser_head : (n : Mark) (ns : List Mark) (c p : ℕ) → AllWithin (λ m. m.controller < c) (n ∷ ns) 0 (suc p) → ltb n.controller c ≡ true
lesser_head n ns c p h = lt-ltb _ _ (h 0 n (omega arith) (omega arith))

-- the controller's mark is there
pub put_there : (ms : List Mark) (p : ℕ) (m : Mark) → AllWithin (λ n. n.controller < m.controller) ms 0 p → p < length ms → HoldsAt (λ n. n.controller ≡ m.controller) ms p → put_mark m ms ≡ ms
put_there [] p m before within here = absurd (omega (arith, within))
put_there (n ∷ ns) zero m before within here =
    let e : n.controller ≡ m.controller = here n in
    rw (le-ltb n.controller m.controller (omega (arith, e)), eq-eqb n.controller m.controller e) refl
put_there (n ∷ ns) (suc p) m before within here =
    rw (lesser_head n ns m.controller p before) (ap (λ (xs : List Mark). n ∷ xs) (put_there ns p m (lesser_rest n ns m.controller p before) (omega (arith, within)) here))

-- it is not
pub put_gap : (ms : List Mark) (p : ℕ) (m : Mark) → AllWithin (λ n. n.controller < m.controller) ms 0 p → p ≤ length ms → (p < length ms → HoldsAt (λ n. m.controller < n.controller) ms p) → put_mark m ms ≡ insert ms p m
put_gap [] zero m before within after = refl
put_gap [] (suc p) m before within after = absurd (omega (arith, within))
put_gap (n ∷ ns) zero m before within after =
    let e : m.controller < n.controller = after (omega arith) n in
    rw (le-ltb n.controller m.controller (omega (arith, e)), ne_eqb n.controller m.controller (λ same. absurd (omega (arith, e, same)))) refl
put_gap (n ∷ ns) (suc p) m before within after =
    rw (lesser_head n ns m.controller p before) (ap (λ (xs : List Mark). n ∷ xs) (put_gap ns p m (lesser_rest n ns m.controller p before) (omega (arith, within)) (λ l. after (omega (arith, l)))))

pub take_there : (ms : List Mark) (p : ℕ) (m : Mark) → AllWithin (λ n. n.controller < m.controller) ms 0 p → p < length ms → HoldsAt (λ n. n.controller ≡ m.controller) ms p → HoldsAt (λ n. n.branch ≡ m.branch) ms p → take_mark m ms ≡ remove ms p
take_there [] p m before within here same = absurd (omega (arith, within))
take_there (n ∷ ns) zero m before within here same =
    let e : n.controller ≡ m.controller = here n in
    rw (le-ltb n.controller m.controller (omega (arith, e)), eq-eqb n.controller m.controller e, eq-eqb n.branch m.branch (same n)) refl
take_there (n ∷ ns) (suc p) m before within here same =
    rw (lesser_head n ns m.controller p before) (ap (λ (xs : List Mark). n ∷ xs) (take_there ns p m (lesser_rest n ns m.controller p before) (omega (arith, within)) here same))

-- the controller's mark is another
pub take_other : (ms : List Mark) (p : ℕ) (m : Mark) → AllWithin (λ n. n.controller < m.controller) ms 0 p → p < length ms → HoldsAt (λ n. n.controller ≡ m.controller) ms p → HoldsAt (λ n. n.branch ≡ m.branch → ⊥) ms p → take_mark m ms ≡ ms
take_other [] p m before within here other = absurd (omega (arith, within))
take_other (n ∷ ns) zero m before within here other =
    let e : n.controller ≡ m.controller = here n in
    rw (le-ltb n.controller m.controller (omega (arith, e)), eq-eqb n.controller m.controller e, ne_eqb n.branch m.branch (other n)) refl
take_other (n ∷ ns) (suc p) m before within here other =
    rw (lesser_head n ns m.controller p before) (ap (λ (xs : List Mark). n ∷ xs) (take_other ns p m (lesser_rest n ns m.controller p before) (omega (arith, within)) here other))

pub take_gap : (ms : List Mark) (p : ℕ) (m : Mark) → AllWithin (λ n. n.controller < m.controller) ms 0 p → (p < length ms → HoldsAt (λ n. m.controller < n.controller) ms p) → take_mark m ms ≡ ms
take_gap [] p m before after = refl
take_gap (n ∷ ns) zero m before after =
    let e : m.controller < n.controller = after (omega arith) n in
    rw (le-ltb n.controller m.controller (omega (arith, e)), ne_eqb n.controller m.controller (λ same. absurd (omega (arith, e, same)))) refl
take_gap (n ∷ ns) (suc p) m before after =
    rw (lesser_head n ns m.controller p before) (ap (λ (xs : List Mark). n ∷ xs) (take_gap ns p m (lesser_rest n ns m.controller p before) (λ l. after (omega (arith, l)))))

-- ---- the same for marks that a search has seen as `slice`

module _ (slice marks : List Mark) (same : slice ≡ marks) (p : ℕ) (m : Mark) where
  pub put_here : IsHere m.controller slice p → put_mark m marks ≡ marks
  put_here h = let at = subst (λ z. IsHere m.controller z p) same h in put_there marks p m at.before at.within at.here

  pub put_between : IsGap m.controller slice p → put_mark m marks ≡ insert marks p m
  put_between h = let at = subst (λ z. IsGap m.controller z p) same h in put_gap marks p m at.before at.within at.after

  pub put_longer : IsGap m.controller slice p → length (put_mark m marks) ≡ suc (length marks)
  put_longer h = let at = subst (λ z. IsGap m.controller z p) same h in omega (arith, ap length (put_between h), length-insert marks p m at.within)

  pub take_here : IsHere m.controller slice p → (n : Mark) → n ≡ get_or marks p n → n.branch ≡ m.branch → take_mark m marks ≡ remove marks p
  take_here h n is e =
      let at = subst (λ z. IsHere m.controller z p) same h in
      take_there marks p m at.before at.within at.here (λ d. ap (λ (x : Mark). x.branch) (get_or_default marks p d n at.within ∙ sym is) ∙ e)

  pub take_apart : IsHere m.controller slice p → (n : Mark) → n ≡ get_or marks p n → (n.branch ≡ m.branch → ⊥) → take_mark m marks ≡ marks
  take_apart h n is e =
      let at = subst (λ z. IsHere m.controller z p) same h in
      take_other marks p m at.before at.within at.here (λ d same_branch. e (ap (λ (x : Mark). x.branch) (is ∙ sym (get_or_default marks p d n at.within)) ∙ same_branch))

  pub take_none : IsGap m.controller slice p → take_mark m marks ≡ marks
  take_none h = let at = subst (λ z. IsGap m.controller z p) same h in take_gap marks p m at.before at.after

-- ---- a row with one more branch

next_or : (o p : Option ℕ) → next (or_else o p) ≡ or_else (next o) (next p)
next_or None p = refl
next_or (Some n) p = refl

pub first_push : (test : Side → Bool) (row : List Side) (s : Side) → first_in test (row ++ s ∷ []) ≡ or_else (first_in test row) (if test s then Some (length row) else None)
first_push test [] s = by (test s)
  where
    by : (b : Bool) → (if b then Some 0 else None) ≡ or_else None (if b then Some 0 else None)
    by true = refl
    by false = refl
first_push test (r ∷ row) s = by (test r) (first_push test row s)
  where
    ends : (b : Bool) → next (if b then Some (length row) else None) ≡ (if b then Some (suc (length row)) else None)
    ends true = refl
    ends false = refl

    by : (b : Bool) → first_in test (row ++ s ∷ []) ≡ or_else (first_in test row) (if test s then Some (length row) else None) → (if b then Some 0 else next (first_in test (row ++ s ∷ []))) ≡ or_else (if b then Some 0 else next (first_in test row)) (if test s then Some (suc (length row)) else None)
    by true e = refl
    by false e = ap next e ∙ next_or (first_in test row) (if test s then Some (length row) else None) ∙ ap (or_else (next (first_in test row))) (ends (test s))

abbrev IsBelow : ℕ → Option ℕ → Type 0
IsBelow n None = ⊤
IsBelow n (Some b) = b < n

next_below : (n : ℕ) (o : Option ℕ) → IsBelow n o → IsBelow (suc n) (next o)
next_below n None l = tt
next_below n (Some b) l = omega (arith, l)

first_below : (test : Side → Bool) (row : List Side) → IsBelow (length row) (first_in test row)
first_below test [] = tt
first_below test (r ∷ row) = by (test r) (next_below (length row) (first_in test row) (first_below test row))
  where
    by : (b : Bool) → IsBelow (suc (length row)) (next (first_in test row)) → IsBelow (suc (length row)) (if b then Some 0 else next (first_in test row))
    by true l = omega arith
    by false l = l

pub first_within : (test : Side → Bool) (row : List Side) (b : ℕ) → first_in test row ≡ Some b → b < length row
first_within test row b e = subst (IsBelow (length row)) e (first_below test row)

-- ---- marks of rows

-- the first mark, if there is one, is of a greater controller
abbrev IsAfter : ℕ → List Mark → Type 0
IsAfter i [] = ⊤
IsAfter i (m ∷ ms) = i < m.controller

marks_after : (test : Side → Bool) (rows : List (List Side)) (i j : ℕ) → i < j → IsAfter i (marks_from j test rows)
marks_after test [] i j l = tt
marks_after test (row ∷ rows) i j l = by (first_in test row) (marks_after test rows i (suc j) (omega (arith, l)))
  where
    by : (o : Option ℕ) → IsAfter i (marks_from (suc j) test rows) → IsAfter i (mark_on j o (marks_from (suc j) test rows))
    by None more = more
    by (Some b) more = l

put_front : (m : Mark) (ms : List Mark) → IsAfter m.controller ms → put_mark m ms ≡ m ∷ ms
put_front m [] after = refl
put_front m (n ∷ ns) after = rw (le-ltb n.controller m.controller (omega (arith, after)), ne_eqb n.controller m.controller (λ same. absurd (omega (arith, after, same)))) refl

abbrev mark : ℕ → ℕ → Mark
mark c b = record { controller = c; branch = b }

put_head : (c b n : ℕ) (ms : List Mark) → put_mark (mark c n) (mark c b ∷ ms) ≡ mark c b ∷ ms
put_head c b n ms = rw (le-ltb c c (omega arith), eq-eqb c c refl) refl

put_behind : (c d b n : ℕ) (ms : List Mark) → c < d → put_mark (mark d n) (mark c b ∷ ms) ≡ mark c b ∷ put_mark (mark d n) ms
put_behind c d b n ms l = rw (lt-ltb c d l) refl

take_head : (c n : ℕ) (ms : List Mark) → take_mark (mark c n) (mark c n ∷ ms) ≡ ms
take_head c n ms = rw (le-ltb c c (omega arith), eq-eqb c c refl, eq-eqb n n refl) refl

take_kept : (c b n : ℕ) (ms : List Mark) → b < n → take_mark (mark c n) (mark c b ∷ ms) ≡ mark c b ∷ ms
take_kept c b n ms l = rw (le-ltb c c (omega arith), eq-eqb c c refl, ne_eqb b n (λ same. absurd (omega (arith, l, same)))) refl

take_behind : (c d b n : ℕ) (ms : List Mark) → c < d → take_mark (mark d n) (mark c b ∷ ms) ≡ mark c b ∷ take_mark (mark d n) ms
take_behind c d b n ms l = rw (lt-ltb c d l) refl

-- the marks of rows, one of which gets one more branch
pub marks_put : (test : Side → Bool) (s : Side) (rows : List (List Side)) (i c j : ℕ) (row : List Side) → j ≡ i + c → slice_get rows c ≡ Some row →
    marks_from i test (set rows c (row ++ s ∷ [])) ≡ (if test s then put_mark (mark j (length row)) (marks_from i test rows) else marks_from i test rows)
marks_put test s [] i c j row is at = absurd (cc)
marks_put test s (r ∷ rows) i zero j row is at =
    let same : r ≡ row = grind arith in
    let here : i ≡ j = omega (arith, is) in
    subst (λ x. marks_from i test (set (r ∷ rows) 0 (row ++ s ∷ [])) ≡ (if test s then put_mark (mark j (length row)) (marks_from i test (x ∷ rows)) else marks_from i test (x ∷ rows))) (sym same)
    (subst (λ k. marks_from i test ((row ++ s ∷ []) ∷ rows) ≡ (if test s then put_mark (mark k (length row)) (marks_from i test (row ∷ rows)) else marks_from i test (row ∷ rows))) here
    (ap (λ o. mark_on i o (marks_from (suc i) test rows)) (first_push test row s) ∙ by (first_in test row) (test s)))
  where
    by : (o : Option ℕ) (b : Bool) → mark_on i (or_else o (if b then Some (length row) else None)) (marks_from (suc i) test rows) ≡ (if b then put_mark (mark i (length row)) (mark_on i o (marks_from (suc i) test rows)) else mark_on i o (marks_from (suc i) test rows))
    by None true = sym (put_front (mark i (length row)) (marks_from (suc i) test rows) (marks_after test rows i (suc i) (omega arith)))
    by None false = refl
    by (Some n) true = sym (put_head i n (length row) (marks_from (suc i) test rows))
    by (Some n) false = refl
marks_put test s (r ∷ rows) i (suc c) j row is at =
    ap (mark_on i (first_in test r)) (marks_put test s rows (suc i) c j row (omega (arith, is)) at) ∙ by (first_in test r) (test s)
  where
    by : (o : Option ℕ) (b : Bool) → mark_on i o (if b then put_mark (mark j (length row)) (marks_from (suc i) test rows) else marks_from (suc i) test rows) ≡ (if b then put_mark (mark j (length row)) (mark_on i o (marks_from (suc i) test rows)) else mark_on i o (marks_from (suc i) test rows))
    by None true = refl
    by None false = refl
    by (Some n) true = sym (put_behind i j n (length row) (marks_from (suc i) test rows) (omega (arith, is)))
    by (Some n) false = refl

-- the marks of rows, one of which loses its last branch
pub marks_take : (test : Side → Bool) (s : Side) (rows : List (List Side)) (i c j : ℕ) (row : List Side) → j ≡ i + c → slice_get rows c ≡ Some (row ++ s ∷ []) →
    marks_from i test (set rows c row) ≡ (if test s then take_mark (mark j (length row)) (marks_from i test rows) else marks_from i test rows)
marks_take test s [] i c j row is at = absurd (cc)
marks_take test s (r ∷ rows) i zero j row is at =
    let same : r ≡ row ++ s ∷ [] = grind arith in
    let here : i ≡ j = omega (arith, is) in
    subst (λ x. marks_from i test (row ∷ rows) ≡ (if test s then take_mark (mark j (length row)) (marks_from i test (x ∷ rows)) else marks_from i test (x ∷ rows))) (sym same)
    (subst (λ k. marks_from i test (row ∷ rows) ≡ (if test s then take_mark (mark k (length row)) (marks_from i test ((row ++ s ∷ []) ∷ rows)) else marks_from i test ((row ++ s ∷ []) ∷ rows))) here
    (subst (λ o. marks_from i test (row ∷ rows) ≡ (if test s then take_mark (mark i (length row)) (mark_on i o (marks_from (suc i) test rows)) else mark_on i o (marks_from (suc i) test rows))) (sym (first_push test row s))
    (by (first_in test row) refl (test s))))
  where
    by : (o : Option ℕ) → first_in test row ≡ o → (b : Bool) → mark_on i o (marks_from (suc i) test rows) ≡ (if b then take_mark (mark i (length row)) (mark_on i (or_else o (if b then Some (length row) else None)) (marks_from (suc i) test rows)) else mark_on i (or_else o (if b then Some (length row) else None)) (marks_from (suc i) test rows))
    by None e true = sym (take_head i (length row) (marks_from (suc i) test rows))
    by None e false = refl
    by (Some n) e true = sym (take_kept i n (length row) (marks_from (suc i) test rows) (first_within test row n e))
    by (Some n) e false = refl
marks_take test s (r ∷ rows) i (suc c) j row is at =
    ap (mark_on i (first_in test r)) (marks_take test s rows (suc i) c j row (omega (arith, is)) at) ∙ by (first_in test r) (test s)
  where
    by : (o : Option ℕ) (b : Bool) → mark_on i o (if b then take_mark (mark j (length row)) (marks_from (suc i) test rows) else marks_from (suc i) test rows) ≡ (if b then take_mark (mark j (length row)) (mark_on i o (marks_from (suc i) test rows)) else mark_on i o (marks_from (suc i) test rows))
    by None true = refl
    by None false = refl
    by (Some n) true = sym (take_behind i j n (length row) (marks_from (suc i) test rows) (omega (arith, is)))
    by (Some n) false = refl

-- ---- how many marks there are

longer_on : (i : ℕ) (o : Option ℕ) (ms : List Mark) → (length ms ≤ length (mark_on i o ms)) × (length (mark_on i o ms) ≤ suc (length ms))
longer_on i None ms = (omega arith, omega arith)
longer_on i (Some b) ms = (omega arith, omega arith)

on_both : (i : ℕ) (o : Option ℕ) (ms ns : List Mark) (k : ℕ) → length ms ≤ length ns + k → length (mark_on i o ms) ≤ length (mark_on i o ns) + k
on_both i None ms ns k l = l
on_both i (Some b) ms ns k l = omega (arith, l)

-- a controller has one mark at most
pub one_more : (test : Side → Bool) (rows : List (List Side)) (i c : ℕ) (row : List Side) → length (marks_from i test (set rows c row)) ≤ length (marks_from i test (set rows c [])) + 1
one_more test [] i c row = omega arith
one_more test (r ∷ rows) i zero row = omega (arith, (longer_on i (first_in test row) (marks_from (suc i) test rows)).1)
one_more test (r ∷ rows) i (suc c) row = on_both i (first_in test r) _ _ 1 (one_more test rows (suc i) c row)

pub none_less : (test : Side → Bool) (rows : List (List Side)) (i c : ℕ) → length (marks_from i test (set rows c [])) ≤ length (marks_from i test rows)
none_less test [] i c = omega arith
none_less test (r ∷ rows) i zero = (longer_on i (first_in test r) (marks_from (suc i) test rows)).0
none_less test (r ∷ rows) i (suc c) =
    omega (arith, on_both i (first_in test r) (marks_from (suc i) test (set rows c [])) (marks_from (suc i) test rows) 0 (omega (arith, none_less test rows (suc i) c)))
