-- A table, one row of which is another.
use Rattle.std.proofs.Common.{◌≡◌, ℕ, zero, suc, ◌+◌, ◌-◌, ◌*◌, ◌^◌, ◌<◌, ◌≤◌, Bool, true, false, eqb, if◌then◌else◌, Option, Some, None, unwrap_or, List, [], ◌∷◌, ◌++◌, map, length, take, slice_get, get_or, set, sum_by, Vec, vec_len, vec_capacity, option_map, refl, sym, ap, subst, ◌∙◌, arith, eq-eqb, length-append}
use Rattle.std.specs.declared.alloc.Global.{Global}
use Rattle.std.proofs.lemmas.Bool.{eqb-true, eqb-false}
use Rattle.std.proofs.lemmas.List.{length-set, map-set, set-set, set-get_or, length-map, take_all, take-take, take_more, length-take-le}
use Rattle.std.proofs.lemmas.List.Sums.{sum_by-set, sum_by-cons, sum_by_push, get_or-le-sum_by}
use Rattle.std.proofs.lemmas.Option.{slice_get_read, slice_get-get_or, get_or_from_slice_get, slice_get-map, unwrap_or-slice_get, same_Some, slice_get_within}
use Rattle.std.proofs.Math.Seq.{take-append_seam}
use Rattle.cb_offers.specs.declared.offers.Side.{Side}
use Rattle.cb_offers.specs.declared.offers.Side.TheVariants.{Output, Input, Call}
use Rattle.cb_offers.specs.declared.marks.Mark.{Mark}
use Rattle.cb_offers.specs.declared.channels.Channel.{Channel}
use Rattle.cb_offers.specs.declared.table.Table.{Table}
use Rattle.cb_offers.specs.Tables.{AreWithin}
use Rattle.cb_offers.specs.Marks.{marks_from, put_mark, take_mark}
use Rattle.cb_offers.specs.Kept.{tests, senders_of, receivers_of, list_at, room_at, IsThere, both_of, met_in, met_at, Changed, call_of, calls_in, rows_of, row_at, row_room_in, row_room, AreRows, IsKept, Steps, HasMarkRoom, HasRoom, CanOffer}
use Rattle.cb_offers.proofs.MarkLemmas.{marks_put, marks_take, one_more, none_less}
use Rattle.cb_offers.proofs.ChannelLemmas.{get_set_same, met_few, met_at_part, tests_same, nothing_changed}

abbrev Row : Type 0
Row = Vec Side Global

abbrev items : Row → List Side
items row = row.items

-- ---- rows within bounds

abbrev IsRow : ℕ → List Side → Type 0
IsRow n row = AreWithin n row × (length row < 2 ^ 32)

rows_set : (n : ℕ) (rows : List (List Side)) (c : ℕ) (row : List Side) → AreRows n rows → IsRow n row → AreRows n (set rows c row)
rows_set n [] c row all one = tt
rows_set n (r ∷ rows) zero row all one = (one, all.1)
rows_set n (r ∷ rows) (suc c) row all one = (all.0, rows_set n rows c row all.1 one)

pub row_in : (n : ℕ) (rows : List (List Side)) (c : ℕ) → AreRows n rows → IsRow n (unwrap_or (slice_get rows c) [])
row_in n [] c all = (tt, omega arith)
row_in n (r ∷ rows) zero all = all.0
row_in n (r ∷ rows) (suc c) all = row_in n rows c all.1

there_within : (n : ℕ) (s : Side) (row : List Side) → IsThere n s → AreWithin n row → AreWithin n (s ∷ row)
there_within n (Output k) row there all = (there, all)
there_within n (Input k) row there all = (there, all)
there_within n Call row there all = all

pub head_there : (n : ℕ) (s : Side) (row : List Side) → AreWithin n (s ∷ row) → IsThere n s × AreWithin n row
head_there n (Output k) row all = (all.0, all.1)
head_there n (Input k) row all = (all.0, all.1)
head_there n Call row all = (tt, all)

within_push : (n : ℕ) (row : List Side) (s : Side) → AreWithin n row → IsThere n s → AreWithin n (row ++ s ∷ [])
within_push n [] s all there = there_within n s [] there tt
within_push n (r ∷ row) s all there =
    let parts = head_there n r row all in
    there_within n r (row ++ s ∷ []) parts.0 (within_push n row s parts.1 there)

within_front : (n : ℕ) (row : List Side) (s : Side) → AreWithin n (row ++ s ∷ []) → AreWithin n row × IsThere n s
within_front n [] s all = (tt, (head_there n s [] all).0)
within_front n (r ∷ row) s all =
    let parts = head_there n r (row ++ s ∷ []) all in
    let rest = within_front n row s parts.1 in
    (there_within n r row parts.0 rest.0, rest.1)

pub side_there : (n : ℕ) (row : List Side) (b : ℕ) (s : Side) → AreWithin n row → slice_get row b ≡ Some s → IsThere n s
side_there n [] b s all at = absurd (cc)
side_there n (r ∷ row) zero s all at =
    let same : r ≡ s = grind arith in
    subst (IsThere n) same (head_there n r row all).0
side_there n (r ∷ row) (suc b) s all at = side_there n row b s (head_there n r row all).1 at

-- ---- calls

calls_few : (row : List Side) → calls_in row ≤ length row
calls_few [] = omega arith
calls_few (Output k ∷ row) = omega (arith, sum_by-cons call_of (Output k) row, calls_few row)
calls_few (Input k ∷ row) = omega (arith, sum_by-cons call_of (Input k) row, calls_few row)
calls_few (Call ∷ row) = omega (arith, sum_by-cons call_of Call row, calls_few row)

calls_bound : (n : ℕ) (rows : List (List Side)) → AreRows n rows → sum_by calls_in rows ≤ length rows * 4294967295
calls_bound n [] all = omega arith
calls_bound n (row ∷ rows) all = omega (arith, sum_by-cons calls_in row rows, calls_few row, all.0.1, calls_bound n rows all.1)

-- ---- the row of a controller

module _ (table : Table) (c : ℕ) (row : Row) (range : c < length (rows_of table)) (at : row ≡ get_or table.rows.items c row) where
  pub in_rows : c < length table.rows.items
  in_rows = omega (arith, range, length-map table.rows.items items)

  pub own_at : slice_get table.rows.items c ≡ Some row
  own_at = slice_get_read table.rows.items (length table.rows.items) c row refl in_rows at

  pub row_listed : slice_get (rows_of table) c ≡ Some row.items
  row_listed = slice_get-map items table.rows.items c ∙ ap (λ (o : Option Row). option_map items o) own_at

  pub row_is : row_at table c ≡ row.items
  row_is = ap (λ o. unwrap_or o []) row_listed

  pub room_is : row_room table c ≡ vec_capacity row
  room_is = ap row_room_in own_at

-- ---- one row in the place of another

module _ (old new : Table) (c : ℕ) (row row' : Row) (side : Side) (marks : List Mark) (kept : IsKept old) (range : c < length (rows_of old)) (at : row ≡ get_or old.rows.items c row)
    (rows : new.rows.items ≡ set old.rows.items c row') (capacity : vec_capacity row ≤ vec_capacity row') (changed : Changed old.channels.items new.channels.items side marks) where
  rows_now : rows_of new ≡ set (rows_of old) c row'.items
  rows_now = ap (map items) rows ∙ map-set items old.rows.items c row'

  calls_now : sum_by calls_in (rows_of new) + calls_in row.items ≡ sum_by calls_in (rows_of old) + calls_in row'.items
  calls_now =
      let e : sum_by calls_in (rows_of new) ≡ sum_by calls_in (set (rows_of old) c row'.items) = ap (λ (l : List (List Side)). sum_by calls_in l) rows_now in
      let s = sum_by-set calls_in (rows_of old) c row'.items [] range in
      let g : calls_in (get_or (rows_of old) c []) ≡ calls_in row.items = ap calls_in (get_or_from_slice_get (rows_of old) c row.items [] (row_listed old c row range at)) in
      omega (arith, e, s, g)

  stepped : ((t : Side) → (if tests t side then marks else list_at old.channels.items t) ≡ marks_from 0 (tests t) (set (rows_of old) c row'.items)) → IsRow (length old.channels.items) row'.items →
      new.met + met_at old.channels.items side ≡ old.met + met_at new.channels.items side → new.calls + calls_in row.items ≡ old.calls + calls_in row'.items → Steps c old new row'.items
  stepped fits one met calls = record {
    kept = record {
      marked = λ t. changed.lists t ∙ fits t ∙ ap (marks_from 0 (tests t)) (sym rows_now);
      within = subst (λ n. AreRows n (rows_of new)) (sym changed.as_many) (subst (AreRows (length old.channels.items)) (sym rows_now) (rows_set (length old.channels.items) (rows_of old) c row'.items kept.within one));
      counted = omega (arith, changed.met, kept.counted, met);
      called = omega (arith, calls, calls_now, kept.called);
      few_channels = omega (arith, changed.as_many, kept.few_channels);
      few_rows = omega (arith, ap (λ (l : List (List Side)). length l) rows_now, length-set (rows_of old) c row'.items, kept.few_rows);
    };
    as_many = changed.as_many;
    rows = rows_now;
    room = changed.room;
    own_room =
        let now : row_room new c ≡ vec_capacity row' = ap (λ (l : List Row). row_room_in (slice_get l c)) rows ∙ ap row_room_in (get_set_same old.rows.items c row' (in_rows old c row range at)) in
        omega (arith, now, room_is old c row range at, capacity);
  }

-- ---- how many channels are met

pub before_in : (old : Table) (side : Side) (before : ℕ) → IsKept old → before ≡ met_at old.channels.items side → before ≤ old.met
before_in old side before kept was = omega (arith, was, kept.counted, met_at_part old.channels.items side)

pub met_fits : (old : Table) (new : List Channel) (side : Side) (marks : List Mark) (before after : ℕ) → IsKept old → Changed old.channels.items new side marks → before ≡ met_at old.channels.items side → after ≡ met_at new side → old.met - before + after < 2 ^ 32
met_fits old new side marks before after kept changed was is = omega (arith, before_in old side before kept was, was, is, kept.counted, changed.met, met_few new, changed.as_many, kept.few_channels)

-- ---- one more branch

abbrev mark : ℕ → ℕ → Mark
mark c b = record { controller = c; branch = b }

-- the list of t's end, if the side is at it, is that of the side's
same_list : (channels : List Channel) (t side : Side) (f : List Mark → List Mark) → (if tests t side then f (list_at channels side) else list_at channels t) ≡ (if tests t side then f (list_at channels t) else list_at channels t)
same_list channels t side f = by (tests t side) refl
  where
    by : (b : Bool) → tests t side ≡ b → (if b then f (list_at channels side) else list_at channels t) ≡ (if b then f (list_at channels t) else list_at channels t)
    by true e = ap (λ s. f (list_at channels s)) (sym (tests_same t side e))
    by false e = refl

module _ (old : Table) (c : ℕ) (side : Side) (row : Row) (n : ℕ) (kept : IsKept old) (can : CanOffer old c side) (at : row ≡ get_or old.rows.items c row) (long : n ≡ length row.items) where
  put_fits : (t : Side) → (if tests t side then put_mark (mark c n) (list_at old.channels.items side) else list_at old.channels.items t) ≡ marks_from 0 (tests t) (set (rows_of old) c (row.items ++ side ∷ []))
  put_fits t =
      same_list old.channels.items t side (put_mark (mark c n))
      ∙ ap (λ (l : List Mark). if tests t side then put_mark (mark c n) l else l) (kept.marked t)
      ∙ ap (λ k. if tests t side then put_mark (mark c k) (marks_from 0 (tests t) (rows_of old)) else marks_from 0 (tests t) (rows_of old)) long
      ∙ sym (marks_put (tests t) side (rows_of old) 0 c c row.items (omega arith) (row_listed old c row can.range at))

  fits_at : (t : Side) → t ≡ side → tests t t ≡ true → length (put_mark (mark c n) (list_at old.channels.items side)) ≤ room_at old.channels.items side
  fits_at t same own =
      let pass : tests t side ≡ true = subst (λ s. tests t s ≡ true) same own in
      let e : put_mark (mark c n) (list_at old.channels.items side) ≡ marks_from 0 (tests t) (set (rows_of old) c (row.items ++ side ∷ [])) =
      ap (λ b. if b then put_mark (mark c n) (list_at old.channels.items side) else list_at old.channels.items t) (sym pass) ∙ put_fits t in
      let room : HasMarkRoom old c t = subst (HasMarkRoom old c) (sym same) can.marks in
      let r : room_at old.channels.items t ≡ room_at old.channels.items side = ap (room_at old.channels.items) same in
      omega (arith, ap (λ (l : List Mark). length l) e, one_more (tests t) (rows_of old) 0 c (row.items ++ side ∷ []), room, r)

  by_side : (s : Side) → s ≡ side → length (put_mark (mark c n) (list_at old.channels.items side)) ≤ room_at old.channels.items side
  by_side (Output k) e = fits_at (Output k) e (eq-eqb k k refl)
  by_side (Input k) e = fits_at (Input k) e (eq-eqb k k refl)
  by_side Call e = subst (λ s. length (put_mark (mark c n) (list_at old.channels.items s)) ≤ room_at old.channels.items s) e (omega arith)

  pub put_room : length (put_mark (mark c n) (list_at old.channels.items side)) ≤ room_at old.channels.items side
  put_room = by_side side refl

  pub push_room : vec_len row < vec_capacity row
  push_room = omega (arith, can.row, room_is old c row can.range at, ap (λ (l : List Side). length l) (row_is old c row can.range at), row.ok.0)

  pub few_branches : length row.items + 1 < 2 ^ 32
  few_branches = omega (arith, can.few, ap (λ (l : List Side). length l) (row_is old c row can.range at))

  pub calls_fit : old.calls + call_of side < 2 ^ 64
  calls_fit =
      let own = row_in (length old.channels.items) (rows_of old) c kept.within in
      let within : AreWithin (length old.channels.items) row.items = subst (AreWithin (length old.channels.items)) (row_is old c row can.range at) own.0 in
      let longer : length (row.items ++ side ∷ []) ≡ length row.items + 1 = omega (arith, length-append row.items (side ∷ [])) in
      let all = rows_set (length old.channels.items) (rows_of old) c (row.items ++ side ∷ []) kept.within (within_push (length old.channels.items) row.items side within can.there, omega (arith, few_branches, longer)) in
      let s = sum_by-set calls_in (rows_of old) c (row.items ++ side ∷ []) [] can.range in
      let g : calls_in (get_or (rows_of old) c []) ≡ calls_in row.items = ap calls_in (get_or_from_slice_get (rows_of old) c row.items [] (row_listed old c row can.range at)) in
      let p : calls_in (row.items ++ side ∷ []) ≡ calls_in row.items + call_of side = sum_by_push call_of row.items side in
      omega (arith, calls_bound (length old.channels.items) (set (rows_of old) c (row.items ++ side ∷ [])) all, length-set (rows_of old) c (row.items ++ side ∷ []), kept.few_rows, kept.called, s, g, p)

  module _ (new : Table) (row' : Row) (before after : ℕ) (rows : new.rows.items ≡ set old.rows.items c row') (items_are : row'.items ≡ row.items ++ side ∷ []) (capacity : vec_capacity row ≤ vec_capacity row')
      (changed : Changed old.channels.items new.channels.items side (put_mark (mark c n) (list_at old.channels.items side))) (was : before ≡ met_at old.channels.items side) (is : after ≡ met_at new.channels.items side) where
    pub offered : new.met ≡ old.met - before + after → new.calls ≡ old.calls + call_of side → Steps c old new (row_at old c ++ side ∷ [])
    offered met calls =
        let longer : length (row.items ++ side ∷ []) ≡ length row.items + 1 = omega (arith, length-append row.items (side ∷ [])) in
        let own = row_in (length old.channels.items) (rows_of old) c kept.within in
        let within : AreWithin (length old.channels.items) row.items = subst (AreWithin (length old.channels.items)) (row_is old c row can.range at) own.0 in
        let one : IsRow (length old.channels.items) (row.items ++ side ∷ []) = (within_push (length old.channels.items) row.items side within can.there, omega (arith, few_branches, longer)) in
        let p : calls_in (row.items ++ side ∷ []) ≡ calls_in row.items + call_of side = sum_by_push call_of row.items side in
        let q : calls_in row'.items ≡ calls_in (row.items ++ side ∷ []) = ap calls_in items_are in
        subst (Steps c old new) (items_are ∙ ap (λ (l : List Side). l ++ side ∷ []) (sym (row_is old c row can.range at)))
        (stepped old new c row row' side (put_mark (mark c n) (list_at old.channels.items side)) kept can.range at rows capacity changed
        (λ t. put_fits t ∙ ap (λ (l : List Side). marks_from 0 (tests t) (set (rows_of old) c l)) (sym items_are))
        (subst (IsRow (length old.channels.items)) (sym items_are) one)
        (omega (arith, before_in old side before kept was, met, was, is))
        (omega (arith, calls, p, q)))

-- ---- one branch less

take_front : (front : List Side) (s : Side) → take (length (front ++ s ∷ []) - 1) (front ++ s ∷ []) ≡ front
take_front front s =
    subst (λ k. take k (front ++ s ∷ []) ≡ front) {x = length front} {y = length (front ++ s ∷ []) - 1} (omega (arith, length-append front (s ∷ []))) (take-append_seam front (s ∷ []))

module _ (old : Table) (c : ℕ) (side : Side) (row : Row) (front : List Side) (kept : IsKept old) (range : c < length (rows_of old)) (at : row ≡ get_or old.rows.items c row) (items_are : row.items ≡ front ++ side ∷ []) where
  take_fits : (n : ℕ) → n ≡ length front → (t : Side) → (if tests t side then take_mark (mark c n) (list_at old.channels.items side) else list_at old.channels.items t) ≡ marks_from 0 (tests t) (set (rows_of old) c front)
  take_fits n long t =
      same_list old.channels.items t side (take_mark (mark c n))
      ∙ ap (λ (l : List Mark). if tests t side then take_mark (mark c n) l else l) (kept.marked t)
      ∙ ap (λ k. if tests t side then take_mark (mark c k) (marks_from 0 (tests t) (rows_of old)) else marks_from 0 (tests t) (rows_of old)) long
      ∙ sym (marks_take (tests t) side (rows_of old) 0 c c front (omega arith) (row_listed old c row range at ∙ ap (λ (l : List Side). Some l) items_are))

  own_row : IsRow (length old.channels.items) (front ++ side ∷ [])
  own_row = subst (IsRow (length old.channels.items)) (row_is old c row range at ∙ items_are) (row_in (length old.channels.items) (rows_of old) c kept.within)

  pub last_there : IsThere (length old.channels.items) side
  last_there = (within_front (length old.channels.items) front side own_row.0).1

  pub call_in : call_of side ≤ old.calls
  call_in =
      let g : calls_in (get_or (rows_of old) c []) ≡ calls_in row.items = ap calls_in (get_or_from_slice_get (rows_of old) c row.items [] (row_listed old c row range at)) in
      let p : calls_in (front ++ side ∷ []) ≡ calls_in front + call_of side = sum_by_push call_of front side in
      let q : calls_in row.items ≡ calls_in (front ++ side ∷ []) = ap calls_in items_are in
      omega (arith, get_or-le-sum_by calls_in (rows_of old) c [] range, g, p, q, kept.called)

  pub branch_fits : length front < 2 ^ 32
  branch_fits = omega (arith, own_row.1, length-append front (side ∷ []))

  module _ (n : ℕ) (long : n ≡ length front) (new : Table) (row' : Row) (before after : ℕ) (rows : new.rows.items ≡ set old.rows.items c row') (front_is : row'.items ≡ front) (capacity : vec_capacity row ≤ vec_capacity row')
      (changed : Changed old.channels.items new.channels.items side (take_mark (mark c n) (list_at old.channels.items side))) (was : before ≡ met_at old.channels.items side) (is : after ≡ met_at new.channels.items side) where
    pub withdrawn : new.met ≡ old.met - before + after → new.calls ≡ old.calls - call_of side → Steps c old new (take (length (row_at old c) - 1) (row_at old c))
    withdrawn met calls =
        let longer : length (front ++ side ∷ []) ≡ length front + 1 = omega (arith, length-append front (side ∷ [])) in
        let one : IsRow (length old.channels.items) front = ((within_front (length old.channels.items) front side own_row.0).0, omega (arith, own_row.1, longer)) in
        let p : calls_in (front ++ side ∷ []) ≡ calls_in front + call_of side = sum_by_push call_of front side in
        let q : calls_in row.items ≡ calls_in (front ++ side ∷ []) = ap calls_in items_are in
        let r : calls_in row'.items ≡ calls_in front = ap calls_in front_is in
        let whole : row_at old c ≡ front ++ side ∷ [] = row_is old c row range at ∙ items_are in
        subst (Steps c old new) (front_is ∙ sym (take_front front side) ∙ ap (λ (l : List Side). take (length l - 1) l) (sym whole))
        (stepped old new c row row' side (take_mark (mark c n) (list_at old.channels.items side)) kept range at rows capacity changed
        (λ t. take_fits n long t ∙ ap (λ (l : List Side). marks_from 0 (tests t) (set (rows_of old) c l)) (sym front_is))
        (subst (IsRow (length old.channels.items)) (sym front_is) one)
        (omega (arith, before_in old side before kept was, met, was, is))
        (omega (arith, calls, p, q, r, call_in)))

-- ---- several steps

pub steps_none : (table : Table) (c : ℕ) → IsKept table → Steps c table table (row_at table c)
steps_none table c kept = record {
  kept = kept;
  as_many = refl;
  rows = sym (subst (λ r. set (rows_of table) c r ≡ rows_of table) (sym (unwrap_or-slice_get (rows_of table) c [])) (set-get_or (rows_of table) c []));
  room = λ t. omega arith;
  own_room = omega arith;
}

pub steps_on : (a b d : Table) (c : ℕ) (r s : List Side) → Steps c a b r → Steps c b d s → Steps c a d s
steps_on a b d c r s f g = record {
  kept = g.kept;
  as_many = g.as_many ∙ f.as_many;
  rows = g.rows ∙ ap (λ (l : List (List Side)). set l c s) f.rows ∙ set-set (rows_of a) c r s;
  room = λ t. omega (arith, f.room t, g.room t);
  own_room = omega (arith, f.own_room, g.own_room);
}

pub range_after : (a b : Table) (c : ℕ) (r : List Side) → Steps c a b r → c < length (rows_of a) → c < length (rows_of b)
range_after a b c r f range = omega (arith, range, ap (λ (l : List (List Side)). length l) f.rows, length-set (rows_of a) c r)

pub row_after : (a b : Table) (c : ℕ) (r : List Side) → Steps c a b r → c < length (rows_of a) → row_at b c ≡ r
row_after a b c r f range = ap (λ (l : List (List Side)). unwrap_or (slice_get l c) []) f.rows ∙ ap (λ o. unwrap_or o []) (get_set_same (rows_of a) c r range)

-- what is without the controller's row stays
mark_room_after : (a b : Table) (c : ℕ) (r : List Side) (t : Side) → Steps c a b r → HasMarkRoom a c t → HasMarkRoom b c t
mark_room_after a b c r t f room =
    let e : set (rows_of b) c [] ≡ set (rows_of a) c [] = ap (λ (l : List (List Side)). set l c []) f.rows ∙ set-set (rows_of a) c r [] in
    omega (arith, room, f.room t, ap (λ (l : List (List Side)). length (marks_from 0 (tests t) l)) e)

pub room_after : (a b : Table) (c : ℕ) (r sides : List Side) → Steps c a b r → HasRoom a c sides → HasRoom b c sides
room_after a b c r sides f room = record {
  row = omega (arith, room.row, f.own_room);
  marks = λ k t at. mark_room_after a b c r t f (room.marks k t at);
}

-- ---- memory taken

met_by_lists : (channels : List Channel) (k : ℕ) → met_in (slice_get channels k) ≡ both_of (list_at channels (Output k)) (list_at channels (Input k))
met_by_lists channels k = by (slice_get channels k)
  where
    by : (o : Option Channel) → met_in o ≡ both_of (senders_of o) (receivers_of o)
    by None = refl
    by (Some channel) = refl

module _ (a b : Table) (side : Side) (kept : IsKept a) (changed : Changed a.channels.items b.channels.items side (list_at a.channels.items side)) where
  same_lists : (t : Side) → list_at b.channels.items t ≡ list_at a.channels.items t
  same_lists t = changed.lists t ∙ same_list a.channels.items t side (λ l. l) ∙ by (tests t side)
    where
      by : (pass : Bool) → (if pass then list_at a.channels.items t else list_at a.channels.items t) ≡ list_at a.channels.items t
      by true = refl
      by false = refl

  same_met : (s : Side) → met_at b.channels.items s ≡ met_at a.channels.items s
  same_met (Output k) = met_by_lists b.channels.items k ∙ (λ i. both_of (same_lists (Output k) i) (same_lists (Input k) i)) ∙ sym (met_by_lists a.channels.items k)
  same_met (Input k) = met_by_lists b.channels.items k ∙ (λ i. both_of (same_lists (Output k) i) (same_lists (Input k) i)) ∙ sym (met_by_lists a.channels.items k)
  same_met Call = refl

  -- the same rows and counts over these channels
  pub channels_reserved : (c : ℕ) → b.rows ≡ a.rows → b.met ≡ a.met → b.calls ≡ a.calls → Steps c a b (row_at a c)
  channels_reserved c rows met calls =
      let listed : rows_of b ≡ rows_of a = ap (λ (v : Vec Row Global). map items v.items) rows in
      record {
        kept = record {
          marked = λ t. same_lists t ∙ kept.marked t ∙ ap (marks_from 0 (tests t)) (sym listed);
          within = subst (λ n. AreRows n (rows_of b)) (sym changed.as_many) (subst (AreRows (length a.channels.items)) (sym listed) kept.within);
          counted = omega (arith, changed.met, same_met side, kept.counted, met);
          called = calls ∙ kept.called ∙ ap (λ (l : List (List Side)). sum_by calls_in l) (sym listed);
          few_channels = omega (arith, changed.as_many, kept.few_channels);
          few_rows = omega (arith, ap (λ (l : List (List Side)). length l) listed, kept.few_rows);
        };
        as_many = changed.as_many;
        rows = listed ∙ (steps_none a c kept).rows;
        room = changed.room;
        own_room = omega (arith, ap (λ (v : Vec Row Global). row_room_in (slice_get v.items c)) rows);
      }

-- the same sides in a row that may have more room
pub row_reserved : (a b : Table) (c : ℕ) (row row' : Row) → IsKept a → c < length (rows_of a) → row ≡ get_or a.rows.items c row → b.rows.items ≡ set a.rows.items c row' → row'.items ≡ row.items → vec_capacity row ≤ vec_capacity row' →
    b.channels ≡ a.channels → b.met ≡ a.met → b.calls ≡ a.calls → Steps c a b (row_at a c)
row_reserved a b c row row' kept range at rows same capacity channels met calls =
    let c_same : b.channels.items ≡ a.channels.items = ap (λ (v : Vec Channel Global). v.items) channels in
    let changed : Changed a.channels.items b.channels.items Call [] = subst (λ l. Changed a.channels.items l Call []) (sym c_same) (nothing_changed a.channels.items []) in
    let own : row_at a c ≡ row'.items = row_is a c row range at ∙ sym same in
    subst (Steps c a b) (sym own)
    (stepped a b c row row' Call [] kept range at rows capacity changed (λ t. never t ∙ kept.marked t ∙ ap (marks_from 0 (tests t)) (whole own))
    (subst (IsRow (length a.channels.items)) own (row_in (length a.channels.items) (rows_of a) c kept.within))
    (omega (arith, met)) (omega (arith, calls, ap calls_in same)))
  where
    never : (t : Side) → (if tests t Call then [] else list_at a.channels.items t) ≡ list_at a.channels.items t
    never (Output k) = refl
    never (Input k) = refl
    never Call = refl

    whole : row_at a c ≡ row'.items → rows_of a ≡ set (rows_of a) c row'.items
    whole own = (steps_none a c kept).rows ∙ ap (set (rows_of a) c) own

-- the sides below b have room for the controller's marks
abbrev pub HasRoomBelow : Table → ℕ → List Side → ℕ → Type 0
HasRoomBelow table c sides b = (k : ℕ) (t : Side) → k < b → slice_get sides k ≡ Some t → HasMarkRoom table c t

pub room_below_after : (a b : Table) (c : ℕ) (r sides : List Side) (n : ℕ) → Steps c a b r → HasRoomBelow a c sides n → HasRoomBelow b c sides n
room_below_after a b c r sides n f room k t l at = mark_room_after a b c r t f (room k t l at)

-- what `reserve_at` leaves for a side
pub side_room : (a b : Table) (c : ℕ) (side : Side) → IsKept a → rows_of b ≡ rows_of a → length (list_at a.channels.items side) < room_at b.channels.items side → HasMarkRoom b c side
side_room a b c side kept rows room =
    let e : length (list_at a.channels.items side) ≡ length (marks_from 0 (tests side) (rows_of a)) = ap (λ (l : List Mark). length l) (kept.marked side) in
    let f : length (marks_from 0 (tests side) (set (rows_of b) c [])) ≡ length (marks_from 0 (tests side) (set (rows_of a) c [])) = ap (λ (l : List (List Side)). length (marks_from 0 (tests side) (set l c []))) rows in
    omega (arith, e, f, none_less (tests side) (rows_of a) 0 c, room)

-- ---- the loop of `clear`

pub clear_none : (table : Table) (c : ℕ) (row : Row) (n : ℕ) → IsKept table → c < length (rows_of table) → row ≡ get_or table.rows.items c row → n ≡ vec_len row → Steps c table table (take n (row_at table c)) × (n ≤ length (row_at table c))
clear_none table c row n kept range at long =
    let e : n ≡ length (row_at table c) = omega (arith, long, row.ok.0, ap (λ (l : List Side). length l) (row_is table c row range at)) in
    (subst (Steps c table table) (sym (take_all n (row_at table c) (omega (arith, e)))) (steps_none table c kept), omega (arith, e))

module _ (a b : Table) (c n : ℕ) (range : c < length (rows_of a)) (steps : Steps c a b (take n (row_at a c))) (within : n ≤ length (row_at a c)) where
  left_long : length (row_at b c) ≡ n
  left_long = ap (λ (l : List Side). length l) (row_after a b c (take n (row_at a c)) steps range) ∙ length-take-le n (row_at a c) within

  pub clear_some : 0 < n → 0 < length (row_at b c)
  clear_some some = omega (arith, some, left_long)

  pub clear_more : (d : Table) → 0 < n → Steps c b d (take (length (row_at b c) - 1) (row_at b c)) → Steps c a d (take (n - 1) (row_at a c)) × (n - 1 ≤ length (row_at a c))
  clear_more d some more =
      let e : take (length (row_at b c) - 1) (row_at b c) ≡ take (n - 1) (row_at a c) =
      ap (λ k. take (k - 1) (row_at b c)) left_long ∙ ap (take (n - 1)) (row_after a b c (take n (row_at a c)) steps range) ∙ take-take (n - 1) n (row_at a c) (omega arith) in
      (subst (Steps c a d) e (steps_on a b d c (take n (row_at a c)) (take (length (row_at b c) - 1) (row_at b c)) steps more), omega (arith, within))

-- ---- the loop of `reserve`

module _ (a b d : Table) (c : ℕ) (side : Side) (range : c < length (rows_of a)) (steps : Steps c a b (row_at a c)) (changed : Changed b.channels.items d.channels.items side (list_at b.channels.items side)) (rows : d.rows ≡ b.rows) (met : d.met ≡ b.met) (calls : d.calls ≡ b.calls) where
  step_on : Steps c b d (row_at b c)
  step_on = channels_reserved b d side steps.kept changed c rows met calls

  pub reserve_steps : Steps c a d (row_at a c)
  reserve_steps = steps_on a b d c (row_at a c) (row_at a c) steps (subst (Steps c b d) (row_after a b c (row_at a c) steps range) step_on)

  pub reserve_own : (n : ℕ) → n ≤ row_room b c → n ≤ row_room d c
  reserve_own n l = omega (arith, l, step_on.own_room)

  pub reserve_below : (sides : List Side) (i : ℕ) → HasRoomBelow b c sides i → slice_get sides i ≡ Some side → length (list_at b.channels.items side) < room_at d.channels.items side → HasRoomBelow d c sides (i + 1)
  reserve_below sides i below here room k t l at = by (eqb k i) refl
    where
      by : (pass : Bool) → eqb k i ≡ pass → HasMarkRoom d c t
      by true e =
          let same : slice_get sides k ≡ slice_get sides i = ap (slice_get sides) (eqb-true k i e) in
          let s : side ≡ t = same_Some side t (sym here ∙ sym same ∙ at) in
          subst (HasMarkRoom d c) s (side_room b d c side steps.kept (ap (λ (v : Vec Row Global). map items v.items) rows) room)
      by false e = mark_room_after b d c (row_at b c) t step_on (below k t (let apart = eqb-false k i e in omega (arith, l, apart)) at)

pub has_room : (table : Table) (c n : ℕ) (sides : List Side) → HasRoomBelow table c sides n → length sides ≤ n → length sides ≤ row_room table c → HasRoom table c sides
has_room table c n sides below all own = record { row = own; marks = λ b t at. below b t (let l = slice_get_within sides b t at in omega (arith, l, all)) at }

-- ---- the loop of `set`

module _ (a b : Table) (c : ℕ) (sides : List Side) (i : ℕ) (side : Side) (range : c < length (rows_of a)) (steps : Steps c a b (take i sides)) (here : slice_get sides i ≡ Some side) where
  in_sides : i < length sides
  in_sides = slice_get_within sides i side here

  row_long : length (row_at b c) ≡ i
  row_long = ap (λ (l : List Side). length l) (row_after a b c (take i sides) steps range) ∙ length-take-le i sides (omega (arith, in_sides))

  pub can_offer : HasRoom b c sides → AreWithin (length a.channels.items) sides → length sides < 2 ^ 32 → CanOffer b c side
  can_offer room within few = record {
    range = range_after a b c (take i sides) steps range;
    there = subst (λ n. IsThere n side) (sym steps.as_many) (side_there (length a.channels.items) sides i side within here);
    few = omega (arith, row_long, in_sides, few);
    row = omega (arith, row_long, in_sides, room.row);
    marks = room.marks i side here;
  }

  pub set_more : (d : Table) → Steps c b d (row_at b c ++ side ∷ []) → Steps c a d (take (i + 1) sides)
  set_more d more =
      let e : row_at b c ++ side ∷ [] ≡ take (i + 1) sides =
      ap (λ (l : List Side). l ++ side ∷ []) (row_after a b c (take i sides) steps range) ∙ ap (λ s. take i sides ++ s ∷ []) (sym (get_or_from_slice_get sides i side side here)) ∙ sym (take_more sides i side in_sides) in
      subst (Steps c a d) e (steps_on a b d c (take i sides) (row_at b c ++ side ∷ []) steps more)

pub side_at : (sides : List Side) (i : ℕ) → i < length sides → slice_get sides i ≡ Some (get_or sides i (Output 0))
side_at sides i l = slice_get-get_or sides i (Output 0) l

pub there_after : (a b : Table) (c : ℕ) (row sides : List Side) (i : ℕ) → Steps c a b row → AreWithin (length a.channels.items) sides → i < length sides → IsThere (length b.channels.items) (get_or sides i (Output 0))
there_after a b c row sides i steps within l = subst (λ n. IsThere n (get_or sides i (Output 0))) (sym steps.as_many) (side_there (length a.channels.items) sides i (get_or sides i (Output 0)) within (side_at sides i l))

pub reserved_room : (a : Table) (c n : ℕ) (row' : Row) → c < length (rows_of a) → vec_len row' + n ≤ vec_capacity row' → n ≤ row_room_in (slice_get (set a.rows.items c row') c)
reserved_room a c n row' range room =
    let l : c < length a.rows.items = omega (arith, range, length-map a.rows.items items) in
    let e : row_room_in (slice_get (set a.rows.items c row') c) ≡ vec_capacity row' = ap row_room_in (get_set_same a.rows.items c row' l) in
    omega (arith, room, e)

-- the row of a controller, as a slice that was taken of it
module _ (table : Table) (c : ℕ) (row : Row) (slice : List Side) (kept : IsKept table) (range : c < length (rows_of table)) (at : row ≡ get_or table.rows.items c row) (same : slice ≡ row.items) where
  pub slice_is : row_at table c ≡ slice
  slice_is = row_is table c row range at ∙ sym same

  pub slice_few : length slice < 2 ^ 32
  slice_few = (subst (IsRow (length table.channels.items)) slice_is (row_in (length table.channels.items) (rows_of table) c kept.within)).1

  pub slice_within : (channels : List Channel) → channels ≡ table.channels.items → AreWithin (length channels) slice
  slice_within channels e =
      subst (λ (l : List Channel). AreWithin (length l) slice) (sym e) (subst (IsRow (length table.channels.items)) slice_is (row_in (length table.channels.items) (rows_of table) c kept.within)).0
