-- What a table's counts and marks say of what can fire.
use Rattle.std.proofs.Common.{◌≡◌, ◌≢◌, ℕ, zero, suc, ◌+◌, ◌<◌, ◌≤◌, Bool, true, false, ltb, eqb, Option, Some, None, MatchOption, MatchBool, List, [], ◌∷◌, ◌++◌, ◌^◌, length, slice_get, sum_by, replicate, refl, sym, ap, subst, ◌∙◌, arith}
use Rattle.std.proofs.lemmas.Bool.{lt-ltb, ltb-true, ltb-false, eqb-true, eqb-false}
use Rattle.std.proofs.lemmas.Option.{slice_get_within, same_Some}
use Rattle.std.proofs.lemmas.List.Sums.{sum_by-cons}
use Rattle.cb_offers.specs.declared.offers.Side.{Side}
use Rattle.cb_offers.specs.declared.offers.Side.TheVariants.{Output, Input, Call}
use Rattle.cb_offers.specs.declared.marks.Mark.{Mark}
use Rattle.cb_offers.specs.declared.channels.Channel.{Channel}
use Rattle.cb_offers.specs.declared.table.Table.{Table}
use Rattle.cb_offers.specs.Tables.{sends, receives, first_in, or_else, first_of, both, meeting, Fires, IsOffered, IsIdle, AreIdle, IsFiring}
use Rattle.cb_offers.specs.Marks.{mark_on, marks_from}
use Rattle.cb_offers.specs.Kept.{tests, senders_of, receivers_of, list_at, both_of, met_of, met_in, met_count, call_of, calls_in, rows_of, row_at, AreRows, IsKept, Ready, NoneReady, IsReadyAt, AreFresh, IsNew}
use Rattle.cb_offers.proofs.ChannelLemmas.{met_at_part, tests_same}
use Rattle.cb_offers.proofs.MeetLemmas.{first_offered}

-- ---- the first mark

abbrev pub first_branch : List Mark → Option ℕ
first_branch [] = None
first_branch (m ∷ ms) = Some m.branch

pub first_marked : (test : Side → Bool) (rows : List (List Side)) (i : ℕ) → first_branch (marks_from i test rows) ≡ first_of test rows
first_marked test [] i = refl
first_marked test (row ∷ rows) i = by (first_in test row) (first_marked test rows (suc i))
  where
    by : (o : Option ℕ) → first_branch (marks_from (suc i) test rows) ≡ first_of test rows → first_branch (mark_on i o (marks_from (suc i) test rows)) ≡ or_else o (first_of test rows)
    by None e = e
    by (Some b) e = refl

pub met_by_lists : (o : Option Channel) → met_in o ≡ both_of (senders_of o) (receivers_of o)
met_by_lists None = refl
met_by_lists (Some channel) = refl

met_both : (ms ns : List Mark) → both_of ms ns ≡ 1 → both (first_branch ms) (first_branch ns) ≢ None
met_both [] ns e n = absurd (omega (arith, e))
met_both (m ∷ ms) [] e n = absurd (omega (arith, e))
met_both (m ∷ ms) (n ∷ ns) e none = absurd (cc)

unmet_none : (ms ns : List Mark) → (both_of ms ns ≡ 1 → ⊥) → both (first_branch ms) (first_branch ns) ≡ None
unmet_none [] [] e = refl
unmet_none [] (n ∷ ns) e = refl
unmet_none (m ∷ ms) [] e = refl
unmet_none (m ∷ ms) (n ∷ ns) e = absurd (e refl)

module _ (table : Table) (kept : IsKept table) where
  -- what the first marks of a channel tell
  pub marks_meet : (k : ℕ) → both (first_branch (list_at table.channels.items (Output k))) (first_branch (list_at table.channels.items (Input k))) ≡ meeting (rows_of table) k
  marks_meet k =
      let s : first_branch (list_at table.channels.items (Output k)) ≡ first_of (sends k) (rows_of table) = ap first_branch (kept.marked (Output k)) ∙ first_marked (sends k) (rows_of table) 0 in
      let r : first_branch (list_at table.channels.items (Input k)) ≡ first_of (receives k) (rows_of table) = ap first_branch (kept.marked (Input k)) ∙ first_marked (receives k) (rows_of table) 0 in
      λ i. both (s i) (r i)

  met_meets : (k : ℕ) → met_in (slice_get table.channels.items k) ≡ 1 → meeting (rows_of table) k ≢ None
  met_meets k e = subst (λ (o : Option (ℕ × ℕ)). o ≢ None) (marks_meet k) (met_both (list_at table.channels.items (Output k)) (list_at table.channels.items (Input k)) (sym (met_by_lists (slice_get table.channels.items k)) ∙ e))

  unmet_meets : (k : ℕ) → (met_in (slice_get table.channels.items k) ≡ 1 → ⊥) → meeting (rows_of table) k ≡ None
  unmet_meets k e = sym (marks_meet k) ∙ unmet_none (list_at table.channels.items (Output k)) (list_at table.channels.items (Input k)) (λ one. e (met_by_lists (slice_get table.channels.items k) ∙ one))

  pub ready_fires : (s : Side) → Ready table.channels.items s → Fires (rows_of table) s
  ready_fires (Output k) ready = met_meets k ready
  ready_fires (Input k) ready = met_meets k ready
  ready_fires Call ready = tt

  pub unready_rests : (s : Side) → (Ready table.channels.items s → ⊥) → Fires (rows_of table) s → ⊥
  unready_rests (Output k) never fires = fires (unmet_meets k never)
  unready_rests (Input k) never fires = fires (unmet_meets k never)
  unready_rests Call never fires = never tt

-- ---- counts

within_sum : (row : List Side) (b : ℕ) → slice_get row b ≡ Some Call → 0 < calls_in row
within_sum [] b at = absurd (cc)
within_sum (s ∷ row) zero at =
    let same : s ≡ Call = grind arith in
    let e : call_of s ≡ 1 = ap call_of same in
    omega (arith, e, sum_by-cons call_of s row)
within_sum (s ∷ row) (suc b) at = omega (arith, sum_by-cons call_of s row, within_sum row b at)

call_counted : (rows : List (List Side)) (i b : ℕ) → IsOffered rows i b Call → 0 < sum_by calls_in rows
call_counted [] i b at = absurd (cc)
call_counted (row ∷ rows) zero b at = omega (arith, sum_by-cons calls_in row rows, within_sum row b at)
call_counted (row ∷ rows) (suc i) b at = omega (arith, sum_by-cons calls_in row rows, call_counted rows i b at)

call_in_row : (row : List Side) → 0 < calls_in row → (b : ℕ) × (slice_get row b ≡ Some Call)
call_in_row [] l = absurd (omega (arith, l))
call_in_row (Output k ∷ row) l = (let r = call_in_row row (omega (arith, l, sum_by-cons call_of (Output k) row)) in (suc r.0, r.1))
call_in_row (Input k ∷ row) l = (let r = call_in_row row (omega (arith, l, sum_by-cons call_of (Input k) row)) in (suc r.0, r.1))
call_in_row (Call ∷ row) l = (zero, refl)

call_there : (rows : List (List Side)) → 0 < sum_by calls_in rows → (i : ℕ) × ((b : ℕ) × IsOffered rows i b Call)
call_there [] l = absurd (omega (arith, l))
call_there (row ∷ rows) l = by (calls_in row) refl (λ m. call_there rows m)
  where
    by : (n : ℕ) → calls_in row ≡ n → (0 < sum_by calls_in rows → (i : ℕ) × ((b : ℕ) × IsOffered rows i b Call)) → (i : ℕ) × ((b : ℕ) × IsOffered (row ∷ rows) i b Call)
    by zero e more = (let r = more (omega (arith, l, e, sum_by-cons calls_in row rows)) in (suc r.0, r.1))
    by (suc n) e more = (zero, call_in_row row (omega (arith, e)))

both_bit : (ms ns : List Mark) (n : ℕ) → both_of ms ns ≡ suc n → both_of ms ns ≡ 1
both_bit [] ns n e = absurd (omega (arith, e))
both_bit (m ∷ ms) [] n e = absurd (omega (arith, e))
both_bit (m ∷ ms) (k ∷ ns) n e = refl

met_there : (channels : List Channel) → 0 < met_count channels → (k : ℕ) × (met_in (slice_get channels k) ≡ 1)
met_there [] l = absurd (omega (arith, l))
met_there (c ∷ cs) l = by (met_of c) refl (λ m. met_there cs m)
  where
    by : (n : ℕ) → met_of c ≡ n → (0 < met_count cs → (k : ℕ) × (met_in (slice_get cs k) ≡ 1)) → (k : ℕ) × (met_in (slice_get (c ∷ cs) k) ≡ 1)
    by zero e more = (let r = more (omega (arith, l, e, sum_by-cons met_of c cs)) in (suc r.0, r.1))
    by (suc n) e more = (zero, both_bit c.senders.items c.receivers.items n e)

both_some : (m n : Option ℕ) → both m n ≢ None → (a : ℕ) × (m ≡ Some a)
both_some None n e = absurd (e refl)
both_some (Some a) n e = (a, refl)

module _ (table : Table) (kept : IsKept table) where
  pub met_fires : 0 < table.met → AreIdle (rows_of table) → ⊥
  met_fires l idle =
      let there = met_there table.channels.items (omega (arith, l, kept.counted)) in
      let fires = met_meets table kept there.0 there.1 in
      let first = both_some (first_of (sends there.0) (rows_of table)) (first_of (receives there.0) (rows_of table)) fires in
      let own = first_offered (sends there.0) (rows_of table) first.0 first.1 in
      let side = tests_same (Output there.0) own.1.0 (tests_of there.0 own.1.0 own.1.1.1) in
      idle own.0 first.0 (Output there.0) (subst (IsOffered (rows_of table) own.0 first.0) (sym side) own.1.1.0) fires
    where
      tests_of : (k : ℕ) (s : Side) → sends k s ≡ true → tests (Output k) s ≡ true
      tests_of k s e = e

  pub call_fires : 0 < table.calls → AreIdle (rows_of table) → ⊥
  call_fires l idle = (let there = call_there (rows_of table) (omega (arith, l, kept.called)) in idle there.0 there.1.0 Call there.1.1 tt)

  pub all_idle : table.met ≡ 0 → table.calls ≡ 0 → AreIdle (rows_of table)
  all_idle met calls i b (Output k) at = unready_rests table kept (Output k) (λ one. absurd (omega (arith, met, kept.counted, met_at_part table.channels.items (Output k), one)))
  all_idle met calls i b (Input k) at = unready_rests table kept (Input k) (λ one. absurd (omega (arith, met, kept.counted, met_at_part table.channels.items (Input k), one)))
  all_idle met calls i b Call at = absurd (omega (arith, calls, kept.called, call_counted (rows_of table) i b at))

  -- what is found in a row, and what is known where nothing is
  pub found_fires : (c b : ℕ) (row : List Side) → row_at table c ≡ row → IsReadyAt table.channels.items row b → IsFiring (rows_of table) c (Some b)
  found_fires c b row is ready = (ready.0, (ap (λ (r : List Side). slice_get r b) is ∙ ready.1.0, ready_fires table kept ready.0 ready.1.1))

  pub none_fires : (c start : ℕ) (row : List Side) → row_at table c ≡ row → NoneReady table.channels.items row start (length row) → NoneReady table.channels.items row 0 start → IsIdle (rows_of table) c
  none_fires c start row is late early b side at = unready_rests table kept side (by (ltb b start) refl)
    where
      at_row : slice_get row b ≡ Some side
      at_row = ap (λ (r : List Side). slice_get r b) (sym is) ∙ at

      by : (t : Bool) → ltb b start ≡ t → Ready table.channels.items side → ⊥
      by true e = early b side (omega arith) (ltb-true b start e) at_row
      by false e = late b side (ltb-false b start e) (slice_get_within row b side at_row) at_row

-- ---- without offers

fresh_lists : (channels : List Channel) → AreFresh channels → (k : ℕ) → (senders_of (slice_get channels k) ≡ []) × (receivers_of (slice_get channels k) ≡ [])
fresh_lists [] fresh k = (refl, refl)
fresh_lists (c ∷ cs) fresh zero = fresh.0
fresh_lists (c ∷ cs) fresh (suc k) = fresh_lists cs fresh.1 k

fresh_at : (channels : List Channel) → AreFresh channels → (t : Side) → list_at channels t ≡ []
fresh_at channels fresh (Output k) = (fresh_lists channels fresh k).0
fresh_at channels fresh (Input k) = (fresh_lists channels fresh k).1
fresh_at channels fresh Call = refl

fresh_count : (channels : List Channel) → AreFresh channels → met_count channels ≡ 0
fresh_count [] fresh = refl
fresh_count (c ∷ cs) fresh =
    let e : met_of c ≡ 0 = ap (λ (l : List Mark). both_of l c.receivers.items) fresh.0.0 in
    omega (arith, e, sum_by-cons met_of c cs, fresh_count cs fresh.1)

pub fresh_push : (channels : List Channel) (c : Channel) → AreFresh channels → c.senders.items ≡ [] → c.receivers.items ≡ [] → AreFresh (channels ++ c ∷ [])
fresh_push [] c fresh s r = ((s, r), tt)
fresh_push (d ∷ ds) c fresh s r = (fresh.0, fresh_push ds c fresh.1 s r)

empty_marks : (test : Side → Bool) (n i : ℕ) → marks_from i test (replicate n []) ≡ []
empty_marks test zero i = refl
empty_marks test (suc n) i = empty_marks test n (suc i)

empty_rows_within : (k n : ℕ) → AreRows k (replicate n [])
empty_rows_within k zero = tt
empty_rows_within k (suc n) = ((tt, omega arith), empty_rows_within k n)

empty_calls : (n : ℕ) → sum_by calls_in (replicate n []) ≡ 0
empty_calls zero = refl
empty_calls (suc n) = omega (arith, sum_by-cons calls_in [] (replicate n []), empty_calls n)

empty_length : (n : ℕ) → length (replicate {A = List Side} n []) ≡ n
empty_length zero = refl
empty_length (suc n) = omega (arith, empty_length n)

pub new_table : (channels controllers : ℕ) (table : Table) → channels < 2 ^ 32 → controllers < 2 ^ 32 → AreFresh table.channels.items → length table.channels.items ≡ channels → rows_of table ≡ replicate controllers [] → table.met ≡ 0 → table.calls ≡ 0 → IsNew channels controllers table
new_table channels controllers table few_channels few_controllers fresh as_many rows met calls = record {
  kept = record {
    marked = λ t. fresh_at table.channels.items fresh t ∙ sym (ap (marks_from 0 (tests t)) rows ∙ empty_marks (tests t) controllers 0);
    within = subst (AreRows (length table.channels.items)) (sym rows) (empty_rows_within (length table.channels.items) controllers);
    counted = met ∙ sym (fresh_count table.channels.items fresh);
    called = calls ∙ sym (ap (λ (l : List (List Side)). sum_by calls_in l) rows ∙ empty_calls controllers);
    few_channels = omega (arith, as_many, few_channels);
    few_rows = omega (arith, ap (λ (l : List (List Side)). length l) rows, empty_length controllers, few_controllers);
  };
  as_many = as_many;
  rows = rows;
}

-- ---- a row that is searched

pub none_yet : (channels : List Channel) (row : List Side) (low : ℕ) → NoneReady channels row low low
none_yet channels row low k s from below at ready = absurd (omega (arith, from, below))

pub none_more : (channels : List Channel) (row : List Side) (low i : ℕ) (side : Side) → NoneReady channels row low i → slice_get row i ≡ Some side → (Ready channels side → ⊥) → NoneReady channels row low (i + 1)
none_more channels row low i side none here never k s from below at = by (eqb k i) refl
  where
    by : (pass : Bool) → eqb k i ≡ pass → Ready channels s → ⊥
    by true e ready =
        let same : slice_get row k ≡ slice_get row i = ap (slice_get row) (eqb-true k i e) in
        never (subst (Ready channels) (sym (same_Some side s (sym here ∙ sym same ∙ at))) ready)
    by false e ready = none k s from (let apart = eqb-false k i e in omega (arith, below, apart)) at ready

-- what two searches of the controller's row tell, the second made where the first finds nothing
module _ (table : Table) (kept : IsKept table) (channels : List Channel) (same : channels ≡ table.channels.items) (c : ℕ) (row : List Side) (is : row_at table c ≡ row) where
  pub ready_found : (b : ℕ) → IsReadyAt channels row b → IsFiring (rows_of table) c (Some b)
  ready_found b ready = found_fires table kept c b row is (subst (λ l. IsReadyAt l row b) same ready)

  pub ready_or_none : (start : ℕ) (o : Option ℕ) → NoneReady channels row start (length row) → MatchOption o (NoneReady channels row 0 start) (IsReadyAt channels row) → IsFiring (rows_of table) c o
  ready_or_none start None late early = none_fires table kept c start row is (subst (λ l. NoneReady l row start (length row)) same late) (subst (λ l. NoneReady l row 0 start) same early)
  ready_or_none start (Some b) late found = ready_found b found

-- ---- whether anything can happen, for contracts that see `rows`

module _ (table : Table) (kept : IsKept table) (rows : List (List Side)) (is : rows_of table ≡ rows) where
  pub told_by_met : 0 < table.met → MatchBool (ltb 0 table.met) (AreIdle rows → ⊥) (AreIdle rows)
  told_by_met l = subst (λ b. MatchBool b (AreIdle rows → ⊥) (AreIdle rows)) (sym (lt-ltb 0 table.met l)) (subst (λ (r : List (List Side)). AreIdle r → ⊥) is (met_fires table kept l))

  pub told_by_calls : table.met ≤ 0 → MatchBool (ltb 0 table.calls) (AreIdle rows → ⊥) (AreIdle rows)
  told_by_calls none = by (ltb 0 table.calls) refl
    where
      by : (b : Bool) → ltb 0 table.calls ≡ b → MatchBool b (AreIdle rows → ⊥) (AreIdle rows)
      by true e = subst (λ (r : List (List Side)). AreIdle r → ⊥) is (call_fires table kept (ltb-true 0 table.calls e))
      by false e = (let few = ltb-false 0 table.calls e in subst AreIdle is (all_idle table kept (omega (arith, none)) (omega (arith, few))))
