-- How long a journal can be.
use Rattle.std.proofs.Common.{◌≡◌, ℕ, ◌+◌, ◌-◌, ◌*◌, ◌≤◌, List, [], ◌∷◌, ◌++◌, length, slice_get, subst, sym, arith}
use Rattle.std.specs.List.{sum_by}
use Rattle.cb_term.specs.declared.value.Value.{Value}
use Rattle.cb_spec.specs.declared.state.Entry.{Entry}
use Rattle.cb_spec.specs.declared.state.Entry.TheVariants as entry
use Rattle.cb_spec.specs.declared.state.End.{End}
use Rattle.cb_spec.specs.declared.system.System.{System}
use Rattle.cb_spec.specs.Stores.{Writes}
use Rattle.cb_spec.specs.States.{AtProcess, StateView}
use Rattle.cb_spec.specs.Journals.{set_sizes, Settling, Operating, Passing, events, IsOpen, Step, Goes, begin_at, beginning, Run}
use Rattle.cb_safety_laws.proofs.Lists.{map_length}
use Rattle.cb_system.proofs.PlaceLemmas.{sum_set}
use Rattle.cb_alone.proofs.CountLemmas.{is_unresolved, unresolved_set, unresolved_set_two, unresolved_few, settled_none}

events_more : (es : List Entry) (e : Entry) → events (es ++ e ∷ []) ≡ events es + events (e ∷ [])
events_more [] e = omega arith
events_more (entry.Settle i bits ∷ es) e = events_more es e
events_more (entry.Op i b k j args results written ∷ es) e = omega (arith, events_more es e)
events_more (entry.Pass k sent got vs ∷ es) e = omega (arith, events_more es e)
events_more (entry.End c ∷ es) e = events_more es e

not_open : (es : List Entry) (c : End) → ¬ IsOpen (es ++ entry.End c ∷ [])
not_open [] c h = h
not_open (entry.Settle i bits ∷ es) c h = not_open es c h
not_open (entry.Op i b k j args results written ∷ es) c h = not_open es c h
not_open (entry.Pass k sent got vs ∷ es) c h = not_open es c h
not_open (entry.End d ∷ es) c h = h

module _ (y : System) (limit : ℕ) where
  step_open : (past : List Entry) (s : StateView) (e : Entry) (t : StateView) → Step y limit past s e t → IsOpen past
  step_open past s (entry.Settle i bits) t r = r.0
  step_open past s (entry.Op i b k j args results written) t r = r.0
  step_open past s (entry.Pass k sent got vs) t r = r.0
  step_open past s (entry.End c) t r = r.0

  -- so many controllers are at a process that is not resolved
  abbrev unsettled : StateView → ℕ
  unsettled s = sum_by is_unresolved s.controls

  settling_takes : (s : StateView) (i bits : ℕ) (t : StateView) → Settling y s i bits t → unsettled t + 1 ≡ unsettled s
  settling_takes s i bits t r =
      let none = settled_none (set_sizes y) r.controller.definitions r.depth r.process r.env r.sides r.outcome r.settles in
      let set = sum_set is_unresolved s.controls i r.outcome (AtProcess r.process r.env) r.from in
      subst (λ (z : StateView). unsettled z + 1 ≡ unsettled s) (sym r.after) (omega (arith, none, set))

  operating_gives : (s : StateView) (i b k j : ℕ) (args results : List Value) (written : Writes) (t : StateView) → Operating y s i b k j args results written t → unsettled t ≤ unsettled s + 1
  operating_gives s i b k j args results written t r = subst (λ (z : StateView). unsettled z ≤ unsettled s + 1) (sym r.after) (unresolved_set s.controls i _)

  passing_gives : (s : StateView) (k sent got : ℕ) (vs : List Value) (t : StateView) → Passing y s k sent got vs t → unsettled t ≤ unsettled s + 2
  passing_gives s k sent got vs t r = subst (λ (z : StateView). unsettled z ≤ unsettled s + 2) (sym r.after) (unresolved_set_two s.controls r.channel.sender r.channel.receiver _ _)

  -- a resolving takes a process that is not resolved, an event gives two at most, and nothing comes after an end
  goes_length : (room : ℕ) (past : List Entry) (s : StateView) (es : List Entry) (t : StateView) → Goes y limit past s es t → limit ≤ room + events past → length es ≤ unsettled s + 3 * room + 1
  goes_length room past s [] t g few = omega arith
  goes_length room past s (entry.Settle i bits ∷ es) t g few =
      let more = events_more past (entry.Settle i bits) in
      let rest = goes_length room (past ++ entry.Settle i bits ∷ []) g.0 es t g.1.1 (omega (arith, more, few)) in
      let takes = settling_takes s i bits g.0 g.1.0.2 in
      omega (arith, rest, takes)
  goes_length room past s (entry.Op i b k j args results written ∷ es) t g few =
      let more = events_more past (entry.Op i b k j args results written) in
      let room_left = g.1.0.1 in
      let rest = goes_length (room - 1) (past ++ entry.Op i b k j args results written ∷ []) g.0 es t g.1.1 (omega (arith, more, few, room_left)) in
      let gives = operating_gives s i b k j args results written g.0 g.1.0.2 in
      omega (arith, rest, gives, few, room_left)
  goes_length room past s (entry.Pass k sent got vs ∷ es) t g few =
      let more = events_more past (entry.Pass k sent got vs) in
      let room_left = g.1.0.1 in
      let rest = goes_length (room - 1) (past ++ entry.Pass k sent got vs ∷ []) g.0 es t g.1.1 (omega (arith, more, few, room_left)) in
      let gives = passing_gives s k sent got vs g.0 g.1.0.2 in
      omega (arith, rest, gives, few, room_left)
  goes_length room past s (entry.End c ∷ []) t g few = omega arith
  goes_length room past s (entry.End c ∷ (e ∷ es)) t g few = absurd (not_open past c (step_open (past ++ entry.End c ∷ []) g.0 e g.1.1.0 g.1.1.1.0))

  -- so the limit and the controllers bound a journal
  pub run_length : (s0 : Writes) (es : List Entry) (s : StateView) → Run y limit s0 es s → length es ≤ 3 * limit + length y.order + 1
  run_length s0 es s run =
      let first = goes_length limit [] (beginning y s0) es s run.1.2 (omega arith) in
      let few = unresolved_few (beginning y s0).controls in
      let many = map_length (λ k. begin_at (slice_get y.controllers k)) y.order in
      omega (arith, first, few, many)
