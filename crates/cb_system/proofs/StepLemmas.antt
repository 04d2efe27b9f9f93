-- A running value keeps what it keeps: the steps over plain values.
use Rattle.std.proofs.Common.{◌≡◌, ℕ, ◌+◌, ◌-◌, ◌<◌, List, [], ◌∷◌, ◌++◌, slice_set, Option, Some, None, IfSome, refl, sym, ap, subst, ◌∙◌, arith}
use Rattle.cb_spec.specs.declared.state.Entry.{Entry}
use Rattle.cb_spec.specs.declared.state.Entry.TheVariants as entry
use Rattle.cb_spec.specs.declared.state.End.{End}
use Rattle.cb_spec.specs.declared.state.End.TheVariants as cause
use Rattle.cb_spec.specs.declared.system.System.{System}
use Rattle.cb_spec.specs.ProcessTree.{ProcessTree}
use Rattle.cb_spec.specs.Stores.{Writes, look_of}
use Rattle.cb_spec.specs.States.{ControlView, state_of}
use Rattle.cb_spec.specs.Journals.{events, Step, Settling, Due, MayEnd}
use Rattle.cb_code.specs.declared.place.Place.{Place}
use Rattle.cb_code.specs.declared.place.Place.TheVariants.{At, Ended}
use Rattle.cb_code.specs.Nodes.{part}
use Rattle.cb_settling.specs.declared.settle.Outcome.{Outcome}
use Rattle.cb_settling.specs.declared.settle.Outcome.TheVariants.{Shown, Over}
use Rattle.cb_settling.specs.Calling.{IsRoomy}
use Rattle.cb_settling.specs.Resolving.{here_of, outcome_of, ShowsPrefixes}
use Rattle.cb_settling.proofs.GoodLemmas.{settling}
use Rattle.cb_beginning.specs.Placed.{state_in, Laid}
use Rattle.cb_system.specs.Views.{last_end}
use Rattle.cb_system.specs.Kept.{Keeps, is_unsettled, is_living, lives, AreCounted}
use Rattle.cb_system.specs.Moves.{env_at, after, SettledAt}
use Rattle.cb_system.proofs.JournalLemmas.{is_open, keeps_more}
use Rattle.cb_system.proofs.PlaceLemmas.{seen, ready_seen, control_at, controls_set, IsLaid, laid_set, sum_set, set_twice}

-- ---- a process is resolved

outcome_seen : (ps : List ProcessTree) (env : Writes) (o : Outcome) → seen ps (after env o) ≡ outcome_of ps env o
outcome_seen ps env (Shown ks own) = ready_seen ps ks (here_of env own)
outcome_seen ps env Over = refl

outcome_laid : (ps : List ProcessTree) (env : Writes) (o : Outcome) → ShowsPrefixes ps o → IsLaid ps (after env o)
outcome_laid ps env (Shown ks own) h = h
outcome_laid ps env Over h = tt

outcome_counts : (env : Writes) (o : Outcome) → (is_unsettled (after env o) ≡ 0) × (is_living (after env o) ≡ lives o)
outcome_counts env (Shown ks own) = (refl, refl)
outcome_counts env Over = (refl, refl)

-- what was found of the fields
pub settled_fact : (y z : System) (ps : List ProcessTree) (places slice : List Place) (i : ℕ) (o : Option (Outcome × ℕ)) (r : Outcome × ℕ) → IfSome o (λ (q : Outcome × ℕ). SettledAt z ps slice i q.0 q.1) → o ≡ Some r → z ≡ y → slice ≡ places →
    SettledAt y ps places i r.0 r.1
settled_fact y z ps places slice i o r h is same sliced =
    let some : SettledAt z ps slice i r.0 r.1 = subst (λ (p : Option (Outcome × ℕ)). IfSome p (λ (q : Outcome × ℕ). SettledAt z ps slice i q.0 q.1)) is h in
    subst (λ (w : System). SettledAt w ps places i r.0 r.1) same (subst (λ (ls : List Place). SettledAt z ps ls i r.0 r.1) sliced some)

module _ (y : System) (limit : ℕ) (s0 : Writes) (es : List Entry) (ps : List ProcessTree) (store : Writes) (places : List Place) (bodies : List (List ℕ)) (count : ℕ) (end : Option End) (len room unsettled living : ℕ)
    (h : Keeps y limit s0 es (state_in ps store places) count end len room × Laid y ps places bodies × IsRoomy y store × AreCounted places unsettled living) where
  module _ (i : ℕ) (outcome : Outcome) (bits : ℕ) (settled : SettledAt y ps places i outcome bits) where
    -- one controller is at a process, and has not ended
    pub settled_counts : (0 < unsettled) × (0 < living)
    settled_counts =
        let first = settled.1.1.1.0 in
        let at = settled.1.1.1.1.0 in
        let a = sum_set is_unsettled places i Ended (At settled.1.1.0 first) at in
        let b = sum_set is_living places i Ended (At settled.1.1.0 first) at in
        let u = h.3.unsettled_is in
        let l = h.3.living_is in
        (omega (arith, a, u), omega (arith, b, l))

    pub step_settled : (len' room' unsettled' living' : ℕ) (new : List Entry) (between taken next : Place) → last_end es ≡ None → events es < limit →
        new ≡ es ++ entry.Settle i bits ∷ [] → taken ≡ At settled.1.1.0 settled.1.1.1.0 → next ≡ after (env_at taken) outcome → len' < room' → unsettled' ≡ unsettled - 1 → living' + 1 ≡ living + lives outcome →
        Keeps y limit s0 new (state_in ps store (slice_set (slice_set places i between) i next)) count end len' room' × Laid y ps (slice_set (slice_set places i between) i next) bodies
        × IsRoomy y store × AreCounted (slice_set (slice_set places i between) i next) unsettled' living'
    step_settled len' room' unsettled' living' new between taken next none few is taken_at next_is fits unsettled_is living_is =
        let k = settled.1.1.0 in
        let first = settled.1.1.1.0 in
        let at = settled.1.1.1.1.0 in
        let by = settled.1.1.1.1.1 in
        let s = state_of (state_in ps store places) in
        let last = after first outcome in
        let e = entry.Settle i bits in
        let ends : slice_set (slice_set places i between) i next ≡ slice_set places i last =
        set_twice places i between next ∙ ap (λ (p : Place). slice_set places i p) (next_is ∙ ap (λ (p : Place). after (env_at p) outcome) taken_at) in
        let controls : slice_set s.controls i (outcome_of ps first outcome) ≡ (state_of (state_in ps store (slice_set places i last))).controls =
        ap (slice_set s.controls i) (sym (outcome_seen ps first outcome)) ∙ sym (controls_set ps places i last) in
        let lawful : Settling y s i bits (state_of (state_in ps store (slice_set places i last))) =
        subst (λ (cs : List ControlView). Settling y s i bits (record { store = look_of store; controls = cs })) controls
        (settling y s i settled.0 ps (part ps k) first outcome bits settled.1.0 (control_at ps store places i (At k first) at) by) in
        let step : Step y limit es s e (state_of (state_in ps store (slice_set places i last))) = (is_open _ _ _ _ _ _ _ _ _ h.0 none, few, lawful) in
        let journal : Keeps y limit s0 new (state_in ps store (slice_set places i last)) count end len' room' =
        subst (λ (o : Option End). Keeps y limit s0 new (state_in ps store (slice_set places i last)) count o len' room') (sym (h.0.end_is ∙ none))
        (keeps_more _ _ _ _ _ _ _ _ _ h.0 e (state_in ps store (slice_set places i last)) new count len' room' none step is (omega arith) (λ n. fits)) in
        let a = sum_set is_unsettled places i last (At k first) at in
        let b = sum_set is_living places i last (At k first) at in
        let c = outcome_counts first outcome in
        let u = h.3.unsettled_is in
        let l = h.3.living_is in
        let counted : AreCounted (slice_set places i last) unsettled' living' = record { unsettled_is = omega (arith, a, c, u, unsettled_is); living_is = omega (arith, b, c, l, living_is) } in
        subst (λ (qs : List Place). Keeps y limit s0 new (state_in ps store qs) count end len' room' × Laid y ps qs bodies × IsRoomy y store × AreCounted qs unsettled' living') (sym ends)
        (journal, laid_set y ps places bodies i last (outcome_laid ps first outcome by.prefixes) h.1, h.2, counted)

  -- ---- the end

  -- want of memory ends the journal
  pub stops : (len' room' : ℕ) (new : List Entry) → last_end es ≡ None → new ≡ es ++ entry.End cause.Memory ∷ [] →
      Keeps y limit s0 new (state_in ps store places) count (Some cause.Memory) len' room' × Laid y ps places bodies × IsRoomy y store × AreCounted places unsettled living
  stops len' room' new none is = (
    keeps_more _ _ _ _ _ _ _ _ _ h.0 (entry.End cause.Memory) (state_in ps store places) new count len' room' none (is_open _ _ _ _ _ _ _ _ _ h.0 none, tt, refl) is (omega arith) (λ n. absurd (let s : Some cause.Memory ≡ None = n in cc)),
    h.1,
    h.2,
    h.3,
  )

  -- a cause that is due ends it
  pub ends : (c : End) (len' room' : ℕ) (new : List Entry) → Due y limit es (state_of (state_in ps store places)) c → last_end es ≡ None → new ≡ es ++ entry.End c ∷ [] →
      Keeps y limit s0 new (state_in ps store places) count (Some c) len' room' × Laid y ps places bodies × IsRoomy y store × AreCounted places unsettled living
  ends c len' room' new due none is = (
    keeps_more _ _ _ _ _ _ _ _ _ h.0 (entry.End c) (state_in ps store places) new count len' room' none (is_open _ _ _ _ _ _ _ _ _ h.0 none, may_end c due, refl) is (omega arith) (λ n. absurd (let s : Some c ≡ None = n in cc)),
    h.1,
    h.2,
    h.3,
  )
    where
      may_end : (c : End) → Due y limit es (state_of (state_in ps store places)) c → MayEnd y limit es (state_of (state_in ps store places)) c
      may_end cause.Ended d = d
      may_end cause.Limit d = d
      may_end cause.Quiet d = d
      may_end cause.Memory d = tt
