-- How far a step of each controller in turn has come.
use Rattle.std.proofs.Common.{◌≡◌, ◌≢◌, ℕ, ◌+◌, ◌<◌, ◌≤◌, ◌⊎◌, Bool, true, Option, None, Some, IfNone, IfSome, is_some, List, [], ◌∷◌, ◌++◌, length, inl, inr, sym, ap, subst, ◌∙◌, below_more, arith, length-append}
use Rattle.cb_spec.specs.declared.state.Entry.{Entry}
use Rattle.cb_spec.specs.declared.state.Entry.TheVariants as entry
use Rattle.cb_spec.specs.declared.state.End.{End}
use Rattle.cb_spec.specs.declared.state.End.TheVariants.{Memory}
use Rattle.cb_spec.specs.declared.system.System.{System}
use Rattle.cb_spec.specs.States.{StateView, state_of}
use Rattle.cb_spec.specs.Journals.{Due, Run, IsComplete}
use Rattle.cb_system.specs.declared.running.Stepped.{Stepped}
use Rattle.cb_system.specs.declared.running.Stepped.TheVariants.{Settled, Fired, Idle, Over}
use Rattle.cb_system.specs.Views.{RunView, as_end, last_end}
use Rattle.cb_system.specs.Steps.{IsGoing, IsOver, IsStepped}
use Rattle.cb_alone.specs.Complete.{IsCompleteRun}
use Rattle.cb_alone.specs.Rounds.{IsRound}
use Rattle.cb_alone.proofs.EndLemmas.{end_more, event_no_end, complete_is}
use Rattle.cb_alone.proofs.IdleLemmas.{IsIdle, idle_stops}

-- the journal is longer, or is as it was while the first controllers are idle
abbrev pub IsFurther : (old now : RunView) → ℕ → Type 0
IsFurther old now i = (length old.journal < length now.journal) ⊎ ((now.journal ≡ old.journal) × ((j : ℕ) → j < i → IsIdle now.system (state_of now.state) j))

longer_by : (es : List Entry) (e : Entry) → length (es ++ e ∷ []) ≡ length es + 1
longer_by es e = length-append es (e ∷ [])

not_shorter : (old now : RunView) (i : ℕ) → IsFurther old now i → length old.journal ≤ length now.journal
not_shorter old now i (inl longer) = omega (arith, longer)
not_shorter old now i (inr same) = let is = ap length same.0 in omega (arith, is)

-- ---- an entry comes

module _ (old now new : RunView) (e : Entry) (is : new.journal ≡ now.journal ++ e ∷ []) where
  further_entry : (i j : ℕ) → IsFurther old now i → IsFurther old new j
  further_entry i j further =
      let long = not_shorter old now i further in
      let more = ap length is ∙ longer_by now.journal e in
      inl (omega (arith, long, more))

  end_entry : last_end new.journal ≡ as_end e
  end_entry = ap last_end is ∙ end_more now.journal e

not_memory : (v : RunView) → last_end v.journal ≡ None → last_end v.journal ≢ Some Memory
not_memory v unended ended = let none : Some Memory ≡ None = sym ended ∙ unended in cc

-- a cause that was due is no want of memory
due_end : (now new : RunView) (c : End) → Due now.system now.limit now.journal (state_of now.state) c → last_end new.journal ≡ Some c → last_end new.journal ≢ Some Memory
due_end now new c due is ended =
    let same : c ≡ Memory = let some : Some c ≡ Some Memory = sym is ∙ ended in cc in
    subst (Due now.system now.limit now.journal (state_of now.state)) same due

over_memory : (now new : RunView) (c : End) → last_end now.journal ≢ Some Memory → IsOver now new c → last_end new.journal ≢ Some Memory
over_memory now new c fine (inl over) = subst (λ (v : RunView). last_end v.journal ≢ Some Memory) (sym over.1) fine
over_memory now new c fine (inr come) = due_end now new c come.due (end_entry now now new (entry.End c) come.journal)

-- ---- a step

pub step_memory : (now new : RunView) (i : ℕ) (did : Stepped) → last_end now.journal ≢ Some Memory → IsStepped i now new did → last_end new.journal ≢ Some Memory
step_memory now new i Settled fine r = not_memory new (end_entry now now new (entry.Settle i r.1.1.0) r.1.1.1)
step_memory now new i Fired fine r = let f = r.1.1 in not_memory new (end_entry now now new f.0 f.1.1.1 ∙ event_no_end f.0 f.1.0)
step_memory now new i Idle fine r = subst (λ (es : List Entry). last_end es ≢ Some Memory) (sym r.1.1.1.journal) fine
step_memory now new i (Over c) fine r = over_memory now new c fine r

idle_same : (y z : System) (s t : StateView) (i : ℕ) → z ≡ y → t ≡ s → IsIdle y s i → IsIdle z t i
idle_same y z s t i same there idle = subst (λ w. IsIdle w t i) (sym same) (subst (λ (w : StateView). IsIdle y w i) (sym there) idle)

pub step_further : (old now new : RunView) (i : ℕ) (did : Stepped) → last_end old.journal ≡ None → IsFurther old now i → IsStepped i now new did → IsFurther old new (i + 1)
step_further old now new i Settled unended further r = further_entry old now new (entry.Settle i r.1.1.0) r.1.1.1 i (i + 1) further
step_further old now new i Fired unended further r = let f = r.1.1 in further_entry old now new f.0 f.1.1.1 i (i + 1) further
step_further old now new i Idle unended (inl longer) r = let same = ap length r.1.1.1.journal in inl (omega (arith, longer, same))
step_further old now new i Idle unended (inr still) r =
    let same = r.1.1.1 in
    let idle : (j : ℕ) → j < i + 1 → IsIdle now.system (state_of now.state) j = below_more _ i still.1 (r.1.0, r.1.1.0) in
    inr (same.journal ∙ still.0, λ j low. idle_same now.system new.system (state_of now.state) (state_of new.state) j same.system same.state (idle j low))
step_further old now new i (Over c) unended (inl longer) (inl over) = inl (subst (λ (v : RunView). length old.journal < length v.journal) (sym over.1) longer)
step_further old now new i (Over c) unended (inr still) (inl over) = absurd (let some : Some c ≡ None = sym over.0 ∙ ap last_end still.0 ∙ unended in cc)
step_further old now new i (Over c) unended further (inr come) = further_entry old now new (entry.End c) come.journal i (i + 1) further

-- ---- the end of the round

module _ (old now new : RunView) (n : ℕ) (due : Option End) (none : IfNone due (IsGoing now × (new ≡ now))) (some : IfSome due (IsOver now new)) where
  round_complete : last_end now.journal ≢ Some Memory → (c : End) → last_end new.journal ≡ Some c → IsComplete new.journal
  round_complete fine c is = complete_is new.journal c is (λ memory. by due none some (is ∙ ap Some memory))
    where
      by : (due : Option End) → IfNone due (IsGoing now × (new ≡ now)) → IfSome due (IsOver now new) → last_end new.journal ≢ Some Memory
      by None none some = subst (λ (v : RunView). last_end v.journal ≢ Some Memory) (sym none.1) fine
      by (Some d) none some = over_memory now new d fine some

  round_longer : last_end old.journal ≡ None → IsFurther old now n → n ≡ length (state_of new.state).controls → last_end new.journal ≡ None → length old.journal < length new.journal
  round_longer unended further all goes = by due none some further
    where
      by : (due : Option End) → IfNone due (IsGoing now × (new ≡ now)) → IfSome due (IsOver now new) → IsFurther old now n → length old.journal < length new.journal
      by None none some (inl longer) = subst (λ (v : RunView). length old.journal < length v.journal) (sym none.1) longer
      by None none some (inr still) =
          let there : n ≡ length (state_of now.state).controls = subst (λ (v : RunView). n ≡ length (state_of v.state).controls) none.1 all in
          absurd (idle_stops now (λ i low. still.1 i (omega (arith, there, low))) none.0)
      by (Some d) none (inl over) further = absurd (let end : Some d ≡ None = sym (ap (λ (v : RunView). last_end v.journal) over.1 ∙ over.0) ∙ goes in cc)
      by (Some d) none (inr come) further = absurd (let end : Some d ≡ None = sym (end_entry now now new (entry.End d) come.journal) ∙ goes in cc)

  pub round_is : last_end old.journal ≡ None → last_end now.journal ≢ Some Memory → IsFurther old now n → n ≡ length (state_of new.state).controls → (end : Option End) → end ≡ last_end new.journal → IsRound old.journal new.journal (is_some end)
  round_is unended fine further all None is = (sym is, round_longer unended further all (sym is))
  round_is unended fine further all (Some c) is = round_complete fine c (sym is)

-- a run whose last round has ended the journal is complete
pub run_complete : (y : System) (limit : ℕ) (past : List Entry) (v : RunView) (over : Bool) → v.system ≡ y → v.limit ≡ limit → Run v.system v.limit v.initial v.journal (state_of v.state) → IsRound past v.journal over → over ≡ true → IsCompleteRun y limit v
run_complete y limit past v over system limit_is run round ended = record {
  system = system;
  limit_is = limit_is;
  run = subst (λ z. Run z limit v.initial v.journal (state_of v.state)) system (subst (λ n. Run v.system n v.initial v.journal (state_of v.state)) limit_is run);
  complete = subst (IsRound past v.journal) ended round;
}
