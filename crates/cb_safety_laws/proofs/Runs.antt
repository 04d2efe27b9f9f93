-- Runs of a sound system; journals grow at their end, and are cut anywhere.
use Rattle.std.proofs.Common.{ℕ, List, [], ◌∷◌, ◌++◌, refl, sym, subst}
use Rattle.std.proofs.lemmas.List.{append-nil, append_assoc}
use Rattle.std.proofs.lemmas.Grind.{not_there}
use Rattle.cb_term.proofs.HoldsLemmas.{holds_stable}
use Rattle.cb_spec.specs.declared.state.Entry.{Entry}
use Rattle.cb_spec.specs.declared.system.System.{System}
use Rattle.cb_spec.specs.States.{StateView}
use Rattle.cb_spec.specs.Journals.{set_sizes, Step, Goes, beginning, Run}
use Rattle.cb_spec.specs.Typed.{Typed}
use Rattle.cb_spec.specs.Sound.{Sound, FitState}
use Rattle.cb_safety_laws.specs.Laws.{SoundIsSafe, GoodBegins, GoodIsKept, RunsAreGood, EachEntryIsRight, RunsGrow, RunsAreCut, MereRunIsSafe}
use Rattle.cb_safety_laws.proofs.Safety.{begins_fit, step_keeps, step_promised}

module _ (y : System) (typed : Typed y) (sound : Sound y) where
  goes_keeps : (limit : ℕ) (past : List Entry) (s : StateView) (es : List Entry) (t : StateView) → Goes y limit past s es t → FitState y s → FitState y t
  goes_keeps limit past s [] t g fit = subst (λ z. FitState y z) (sym g) fit
  goes_keeps limit past s (e ∷ es) t g fit = goes_keeps limit (past ++ e ∷ []) g.0 es t g.1.1 (step_keeps y typed sound limit past s e g.0 g.1.0 fit)

module _ (y : System) (limit : ℕ) where
  goes_more : (past : List Entry) (s : StateView) (es : List Entry) (m : StateView) (e : Entry) (t : StateView) → Goes y limit past s es m → Step y limit (past ++ es) m e t → Goes y limit past s (es ++ e ∷ []) t
  goes_more past s [] m e t g r =
      (t, (subst (λ z. Step y limit z s e t) (append-nil past) (subst (λ z. Step y limit (past ++ []) z e t) g r), refl))
  goes_more past s (x ∷ es) m e t g r =
      (g.0, (g.1.0, goes_more (past ++ x ∷ []) g.0 es m e t g.1.1 (subst (λ z. Step y limit z m e t) (sym (append_assoc past (x ∷ []) es)) r)))

  goes_cut : (past : List Entry) (s : StateView) (es rest : List Entry) (last : StateView) → Goes y limit past s (es ++ rest) last →
      (m : StateView) × Goes y limit past s es m × Goes y limit (past ++ es) m rest last
  goes_cut past s [] rest last g = (s, refl, subst (λ z. Goes y limit z s rest last) (sym (append-nil past)) g)
  goes_cut past s (x ∷ es) rest last g =
      let r = goes_cut (past ++ x ∷ []) g.0 es rest last g.1.1 in
      (r.0, (g.0, (g.1.0, r.1)), subst (λ z. Goes y limit z r.0 rest last) (append_assoc past (x ∷ []) es) r.2)

  goes_split : (past : List Entry) (s : StateView) (es : List Entry) (e : Entry) (rest : List Entry) (last : StateView) → Goes y limit past s (es ++ e ∷ rest) last →
      (m : StateView) × (t : StateView) × Goes y limit past s es m × Step y limit (past ++ es) m e t
  goes_split past s [] e rest last g = (s, g.0, refl, subst (λ z. Step y limit z s e g.0) (sym (append-nil past)) g.1.0)
  goes_split past s (x ∷ es) e rest last g =
      let r = goes_split (past ++ x ∷ []) g.0 es e rest last g.1.1 in
      (r.0, r.1, (g.0, (g.1.0, r.2)), subst (λ z. Step y limit z r.0 e r.1) (append_assoc past (x ∷ []) es) r.3)

pub runs_grow : RunsGrow
runs_grow y limit s0 es s e t run r = (run.0, (run.1.0, run.1.1, goes_more y limit [] (beginning y s0) es s e t run.1.2 r))

pub runs_are_good : RunsAreGood
runs_are_good y typed sound limit s0 es s run = record {
  typed = typed;
  sound = sound;
  run = run;
  fit = goes_keeps y typed sound limit [] (beginning y s0) es s run.1.2 (begins_fit y typed sound s0 run.0 run.1.0 run.1.1);
}

pub good_begins : GoodBegins
good_begins y typed sound limit s0 d begun same = record {
  typed = typed;
  sound = sound;
  run = (d, (begun, same, refl));
  fit = begins_fit y typed sound s0 d begun same;
}

pub good_is_kept : GoodIsKept
good_is_kept y limit s0 es s e t good r = record {
  typed = good.typed;
  sound = good.sound;
  run = runs_grow y limit s0 es s e t good.run r;
  fit = step_keeps y good.typed good.sound limit es s e t r good.fit;
}

pub sound_is_safe : SoundIsSafe
sound_is_safe y typed sound limit s0 es s run =
    let fit = (runs_are_good y typed sound limit s0 es s run).fit in (
      fit.invariants,
      λ e t r. record {
        promised = step_promised y typed sound limit es s e t r fit;
        before = fit.invariants;
        after = (step_keeps y typed sound limit es s e t r fit).invariants;
      },
    )

pub runs_are_cut : RunsAreCut
runs_are_cut y limit s0 es rest last run =
    let r = goes_cut y limit [] (beginning y s0) es rest last run.1.2 in
    (r.0, (run.0, (run.1.0, run.1.1, r.1)), r.2)

pub each_entry_is_right : EachEntryIsRight
each_entry_is_right y typed sound limit s0 es e rest last run =
    let r = goes_split y limit [] (beginning y s0) es e rest last run.1.2 in
    let cut : Run y limit s0 es r.0 = (run.0, (run.1.0, run.1.1, r.2)) in
    (r.0, r.1, cut, r.3, (sound_is_safe y typed sound limit s0 es r.0 cut).1 e r.1 r.3)

pub mere_run_is_safe : MereRunIsSafe
mere_run_is_safe y safe limit s0 es s r k m at = holds_stable (set_sizes y) s.store m.invariant [] (λ n. not_there r (λ run. n ((safe limit s0 es s run).0 k m at)))
