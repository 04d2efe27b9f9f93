-- What an entry leaves as it is.
use Rattle.std.proofs.Common.{◌≡◌, ℕ, false, List, sym, ap, ◌∙◌}
use Rattle.std.proofs.lemmas.Bool.{false_from_ne_true}
use Rattle.cb_term.specs.declared.name.Name.{Name}
use Rattle.cb_term.specs.declared.value.Value.{Value}
use Rattle.cb_spec.specs.declared.system.Controller.{Controller}
use Rattle.cb_spec.specs.declared.system.System.{System}
use Rattle.cb_spec.specs.Stores.{Writes}
use Rattle.cb_spec.specs.Bound.{names, is_among, only}
use Rattle.cb_spec.specs.States.{StateView}
use Rattle.cb_spec.specs.Journals.{IsNumbered, Operating}
use Rattle.cb_spec.specs.Typed.{Typed}
use Rattle.cb_spec.specs.Sound.{Sound, FitState}
use Rattle.cb_safety_laws.specs.Laws.{IsOwn, EntriesKeepOthers}
use Rattle.cb_spec.proofs.StoreLemmas.{over_is, or_look}
use Rattle.cb_safety_laws.proofs.Begin.{kept_other}
use Rattle.cb_safety_laws.proofs.Safety.{called}

calls_keep : (y : System) → Typed y → Sound y → (s : StateView) → FitState y s →
    (i b k j : ℕ) (args results : List Value) (written : Writes) (t : StateView) → Operating y s i b k j args results written t →
    (c : Controller) × IsNumbered y i c × ((x : Name) → ¬ IsOwn y c x → t.store x ≡ s.store x)
calls_keep y typed sound s fit i b k j args results written t r =
    let q = called y typed sound s fit i b k j r.branches r.terms r.targets r.next r.env r.machine r.operation args r.from r.offered r.its r.listed r.arguments in
    let vars = names r.machine.variables in
    let other : (x : Name) → ¬ IsOwn y q.controller x → is_among x vars ≡ false =
    λ x n. false_from_ne_true (is_among x vars) (λ e. n (k, r.machine, q.own, r.its, e)) in (
      q.controller,
      q.its,
      (λ x n.
          ap (λ (z : StateView). z.store x) r.after ∙ over_is written s.store x ∙ ap (λ p. or_look p (s.store x)) (r.own x) ∙ sym (over_is (only vars written) s.store x)
          ∙ kept_other vars written s.store x (other x n)),
    )

pub entries_keep_others : EntriesKeepOthers
entries_keep_others = record {
  calls = calls_keep;
  settles = λ y s i bits t r. ap (λ (z : StateView). z.store) r.after;
  passes = λ y s k sent got vs t r. ap (λ (z : StateView). z.store) r.after;
}
