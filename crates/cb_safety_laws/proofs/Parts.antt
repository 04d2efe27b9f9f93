-- What is known of the parts of a process, of branches and of annotations.
use Rattle.std.proofs.Common.{◌≡◌, ◌+◌, ℕ, zero, suc, List, [], ◌∷◌, ◌++◌, slice_get, Option, Some, None, refl, sym, subst, inl, inr, arith}
use Rattle.cb_term.specs.declared.name.Name.{Name}
use Rattle.cb_term.specs.declared.value.Value.{Value}
use Rattle.cb_term.specs.Tree.{TermTree, FormulaTree}
use Rattle.cb_term.specs.Values.{Look}
use Rattle.cb_term.specs.Holds.{Holds}
use Rattle.cb_spec.specs.declared.event.Event.{Event}
use Rattle.cb_spec.specs.declared.event.Event.TheVariants as event
use Rattle.cb_spec.specs.declared.system.Channel.{Channel}
use Rattle.cb_spec.specs.declared.system.Controller.{Controller}
use Rattle.cb_spec.specs.declared.system.Definition.{Definition}
use Rattle.cb_spec.specs.declared.system.System.{System}
use Rattle.cb_spec.specs.ProcessTree.{ProcessTree, Call, Prefix, Choice, Internal, If}
use Rattle.cb_spec.specs.Bound.{names, bound_look, AreOfKinds, AreIn}
use Rattle.cb_spec.specs.States.{IsAt, BranchView}
use Rattle.cb_spec.specs.Settling.{AreValues}
use Rattle.cb_spec.specs.Silent.{FewSilent}
use Rattle.cb_spec.specs.Journals.{set_sizes, IsNumbered}
use Rattle.cb_spec.specs.TypedProcesses.{scope_of}
use Rattle.cb_spec.specs.Typed.{global_names, Typed}
use Rattle.cb_spec.specs.Sound.{Guaranteed, Assumed, Matched, OwnHold, Sound, FineProcess, FineBranches}
use Rattle.cb_safety_laws.proofs.Lists.{has_at, two_at}
use Rattle.cb_safety_laws.proofs.Forms.{agrees_bound}

pub call_few : (ds : List Definition) (k : ℕ) (ts : List TermTree) → ((d : Definition) → IsAt ds k d → FewSilent ds d.body) → FewSilent ds (Call k ts)
call_few ds k ts h zero n w = absurd w
call_few ds k ts h (suc m) n w = h w.0 w.1.0 m n w.1.1

-- ---- numbers of controllers

module _ (y : System) where
  pub one_numbered : (i : ℕ) (c d : Controller) → IsNumbered y i c → IsNumbered y i d → c ≡ d
  one_numbered i c d n m = two_at y.controllers n.0 c d n.1.1 (subst (λ p. IsAt y.controllers p d) (sym (two_at y.order i n.0 m.0 n.1.0 m.1.0)) m.1.1)

  pub append_fine : (i : ℕ) (c : Controller) (store : Look) (bs cs : List BranchView) → FineBranches y i c bs store → FineBranches y i c cs store → FineBranches y i c (bs ++ cs) store
  append_fine i c store [] cs f g = g
  append_fine i c store (b ∷ bs) cs f g = (f.0, append_fine i c store bs cs f.1 g)

  pub fine_branch : (i : ℕ) (c : Controller) (store : Look) (bs : List BranchView) (k : ℕ) (b : BranchView) → FineBranches y i c bs store → IsAt bs k b → FineProcess y i c (Prefix b.event b.next) b.env store
  fine_branch i c store [] k b f e = cc
  fine_branch i c store (a ∷ bs) zero b f e = subst (λ (z : BranchView). FineProcess y i c (Prefix z.event z.next) z.env store) (cc (e)) f.0
  fine_branch i c store (a ∷ bs) (suc k) b f e = fine_branch i c store bs k b f.1 e

  -- ---- annotations

  pub matched_rest : (e : Event) (p : ProcessTree) → Matched y (Prefix e p) → Matched y p
  matched_rest (event.Output k ts None) p m = m
  matched_rest (event.Output k ts (Some f)) p m = m.1
  matched_rest (event.Input k xs None) p m = m
  matched_rest (event.Input k xs (Some f)) p m = m.1
  matched_rest (event.Call k j ts xs) p m = m

  -- what a sender guarantees gives the channel's assertion, and that gives what the receiver assumes
  pub guarantee_asserts : (k : ℕ) (ts : List TermTree) (note : Option FormulaTree) (p : ProcessTree) (ch : Channel) (vs : List Value) → Matched y (Prefix (event.Output k ts note) p) → IsAt y.channels k ch →
      AreOfKinds (set_sizes y) ch.values vs → Guaranteed y ch note vs → Holds (set_sizes y) (bound_look (names ch.values) vs) ch.assertion []
  guarantee_asserts k ts None p ch vs m at are h = h
  guarantee_asserts k ts (Some f) p ch vs m at are h = m.0 ch at vs are h

  pub assertion_allows : (k : ℕ) (xs : List Name) (note : Option FormulaTree) (p : ProcessTree) (ch : Channel) (vs : List Value) → Matched y (Prefix (event.Input k xs note) p) → IsAt y.channels k ch →
      AreOfKinds (set_sizes y) ch.values vs → AreIn (set_sizes y) ch.values vs → Holds (set_sizes y) (bound_look (names ch.values) vs) ch.assertion [] → Assumed y ch xs note vs
  assertion_allows k xs None p ch vs m at are within h = (are, h)
  assertion_allows k xs (Some f) p ch vs m at are within h = (within, m.0 ch at vs are h)

  -- ---- parts of a process

  module _ (i : ℕ) (c : Controller) (env store : Look) where
    pub choice_left : (p q : ProcessTree) → FineProcess y i c (Choice p q) env store → FineProcess y i c p env store
    choice_left p q f = record {
      scope = f.scope;
      taken = f.taken;
      typed = f.typed.0;
      agrees = f.agrees;
      operands = f.operands.2;
      few_silent = λ n k w. f.few_silent n k (inl w);
      few_silent_after = f.few_silent_after.0;
      few_branches = let h = f.few_branches in omega (arith, h);
      matched = f.matched.0;
      sat = f.sat.0;
    }

    pub choice_right : (p q : ProcessTree) → FineProcess y i c (Choice p q) env store → FineProcess y i c q env store
    choice_right p q f = record {
      scope = f.scope;
      taken = f.taken;
      typed = f.typed.1;
      agrees = f.agrees;
      operands = f.operands.3;
      few_silent = λ n k w. f.few_silent n k (inr w);
      few_silent_after = f.few_silent_after.1;
      few_branches = let h = f.few_branches in omega (arith, h);
      matched = f.matched.1;
      sat = f.sat.1;
    }

    pub internal_left : (p q : ProcessTree) → FineProcess y i c (Internal p q) env store → FineProcess y i c p env store
    internal_left p q f = record {
      scope = f.scope;
      taken = f.taken;
      typed = f.typed.0;
      agrees = f.agrees;
      operands = f.operands.0;
      few_silent = λ n k w. let h = f.few_silent n (1 + k) (k, (refl, inl w)) in omega (arith, h);
      few_silent_after = f.few_silent_after.0;
      few_branches = let h = f.few_branches in omega (arith, h);
      matched = f.matched.0;
      sat = f.sat.0;
    }

    pub internal_right : (p q : ProcessTree) → FineProcess y i c (Internal p q) env store → FineProcess y i c q env store
    internal_right p q f = record {
      scope = f.scope;
      taken = f.taken;
      typed = f.typed.1;
      agrees = f.agrees;
      operands = f.operands.1;
      few_silent = λ n k w. let h = f.few_silent n (1 + k) (k, (refl, inr w)) in omega (arith, h);
      few_silent_after = f.few_silent_after.1;
      few_branches = let h = f.few_branches in omega (arith, h);
      matched = f.matched.1;
      sat = f.sat.1;
    }

    pub if_then : (g : FormulaTree) (p q : ProcessTree) → Holds (set_sizes y) env g [] → FineProcess y i c (If g p q) env store → FineProcess y i c p env store
    if_then g p q h f = record {
      scope = f.scope;
      taken = f.taken;
      typed = f.typed.1;
      agrees = f.agrees;
      operands = f.operands.0;
      few_silent = λ n k w. f.few_silent n k (inl w);
      few_silent_after = f.few_silent_after.0;
      few_branches = let h = f.few_branches in omega (arith, h);
      matched = f.matched.0;
      sat = f.sat.0 h;
    }

    pub if_else : (g : FormulaTree) (p q : ProcessTree) → (¬ Holds (set_sizes y) env g []) → FineProcess y i c (If g p q) env store → FineProcess y i c q env store
    if_else g p q h f = record {
      scope = f.scope;
      taken = f.taken;
      typed = f.typed.2;
      agrees = f.agrees;
      operands = f.operands.1;
      few_silent = λ n k w. f.few_silent n k (inr w);
      few_silent_after = f.few_silent_after.1;
      few_branches = let h = f.few_branches in omega (arith, h);
      matched = f.matched.1;
      sat = f.sat.1 h;
    }

-- ---- a definition's body

module _ (y : System) (typed : Typed y) (sound : Sound y) (i : ℕ) (c : Controller) (num : IsNumbered y i c) (store : Look) (own : OwnHold y c store) where
  pub body_fine : (j : ℕ) (ts : List TermTree) (env : Look) (d : Definition) (vs : List Value) → IsAt c.definitions j d → AreValues (set_sizes y) env ts vs →
      FineProcess y i c (Call j ts) env store → FineProcess y i c d.body (bound_look (names d.params) vs) store
  body_fine j ts env d vs at are f =
      let w = has_at (slice_get c.definitions j) _ d f.sat at vs are in
      let td = (typed.controllers i c num).definitions j d at in
      let sc = sound.controllers num.0 c num.1.1 in
      record {
        scope = scope_of d.params;
        taken = names d.params ++ global_names y;
        typed = td.body;
        agrees = agrees_bound (set_sizes y) d.params vs w.0;
        operands = td.operands;
        few_silent = td.few_silent;
        few_silent_after = td.few_silent_after;
        few_branches = td.few_branches;
        matched = sc.match j d at;
        sat = sc.loop j d at store vs w.0 own w.1;
      }
