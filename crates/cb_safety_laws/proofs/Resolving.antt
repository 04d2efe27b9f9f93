-- No process at which a controller is can fail to be resolved: after as many calls as there are definitions no call is left.
use Rattle.std.proofs.Common.{◌+◌, ◌≤◌, ℕ, zero, suc, Bool, false, List, [], ◌∷◌, ◌++◌, length, slice_get, slice_set, refl, inl, inr, arith}
use Rattle.cb_term.specs.declared.value.Value.{Value}
use Rattle.cb_term.specs.Tree.{TermTree}
use Rattle.cb_term.specs.Values.{Look}
use Rattle.cb_term.specs.Holds.{Holds}
use Rattle.cb_term.proofs.HoldsLemmas.{by_value}
use Rattle.cb_spec.specs.declared.system.Controller.{Controller}
use Rattle.cb_spec.specs.declared.system.Definition.{Definition}
use Rattle.cb_spec.specs.declared.system.System.{System}
use Rattle.cb_spec.specs.ProcessTree.{ProcessTree, Stop, Skip, Call, Prefix, Choice, Internal, If}
use Rattle.cb_spec.specs.Bound.{names, bound_look}
use Rattle.cb_spec.specs.States.{BranchView, ControlView, AtProcess, Offering, Done}
use Rattle.cb_spec.specs.Settling.{AreValues, number_of, Settles}
use Rattle.cb_spec.specs.Silent.{CallsLater, IsOperand}
use Rattle.cb_spec.specs.Journals.{set_sizes, IsNumbered}
use Rattle.cb_spec.specs.Typed.{Typed}
use Rattle.cb_spec.specs.Sound.{OwnHold, Sound, FineProcess}
use Rattle.cb_typed.proofs.Erasing.{some_and}
use Rattle.cb_safety_laws.specs.Steps.{ControlsResolve}
use Rattle.cb_safety_laws.proofs.Lists.{at_below}
use Rattle.cb_safety_laws.proofs.Parts.{internal_left, if_then, if_else, body_fine}
use Rattle.cb_safety_laws.proofs.Safety.{own_hold, numbered}

-- terms have values
pub values_are : (sizes : List ℕ) (env : Look) (ts : List TermTree) → ((vs : List Value) → ¬ AreValues sizes env ts vs) → ⊥
values_are sizes env [] none = none [] tt
values_are sizes env (t ∷ ts) none = by_value sizes env t [] ⊥ (λ h. h (λ f. f)) (λ v is. values_are sizes env ts (λ vs are. none (v ∷ vs) (is, are)))

module _ (sizes : List ℕ) (ds : List Definition) where
  abbrev Resolves : ProcessTree → Look → Type 0
  Resolves p env = ¬ ((n : ℕ) (sides : List Bool) (k : ControlView) → ¬ Settles sizes ds n p env sides k)

  -- an operand of `[]` gives branches, whatever the depth
  operand_offers : (n : ℕ) (p : ProcessTree) (env : Look) → IsOperand p → ¬ ((sides : List Bool) (bs : List BranchView) → ¬ Settles sizes ds n p env sides (Offering bs))
  operand_offers n Stop env o none = none [] [] (refl, refl)
  operand_offers n Skip env o none = o
  operand_offers n (Call k ts) env o none = o
  operand_offers n (Prefix e p) env o none = none [] (record { event = e; next = p; env = env } ∷ []) (refl, refl)
  operand_offers n (Choice p q) env o none =
      operand_offers n p env o.0 (λ us left a. operand_offers n q env o.1 (λ ws right b. none (us ++ ws) (left ++ right) (left, (right, (us, (ws, (a, b, refl, refl)))))))
  operand_offers n (Internal p q) env o none = o
  operand_offers n (If f p q) env o none =
      let fails : ¬ Holds sizes env f [] = λ t. operand_offers n p env o.0 (λ us bs a. none us bs (inl (t, a))) in
      operand_offers n q env o.1 (λ us bs b. none us bs (inr (fails, b)))

  -- from the process there are at most m calls before a prefix, STOP or SKIP
  abbrev pub Calls : ℕ → ProcessTree → Type 0
  Calls m Stop = Unit {0}
  Calls m Skip = Unit {0}
  Calls m (Call k ts) = length ds ≤ k + m
  Calls m (Prefix e p) = Unit {0}
  Calls m (Choice p q) = Calls m p × Calls m q
  Calls m (Internal p q) = Calls m p × Calls m q
  Calls m (If f p q) = Calls m p × Calls m q

  pub calls_at_first : (p : ProcessTree) → Calls (length ds) p
  calls_at_first Stop = tt
  calls_at_first Skip = tt
  calls_at_first (Call k ts) = omega arith
  calls_at_first (Prefix e p) = tt
  calls_at_first (Choice p q) = (calls_at_first p, calls_at_first q)
  calls_at_first (Internal p q) = (calls_at_first p, calls_at_first q)
  calls_at_first (If f p q) = (calls_at_first p, calls_at_first q)

  -- one less in the body of a definition that is called
  pub calls_then : (j m : ℕ) → length ds ≤ j + suc m → (p : ProcessTree) → CallsLater j p → Calls m p
  calls_then j m le Stop l = tt
  calls_then j m le Skip l = tt
  calls_then j m le (Call k ts) l = omega (arith, le, l)
  calls_then j m le (Prefix e p) l = tt
  calls_then j m le (Choice p q) l = (calls_then j m le p l.0, calls_then j m le q l.1)
  calls_then j m le (Internal p q) l = (calls_then j m le p l.0, calls_then j m le q l.1)
  calls_then j m le (If f p q) l = (calls_then j m le p l.0, calls_then j m le q l.1)

module _ (y : System) (typed : Typed y) (sound : Sound y) (i : ℕ) (c : Controller) (num : IsNumbered y i c) (store : Look) (own : OwnHold y c store) where
  resolves : (m : ℕ) (p : ProcessTree) (env : Look) → Calls (set_sizes y) c.definitions m p → FineProcess y i c p env store → Resolves (set_sizes y) c.definitions p env
  resolves m Stop env a f none = none 0 [] (Offering []) (refl, refl)
  resolves m Skip env a f none = none 0 [] Done (refl, refl)
  resolves m (Prefix e p) env a f none = none 0 [] (Offering (record { event = e; next = p; env = env } ∷ [])) (refl, refl)
  resolves m (Choice p q) env a f none =
      operand_offers (set_sizes y) c.definitions 0 p env f.operands.0 (λ us left u. operand_offers (set_sizes y) c.definitions 0 q env f.operands.1
      (λ ws right w. none 0 (us ++ ws) (Offering (left ++ right)) (left, (right, (us, (ws, (u, w, refl, refl)))))))
  resolves m (Internal p q) env a f none = resolves m p env a.0 (internal_left y i c env store p q f) (λ n sides k r. none n (false ∷ sides) k r)
  resolves m (If g p q) env a f none =
      let fails : ¬ Holds (set_sizes y) env g [] = λ t. resolves m p env a.0 (if_then y i c env store g p q t f) (λ n sides k r. none n sides k (inl (t, r))) in
      resolves m q env a.1 (if_else y i c env store g p q fails f) (λ n sides k r. none n sides k (inr (fails, r)))
  resolves zero (Call j ts) env a f none =
      let d = some_and (slice_get c.definitions j) _ f.typed in
      let below = at_below c.definitions j d.0 d.1 in
      omega (arith, a, below)
  resolves (suc m) (Call j ts) env a f none =
      let d = some_and (slice_get c.definitions j) _ f.typed in
      let later = ((typed.controllers i c num).definitions j d.0 d.1).calls_later in
      values_are (set_sizes y) env ts (λ vs are.
      resolves m d.0.body (bound_look (names d.0.params) vs) (calls_then (set_sizes y) c.definitions j m a d.0.body later) (body_fine y typed sound i c num store own j ts env d.0 vs d.1 are f)
      (λ n sides k r. none (suc n) sides k (d.0, (vs, (d.1, are, r)))))

pub controls_resolve : ControlsResolve
controls_resolve y typed sound s fit i p env at none =
    let here = numbered y typed sound s fit i (AtProcess p env) at in
    let c = here.0 in
    resolves y typed sound i c here.1 s.store (own_hold y typed sound s fit c) (length c.definitions) p env (calls_at_first (set_sizes y) c.definitions p) (fit.controls i c (AtProcess p env) here.1 at)
    (λ n sides k r. none (number_of sides) (record { store = s.store; controls = slice_set s.controls i k }) (record {
      controller = c;
      its = here.1;
      process = p;
      env = env;
      from = at;
      outcome = k;
      depth = n;
      sides = sides;
      settles = r;
      bits_are = refl;
      after = refl;
    }))
