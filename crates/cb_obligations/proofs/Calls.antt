-- Valid obligations make a machine sound, and a sound machine keeps its invariant.
use Rattle.std.proofs.Common.{◌≡◌, ℕ, zero, suc, ◌+◌, ◌<◌, Bool, true, false, ◌||◌, List, [], ◌∷◌, ◌++◌, flat_map, length, get_or, Option, Some, None, IsSome, ◌↔◌, refl, sym, ap, ◌∙◌, subst, arith, if◌then◌else◌, true≢false}
use Rattle.std.specs.Prelude.{Contains}
use Rattle.cb_term.specs.declared.name.Name.{Name}
use Rattle.cb_term.specs.declared.value.Value.{Value}
use Rattle.cb_term.specs.Names.{same_name}
use Rattle.cb_term.specs.Tree.{FormulaTree, Implies}
use Rattle.cb_term.specs.Values.{Look, nothing, set_at, IsOf}
use Rattle.cb_term.specs.Holds.{Holds}
use Rattle.cb_term.proofs.Equivalences.{then_iff, implies_iff}
use Rattle.cb_term.proofs.ClosedLemmas.{closed_holds}
use Rattle.cb_term.proofs.ValueLemmas.{same_name_tells}
use Rattle.cb_seq.specs.declared.sequent.Group.{Group}
use Rattle.cb_seq.specs.declared.sequent.Group.TheVariants as group
use Rattle.cb_seq.specs.Kinds.{kind_in, Gives}
use Rattle.cb_seq.specs.Validity.{Claim, AllValid}
use Rattle.cb_spec.specs.declared.system.Declared.{Declared}
use Rattle.cb_spec.specs.declared.system.Machine.{Machine}
use Rattle.cb_spec.specs.declared.system.Operation.{Operation}
use Rattle.cb_spec.specs.declared.system.System.{System}
use Rattle.cb_spec.specs.Domains.{kind_of_domain}
use Rattle.cb_spec.specs.Stores.{Writes, found, over, empty}
use Rattle.cb_spec.specs.Bound.{names, is_among, bind, only, AreOfKinds, GivesKinds}
use Rattle.cb_spec.specs.Runs.{Runs, Live}
use Rattle.cb_spec.specs.Journals.{set_sizes}
use Rattle.cb_spec.specs.Machines.{with_args, kept, MachineCall, MayCallAll, after_calls}
use Rattle.cb_spec.specs.States.{IsAt}
use Rattle.cb_spec.proofs.RunLemmas.{runs_agree, live_agrees}
use Rattle.cb_spec.proofs.StoreLemmas.{over_is, or_look}
use Rattle.cb_spec.specs.Sound.{SoundMachine}
use Rattle.cb_obligations.specs.Written.{EachName, IsWritten, IsPlain}
use Rattle.cb_obligations.specs.Transform.{transformed, live}
use Rattle.cb_obligations.specs.Laws.{UpTo}
use Rattle.cb_obligations.specs.Owed.{Owed, named, with_kinds, for_all, of_operation, pieces_of, init_owes, operation_owes, AllOwedValid}
use Rattle.cb_obligations.specs.Sufficing.{Differ, IsVariable, OperationFits, MachineFits, KeepsKinds, ObligationsSuffice, SoundIsCallSafe}
use Rattle.cb_obligations.proofs.NameLemmas.{agree_holds, each_name_weaken}
use Rattle.cb_obligations.proofs.Stores.{names_of, values_of, set_here, set_other}
use Rattle.cb_obligations.proofs.Formulas.{Steady, closed_over_holds}
use Rattle.cb_obligations.proofs.Transforms.{transform_right, live_right}
use Rattle.cb_obligations.proofs.Cutting.{pieces_suffice}
use Rattle.cb_obligations.proofs.FreeNames.{closed_names, written_known, transformed_names, live_names}

iff_back : {A B : Type 0} → (A ↔ B) → B ↔ A
iff_back p = (p.1, p.0)

pub neither : (a b : Bool) → (a || b) ≡ false → (a ≡ false) × (b ≡ false)
neither true b e = cc
neither false b e = (refl, e)

pub at_some : {A : Type 0} (xs : List A) (x : A) → Contains xs x → (j : ℕ) × IsAt xs j x
at_some {A = A} xs x c = by xs c.0 c.1 c.2
  where
    by : (ys : List A) (k : ℕ) → k < length ys → get_or ys k x ≡ x → (j : ℕ) × IsAt ys j x
    by [] k lt e = absurd (omega (arith, lt))
    by (y ∷ ys) zero lt e = (0, ap Some e)
    by (y ∷ ys) (suc k) lt e = let r = by ys k (omega (arith, lt)) e in (suc r.0, r.1)

-- ---- parameters

-- the names at the values, written one after the other
abbrev pub args_in : List Name → List Value → Look → Look
args_in [] vs s = s
args_in (x ∷ xs) [] s = s
args_in (x ∷ xs) (v ∷ vs) s = args_in xs vs (set_at s x v)

pub over_agrees : (d : Writes) (s t : Look) (y : Name) → s y ≡ t y → over d s y ≡ over d t y
over_agrees [] s t y e = e
over_agrees (p ∷ d) s t y e = ap (λ v. if same_name y p.0 then p.1 else v) (over_agrees d s t y e)

pub over_outside : (xs : List Name) (vs : List Value) (s : Look) (y : Name) → is_among y xs ≡ false → over (bind xs vs) s y ≡ s y
over_outside [] vs s y e = refl
over_outside (x ∷ xs) [] s y e = let n = neither _ _ e in ap (λ b. if b then nothing else over (bind xs []) s y) n.0 ∙ over_outside xs [] s y n.1
over_outside (x ∷ xs) (v ∷ vs) s y e = let n = neither _ _ e in ap (λ b. if b then v else over (bind xs vs) s y) n.0 ∙ over_outside xs vs s y n.1

-- ---- what is kept of a run's writes

pub kept_is : (xs : List Name) (d : Writes) (look : Look) (y : Name) → is_among y xs ≡ true → over (only xs d) look y ≡ over d look y
kept_is xs [] look y e = refl
kept_is xs (p ∷ d) look y e = by (is_among p.0 xs) refl (kept_is xs d look y e)
  where
    apart : (b : Bool) → same_name y p.0 ≡ b → is_among p.0 xs ≡ false → over d look y ≡ (if b then p.1 else over d look y)
    apart true s n = absurd (true≢false (sym e ∙ ap (λ z. is_among z xs) (same_name_tells y p.0 s) ∙ n))
    apart false s n = refl

    by : (b : Bool) → is_among p.0 xs ≡ b → over (only xs d) look y ≡ over d look y → over (if b then p ∷ only xs d else only xs d) look y ≡ over (p ∷ d) look y
    by true n r = ap (λ v. if same_name y p.0 then p.1 else v) r
    by false n r = r ∙ apart (same_name y p.0) refl n

pub written_over : (d : Writes) (s t : Look) (y : Name) → IsSome (found d y) → over d s y ≡ over d t y
written_over d s t y h = over_is d s y ∙ by (found d y) h ∙ sym (over_is d t y)
  where
    by : (o : Option Value) → IsSome o → or_look o (s y) ≡ or_look o (t y)
    by None h = cc
    by (Some w) h = refl

module _ (sizes : List ℕ) where
  pub args_agree : (ds : List Declared) (vs : List Value) (s : Look) (y : Name) → Differ (names ds) → AreOfKinds sizes ds vs →
      args_in (names ds) vs s y ≡ over (bind (names ds) vs) s y
  args_agree [] [] s y n k = refl
  args_agree [] (v ∷ vs) s y n k = absurd k
  args_agree (d ∷ ds) [] s y n k = absurd k
  args_agree (d ∷ ds) (v ∷ vs) s y n k = args_agree ds vs (set_at s d.name v) y n.1 k.1 ∙ by (same_name y d.name) refl
    where
      by : (b : Bool) → same_name y d.name ≡ b → over (bind (names ds) vs) (set_at s d.name v) y ≡ (if b then v else over (bind (names ds) vs) s y)
      by true e =
          let same : y ≡ d.name = same_name_tells y d.name e in
          subst (λ z. over (bind (names ds) vs) (set_at s d.name v) z ≡ v) (sym same)
          (over_outside (names ds) vs (set_at s d.name v) d.name n.0 ∙ set_here s d.name v)
      by false e = over_agrees (bind (names ds) vs) (set_at s d.name v) s y (set_other s d.name v y e)

  pub for_all_gives : (look : Look) (f : FormulaTree) → Steady sizes f → (ds : List Declared) (qs : Writes) →
      Holds sizes look (for_all (names_of qs) ds f) (values_of qs ++ []) → (vs : List Value) → AreOfKinds sizes ds vs →
      Holds sizes (args_in (names ds) vs (over qs look)) f []
  for_all_gives look f st [] qs h [] k = (st (over qs look) (values_of qs ++ [])).0 ((closed_over_holds sizes look qs [] f).0 h)
  for_all_gives look f st [] qs h (v ∷ vs) k = absurd k
  for_all_gives look f st (d ∷ ds) qs h [] k = absurd k
  for_all_gives look f st (d ∷ ds) qs h (v ∷ vs) k = for_all_gives look f st ds ((d.name, v) ∷ qs) (h v k.0) vs k.1

  pub for_all_names : (ds : List Declared) (xs : List Name) (f : FormulaTree) → EachName IsWritten f → EachName IsWritten (for_all xs ds f)
  for_all_names [] xs f w = closed_names xs f (written_known xs f w)
  for_all_names (d ∷ ds) xs f w = for_all_names ds (d.name ∷ xs) f w

  pub gives_kinds : (ds : List Declared) (look : Look) → GivesKinds sizes ds look → Gives sizes look (with_kinds ds)
  gives_kinds [] look h x k e = cc
  gives_kinds (d ∷ ds) look h x k e = by (same_name x d.name) refl e (gives_kinds ds look h.1 x k)
    where
      by : (b : Bool) → same_name x d.name ≡ b → (if b then Some (kind_of_domain d.domain) else kind_in (with_kinds ds) x) ≡ Some k →
          (kind_in (with_kinds ds) x ≡ Some k → IsOf sizes k (look x)) → IsOf sizes k (look x)
      by true s e r =
          let same : x ≡ d.name = same_name_tells x d.name s in
          let kind : kind_of_domain d.domain ≡ k = cc (e) in
          subst (λ y. IsOf sizes k (look y)) (sym same) (subst (λ j. IsOf sizes j (look d.name)) kind h.0)
      by false s e r = r e

  -- ---- the list

  pub named_valid : (g : Group) (owner : Name) (part : Option Name) (i : ℕ) (qs : List Claim) → AllOwedValid sizes (named g owner part i qs) → AllValid sizes qs
  named_valid g owner part i [] v = tt
  named_valid g owner part i (q ∷ qs) v = (v.0, named_valid g owner part (i + 1) qs v.1)

  pub owed_append : (as' bs : List Owed) → AllOwedValid sizes (as' ++ bs) → AllOwedValid sizes as' × AllOwedValid sizes bs
  owed_append [] bs v = (tt, v)
  owed_append (a ∷ as') bs v = let w = owed_append as' bs v.1 in ((v.0, w.0), w.1)

  listed_owed : (m : Machine) (os : List Operation) (j : ℕ) (o : Operation) → IsAt os j o → AllOwedValid sizes (flat_map (λ (p : Operation). operation_owes m p) os) →
      AllOwedValid sizes (operation_owes m o)
  listed_owed m [] j o e v = cc
  listed_owed m (p ∷ os) zero o e v =
      let same : p ≡ o = cc (e) in
      subst (λ z. AllOwedValid sizes (operation_owes m z)) same (owed_append (operation_owes m p) (flat_map (λ (q : Operation). operation_owes m q) os) v).0
  listed_owed m (p ∷ os) (suc j) o e v = listed_owed m os j o e (owed_append (operation_owes m p) (flat_map (λ (q : Operation). operation_owes m q) os) v).1

  pub plain_steady : (f : FormulaTree) → IsPlain f → Steady sizes f
  plain_steady f w l env = closed_holds sizes l ⊥ f 0 env [] (λ j lt. absurd (omega (arith, lt))) w.1

  module _ (m : Machine) (fits : MachineFits sizes m) where
    shown : (f : FormulaTree) → EachName IsWritten f → AllValid sizes (pieces_of m f) → (s : Look) → GivesKinds sizes m.variables s → Holds sizes s f []
    shown f w v s k = pieces_suffice sizes (with_kinds m.variables) [] 0 f fits.variables_written tt
        (each_name_weaken IsWritten (UpTo 0) (λ y e. omega (arith, e)) f w) v s (gives_kinds m.variables s k) tt

    module _ (o : Operation) (of : OperationFits sizes m o) (s : Look) (vs : List Value) (k : GivesKinds sizes m.variables s) (a : AreOfKinds sizes o.params vs)
        (h : Holds sizes s m.invariant []) (p : Holds sizes (with_args o vs s) o.pre []) where
      -- a formula of the operation holds where the precondition does
      at_args : (f : FormulaTree) → EachName IsWritten f → Steady sizes f → AllValid sizes (pieces_of m (of_operation m.invariant o f)) → Holds sizes (with_args o vs s) f []
      at_args f w st v =
          let g = Implies o.pre f in
          let gw : EachName IsWritten g = (of.pre_plain.0, w) in
          let all = shown (of_operation m.invariant o f) (fits.invariant_plain.0, for_all_names o.params [] g gw) v s k h in
          let steady : Steady sizes g = λ l env. implies_iff (plain_steady o.pre of.pre_plain l env) (st l env) in
          (agree_holds sizes (args_in (names o.params) vs s) (with_args o vs s) IsWritten (λ y e. args_agree o.params vs s y of.params_differ a) ⊥ g [] gw).0
          (for_all_gives s g steady o.params [] all vs a) p

      keeps : AllValid sizes (pieces_of m (of_operation m.invariant o (transformed o.body m.invariant))) → (d : Writes) → Runs sizes o.body (with_args o vs s) d →
          Holds sizes (kept m d s) m.invariant []
      keeps v d r =
          let t = with_args o vs s in
          let f = transformed o.body m.invariant in
          let right : (l : Look) (env : List Value) → Holds sizes l f env ↔ ((d : Writes) → Runs sizes o.body l d → Holds sizes (over d l) m.invariant []) =
          λ l env. transform_right sizes o.body m.invariant of.body_written of.body_fits fits.invariant_plain.1 l env in
          let w = at_args f (transformed_names o.body m.invariant of.body_written fits.invariant_plain.0) (λ l env. then_iff (right l env) (iff_back (right l []))) v in
          (agree_holds sizes (over d t) (kept m d s) (IsVariable m)
          (λ y e. over_agrees d t s y (over_outside (names o.params) vs s y (of.apart y e)) ∙ sym (kept_is (names m.variables) d s y e)) ⊥ m.invariant [] fits.invariant_names).0
          ((right t []).0 w d r)

      lives : AllValid sizes (pieces_of m (of_operation m.invariant o (live o.body))) → Live sizes o.body (with_args o vs s)
      lives v =
          let right : (l : Look) (env : List Value) → Holds sizes l (live o.body) env ↔ Live sizes o.body l = λ l env. live_right sizes o.body of.body_written of.body_fits l env in
          (right (with_args o vs s) []).0 (at_args (live o.body) (live_names o.body [] of.body_written) (λ l env. then_iff (right l env) (iff_back (right l []))) v)

    module _ (v : AllOwedValid sizes (init_owes m)) where
      parts : AllOwedValid sizes (named group.Init m.name None 1 (pieces_of m (transformed m.init m.invariant)))
          × AllOwedValid sizes (named group.Live m.name None 1 (pieces_of m (live m.init)))
      parts = owed_append (named group.Init m.name None 1 (pieces_of m (transformed m.init m.invariant))) (named group.Live m.name None 1 (pieces_of m (live m.init))) v

      pub starts : (d : Writes) → Runs sizes m.init empty d → Holds sizes (kept m d empty) m.invariant []
      starts d r =
          let s = fits.some_values.0 in
          let f = transformed m.init m.invariant in
          let all = shown f (transformed_names m.init m.invariant fits.init_written fits.invariant_plain.0) (named_valid group.Init m.name None 1 (pieces_of m f) parts.0) s fits.some_values.1 in
          let there = runs_agree sizes m.init empty s (λ y e. absurd (fits.init_reads y e)) d r in
          (agree_holds sizes (over d s) (kept m d empty) (IsVariable m)
          (λ y e. written_over d s empty y (fits.init_writes d r y e) ∙ sym (kept_is (names m.variables) d empty y e)) ⊥ m.invariant [] fits.invariant_names).0
          ((transform_right sizes m.init m.invariant fits.init_written fits.init_fits fits.invariant_plain.1 s []).0 all d there)

      pub starts_live : Live sizes m.init empty
      starts_live =
          let s = fits.some_values.0 in
          let all = shown (live m.init) (live_names m.init [] fits.init_written) (named_valid group.Live m.name None 1 (pieces_of m (live m.init)) parts.1) s fits.some_values.1 in
          live_agrees sizes m.init s empty (λ y e. absurd (fits.init_reads y e)) ((live_right sizes m.init fits.init_written fits.init_fits s []).0 all)

pub obligations_suffice : ObligationsSuffice
obligations_suffice y m fits v =
    let n = set_sizes y in
    let w = owed_append n (init_owes m) (flat_map (λ (p : Operation). operation_owes m p) m.operations) v in
    let two = λ (o : Operation) (q : AllOwedValid n (operation_owes m o)).
    owed_append n (named group.Op m.name (Some o.name) 1 (pieces_of m (of_operation m.invariant o (transformed o.body m.invariant))))
    (named group.Live m.name (Some o.name) 1 (pieces_of m (of_operation m.invariant o (live o.body)))) q in
    record {
      init = starts n m fits w.0;
      init_live = starts_live n m fits w.0;
      op = λ j o at store vs d k a h p r. keeps n m fits o (fits.operations j o at) store vs k a h p
          (named_valid n group.Op m.name (Some o.name) 1 (pieces_of m (of_operation m.invariant o (transformed o.body m.invariant))) (two o (listed_owed n m m.operations j o at w.1)).0) d r;
      op_live = λ j o at store vs k a h p. lives n m fits o (fits.operations j o at) store vs k a h p
          (named_valid n group.Live m.name (Some o.name) 1 (pieces_of m (of_operation m.invariant o (live o.body))) (two o (listed_owed n m m.operations j o at w.1)).1);
    }

-- ---- all calls

after_all : (y : System) (m : Machine) → KeepsKinds (set_sizes y) m → SoundMachine y m → (look : Look) → GivesKinds (set_sizes y) m.variables look →
    Holds (set_sizes y) look m.invariant [] → (cs : List MachineCall) → MayCallAll (set_sizes y) m look cs → Holds (set_sizes y) (after_calls m look cs) m.invariant []
after_all y m keep sound look k h [] may = h
after_all y m keep sound look k h (c ∷ cs) may =
    let call = may.0 in
    let at = at_some m.operations c.operation call.listed in
    after_all y m keep sound (kept m c.writes look) (keep.stays at.0 c.operation at.1 look c.args c.writes k call.kinds call.runs)
    (sound.op at.0 c.operation at.1 look c.args c.writes k call.kinds h call.precondition call.runs) cs may.1

pub sound_is_safe : SoundIsCallSafe
sound_is_safe y m keep sound look start cs may =
    let k = subst (GivesKinds (set_sizes y) m.variables) (sym start.1.1) (keep.begins start.0 start.1.0) in
    let h = subst (λ s. Holds (set_sizes y) s m.invariant []) (sym start.1.1) (sound.init start.0 start.1.0) in
    after_all y m keep sound look k h cs may
