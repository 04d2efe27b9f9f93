-- Processes without a fault are typed.
use Rattle.std.proofs.Common.{◌≡◌, ℕ, suc, ◌+◌, ◌==◌, ◌||◌, Bool, true, false, not, ◌⊎◌, inl, inr, List, [], ◌∷◌, ◌++◌, map, length, Option, Some, None, refl, sym, ap, ◌∙◌, subst, true≢false, arith, slice_get, Contains, eq-eqb}
use Rattle.std.proofs.lemmas.Bool.{eqb-true}
use Rattle.std.proofs.lemmas.List.{length-map}
use Rattle.std.proofs.lemmas.Option.{same_Some}
use Rattle.cb_lex.specs.declared.raw.event.RawEvent.TheVariants as raw_event
use Rattle.cb_lex.specs.declared.raw.name.RawName.{RawName}
use Rattle.cb_lex.specs.declared.raw.text.RawChannel.{RawChannel}
use Rattle.cb_lex.specs.declared.raw.text.RawController.{RawController}
use Rattle.cb_lex.specs.declared.raw.text.RawMachine.{RawMachine}
use Rattle.cb_lex.specs.declared.raw.text.RawOperation.{RawOperation}
use Rattle.cb_lex.specs.declared.raw.text.RawText.{RawText}
use Rattle.cb_lex.specs.RawProcessTree.{RawProcessTree, RawProcesses}
use Rattle.cb_lex.specs.RawProcessTree as raw
use Rattle.cb_lex.specs.RawTermTree.{RawTermTree, RawFormulaTree}
use Rattle.cb_term.specs.declared.name.Name.{Name}
use Rattle.cb_spec.specs.declared.event.Event.TheVariants as event
use Rattle.cb_spec.specs.declared.system.Controller.{Controller}
use Rattle.cb_spec.specs.declared.system.System.{System}
use Rattle.cb_spec.specs.ProcessTree.{ProcessTree, Call, Prefix, Choice, Internal}
use Rattle.cb_spec.specs.Bound.{names}
use Rattle.cb_spec.specs.Journals.{set_sizes}
use Rattle.cb_spec.specs.Typed.{global_names}
use Rattle.cb_spec.specs.TypedProcesses.{scope_of, scope_at, result_forms as typed_results, TypedNote, TypedProcess}
use Rattle.cb_spec.specs.TypedTerms.{Scope}
use Rattle.cb_forms.specs.declared.form.Form.{Form as Known}
use Rattle.cb_forms.specs.Faults.{Faults}
use Rattle.cb_forms.specs.Find.{found, is_in}
use Rattle.cb_forms.specs.Kinds.{form_of}
use Rattle.cb_judge.specs.declared.names.Entry.{Entry}
use Rattle.cb_judge.specs.declared.names.Meaning.{Meaning}
use Rattle.cb_judge.specs.declared.names.View.{View}
use Rattle.cb_judge.specs.Meanings.{Names, double_fault}
use Rattle.cb_judge.specs.Judged.{entry}
use Rattle.cb_judge.specs.Substs.{results_after}
use Rattle.cb_spec.specs.TypedSubsts.{result_form}
use Rattle.cb_types.specs.Declares.{inner_view, machine_number}
use Rattle.cb_types.specs.MachineFaults.{maybe_fault, machine_fault, inside_operation}
use Rattle.cb_types.specs.NormalMachines.{known_in, written_name, declared_name, operation_in, operation_inside, operation_with, machine_in, machine_with, result_name}
use Rattle.cb_typing.specs.WrittenText.{FitsNumbers, IsWrittenFormula, IsWrittenMachine}
use Rattle.cb_typing.specs.Reflects.{Reflects}
use Rattle.cb_typing.proofs.Clean.{Clean, not_bad}
use Rattle.cb_typing.proofs.Domains.{Stays}
use Rattle.cb_typing.proofs.Lookups.{found_front, found_last, beside_is, beside_new, inside_cases}
use Rattle.cb_typing.proofs.Terms.{formula_good}
use Rattle.cb_typing.proofs.Under.{new_name}
use Rattle.cb_text_laws.specs.TextNames.{text_names, outer_view, own_machines, channel_meaning, channel_number, number_or_none, numbered}
use Rattle.cb_text_laws.specs.Signatures.{known_of, operation_assigned, forms_of, value_domains, inside_channel, channel_of, parameter_domains, parameter_names, parameters_of, Definitions, operation_domains, result_forms, Callee, callee_at, callee}
use Rattle.cb_text_laws.specs.ProcessFaults.{first_meaning, other_forms, with_local, with_locals, bound_fault, arguments_fault, forms_at, noted, output_fault, input_fault, unknown_operation, results_at, operation_call_fault, call_fault, process_fault, processes_fault}
use Rattle.cb_text_laws.specs.UseFaults.{sending, receiving, users_of, is_number}
use Rattle.cb_text_laws.specs.ControllerFaults.{table_of}
use Rattle.cb_text_laws.specs.NormalProcesses.{note_in, arguments_in, machine_of_callee, number_of_callee, definition_number, process_in, choices_in, internals_in}
use Rattle.cb_text_laws.specs.NormalTexts.{order_in, position, channel_with, definition_with, definition_in, controller_with, controller_in, user_or}
use Rattle.cb_text_laws.specs.SpelledText.{IsSpelledText, AreWrittenTerms, IsWrittenProcess, AreWrittenProcesses}
use Rattle.cb_text_laws.specs.WholeText.{WellFormedButEnds, IsSystemOf}
use Rattle.cb_text_laws.proofs.Arguments.{counted, arguments_typed}
use Rattle.cb_typing.proofs.Systems.{machine_at}
use Rattle.cb_text_laws.proofs.Globals.{machines_clean}
use Rattle.cb_text_laws.proofs.Channels.{at_channel, channel_there, channel_reflects, value_domain}
use Rattle.cb_text_laws.proofs.Locals.{AreProper, local_scope, locals_bound, scope_at_declared, forms_proper, forms_count}
use Rattle.cb_text_laws.proofs.Outside.{machine_slot, outer_reflects, slot}
use Rattle.cb_text_laws.proofs.Tables.{slot_map, definition_is, operation_is, callee_is}
use Rattle.cb_text_laws.proofs.Uses.{RightName, Right, AllRight}

-- ---- more names on both sides

fresh_before : (w w' : Names) → Stays w w' → (x : List ℕ) → found x w' ≡ None → found x w ≡ None
fresh_before w w' s x n = by (found x w) refl
  where
    by : (o : Option Entry) → found x w ≡ o → found x w ≡ None
    by None q = q
    by (Some e) q = let i = sym (s x e q) ∙ n in let no : ⊥ = cc in absurd no

stays_local : (w w' : Names) → Stays w w' → (x : RawName) (f : Meaning) → found x.text w' ≡ None → Stays (with_local x f w) (with_local x f w')
stays_local w w' s x f n y e h =
    let there = beside_new x.text (entry f x.place) w' n in
    let old = beside_is x.text (entry f x.place) w (fresh_before w w' s x.text n) in
    ap (found y) there ∙ by (inside_cases y x.text (entry f x.place) e w (sym (ap (found y) old) ∙ h))
  where
    by : (found y w ≡ Some e) ⊎ ((y ≡ x.text) × (entry f x.place ≡ e)) → found y (w' ++ (x.text, entry f x.place) ∷ []) ≡ Some e
    by (inl q) = found_front y e w' ((x.text, entry f x.place) ∷ []) (s y e q)
    by (inr q) = ap (λ z. found z (w' ++ (x.text, entry f x.place) ∷ [])) q.0 ∙ found_last x.text (entry f x.place) w' n ∙ ap Some q.1

no_double : (w : Names) (x : RawName) → found x.text w ≡ None → Clean (double_fault w x)
no_double w x e = rw e tt

bound_before : (xs : List RawName) (fs : List Known) (w w' : Names) → Stays w w' → Clean (bound_fault w' xs fs) → Clean (bound_fault w xs fs)
bound_before [] fs w w' s h = tt
bound_before (x ∷ xs) fs w w' s h =
    let n = new_name w' x h.0 in
    (no_double w x (fresh_before w w' s x.text n), bound_before xs (other_forms fs) (with_local x (first_meaning fs) w) (with_local x (first_meaning fs) w') (stays_local w w' s x (first_meaning fs) n) h.1)

nothing : {A : Type 0} (xs : List A) → xs ++ [] ≡ xs
nothing [] = refl
nothing (x ∷ xs) = ap (λ ys. x ∷ ys) (nothing xs)

pub in_contains : (k : ℕ) (ks : List ℕ) → is_in k ks ≡ true → Contains ks k
in_contains k [] e = absurd (true≢false (sym e))
in_contains k (j ∷ ks) e = by (k == j) refl e (in_contains k ks)
  where
    by : (b : Bool) → (k == j) ≡ b → (b || is_in k ks) ≡ true → (is_in k ks ≡ true → Contains ks k) → Contains (j ∷ ks) k
    by true q e r = (0, omega arith, sym (eqb-true k j q))
    by false q e r = let w = r e in let l = w.1 in (suc w.0, omega (arith, l), w.2)

none_left : (a b : Bool) → (not a || b) ≡ false → (a ≡ true) × (b ≡ false)
none_left true false e = (refl, refl)
none_left true true e = absurd (true≢false e)
none_left false b e = absurd (true≢false e)

both_good : (a b : Bool) → (not a || not b) ≡ false → (a ≡ true) × (b ≡ true)
both_good true true e = (refl, refl)
both_good true false e = absurd (true≢false e)
both_good false b e = absurd (true≢false e)

-- ---- a machine of the text

pub machine_fact : (t : RawText) → IsSpelledText t → WellFormedButEnds t → (k : ℕ) (m : RawMachine) → slice_get t.machines k ≡ Some m → IsWrittenMachine m × Clean (machine_fault (known_in t.machines) (text_names t) k m)
machine_fact t so well k m e =
    let l = so.machines.few_machines in
    let f : FitsNumbers (0 + length t.machines) = omega (arith, l) in
    let q : 0 + k ≡ k = omega arith in
    let a = machine_at (known_in t.machines) (text_names t) t.machines 0 f so.machines.machines (machines_clean t well) k (machine_in (known_in t.machines) (text_names t) (0 + k) m) (machine_slot (known_in t.machines) (text_names t) t.machines 0 f k m e) in
    let i : a.raw ≡ m = same_Some a.raw m (sym a.there ∙ e) in
    subst (λ m. IsWrittenMachine m × Clean (machine_fault (known_in t.machines) (text_names t) k m)) i (a.written, subst (λ o. Clean (machine_fault (known_in t.machines) (text_names t) o a.raw)) q a.clean)

module _ (t : RawText) (so : IsSpelledText t) (well : WellFormedButEnds t) (y : System) (sys : IsSystemOf t y) (i place : ℕ) (at : position place (order_in (text_names t) t.order) ≡ i) (c : RawController) (few : FitsNumbers (length c.definitions)) where
  abbrev before : Names
  before = known_in t.machines

  abbrev G : Names
  G = text_names t

  abbrev v : View
  v = outer_view t.machines

  abbrev own : List ℕ
  own = own_machines G c

  abbrev table : Definitions
  table = table_of before G t.machines t.channels c

  abbrev C : Controller
  C = controller_in before G t.machines t.channels c

  abbrev sizes : List ℕ
  sizes = set_sizes y

  abbrev global : List Name
  global = global_names y

  abbrev T : Scope → List Name → ProcessTree → Type 0
  T scope taken p = TypedProcess y global i C scope taken p

  abbrev P : Names → RawProcessTree → ProcessTree
  P ns p = process_in before G t.machines t.channels v own table ns p

  abbrev F : ℕ → Names → Bool → RawProcessTree → Faults
  F j ns guarded p = process_fault before G t.machines t.channels v own table j ns guarded p

  -- the results of an operation that is called have the forms that are judged
  abbrev pub ResultsAre : Type 0
  ResultsAre = (k : ℕ) (m : RawMachine) → slice_get t.machines k ≡ Some m → (j : ℕ) (o : RawOperation) → slice_get m.operations j ≡ Some o →
      (typed_results sizes (machine_in before G k m) (operation_in (inner_view before k m) G o) ≡ map form_of (result_forms before G k m o)) × AreProper (result_forms before G k m o)

  -- each use of a channel is of its user
  abbrev pub Rights : RawProcessTree → Type 0
  Rights p = (k : ℕ) (ch : RawChannel) → slice_get t.channels k ≡ Some ch → Right G sending k (users_of G sending k t.controllers).user place p × Right G receiving k (users_of G receiving k t.controllers).user place p

  abbrev AllRights : RawProcesses → Type 0
  AllRights ps = (k : ℕ) (ch : RawChannel) → slice_get t.channels k ≡ Some ch → AllRight G sending k (users_of G sending k t.controllers).user place ps × AllRight G receiving k (users_of G receiving k t.controllers).user place ps

  -- local names are added to the global ones
  pub record Over (ns : Names) : Type 0 where
    pub stays : Stays G ns
    pub channels : (x : List ℕ) (k : ℕ) → channel_number (found x ns) ≡ Some k → channel_number (found x G) ≡ Some k

  pub over_global : Over G
  over_global = record { stays = λ x e h. h; channels = λ x k e. e }

  no_channel : (fs : List Known) → channel_meaning (first_meaning fs) ≡ None
  no_channel [] = refl
  no_channel (f ∷ fs) = refl

  over_local : (ns : Names) → Over ns → (x : RawName) (f : Meaning) → channel_meaning f ≡ None → found x.text ns ≡ None → Over (with_local x f ns)
  over_local ns o x f c n = record { stays = λ z e h. ap (found z) there ∙ found_front z e ns ((x.text, new) ∷ []) (o.stays z e h); channels = λ z k e. by z k (found z (with_local x f ns)) refl e }
    where
      new : Entry
      new = entry f x.place

      there : with_local x f ns ≡ ns ++ (x.text, new) ∷ []
      there = beside_new x.text new ns n

      by : (z : List ℕ) (k : ℕ) (r : Option Entry) → found z (with_local x f ns) ≡ r → channel_number r ≡ Some k → channel_number (found z G) ≡ Some k
      by z k None q e = let no : ⊥ = cc in absurd no
      by z k (Some r) q e = last (inside_cases z x.text new r ns (sym (ap (found z) (beside_is x.text new ns n)) ∙ q))
        where
          last : (found z ns ≡ Some r) ⊎ ((z ≡ x.text) × (new ≡ r)) → channel_number (found z G) ≡ Some k
          last (inl h) = o.channels z k (ap channel_number h ∙ e)
          last (inr h) = let m : channel_meaning f ≡ Some k = ap (λ r. channel_number (Some r)) h.1 ∙ e in let q = sym c ∙ m in let no : ⊥ = cc in absurd no

  pub over_locals : (xs : List RawName) (fs : List Known) (ns : Names) → Over ns → Clean (bound_fault ns xs fs) → Over (with_locals ns xs fs)
  over_locals [] fs ns o h = o
  over_locals (x ∷ xs) fs ns o h = over_locals xs (other_forms fs) (with_local x (first_meaning fs) ns) (over_local ns o x (first_meaning fs) (no_channel fs) (new_name ns x h.0)) h.1

  -- ---- channels

  record ChannelIs (ns : Names) (x : RawName) (ch : RawChannel) : Type 0 where
    number : ℕ
    is : channel_number (found x.text ns) ≡ Some number
    there : slice_get t.channels number ≡ Some ch

  channel_is : (ns : Names) (x : RawName) (ch : RawChannel) → channel_of t.channels ns x ≡ Some ch → ChannelIs ns x ch
  channel_is ns x ch e = by (channel_number (found x.text ns)) refl e
    where
      by : (o : Option ℕ) → channel_number (found x.text ns) ≡ o → numbered t.channels o ≡ Some ch → ChannelIs ns x ch
      by None q e = let no : ⊥ = cc in absurd no
      by (Some k) q e = record { number = k; is = q; there = e }

  same_number : (k : ℕ) (o : Option ℕ) → o ≡ Some k → is_number k o ≡ true
  same_number k o e = rw e (eq-eqb k k refl)

  note_typed : (ns : Names) (scope : Scope) (taken : List Name) → Reflects v ns sizes scope taken [] → (said : Option RawFormulaTree) → IsWrittenFormula said → Clean (maybe_fault v ns said) → TypedNote sizes scope taken (note_in v ns said)
  note_typed ns scope taken r None w h = tt
  note_typed ns scope taken r (Some f) w h = formula_good v sizes scope taken f ns [] r (omega (arith, w)) h

  output_typed : (ns : Names) (scope : Scope) (taken : List Name) → Reflects v ns sizes scope taken [] → Over ns → (x : RawName) (ts : List RawTermTree) (said : Option RawFormulaTree) → AreWrittenTerms ts → IsWrittenFormula said →
      ((k : ℕ) (ch : RawChannel) → slice_get t.channels k ≡ Some ch → RightName G sending k (users_of G sending k t.controllers).user place (Some x)) → (o : Option RawChannel) → channel_of t.channels ns x ≡ o →
      Clean (output_fault before G t.machines t.channels v own table ns x ts said o) → (q : ProcessTree) → T scope taken q →
      T scope taken (Prefix (event.Output (number_or_none (channel_number (found x.text ns))) (arguments_in v ns ts) (note_in v (noted before G t.machines t.channels v own table o) said)) q)
  unfolding channel_with
  output_typed ns scope taken r over x ts said w u right None e h q rest = absurd h.0
  output_typed ns scope taken r over x ts said w u right (Some ch) e h q rest =
      let d = channel_is ns x ch e in
      let a = at_channel t so well y sys d.number ch d.there in
      let ds = value_domains v G ch in
      let user = right d.number ch d.there (same_number d.number (channel_number (found x.text G)) (over.channels x.text d.number d.is)) in
      let n : length ts ≡ length ch.values = counted (length ts) (length ch.values) x.place h.0 in
      let args = arguments_typed v sizes ns scope taken r ds ch.values ts n w h.1.0 in
      let noted = note_typed (inside_channel v G ch) (scope_of (map (declared_name ds) ch.values)) (names (map (declared_name ds) ch.values) ++ global) (channel_reflects t so well y sys ch a) said u h.1.1 in
      rw d.is (rw (channel_there t so well y sys d.number ch d.there) ((ap (user_or (length t.controllers) (order_in (text_names t) t.order)) user ∙ at, args, noted), rest))

  input_typed : (ns : Names) (scope : Scope) (taken : List Name) → Reflects v ns sizes scope taken [] → Over ns → (x : RawName) (xs : List RawName) (said : Option RawFormulaTree) → IsWrittenFormula said →
      ((k : ℕ) (ch : RawChannel) → slice_get t.channels k ≡ Some ch → RightName G receiving k (users_of G receiving k t.controllers).user place (Some x)) → (o : Option RawChannel) → channel_of t.channels ns x ≡ o →
      Clean (input_fault before G t.machines t.channels v own table ns x xs said o) → (q : Names → ProcessTree) →
      ((ns' : Names) (scope' : Scope) (taken' : List Name) → Reflects v ns' sizes scope' taken' [] → Over ns' → ns' ≡ with_locals ns xs (forms_at before G t.machines t.channels v own table o) → T scope' taken' (q ns')) →
      T scope taken (Prefix (event.Input (number_or_none (channel_number (found x.text ns))) (map written_name xs) (note_in v (with_locals G xs (forms_at before G t.machines t.channels v own table o)) said))
      (q (with_locals ns xs (forms_at before G t.machines t.channels v own table o))))
  unfolding channel_with
  input_typed ns scope taken r over x xs said u right None e h q rest = absurd h.0
  input_typed ns scope taken r over x xs said u right (Some ch) e h q rest =
      let d = channel_is ns x ch e in
      let a = at_channel t so well y sys d.number ch d.there in
      let ds = value_domains v G ch in
      let fs = forms_of ds ch.values in
      let user = right d.number ch d.there (same_number d.number (channel_number (found x.text G)) (over.channels x.text d.number d.is)) in
      let n : length xs ≡ length ch.values = counted (length xs) (length ch.values) x.place h.0 in
      let n' : length xs ≡ length fs = n ∙ forms_count ds ch.values in
      let m : length xs ≡ length (map written_name xs) = sym (length-map xs written_name) in
      let l : length ch.values ≡ length (map (declared_name ds) ch.values) = sym (length-map ch.values (declared_name ds)) in
      let proper = forms_proper sizes ds ch.values (λ x h. value_domain t so well y sys ch a x h) in
      let b = locals_bound v sizes xs fs ns scope taken r n' proper h.1.0 in
      let g = locals_bound v sizes xs fs G [] global (outer_reflects t so well y sys) n' proper (bound_before xs fs G ns over.stays h.1.0) in
      let s : local_scope xs fs ≡ scope_at (map written_name xs) (map (declared_name ds) ch.values) = sym (scope_at_declared xs ds ch.values) in
      let noted : TypedNote sizes (local_scope xs fs) (map written_name xs ++ global) (note_in v (with_locals G xs fs) said) =
      note_typed (with_locals G xs fs) (local_scope xs fs) (map written_name xs ++ global) (subst (λ s. Reflects v (with_locals G xs fs) sizes s (map written_name xs ++ global) []) (nothing (local_scope xs fs)) g.reflects) said u h.1.1 in
      let after : T (local_scope xs fs ++ scope) (map written_name xs ++ taken) (q (with_locals ns xs fs)) = rest (with_locals ns xs fs) (local_scope xs fs ++ scope) (map written_name xs ++ taken) b.reflects (over_locals xs fs ns over h.1.0) refl in
      rw d.is (
        b.new,
        rw (channel_there t so well y sys d.number ch d.there) (
          ap (user_or (length t.controllers) (order_in (text_names t) t.order)) user ∙ at,
          sym m ∙ n ∙ l,
          subst (λ s. TypedNote sizes s (map written_name xs ++ global) (note_in v (with_locals G xs fs) said)) s noted,
          subst (λ s. T (s ++ scope) (map written_name xs ++ taken) (q (with_locals ns xs fs))) s after,
        ),
      )

  -- ---- operations

  call_typed : ResultsAre → (ns : Names) (scope : Scope) (taken : List Name) → Reflects v ns sizes scope taken [] → Over ns → (x z : RawName) (ts : List RawTermTree) (xs : List RawName) → AreWrittenTerms ts →
      (o : Option Callee) → callee_at before G t.machines (machine_number (found x.text ns)) z.text ≡ o →
      Clean (operation_call_fault before G t.machines t.channels v own table ns x z ts xs o) → (q : Names → ProcessTree) →
      ((ns' : Names) (scope' : Scope) (taken' : List Name) → Reflects v ns' sizes scope' taken' [] → Over ns' → ns' ≡ with_locals ns xs (results_at before G t.machines t.channels v own table o) → T scope' taken' (q ns')) →
      T scope taken (Prefix (event.Call (machine_of_callee o) (number_of_callee o) (arguments_in v ns ts) (map written_name xs)) (q (with_locals ns xs (results_at before G t.machines t.channels v own table o))))
  unfolding machine_in machine_with operation_in operation_inside operation_with controller_with
  call_typed results ns scope taken r over x z ts xs w None e h q rest = by (machine_number (found x.text ns)) h.0.0
    where
      by : (k : Option ℕ) → Clean (unknown_operation before G t.machines t.channels v own table k None x z) → T scope taken (Prefix (event.Call 0 0 (arguments_in v ns ts) (map written_name xs)) (q (with_locals ns xs [])))
      by None h = absurd h
      by (Some k) h = let f = none_left (is_in k own) true (not_bad _ 2 z.place h) in absurd (true≢false f.1)
  call_typed results ns scope taken r over x z ts xs w (Some o) e h q rest =
      let f = callee_is before G t.machines (machine_number (found x.text ns)) z.text o e in
      let m = f.1.machine in
      let op = f.1.raw in
      let ds = operation_domains before G o.machine m op in
      let mine : is_in o.machine own ≡ true = (none_left (is_in o.machine own) false (not_bad _ 2 z.place (subst (λ k. Clean (unknown_operation before G t.machines t.channels v own table k (Some o) x z)) f.0 h.0.0))).0 in
      let fact = machine_fact t so well o.machine m f.1.machine_there in
      let n = fact.0.few_operations in
      let p = operation_is f.1.listed.0 m.operations 0 (omega (arith, n)) (o.operation, op) f.1.listed.1 in
      let q' : o.operation ≡ p.place = omega (arith, p.number) in
      let there : slice_get (map (operation_in (inner_view before o.machine m) G) m.operations) o.operation ≡ Some (operation_in (inner_view before o.machine m) G op) =
      ap (slice_get (map (operation_in (inner_view before o.machine m) G) m.operations)) q' ∙ slot_map (operation_in (inner_view before o.machine m) G) m.operations p.place op p.there in
      let counts = both_good (length ts == length o.parameters) (length xs == length o.results) (not_bad _ 22 z.place h.0.1) in
      let c1 : length ts ≡ length o.parameters = eqb-true (length ts) (length o.parameters) counts.0 in
      let c2 : length xs ≡ length o.results = eqb-true (length xs) (length o.results) counts.1 in
      let given : length ts ≡ length op.parameters = c1 ∙ ap length f.1.parameters ∙ sym (forms_count ds op.parameters) in
      let args = arguments_typed v sizes ns scope taken r ds op.parameters ts given w (subst (λ fs. Clean (arguments_fault v ns fs ts)) f.1.parameters h.1.0) in
      let k = results o.machine m f.1.machine_there p.place op p.there in
      let forms : typed_results sizes (machine_in before G o.machine m) (operation_in (inner_view before o.machine m) G op) ≡ map form_of o.results = k.0 ∙ sym (ap (map form_of) f.1.results) in
      let proper : AreProper o.results = subst AreProper (sym f.1.results) k.1 in
      let b = locals_bound v sizes xs o.results ns scope taken r c2 proper h.1.1 in
      let after : T (local_scope xs o.results ++ scope) (map written_name xs ++ taken) (q (with_locals ns xs o.results)) = rest (with_locals ns xs o.results) (local_scope xs o.results ++ scope) (map written_name xs ++ taken) b.reflects (over_locals xs o.results ns over h.1.1) refl in
      let m' = length-map xs written_name in
      let r' = length-map op.results (λ (x : RawName). known_of (result_form (found x.text (operation_assigned before G o.machine m op)))) in
      let r'' = length-map op.results (result_name (results_after (inner_view before o.machine m) (inside_operation ds op G) [] op.body)) in
      let enough : length (map written_name xs) ≡ length (map (result_name (results_after (inner_view before o.machine m) (inside_operation ds op G) [] op.body)) op.results) = m' ∙ c2 ∙ ap length f.1.results ∙ r' ∙ sym r'' in
      (in_contains o.machine own mine, b.new, rw (slot t so well y sys o.machine m f.1.machine_there) (rw there (args, enough, rw forms after)))

  -- ---- definitions

  pub definition_called : (ns : Names) (scope : Scope) (taken : List Name) → Reflects v ns sizes scope taken [] → (x : RawName) (ts : List RawTermTree) → AreWrittenTerms ts → (j : ℕ) (guarded : Bool) → (o : Option (ℕ × List Known)) → found x.text table ≡ o →
      Clean (call_fault before G t.machines t.channels v own table j guarded x (length ts) o) → Clean (arguments_fault v ns (parameters_of o) ts) → T scope taken (Call (definition_number o) (arguments_in v ns ts))
  unfolding definition_with controller_with
  definition_called ns scope taken r x ts w j guarded None e h k = absurd h
  definition_called ns scope taken r x ts w j guarded (Some d) e h k =
      let f = definition_is v G x.text c.definitions 0 (omega (arith, few)) d e in
      let q : d.0 ≡ f.place = omega (arith, f.number) in
      let ds = parameter_domains v G f.raw in
      let there : slice_get C.definitions d.0 ≡ Some (definition_in before G t.machines t.channels own table f.raw) =
      ap (slice_get C.definitions) q ∙ slot_map (definition_in before G t.machines t.channels own table) c.definitions f.place f.raw f.there in
      let n : length ts ≡ length (parameter_names f.raw) = counted (length ts) (length d.1) x.place h.1 ∙ ap length f.forms ∙ sym (forms_count ds (parameter_names f.raw)) in
      rw there (arguments_typed v sizes ns scope taken r ds (parameter_names f.raw) ts n w (subst (λ fs. Clean (arguments_fault v ns fs ts)) f.forms k))

  -- ---- processes

  module _ (results : ResultsAre) where
    mutual
      pub process_typed : (p : RawProcessTree) (ns : Names) (scope : Scope) (taken : List Name) → Reflects v ns sizes scope taken [] → Over ns → IsWrittenProcess p → Rights p → (j : ℕ) (guarded : Bool) → Clean (F j ns guarded p) → T scope taken (P ns p)
      process_typed (raw.Stop q) ns scope taken r over w u j guarded h = tt
      process_typed (raw.Skip q) ns scope taken r over w u j guarded h = tt
      process_typed (raw.Call d) ns scope taken r over w u j guarded h = definition_called ns scope taken r d.name d.arguments w j guarded (found d.name.text table) refl h.0 h.1
      process_typed (raw.If q f a b) ns scope taken r over w u j guarded h = (
        formula_good v sizes scope taken f ns [] r (let l = w.0 in omega (arith, l)) h.0,
        process_typed a ns scope taken r over w.1 (λ k ch e. ((u k ch e).0.0, (u k ch e).1.0)) j guarded h.1.0,
        process_typed b ns scope taken r over w.2 (λ k ch e. ((u k ch e).0.1, (u k ch e).1.1)) j guarded h.1.1,
      )
      process_typed (raw.Prefix (raw_event.Output x ts said) a) ns scope taken r over w u j guarded h =
          output_typed ns scope taken r over x ts said w.0.0 w.0.1 (λ k ch e. (u k ch e).0.0) (channel_of t.channels ns x) refl h.0 (P ns a)
          (process_typed a ns scope taken r over w.1 (λ k ch e. ((u k ch e).0.1, (u k ch e).1.1)) j true h.1)
      process_typed (raw.Prefix (raw_event.Input x xs said) a) ns scope taken r over w u j guarded h =
          input_typed ns scope taken r over x xs said w.0 (λ k ch e. (u k ch e).1.0) (channel_of t.channels ns x) refl h.0 (λ ns'. P ns' a)
          (λ ns' scope' taken' r' over' q. process_typed a ns' scope' taken' r' over' w.1 (λ k ch e. ((u k ch e).0.1, (u k ch e).1.1)) j true (subst (λ n. Clean (F j n true a)) (sym q) h.1))
      process_typed (raw.Prefix (raw_event.Operation x z ts xs) a) ns scope taken r over w u j guarded h =
          call_typed results ns scope taken r over x z ts xs w.0 (callee before G t.machines ns x z) refl h.0 (λ ns'. P ns' a)
          (λ ns' scope' taken' r' over' q. process_typed a ns' scope' taken' r' over' w.1 (λ k ch e. ((u k ch e).0.1, (u k ch e).1.1)) j true (subst (λ n. Clean (F j n true a)) (sym q) h.1))
      process_typed (raw.External raw.NoOperand) ns scope taken r over w u j guarded h = tt
      process_typed (raw.External (raw.Operand p ps)) ns scope taken r over w u j guarded h =
          choices_typed ps ns scope taken r over w.1.1 (λ k ch e. ((u k ch e).0.1, (u k ch e).1.1)) j guarded h.1.1 (P ns p)
          (process_typed p ns scope taken r over w.1.0 (λ k ch e. ((u k ch e).0.0, (u k ch e).1.0)) j guarded h.1.0)
      process_typed (raw.Internal raw.NoOperand) ns scope taken r over w u j guarded h = tt
      process_typed (raw.Internal (raw.Operand p ps)) ns scope taken r over w u j guarded h =
          internals_typed ps ns scope taken r over w.1.1 (λ k ch e. ((u k ch e).0.1, (u k ch e).1.1)) j guarded h.1 (P ns p)
          (process_typed p ns scope taken r over w.1.0 (λ k ch e. ((u k ch e).0.0, (u k ch e).1.0)) j guarded h.0)

      choices_typed : (ps : RawProcesses) (ns : Names) (scope : Scope) (taken : List Name) → Reflects v ns sizes scope taken [] → Over ns → AreWrittenProcesses ps → AllRights ps → (j : ℕ) (guarded : Bool) →
          Clean (processes_fault before G t.machines t.channels v own table j ns guarded ps) → (done : ProcessTree) → T scope taken done → T scope taken (choices_in before G t.machines t.channels v own table ns done ps)
      choices_typed raw.NoOperand ns scope taken r over w u j guarded h done k = k
      choices_typed (raw.Operand p ps) ns scope taken r over w u j guarded h done k =
          choices_typed ps ns scope taken r over w.1 (λ k ch e. ((u k ch e).0.1, (u k ch e).1.1)) j guarded h.1 (Choice done (P ns p))
          (k, process_typed p ns scope taken r over w.0 (λ k ch e. ((u k ch e).0.0, (u k ch e).1.0)) j guarded h.0)

      internals_typed : (ps : RawProcesses) (ns : Names) (scope : Scope) (taken : List Name) → Reflects v ns sizes scope taken [] → Over ns → AreWrittenProcesses ps → AllRights ps → (j : ℕ) (guarded : Bool) →
          Clean (processes_fault before G t.machines t.channels v own table j ns guarded ps) → (done : ProcessTree) → T scope taken done → T scope taken (internals_in before G t.machines t.channels v own table ns done ps)
      internals_typed raw.NoOperand ns scope taken r over w u j guarded h done k = k
      internals_typed (raw.Operand p ps) ns scope taken r over w u j guarded h done k =
          internals_typed ps ns scope taken r over w.1 (λ k ch e. ((u k ch e).0.1, (u k ch e).1.1)) j guarded h.1 (Internal done (P ns p))
          (k, process_typed p ns scope taken r over w.0 (λ k ch e. ((u k ch e).0.0, (u k ch e).1.0)) j guarded h.0)
