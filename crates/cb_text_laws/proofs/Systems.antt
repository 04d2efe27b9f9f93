-- A whole text without a fault is a typed system.
use Rattle.std.proofs.Common.{◌≡◌, ℕ, zero, suc, ◌+◌, ◌≤◌, ◌<◌, ◌==◌, Bool, true, false, ◌⊎◌, inl, inr, List, [], ◌∷◌, ◌++◌, map, flat_map, length, Option, Some, None, refl, sym, ap, ◌∙◌, subst, true≢false, if◌then◌else◌, arith, slice_get, Contains, eq-eqb}
use Rattle.std.proofs.lemmas.Bool.{eqb-true}
use Rattle.std.proofs.lemmas.List.{length-map}
use Rattle.std.proofs.lemmas.Option.{same_Some}
use Rattle.cb_lex.specs.declared.raw.name.RawName.{RawName}
use Rattle.cb_lex.specs.declared.raw.text.RawChannel.{RawChannel}
use Rattle.cb_lex.specs.declared.raw.text.RawController.{RawController}
use Rattle.cb_lex.specs.declared.raw.text.RawDefinition.{RawDefinition}
use Rattle.cb_lex.specs.declared.raw.text.RawMachine.{RawMachine}
use Rattle.cb_lex.specs.declared.raw.text.RawSet.{RawSet}
use Rattle.cb_lex.specs.declared.raw.text.RawText.{RawText}
use Rattle.cb_term.specs.declared.table.SetNames.{SetNames}
use Rattle.cb_spec.specs.declared.system.Channel.{Channel}
use Rattle.cb_spec.specs.declared.system.Controller.{Controller}
use Rattle.cb_spec.specs.declared.system.Machine.{Machine}
use Rattle.cb_spec.specs.declared.system.System.{System}
use Rattle.cb_spec.specs.Journals.{IsNumbered}
use Rattle.cb_spec.specs.States.{IsAt}
use Rattle.cb_spec.specs.Typed.{AreFew, NumbersDiffer, AllBelow, TypedMachine, TypedChannel, TypedController}
use Rattle.cb_forms.specs.Find.{found, is_in}
use Rattle.cb_judge.specs.declared.names.Entry.{Entry}
use Rattle.cb_judge.specs.declared.names.View.{View}
use Rattle.cb_judge.specs.Meanings.{Names}
use Rattle.cb_types.specs.declared.declare.Sort.TheVariants as sort
use Rattle.cb_types.specs.Declares.{next, after_sets, numbers_from, own_domains, variables_of, machine_meaning, machine_number, reserved}
use Rattle.cb_types.specs.MachineFaults.{machine_fault}
use Rattle.cb_types.specs.NormalMachines.{known_in, declared_name, sets_of, machine_in, machine_with}
use Rattle.cb_typing.specs.WrittenText.{FitsNumbers}
use Rattle.cb_typing.proofs.Clean.{Clean, not_bad}
use Rattle.cb_typing.proofs.Counts.{Each, each_append, each_found}
use Rattle.cb_typing.proofs.Declared.{entries, set_entries, constant_entries, static_entries, variable_entries, machine_entries, text_entries}
use Rattle.cb_typing.proofs.Entries.{next_is, each_entries}
use Rattle.cb_typing.proofs.Systems.{size_at, text_sizes, machine_at, machines_count}
use Rattle.cb_text_laws.specs.TextNames.{text_names, outer_view, own_machines, controller_meaning, controller_number, order_from}
use Rattle.cb_text_laws.specs.UseFaults.{sending, receiving, no_users, users_of, same_user, ends_fault, channel_ends_fault, owned_from, has_names, system_fault}
use Rattle.cb_text_laws.specs.ControllerFaults.{controller_fault, controllers_fault}
use Rattle.cb_text_laws.specs.NormalTexts.{order_in, position, user_or, channel_with, channel_in, controller_with, controller_in}
use Rattle.cb_text_laws.specs.SpelledText.{IsSpelledText, HasSystem, IsWrittenController, AreWrittenControllers}
use Rattle.cb_text_laws.specs.WholeText.{WellFormedButEnds, IsSystemOf}
use Rattle.cb_text_laws.specs.Laws.{TextIsTyped}
use Rattle.cb_text_laws.proofs.Channels.{channels_count, raw_channel, channel_there, at_channel, channel_bound, few_values, gives, assertion_typed}
use Rattle.cb_text_laws.proofs.Controllers.{typed_controller}
use Rattle.cb_text_laws.proofs.Globals.{channel_entries, controller_entries, machine_part, outer_part, all_entries, globals_clean, machines_clean, parts_clean, uses_clean, text_is, global_names_are_new}
use Rattle.cb_text_laws.proofs.Machines.{typed_machine}
use Rattle.cb_text_laws.proofs.Orders.{Fresh, in_at, at_in, fresh_different, all_once, owned_fresh, order_fresh, owned_is, sees_below, order_below, all_below, machine_owned, controller_listed}
use Rattle.cb_text_laws.proofs.Outside.{raw_slot, slot}
use Rattle.cb_text_laws.proofs.Processes.{in_contains, Rights}
use Rattle.cb_text_laws.proofs.Tables.{map_slot}
use Rattle.cb_text_laws.proofs.Uses.{leads_self, Right, definition_right, controller_right, no_second}

-- ---- numbers of machines and controllers

-- they are below these
abbrev Bounded : ℕ → ℕ → List ℕ → Entry → Type 0
Bounded n m x e = ((k : ℕ) → machine_meaning e.meaning ≡ Some k → k < n) × ((k : ℕ) → controller_meaning e.meaning ≡ Some k → k < m)

module _ (n m : ℕ) where
  sets_bounded : (owner k : ℕ) (ss : List RawSet) → Each (Bounded n m) (set_entries owner k ss)
  sets_bounded owner k [] = tt
  sets_bounded owner k (s ∷ ss) = (
    ((λ k e. let no : ⊥ = cc in absurd no), (λ k e. let no : ⊥ = cc in absurd no)),
    each_append (Bounded n m) (entries (sort.Element owner k) [] [] 0 s.elements) (set_entries owner (next k) ss)
        (each_entries (Bounded n m) (sort.Element owner k) [] [] (λ i x. ((λ k e. let no : ⊥ = cc in absurd no), (λ k e. let no : ⊥ = cc in absurd no))) 0 s.elements) (sets_bounded owner (next k) ss),
  )

  machines_bounded : (known : Names) (ms : List RawMachine) (owner k : ℕ) → FitsNumbers (owner + length ms) → owner + length ms ≤ n → Each (Bounded n m) (text_entries known owner k ms)
  machines_bounded known [] owner k f l = tt
  machines_bounded known (r ∷ ms) owner k f l =
      let s : next owner ≡ owner + 1 = next_is owner (owner + length (r ∷ ms)) (omega arith) f in
      each_append (Bounded n m) (machine_entries known owner k r) (text_entries known (next owner) (after_sets k r.sets) ms)
      (each_append (Bounded n m) (static_entries owner k r) (variable_entries known owner r) (
        ((λ k e. let q : owner ≡ k = same_Some owner k e in omega (arith, l, q)), (λ k e. let no : ⊥ = cc in absurd no)),
        each_append (Bounded n m) (set_entries owner k r.sets) (constant_entries owner r) (sets_bounded owner k r.sets)
            (each_entries (Bounded n m) (sort.Constant owner) (numbers_from [] r.properties) [] (λ i x. ((λ k e. let no : ⊥ = cc in absurd no), (λ k e. let no : ⊥ = cc in absurd no))) 0 r.constants),
      )
      (each_entries (Bounded n m) (sort.Variable owner) [] (own_domains known owner r) (λ i x. ((λ k e. let no : ⊥ = cc in absurd no), (λ k e. let no : ⊥ = cc in absurd no))) 0 (variables_of r.state)))
      (machines_bounded known ms (next owner) (after_sets k r.sets) (omega (arith, f, s)) (omega (arith, l, s)))

  channels_bounded : (cs : List RawChannel) (k : ℕ) → Each (Bounded n m) (channel_entries k cs)
  channels_bounded [] k = tt
  channels_bounded (c ∷ cs) k = (((λ k e. let no : ⊥ = cc in absurd no), (λ k e. let no : ⊥ = cc in absurd no)), channels_bounded cs (next k))

  controllers_bounded : (cs : List RawController) (k : ℕ) → FitsNumbers (k + length cs) → k + length cs ≤ m → Each (Bounded n m) (controller_entries k cs)
  controllers_bounded [] k f l = tt
  controllers_bounded (c ∷ cs) k f l =
      let s : next k ≡ k + 1 = next_is k (k + length (c ∷ cs)) (omega arith) f in
      (((λ k e. let no : ⊥ = cc in absurd no), (λ j e. let q : k ≡ j = same_Some k j e in omega (arith, l, q))), controllers_bounded cs (next k) (omega (arith, f, s)) (omega (arith, l, s)))

-- ---- places

position_within : (k : ℕ) (ks : List ℕ) → position k ks ≤ length ks
position_within k [] = omega arith
position_within k (j ∷ ks) = by (k == j) (position_within k ks)
  where
    by : (b : Bool) → position k ks ≤ length ks → (if b then 0 else position k ks + 1) ≤ suc (length ks)
    by true l = omega arith
    by false l = omega (arith, l)

position_is : (ks : List ℕ) → Fresh ks → (i k : ℕ) → IsAt ks i k → position k ks ≡ i
position_is [] f i k e = let no : ⊥ = cc in absurd no
position_is (j ∷ ks) f zero k e = let q = eq-eqb k j (sym (same_Some j k e)) in rw q refl
position_is (j ∷ ks) f (suc i) k e = by (k == j) refl (position_is ks f.1 i k e)
  where
    by : (b : Bool) → (k == j) ≡ b → position k ks ≡ i → (if b then 0 else position k ks + 1) ≡ suc i
    by true q r = absurd (true≢false (sym (at_in k ks i e) ∙ ap (λ z. is_in z ks) (eqb-true k j q) ∙ f.0))
    by false q r = omega (arith, r)

position_at : (k : ℕ) (ks : List ℕ) → (position k ks ≡ length ks) ⊎ IsAt ks (position k ks) k
position_at k [] = inl refl
position_at k (j ∷ ks) = by (k == j) refl (position_at k ks)
  where
    by : (b : Bool) → (k == j) ≡ b → (position k ks ≡ length ks) ⊎ IsAt ks (position k ks) k → ((if b then 0 else position k ks + 1) ≡ suc (length ks)) ⊎ IsAt (j ∷ ks) (if b then 0 else position k ks + 1) k
    by true q r = inr (ap Some (sym (eqb-true k j q)))
    by false q (inl r) = inl (omega (arith, r))
    by false q (inr r) = let z : suc (position k ks) ≡ position k ks + 1 = omega arith in inr (subst (λ p. IsAt (j ∷ ks) p k) z r)

-- ---- lists of parts

written_controller : (cs : List RawController) → AreWrittenControllers cs → (k : ℕ) (c : RawController) → slice_get cs k ≡ Some c → IsWrittenController c
written_controller [] w k c e = let no : ⊥ = cc in absurd no
written_controller (d ∷ cs) w zero c e = subst IsWrittenController (same_Some d c e) w.0
written_controller (d ∷ cs) w (suc k) c e = written_controller cs w.1 k c e

clean_controller : (before ns : Names) (ms : List RawMachine) (chs : List RawChannel) (cs : List RawController) → Clean (controllers_fault before ns ms chs cs) → (k : ℕ) (c : RawController) → slice_get cs k ≡ Some c → Clean (controller_fault before ns ms chs c)
clean_controller before ns ms chs [] h k c e = let no : ⊥ = cc in absurd no
clean_controller before ns ms chs (d ∷ cs) h zero c e = subst (λ c. Clean (controller_fault before ns ms chs c)) (same_Some d c e) h.0
clean_controller before ns ms chs (d ∷ cs) h (suc k) c e = clean_controller before ns ms chs cs h.1 k c e

clean_ends : (ns : Names) (cs : List RawController) (chs : List RawChannel) (n : ℕ) → FitsNumbers (n + length chs) → Clean (channel_ends_fault ns cs n chs) → (k : ℕ) (c : RawChannel) → slice_get chs k ≡ Some c →
    Clean (ends_fault (users_of ns sending (n + k) cs) (users_of ns receiving (n + k) cs) c.name.place)
clean_ends ns cs [] n f h k c e = let no : ⊥ = cc in absurd no
clean_ends ns cs (d ∷ chs) n f h zero c e =
    let q : n ≡ n + 0 = omega arith in
    subst (λ n. Clean (ends_fault (users_of ns sending n cs) (users_of ns receiving n cs) c.name.place)) q
    (subst (λ (c : RawChannel). Clean (ends_fault (users_of ns sending n cs) (users_of ns receiving n cs) c.name.place)) (same_Some d c e) h.0)
clean_ends ns cs (d ∷ chs) n f h (suc k) c e =
    let s : next n ≡ n + 1 = next_is n (n + length (d ∷ chs)) (omega arith) f in
    let q : next n + k ≡ n + suc k = omega (arith, s) in
    subst (λ n. Clean (ends_fault (users_of ns sending n cs) (users_of ns receiving n cs) c.name.place)) q (clean_ends ns cs chs (next n) (omega (arith, f, s)) h.1 k c e)

machines_flat : (f : RawController → Controller) (g : RawController → List ℕ) → ((c : RawController) → (f c).machines ≡ g c) → (cs : List RawController) → flat_map (λ (c : Controller). c.machines) (map f cs) ≡ flat_map g cs
machines_flat f g e [] = refl
machines_flat f g e (c ∷ cs) = rw (e c) (ap (λ l. g c ++ l) (machines_flat f g e cs))

some_names : (xs : List RawName) → 0 < length xs → has_names xs ≡ true
some_names [] l = absurd (omega (arith, l))
some_names (x ∷ xs) l = refl

module _ (t : RawText) (so : IsSpelledText t) (well : WellFormedButEnds t) (y : System) (sys : IsSystemOf t y) where
  abbrev before : Names
  before = known_in t.machines

  abbrev G : Names
  G = text_names t

  abbrev v : View
  v = outer_view t.machines

  abbrev O : List ℕ
  O = order_in G t.order

  sizes : (k : ℕ) (s : SetNames) → IsAt y.sets.sets.items k s → (0 < length s.elements) × (length s.elements ≤ 256)
  sizes k s e = size_at (sets_of t.machines) (text_sizes before t.machines 0 0 reserved so.machines.machines (globals_clean t well)) k s (ap (λ l. slice_get l k) (sym sys.sets) ∙ e)

  few_sets : AreFew y.sets.sets.items
  few_sets = let q = ap length sys.sets in let l = so.machines.few_sets in omega (arith, q, l)

  machine_number_is : length y.machines ≡ length t.machines
  machine_number_is = ap length sys.machines ∙ machines_count before G 0 t.machines

  few_machines : AreFew y.machines
  few_machines = let q = machine_number_is in let l = so.machines.few_machines in omega (arith, q, l)

  few_channels : AreFew y.channels
  few_channels = let q = ap length sys.channels ∙ channels_count v G t.controllers O t.channels 0 in let l = so.few_channels in omega (arith, q, l)

  count : length y.controllers ≡ length t.controllers
  count = ap length sys.controllers ∙ length-map t.controllers (controller_in before G t.machines t.channels)

  few_controllers : AreFew y.controllers
  few_controllers = let q = count in let l = so.few_controllers in omega (arith, q, l)

  fits : FitsNumbers (0 + length t.machines)
  fits = let l = so.machines.few_machines in omega (arith, l)

  machines : (k : ℕ) (m : Machine) → IsAt y.machines k m → TypedMachine y m
  machines k m e =
      let a = machine_at before G t.machines 0 fits so.machines.machines (machines_clean t well) k m (ap (λ l. slice_get l k) (sym sys.machines) ∙ e) in
      let q : 0 + k ≡ k = omega arith in
      let c = subst (λ o. Clean (machine_fault before G o a.raw)) q a.clean in
      let i = ap (λ o. machine_in before G o a.raw) (sym q) ∙ a.is in
      subst (TypedMachine y) i (typed_machine t so well y sys k a.raw a.there a.written c)

  -- ---- numbers

  bounded : (x : List ℕ) (e : Entry) → found x G ≡ Some e → Bounded (length t.machines) (length t.controllers) x e
  bounded x e h =
      let l = so.few_controllers in
      let P = Bounded (length t.machines) (length t.controllers) in
      let all : Each P (all_entries t) = each_append P (machine_part t) (outer_part t) (machines_bounded (length t.machines) (length t.controllers) before t.machines 0 0 fits (omega arith))
      (each_append P (channel_entries 0 t.channels) (controller_entries 0 t.controllers) (channels_bounded (length t.machines) (length t.controllers) t.channels 0)
      (controllers_bounded (length t.machines) (length t.controllers) t.controllers 0 (omega (arith, l)) (omega arith))) in
      each_found P (reserved ++ all_entries t) (((λ k e. let no : ⊥ = cc in absurd no), (λ k e. let no : ⊥ = cc in absurd no)), all) x e (ap (found x) (sym (text_is t well).is) ∙ h)

  machine_below : (x : List ℕ) (k : ℕ) → machine_number (found x G) ≡ Some k → k < length t.machines
  machine_below x k e = by (found x G) refl e
    where
      by : (o : Option Entry) → found x G ≡ o → machine_number o ≡ Some k → k < length t.machines
      by None q e = let no : ⊥ = cc in absurd no
      by (Some d) q e = (bounded x d q).0 k e

  controller_below : (x : List ℕ) (k : ℕ) → controller_number (found x G) ≡ Some k → k < length t.controllers
  controller_below x k e = by (found x G) refl e
    where
      by : (o : Option Entry) → found x G ≡ o → controller_number o ≡ Some k → k < length t.controllers
      by None q e = let no : ⊥ = cc in absurd no
      by (Some d) q e = (bounded x d q).1 k e

  own_below : (c : RawController) → AllBelow (length y.machines) (own_machines G c)
  own_below c =
      subst (λ n. AllBelow n (own_machines G c)) (sym machine_number_is) (all_below (length t.machines) (own_machines G c)
      (sees_below G (length t.machines) machine_below c.machines [] (λ k e. absurd (true≢false (sym e)))))

  -- ---- the order

  system_clean : Clean (system_fault G t.machines t.controllers t.order)
  system_clean = (uses_clean t well).1.0

  order_is_fresh : Fresh O
  order_is_fresh = by t.order
    where
      by : (o : Option (List RawName)) → Fresh (order_in G o)
      by None = tt
      by (Some xs) = order_fresh G xs [] tt

  order_in_below : AllBelow (length t.controllers) O
  order_in_below = by t.order
    where
      by : (o : Option (List RawName)) → AllBelow (length t.controllers) (order_in G o)
      by None = λ i k e. let no : ⊥ = cc in absurd no
      by (Some xs) = all_below (length t.controllers) (order_from G [] xs) (order_below G (length t.controllers) controller_below xs [] (λ k e. absurd (true≢false (sym e))))

  all_listed : (k : ℕ) → k < length t.controllers → is_in k O ≡ true
  all_listed k l = by t.order so.system system_clean
    where
      by : (o : Option (List RawName)) → HasSystem o t.channels t.controllers → Clean (system_fault G t.machines t.controllers o) → is_in k (order_in G o) ≡ true
      by None w h = let q = ap length w.1 in absurd (omega (arith, q, l))
      by (Some xs) w h =
          let f = so.few_controllers in
          let q : 0 + k ≡ k = omega arith in
          ap (λ n. is_in n (order_from G [] xs)) (sym q) ∙ controller_listed (order_from G [] xs) t.controllers 0 (omega (arith, f)) h.0.1 k l

  order_length : length O ≡ length t.controllers
  order_length = all_once (length t.controllers) O order_is_fresh order_in_below all_listed

  -- ---- channels

  ends_clean : (k : ℕ) (c : RawChannel) → slice_get t.channels k ≡ Some c → Clean (ends_fault (users_of G sending k t.controllers) (users_of G receiving k t.controllers) c.name.place)
  ends_clean k c e =
      let l = so.few_channels in
      let q : 0 + k ≡ k = omega arith in
      subst (λ k. Clean (ends_fault (users_of G sending k t.controllers) (users_of G receiving k t.controllers) c.name.place)) q (clean_ends G t.controllers t.channels 0 (omega (arith, l)) (uses_clean t well).1.1 k c e)

  user_within : (o : Option ℕ) → user_or (length t.controllers) O o ≤ length y.controllers
  user_within None = let q = count in omega (arith, q)
  user_within (Some k) = let q = count in let l = position_within k O in let n = order_length in omega (arith, q, l, n)

  apart : (a b : Option ℕ) → same_user a b ≡ false → user_or (length t.controllers) O a ≡ user_or (length t.controllers) O b → user_or (length t.controllers) O a ≡ length y.controllers
  apart None b d e = sym count
  apart (Some i) None d e = e ∙ sym count
  apart (Some i) (Some j) d e = by (position_at i O) (position_at j O)
    where
      by : (position i O ≡ length O) ⊎ IsAt O (position i O) i → (position j O ≡ length O) ⊎ IsAt O (position j O) j → position i O ≡ length y.controllers
      by (inl p) q = p ∙ order_length ∙ sym count
      by (inr p) (inl q) = e ∙ q ∙ order_length ∙ sym count
      by (inr p) (inr q) =
          let s : i ≡ j = same_Some i j (sym p ∙ ap (slice_get O) e ∙ q) in
          absurd (true≢false (sym (eq-eqb i j s) ∙ d))

  channels : (k : ℕ) (ch : Channel) → IsAt y.channels k ch → TypedChannel y ch
  unfolding channel_with
  channels k ch e =
      let r = raw_channel v G t.controllers O t.channels 0 k ch (ap (λ l. slice_get l k) (sym sys.channels) ∙ e) in
      let a = at_channel t so well y sys k r.0 r.1 in
      let i : channel_in v G t.controllers O k r.0 ≡ ch = same_Some _ ch (sym (channel_there t so well y sys k r.0 r.1) ∙ e) in
      let w = ends_clean k r.0 r.1 in
      let c : TypedChannel y (channel_in v G t.controllers O k r.0) = record {
        new_names = (channel_bound t so well y sys r.0 a).1;
        few_names = few_values t so well y sys r.0 a;
        domains = gives t so well y sys r.0 a;
        assertion = assertion_typed t so well y sys r.0 a;
        sender = user_within (users_of G sending k t.controllers).user;
        receiver = user_within (users_of G receiving k t.controllers).user;
        two_ends = apart (users_of G sending k t.controllers).user (users_of G receiving k t.controllers).user (not_bad _ 19 r.0.name.place w.1);
      } in
      subst (TypedChannel y) i c

  -- ---- controllers

  controllers : (i : ℕ) (c : Controller) → IsNumbered y i c → TypedController y i c
  controllers i c n =
      let k = map_slot (controller_in before G t.machines t.channels) t.controllers n.0 c (ap (λ l. slice_get l n.0) (sym sys.controllers) ∙ n.1.1) in
      let at : position n.0 O ≡ i = position_is O order_is_fresh i n.0 (ap (λ l. slice_get l i) (sym sys.order) ∙ n.1.0) in
      let wr = written_controller t.controllers so.controllers n.0 k.0 k.1 in
      let l = so.few_controllers in
      let q : 0 + n.0 ≡ n.0 = omega arith in
      let rights : (j : ℕ) (d : RawDefinition) → slice_get k.0.definitions j ≡ Some d → Rights t so well y sys i n.0 at k.0 wr.few_definitions d.process =
      λ j d e number ch f.
      let w = ends_clean number ch f in
      let s = users_of G sending number t.controllers in
      let r = users_of G receiving number t.controllers in
      let one = no_second 16 s.second w.0.0 in
      let two = no_second 18 r.second w.0.1 in
      let a = controller_right G sending number s one t.controllers 0 no_users (omega (arith, l)) (leads_self s) n.0 k.0 k.1 in
      let b = controller_right G receiving number r two t.controllers 0 no_users (omega (arith, l)) (leads_self r) n.0 k.0 k.1 in (
        subst (λ m. Right G sending number s.user m d.process) q (definition_right G sending number s one (0 + n.0) k.0.definitions a j d e),
        subst (λ m. Right G receiving number r.user m d.process) q (definition_right G receiving number r two (0 + n.0) k.0.definitions b j d e),
      ) in
      subst (TypedController y i) k.2
      (typed_controller t so well y sys i n.0 at k.0 wr (clean_controller before G t.machines t.channels t.controllers (parts_clean t well).1 n.0 k.0 k.1) rights (own_below k.0))

  -- ---- owners

  machines_of_controller : (c : RawController) → (controller_in before G t.machines t.channels c).machines ≡ own_machines G c
  unfolding controller_with
  machines_of_controller c = refl

  owned_list : flat_map (λ (c : Controller). c.machines) y.controllers ≡ owned_from G [] t.controllers
  owned_list =
      ap (flat_map (λ (c : Controller). c.machines)) sys.controllers ∙ machines_flat (controller_in before G t.machines t.channels) (own_machines G) machines_of_controller t.controllers
      ∙ sym (owned_is G t.controllers [] (uses_clean t well).0)

  variables_count : (k : ℕ) (m : Machine) → IsAt y.machines k m → (r : RawMachine) → slice_get t.machines k ≡ Some r → length m.variables ≡ length (variables_of r.state)
  unfolding machine_in machine_with
  variables_count k m e r f =
      let i : machine_in before G k r ≡ m = same_Some (machine_in before G k r) m (sym (slot t so well y sys k r f) ∙ e) in
      ap (λ (m : Machine). length m.variables) (sym i) ∙ length-map (variables_of r.state) (declared_name (own_domains before k r))

  owned : (k : ℕ) (m : Machine) → IsAt y.machines k m → 0 < length y.controllers → 0 < length m.variables → Contains (flat_map (λ (c : Controller). c.machines) y.controllers) k
  owned k m e l n =
      let r = raw_slot before G t.machines 0 k m (ap (λ l. slice_get l k) (sym sys.machines) ∙ e) in
      let h = variables_count k m e r.0 r.1 in
      let names = some_names (variables_of r.0.state) (omega (arith, h, n)) in
      subst (λ l. Contains l k) (sym owned_list) (in_contains k (owned_from G [] t.controllers) (by t.order so.system system_clean r.0 r.1 names))
    where
      by : (o : Option (List RawName)) → HasSystem o t.channels t.controllers → Clean (system_fault G t.machines t.controllers o) → (r : RawMachine) → slice_get t.machines k ≡ Some r → has_names (variables_of r.state) ≡ true → is_in k (owned_from G [] t.controllers) ≡ true
      by None w h r f names = let q = count in let z = ap length w.1 in absurd (omega (arith, l, q, z))
      by (Some xs) w h r f names =
          let q : 0 + k ≡ k = omega arith in
          ap (λ n. is_in n (owned_from G [] t.controllers)) (sym q) ∙ machine_owned (owned_from G [] t.controllers) t.machines 0 fits h.1 k r f names

pub text_is_typed : TextIsTyped
text_is_typed t so well y sys = record {
  names_differ = global_names_are_new t y sys well;
  sizes_of_sets = sizes t so well y sys;
  few_sets = few_sets t so well y sys;
  few_machines = few_machines t so well y sys;
  few_channels = few_channels t so well y sys;
  few_controllers = few_controllers t so well y sys;
  numbers = ap length sys.order ∙ order_length t so well y sys ∙ sym (count t so well y sys);
  order_within = subst (λ o. AllBelow (length y.controllers) o) (sym sys.order) (subst (λ n. AllBelow n (order_in (text_names t) t.order)) (sym (count t so well y sys)) (order_in_below t so well y sys));
  order_once = subst NumbersDiffer (sym sys.order) (fresh_different (order_in (text_names t) t.order) (order_is_fresh t so well y sys));
  listed = λ k l.
      let q = count t so well y sys in
      let w = in_at k (order_in (text_names t) t.order) (all_listed t so well y sys k (omega (arith, l, q))) in
      (w.0, ap (λ o. slice_get o w.0) sys.order ∙ w.1);
  machines = machines t so well y sys;
  channels = channels t so well y sys;
  controllers = controllers t so well y sys;
  one_owner = subst NumbersDiffer (sym (owned_list t so well y sys)) (fresh_different (owned_from (text_names t) [] t.controllers) (owned_fresh (text_names t) t.controllers [] tt));
  owned = owned t so well y sys;
}
