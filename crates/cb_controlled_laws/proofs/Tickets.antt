-- The tickets' system is typed, and its obligations are valid.
use Rattle.std.proofs.Common.{◌≡◌, ◌⊎◌, ◌<◌, ◌≤◌, ℕ, ℤ, pos, ◌+ℤ◌, ◌<ℤ◌, int_le, true, false, inl, inr, List, [], ◌∷◌, ◌++◌, map, refl, sym, ap, subst, true≢false, arith}
use Rattle.std.specs.Prelude.{flat_map, Contains, length, ◌^◌}
use Rattle.std.proofs.lemmas.Int.{ints}
use Rattle.std.proofs.lemmas.Bool.{false_from_ne_true}
use Rattle.std.proofs.lemmas.Bool.Decides.{Decides-int_eq}
use Rattle.cb_term.specs.declared.name.Name.{Name}
use Rattle.cb_term.specs.declared.kind.Kind.TheVariants as kind
use Rattle.cb_term.specs.declared.table.SetNames.{SetNames}
use Rattle.cb_term.specs.declared.table.SetTable.{SetTable}
use Rattle.cb_term.specs.declared.value.Value.{Value}
use Rattle.cb_term.specs.declared.value.Value.TheVariants as value
use Rattle.cb_term.specs.Names.{same_name}
use Rattle.cb_term.specs.declared.sign.TermSign.TheVariants.{Add}
use Rattle.cb_term.specs.declared.sign.RelSign.TheVariants.{Equal, Less, AtMost, Member}
use Rattle.cb_term.specs.Tree.{TermTree, FormulaTree, Bin, Rel, Not}
use Rattle.cb_term.specs.Values.{Look, IsOf, set_at, rel, bin}
use Rattle.cb_term.specs.Sets.{has, range}
use Rattle.cb_term.specs.Holds.{Holds}
use Rattle.cb_seq.specs.Validity.{AllHold}
use Rattle.cb_term.proofs.ValueLemmas.{same_name_tells}
use Rattle.cb_spec.specs.declared.system.Declared.{Declared}
use Rattle.cb_spec.specs.declared.system.Definition.{Definition}
use Rattle.cb_spec.specs.ProcessTree.{Call}
use Rattle.cb_spec.specs.Stores.{empty}
use Rattle.cb_spec.specs.Domains.{typing}
use Rattle.cb_spec.specs.Forms.{Number, IsSmall, is_of_kind}
use Rattle.cb_spec.specs.States.{IsAt}
use Rattle.cb_spec.specs.Journals.{set_sizes}
use Rattle.cb_spec.specs.Silent.{FewSilent}
use Rattle.cb_spec.specs.TypedProcesses.{AreNew, scope_in}
use Rattle.cb_spec.specs.Typed.{global_names, IsPlain, TypedOperation, TypedMachine, TypedChannel, TypedDefinition, TypedController, Typed}
use Rattle.cb_spec.specs.TypedSubsts.{always_writes, assigned_form, result_form}
use Rattle.cb_spec.specs.Example.{letter}
use Rattle.cb_spec.proofs.DomainLemmas.{range_has}
use Rattle.cb_obligations.specs.Owed.{machine_owes, AllOwedValid}
use Rattle.cb_safety_laws.proofs.Parts.{call_few}
use Rattle.cb_conditions.specs.Conditions.{controller_owes}
use Rattle.cb_conditions.specs.Till.{of_name, within, declared, add, take, box, idle, till, m1, k2, four, room, added, emptied, number}
use Rattle.cb_controlled_laws.specs.Laws.{OwesValid}
use Rattle.cb_controlled_laws.specs.Tickets.{coin, back, go, payer, tickets, TicketsAreSafe}
use Rattle.cb_controlled_laws.proofs.ShortLists.{nothing_at, some_is, one, two, none_there, only_one, both_listed, both_differ, both_below}
use Rattle.cb_controlled_laws.proofs.Numbers.{small, c9, n0, n1, n9, with_int, equal, in_range, at_most, less}
use Rattle.cb_controlled_laws.proofs.Whole.{typed_systems_are_sound, typed_systems_are_safe}

first : Contains {X = ℕ} (0 ∷ []) 0
first = (0, omega arith, refl)

of_sides : (k : ℕ) → (k ≡ 0) ⊎ (k ≡ 0) → k ≤ 64
of_sides k (inl e) = omega (arith, e)
of_sides k (inr e) = omega (arith, e)

d9 : IsSmall (Number (pos 0) (pos 9))
d9 = small 0 9 (omega arith)

s18 : IsSmall (Number (pos 1) (pos 18))
s18 = small 1 18 (omega arith)

n3 : IsSmall (Number (pos 3) (pos 3))
n3 = small 3 3 (omega arith)

module _ (table : SetTable) (no_sets : table.sets.items ≡ []) where
  abbrev plain : List Name
  plain = letter 66 ∷ letter 110 ∷ letter 99 ∷ letter 98 ∷ letter 84 ∷ letter 80 ∷ []

  globals : global_names (tickets table) ≡ plain
  globals = ap (λ items. map (λ (s : SetNames). s.name) items ++ flat_map (λ (s : SetNames). s.elements) items
      ++ [] ++ letter 66 ∷ [] ++ letter 110 ∷ [] ++ letter 99 ∷ letter 98 ∷ [] ++ letter 84 ∷ letter 80 ∷ []) no_sets

  new : (ys xs : List Name) → AreNew (ys ++ plain) xs → AreNew (ys ++ global_names (tickets table)) xs
  new ys xs h = subst (λ g. AreNew (ys ++ g) xs) (sym globals) h

  add_typed : TypedOperation (tickets table) box add
  add_typed = record {
    new_names = new [] (letter 107 ∷ []) ((refl, refl), tt);
    few_names = omega arith;
    domains = ((omega (arith, ints), tt), inl refl, tt);
    precondition = ((c9, (n1, n9, tt), refl), ((d9, c9, s18), n9, refl));
    body = ((d9, c9, s18), refl);
    body_fits = tt;
    writes_results = λ r c. absurd (none_there r c);
    result_kinds = λ r c. absurd (none_there r c);
  }

  take_apart : (x : Name) → same_name x (letter 114) ≡ true → same_name x (letter 110) ≡ true → ⊥
  take_apart x p q = true≢false (sym (subst (λ z. same_name z (letter 110) ≡ true) (same_name_tells x (letter 114) p) q))

  take_typed : TypedOperation (tickets table) box take
  take_typed = record {
    new_names = new [] (letter 114 ∷ []) ((refl, refl), tt);
    few_names = omega arith;
    domains = tt;
    precondition = (n0, d9, refl);
    body = ((d9, refl), (n0, refl));
    body_fits = (take_apart, tt, tt);
    writes_results = λ r c. subst (λ z. always_writes z.0 take.body ≡ true) (only_one (letter 114, kind.Integer) r c) refl;
    result_kinds = λ r c. subst (λ z. is_of_kind (result_form (assigned_form (set_sizes (tickets table)) z.0 (scope_in box take) take.body)) z.1 ≡ true) (only_one (letter 114, kind.Integer) r c) refl;
  }

  box_typed : TypedMachine (tickets table) box
  box_typed = record {
    domains = ((omega (arith, ints), tt), refl, tt);
    invariant = (d9, (n0, n9, tt), refl);
    init = (n0, refl);
    init_fits = tt;
    writes_variables = λ d c. subst (λ (d : Declared). always_writes d.name box.init ≡ true) (only_one (declared 110 0) d c) refl;
    operation_names = ((refl, refl), ((refl, refl), tt));
    few_operations = omega arith;
    operations = λ j o e. two add take j o (λ j o. TypedOperation (tickets table) box o) add_typed take_typed e;
  }

  coin_typed : TypedChannel (tickets table) coin
  coin_typed = record {
    new_names = new [] (letter 118 ∷ []) ((refl, refl), tt);
    few_names = omega arith;
    domains = ((omega (arith, ints), tt), refl, tt);
    assertion = (c9, (n1, n9, tt), refl);
    sender = omega arith;
    receiver = omega arith;
    two_ends = λ e. absurd (omega (arith, e));
  }

  back_typed : TypedChannel (tickets table) back
  back_typed = record {
    new_names = new [] (letter 118 ∷ []) ((refl, refl), tt);
    few_names = omega arith;
    domains = ((omega (arith, ints), tt), refl, tt);
    assertion = (c9, (n1, n9, tt), refl);
    sender = omega arith;
    receiver = omega arith;
    two_ends = λ e. absurd (omega (arith, e));
  }

  call_idle : (ts : List TermTree) → FewSilent (idle ∷ []) (Call 0 ts)
  call_idle ts = call_few (idle ∷ []) 0 ts (λ d at. subst (λ (d : Definition). FewSilent (idle ∷ []) d.body) (some_is idle d at) (λ n k w. omega (arith, w)))

  call_go : FewSilent (go ∷ []) (Call 0 [])
  call_go = call_few (go ∷ []) 0 [] (λ d at. subst (λ (d : Definition). FewSilent (go ∷ []) d.body) (some_is go d at) (λ n k w. of_sides k w))

  idle_typed : TypedDefinition (tickets table) 0 till 0 idle
  idle_typed = record {
    new_names = new [] (letter 109 ∷ []) ((refl, refl), tt);
    few_names = omega arith;
    domains = ((omega (arith, ints), tt), d9, tt);
    invariant = (d9, d9, refl);
    body = (
      new (letter 109 ∷ []) (letter 107 ∷ []) ((refl, refl), tt),
      (
        refl,
        refl,
        tt,
        (
          ((d9, c9, s18), n9, refl),
          (first, tt, (((c9, refl), tt), refl, (((d9, c9, s18), refl), tt))),
          (first, new (letter 107 ∷ letter 109 ∷ []) (letter 113 ∷ []) ((refl, refl), tt), (tt, refl, ((refl, ((d9, refl), tt), tt), ((n0, refl), tt)))),
        ),
      ),
    );
    calls_later = tt;
    operands = (tt, tt);
    few_silent = λ n k w. omega (arith, w);
    few_silent_after = ((λ n k w. of_sides k w), ((call_idle _, tt), ((λ n k w. omega (arith, w)), (call_idle _, tt))));
    few_branches = omega arith;
  }

  go_typed : TypedDefinition (tickets table) 1 payer 0 go
  go_typed = record {
    new_names = tt;
    few_names = omega arith;
    domains = tt;
    invariant = tt;
    body = (((refl, ((n3, refl), tt), tt), tt), (new [] (letter 120 ∷ []) ((refl, refl), tt), (refl, refl, tt, tt)));
    calls_later = (tt, tt);
    operands = (tt, tt, tt, tt);
    few_silent = λ n k w. of_sides k w;
    few_silent_after = ((call_go, tt), (call_go, tt));
    few_branches = omega arith;
  }

  till_typed : TypedController (tickets table) 0 till
  till_typed = record {
    machines = λ i k e. one 0 i k (λ i k. k < 1) (omega arith) e;
    definition_names = ((refl, refl), tt);
    few_definitions = omega arith;
    start = ((n0, refl), tt);
    start_args = λ t c. subst IsPlain (only_one (number 0) t c) tt;
    definitions = λ j d e. one idle j d (λ j d. TypedDefinition (tickets table) 0 till j d) idle_typed e;
  }

  payer_typed : TypedController (tickets table) 1 payer
  payer_typed = record {
    machines = λ i k e. absurd (nothing_at i k e);
    definition_names = ((refl, refl), tt);
    few_definitions = omega arith;
    start = tt;
    start_args = λ t c. absurd (none_there t c);
    definitions = λ j d e. one go j d (λ j d. TypedDefinition (tickets table) 1 payer j d) go_typed e;
  }

  tickets_typed : Typed (tickets table)
  tickets_typed = record {
    names_differ = subst (λ g. AreNew [] g) (sym globals) ((refl, refl), ((refl, refl), ((refl, refl), ((refl, refl), ((refl, refl), ((refl, refl), tt))))));
    sizes_of_sets = λ k s e. absurd (nothing_at k s (subst (λ items. IsAt items k s) no_sets e));
    few_sets = subst (λ items. length items < 2 ^ 32) (sym no_sets) (omega arith);
    few_machines = omega arith;
    few_channels = omega arith;
    few_controllers = omega arith;
    numbers = refl;
    order_within = both_below;
    order_once = both_differ;
    listed = both_listed;
    machines = λ k m e. one box k m (λ k m. TypedMachine (tickets table) m) box_typed e;
    channels = λ k ch e. two coin back k ch (λ k ch. TypedChannel (tickets table) ch) coin_typed back_typed e;
    controllers = λ i c n. two 0 1 i n.0 (λ i k. IsAt (till ∷ payer ∷ []) k c → TypedController (tickets table) i c)
        (λ e. subst (λ c. TypedController (tickets table) 0 c) (some_is till c e) till_typed)
        (λ e. subst (λ c. TypedController (tickets table) 1 c) (some_is payer c e) payer_typed) n.1.0 n.1.1;
    one_owner = λ i j k e f. one 0 i k (λ i k. IsAt (0 ∷ []) j k → i ≡ j) (λ f. one 0 j 0 (λ j k. 0 ≡ j) refl f) e f;
    owned = λ k m e _ _. one box k m (λ k m. Contains (0 ∷ []) k) first e;
  }

  -- ---- what is owed

  abbrev sizes : List ℕ
  sizes = set_sizes (tickets table)

  three : (P : Value → Value → Value → Type 0) → ((a b c : ℤ) → P (value.Int a) (value.Int b) (value.Int c)) →
      (u v w : Value) → IsOf sizes kind.Integer u → IsOf sizes kind.Integer v → IsOf sizes kind.Integer w → P u v w
  three P f u v w i j k = with_int sizes u i (λ u. P u v w) (λ a. with_int sizes v j (λ v. P (value.Int a) v w) (λ b. with_int sizes w k (λ w. P (value.Int a) (value.Int b) w) (λ c. f a b c)))

  abbrev at : Value → Value → Value → Look
  at n m k = set_at (set_at (set_at empty (letter 110) n) (record { text = 109 ∷ []; number = 1 }) m) (record { text = 107 ∷ []; number = 2 }) k

  -- what is said of the three values
  abbrev Says : List FormulaTree → FormulaTree → Value → Value → Value → Type 0
  Says hyps goal n m k = AllHold sizes (at n m k) hyps → Holds sizes (at n m k) goal []

  abbrev Ints : List FormulaTree → FormulaTree → Type 0
  Ints hyps goal = (n m k : ℤ) → Says hyps goal (value.Int n) (value.Int m) (value.Int k)

  has_room : Ints (four ++ room ∷ []) (Rel AtMost (Bin Add (of_name 110) k2) (number 9))
  has_room n m k h = let e = equal m n h.1.1.0 in let r = h.1.1.1.1.0 in at_most (n +ℤ k) (pos 9) (omega (arith, ints, e, r))

  stays_in : Ints (four ++ room ∷ added ∷ []) (typing (Bin Add m1 k2) (within 0 9))
  stays_in n m k h =
      let a = in_range (pos 0) (pos 9) m h.0 in
      let b = in_range (pos 1) (pos 9) k h.1.1.1.0 in
      let r = h.1.1.1.1.0 in
      range_has (pos 0) (pos 9) (m +ℤ k) (omega (arith, ints, a.0, b.0), omega (arith, ints, r))

  same_sum : Ints (four ++ room ∷ added ∷ []) (Rel Equal (Bin Add m1 k2) (Bin Add (of_name 110) k2))
  same_sum n m k h = (Decides-int_eq (m +ℤ k) (n +ℤ k)).1 (ap (λ z. z +ℤ k) (equal m n h.1.1.0))

  positive : (n m k : ℤ) → AllHold sizes (at (value.Int n) (value.Int m) (value.Int k)) (four ++ Not room ∷ []) → pos 0 <ℤ n
  positive n m k h =
      let e = equal m n h.1.1.0 in
      let b = in_range (pos 1) (pos 9) k h.1.1.1.0 in
      let f : int_le (m +ℤ k) (pos 9) ≡ false = false_from_ne_true (int_le (m +ℤ k) (pos 9)) h.1.1.1.1.0 in
      omega (arith, ints, e, b.1, f)

  not_empty : Ints (four ++ Not room ∷ []) (Rel Less (number 0) (of_name 110))
  not_empty n m k h = less (pos 0) n (positive n m k h)

  hands_back : Ints (four ++ Not room ∷ emptied ∷ []) (typing (of_name 110) (within 1 9))
  hands_back n m k h =
      let p = positive n m k (h.0, (h.1.0, (h.1.1.0, (h.1.1.1.0, (h.1.1.1.1.0, tt))))) in
      let a = in_range (pos 0) (pos 9) n h.1.0 in
      range_has (pos 1) (pos 9) n (omega (arith, ints, p), a.1)

  -- an addition keeps the invariant
  adds : (n k : ℤ) → has (range (pos 0) (pos 9)) n ≡ true → has (range (pos 1) (pos 9)) k ≡ true → int_le (n +ℤ k) (pos 9) ≡ true → has (range (pos 0) (pos 9)) (n +ℤ k) ≡ true
  adds n k hn hk l =
      let a = in_range (pos 0) (pos 9) n hn in
      let b = in_range (pos 1) (pos 9) k hk in
      range_has (pos 0) (pos 9) (n +ℤ k) (omega (arith, ints, a.0, b.0), omega (arith, ints, l))

  abbrev n_ : Name
  n_ = letter 110

  abbrev m_ : Name
  m_ = record { text = 109 ∷ []; number = 1 }

  abbrev k_ : Name
  k_ = record { text = 107 ∷ []; number = 2 }

  abbrev k_1 : Name
  k_1 = record { text = 107 ∷ []; number = 1 }

  box_owes : AllOwedValid sizes (machine_owes box)
  box_owes = (
    (λ look g h. refl),
    (
      (λ look g h.
          with_int sizes (look n_) (g n_ kind.Integer refl)
          (λ n. rel Member n (value.Set (range (pos 0) (pos 9))) ≡ true → rel Member (look k_1) (value.Set (range (pos 1) (pos 9))) ≡ true → rel AtMost (bin Add n (look k_1)) (value.Int (pos 9)) ≡ true
          → rel Member (bin Add n (look k_1)) (value.Set (range (pos 0) (pos 9))) ≡ true)
          (λ a.
          with_int sizes (look k_1) (g k_1 kind.Integer refl)
          (λ k. has (range (pos 0) (pos 9)) a ≡ true → rel Member k (value.Set (range (pos 1) (pos 9))) ≡ true → rel AtMost (bin Add (value.Int a) k) (value.Int (pos 9)) ≡ true
          → rel Member (bin Add (value.Int a) k) (value.Set (range (pos 0) (pos 9))) ≡ true)
          (λ b. adds a b))
          h.0 h.1.0 h.1.1.0),
      ((λ look g h. refl), tt),
    ),
  )

  till_owes : AllOwedValid sizes (controller_owes (tickets table) till)
  till_owes = (
    (λ look g h. refl),
    (
      (λ look g h. refl),
      (
        (λ look g h. h.1.1.1.0),
        (
          (λ look g h. three (Says (four ++ room ∷ []) (Rel AtMost (Bin Add (of_name 110) k2) (number 9))) has_room (look n_) (look m_) (look k_) (g n_ kind.Integer refl) (g m_ kind.Integer refl) (g k_ kind.Integer refl) h),
          (
            (λ look g h. three (Says (four ++ room ∷ added ∷ []) (typing (Bin Add m1 k2) (within 0 9))) stays_in (look n_) (look m_) (look k_) (g n_ kind.Integer refl) (g m_ kind.Integer refl) (g k_ kind.Integer refl) h),
            (
              (λ look g h. three (Says (four ++ room ∷ added ∷ []) (Rel Equal (Bin Add m1 k2) (Bin Add (of_name 110) k2))) same_sum (look n_) (look m_) (look k_) (g n_ kind.Integer refl) (g m_ kind.Integer refl) (g k_ kind.Integer refl) h),
              (
                (λ look g h. three (Says (four ++ Not room ∷ []) (Rel Less (number 0) (of_name 110))) not_empty (look n_) (look m_) (look k_) (g n_ kind.Integer refl) (g m_ kind.Integer refl) (g k_ kind.Integer refl) h),
                (
                  (λ look g h. three (Says (four ++ Not room ∷ emptied ∷ []) (typing (of_name 110) (within 1 9))) hands_back (look n_) (look m_) (look k_) (g n_ kind.Integer refl) (g m_ kind.Integer refl) (g k_ kind.Integer refl) h),
                  ((λ look g h. refl), ((λ look g h. refl), tt)),
                ),
              ),
            ),
          ),
        ),
      ),
    ),
  )

  payer_owes : AllOwedValid sizes (controller_owes (tickets table) payer)
  payer_owes = ((λ look g h. refl), tt)

  tickets_owe : OwesValid (tickets table)
  tickets_owe = record {
    machines = λ k m e. one box k m (λ k m. AllOwedValid (set_sizes (tickets table)) (machine_owes m)) box_owes e;
    controllers = λ k c e. two till payer k c (λ k c. AllOwedValid (set_sizes (tickets table)) (controller_owes (tickets table) c)) till_owes payer_owes e;
  }

pub tickets_are_safe : TicketsAreSafe
tickets_are_safe = record {
  typed = tickets_typed;
  sound = λ table no_sets. typed_systems_are_sound (tickets table) (tickets_typed table no_sets) (tickets_owe table no_sets);
  safe = λ table no_sets. typed_systems_are_safe (tickets table) (tickets_typed table no_sets) (tickets_owe table no_sets);
}
