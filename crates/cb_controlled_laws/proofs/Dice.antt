-- The system with the dice is typed, and its obligations are valid.
use Rattle.std.proofs.Common.{◌≡◌, ◌⊎◌, ◌<◌, ◌≤◌, ℕ, zero, suc, ℤ, pos, ◌+ℤ◌, int_le, true, inl, inr, List, [], ◌∷◌, ◌++◌, map, refl, sym, ap, subst, true≢false, arith}
use Rattle.std.specs.Prelude.{flat_map, Contains, length, ◌^◌}
use Rattle.std.proofs.lemmas.Int.{ints}
use Rattle.cb_term.specs.declared.name.Name.{Name}
use Rattle.cb_term.specs.declared.kind.Kind.TheVariants as kind
use Rattle.cb_term.specs.declared.table.SetNames.{SetNames}
use Rattle.cb_term.specs.declared.table.SetTable.{SetTable}
use Rattle.cb_term.specs.declared.value.Value.TheVariants as value
use Rattle.cb_term.specs.Names.{same_name}
use Rattle.cb_term.specs.declared.sign.TermSign.TheVariants.{Add}
use Rattle.cb_term.specs.declared.sign.RelSign.TheVariants.{Less, AtMost, Member}
use Rattle.cb_term.specs.Values.{rel, bin}
use Rattle.cb_term.specs.Sets.{has, range}
use Rattle.cb_term.proofs.ValueLemmas.{same_name_tells}
use Rattle.cb_spec.specs.declared.system.Declared.{Declared}
use Rattle.cb_spec.specs.declared.system.Definition.{Definition}
use Rattle.cb_spec.specs.ProcessTree.{ProcessTree, Skip, Call, Internal}
use Rattle.cb_spec.specs.Forms.{Number, IsSmall, is_of_kind}
use Rattle.cb_spec.specs.States.{IsAt}
use Rattle.cb_spec.specs.Journals.{set_sizes}
use Rattle.cb_spec.specs.Silent.{Way, FewSilent}
use Rattle.cb_spec.specs.TypedProcesses.{AreNew, scope_in}
use Rattle.cb_spec.specs.Typed.{global_names, TypedOperation, TypedMachine, TypedChannel, TypedDefinition, TypedController, Typed}
use Rattle.cb_spec.specs.TypedSubsts.{always_writes, assigned_form, result_form}
use Rattle.cb_spec.specs.Example.{letter}
use Rattle.cb_spec.proofs.DomainLemmas.{range_has}
use Rattle.cb_obligations.specs.Owed.{machine_owes, AllOwedValid}
use Rattle.cb_conditions.specs.Conditions.{controller_owes}
use Rattle.cb_controlled_laws.specs.Laws.{OwesValid}
use Rattle.cb_controlled_laws.specs.Dice.{roll, die, add, score, said, tells, play, player, hear, listener, dice, DiceAreSafe}
use Rattle.cb_controlled_laws.proofs.ShortLists.{nothing_at, some_is, one, two, none_there, only_one, both_listed, both_differ, both_below}
use Rattle.cb_controlled_laws.proofs.Numbers.{small, c9, n0, n1, n9, with_int, in_range, less}
use Rattle.cb_controlled_laws.proofs.Whole.{typed_systems_are_sound, typed_systems_are_safe}

first : Contains {X = ℕ} (0 ∷ 1 ∷ []) 0
first = (0, omega arith, refl)

second : Contains {X = ℕ} (0 ∷ 1 ∷ []) 1
second = (1, omega arith, refl)

c6 : IsSmall (Number (pos 1) (pos 6))
c6 = small 1 6 (omega arith)

t60 : IsSmall (Number (pos 0) (pos 60))
t60 = small 0 60 (omega arith)

s66 : IsSmall (Number (pos 1) (pos 66))
s66 = small 1 66 (omega arith)

n6 : IsSmall (Number (pos 6) (pos 6))
n6 = small 6 6 (omega arith)

n60 : IsSmall (Number (pos 60) (pos 60))
n60 = small 60 60 (omega arith)

-- ---- internal choices on the way

-- a call of the only definition meets none where its body does not
call_none : (d : Definition) → ((n k : ℕ) → Way (d ∷ []) n d.body k → k ≡ 0) → (n k : ℕ) → Way (d ∷ []) n (Call 0 []) k → k ≡ 0
call_none d h zero k w = absurd w
call_none d h (suc n) k w = h n k (subst (λ (e : Definition). Way (d ∷ []) n e.body k) (sym (some_is d w.0 w.1.0)) w.1.1)

one_choice : (ds : List Definition) (p q : ProcessTree) → ((n k : ℕ) → Way ds n p k → k ≡ 0) → ((n k : ℕ) → Way ds n q k → k ≡ 0) → FewSilent ds (Internal p q)
one_choice ds p q f g n k w = by w.1.1
  where
    by : Way ds n p w.0 ⊎ Way ds n q w.0 → k ≤ 64
    by (inl h) = let z = f n w.0 h in let e = w.1.0 in omega (arith, z, e)
    by (inr h) = let z = g n w.0 h in let e = w.1.0 in omega (arith, z, e)

-- ---- numbers

adds : (t k : ℤ) → has (range (pos 0) (pos 60)) t ≡ true → has (range (pos 1) (pos 6)) k ≡ true → int_le (t +ℤ k) (pos 60) ≡ true → has (range (pos 0) (pos 60)) (t +ℤ k) ≡ true
adds t k ht hk l =
    let a = in_range (pos 0) (pos 60) t ht in
    let b = in_range (pos 1) (pos 6) k hk in
    range_has (pos 0) (pos 60) (t +ℤ k) (omega (arith, ints, a.0, b.0), omega (arith, ints, l))

shows : (k : ℤ) → has (range (pos 1) (pos 6)) k ≡ true → has (range (pos 0) (pos 60)) k ≡ true
shows k h = let b = in_range (pos 1) (pos 6) k h in range_has (pos 0) (pos 60) k (omega (arith, ints, b.0), omega (arith, ints, b.1))

may_be_said : (v : ℤ) → has (range (pos 1) (pos 6)) v ≡ true → has (range (pos 1) (pos 9)) v ≡ true
may_be_said v h = let b = in_range (pos 1) (pos 6) v h in range_has (pos 1) (pos 9) v (b.0, omega (arith, ints, b.1))

is_heard : (v : ℤ) → has (range (pos 1) (pos 9)) v ≡ true → rel Less (value.Int (pos 0)) (value.Int v) ≡ true
is_heard v h = let b = in_range (pos 1) (pos 9) v h in less (pos 0) v (omega (arith, ints, b.0))

module _ (table : SetTable) (no_sets : table.sets.items ≡ []) where
  abbrev plain : List Name
  plain = letter 68 ∷ letter 83 ∷ letter 108 ∷ letter 116 ∷ letter 115 ∷ letter 80 ∷ letter 76 ∷ []

  globals : global_names (dice table) ≡ plain
  globals = ap (λ items. map (λ (s : SetNames). s.name) items ++ flat_map (λ (s : SetNames). s.elements) items
      ++ [] ++ letter 68 ∷ letter 83 ∷ [] ++ letter 108 ∷ letter 116 ∷ [] ++ letter 115 ∷ [] ++ letter 80 ∷ letter 76 ∷ []) no_sets

  new : (ys xs : List Name) → AreNew (ys ++ plain) xs → AreNew (ys ++ global_names (dice table)) xs
  new ys xs h = subst (λ g. AreNew (ys ++ g) xs) (sym globals) h

  roll_apart : (x : Name) → same_name x (letter 114) ≡ true → same_name x (letter 108) ≡ true → ⊥
  roll_apart x p q = true≢false (sym (subst (λ z. same_name z (letter 108) ≡ true) (same_name_tells x (letter 114) p) q))

  roll_typed : TypedOperation (dice table) die roll
  roll_typed = record {
    new_names = new [] (letter 114 ∷ []) ((refl, refl), tt);
    few_names = omega arith;
    domains = tt;
    precondition = tt;
    body = ((new (letter 114 ∷ []) (letter 122 ∷ []) ((refl, refl), tt)).0, (omega (arith, ints), tt), omega (arith, ints), (c6, (n1, n6, tt), refl), ((c6, refl), (c6, refl)));
    body_fits = (refl, omega (arith, ints), (roll_apart, tt, tt));
    writes_results = λ r c. subst (λ z. always_writes z.0 roll.body ≡ true) (only_one (letter 114, kind.Integer) r c) refl;
    result_kinds = λ r c. subst (λ z. is_of_kind (result_form (assigned_form (set_sizes (dice table)) z.0 (scope_in die roll) roll.body)) z.1 ≡ true) (only_one (letter 114, kind.Integer) r c) refl;
  }

  die_typed : TypedMachine (dice table) die
  die_typed = record {
    domains = ((omega (arith, ints), tt), refl, tt);
    invariant = (c6, (n1, n6, tt), refl);
    init = (n1, refl);
    init_fits = tt;
    writes_variables = λ d c. subst (λ (d : Declared). always_writes d.name die.init ≡ true) (only_one _ d c) refl;
    operation_names = ((refl, refl), tt);
    few_operations = omega arith;
    operations = λ j o e. one roll j o (λ j o. TypedOperation (dice table) die o) roll_typed e;
  }

  add_typed : TypedOperation (dice table) score add
  add_typed = record {
    new_names = new [] (letter 107 ∷ []) ((refl, refl), tt);
    few_names = omega arith;
    domains = ((omega (arith, ints), tt), refl, tt);
    precondition = (c6, (n1, n6, tt), refl);
    body = (((t60, c6, s66), n60, refl), ((t60, c6, s66), refl), (c6, refl));
    body_fits = (tt, tt);
    writes_results = λ r c. absurd (none_there r c);
    result_kinds = λ r c. absurd (none_there r c);
  }

  score_typed : TypedMachine (dice table) score
  score_typed = record {
    domains = ((omega (arith, ints), tt), refl, tt);
    invariant = (t60, (n0, n60, tt), refl);
    init = (n0, refl);
    init_fits = tt;
    writes_variables = λ d c. subst (λ (d : Declared). always_writes d.name score.init ≡ true) (only_one _ d c) refl;
    operation_names = ((refl, refl), tt);
    few_operations = omega arith;
    operations = λ j o e. one add j o (λ j o. TypedOperation (dice table) score o) add_typed e;
  }

  said_typed : TypedChannel (dice table) said
  said_typed = record {
    new_names = new [] (letter 118 ∷ []) ((refl, refl), tt);
    few_names = omega arith;
    domains = ((omega (arith, ints), tt), refl, tt);
    assertion = (c9, (n1, n9, tt), refl);
    sender = omega arith;
    receiver = omega arith;
    two_ends = λ e. absurd (omega (arith, e));
  }

  play_typed : TypedDefinition (dice table) 0 player 0 play
  play_typed = record {
    new_names = tt;
    few_names = omega arith;
    domains = tt;
    invariant = tt;
    body = (
      first,
      new [] (letter 113 ∷ []) ((refl, refl), tt),
      (tt, refl, (second, tt, (((c6, refl), tt), refl, (tt, ((refl, ((c6, refl), tt), (c9, (n1, n6, tt), refl)), tt))))),
    );
    calls_later = tt;
    operands = (tt, tt);
    few_silent = λ n k w. omega (arith, w);
    few_silent_after = (
      (λ n k w. omega (arith, w)),
      (one_choice (play ∷ []) (Call 0 []) tells (call_none play (λ n k w. w)) (λ n k w. w), (tt, ((λ n k w. omega (arith, w)), tt))),
    );
    few_branches = omega arith;
  }

  hear_typed : TypedDefinition (dice table) 1 listener 0 hear
  hear_typed = record {
    new_names = tt;
    few_names = omega arith;
    domains = tt;
    invariant = tt;
    body = (new [] (letter 119 ∷ []) ((refl, refl), tt), (refl, refl, (n0, c9, refl), (tt, tt)));
    calls_later = tt;
    operands = (tt, tt);
    few_silent = λ n k w. omega (arith, w);
    few_silent_after = (one_choice (hear ∷ []) (Call 0 []) Skip (call_none hear (λ n k w. w)) (λ n k w. w), (tt, tt));
    few_branches = omega arith;
  }

  player_typed : TypedController (dice table) 0 player
  player_typed = record {
    machines = both_below;
    definition_names = ((refl, refl), tt);
    few_definitions = omega arith;
    start = tt;
    start_args = λ t c. absurd (none_there t c);
    definitions = λ j d e. one play j d (λ j d. TypedDefinition (dice table) 0 player j d) play_typed e;
  }

  listener_typed : TypedController (dice table) 1 listener
  listener_typed = record {
    machines = λ i k e. absurd (nothing_at i k e);
    definition_names = ((refl, refl), tt);
    few_definitions = omega arith;
    start = tt;
    start_args = λ t c. absurd (none_there t c);
    definitions = λ j d e. one hear j d (λ j d. TypedDefinition (dice table) 1 listener j d) hear_typed e;
  }

  dice_typed : Typed (dice table)
  dice_typed = record {
    names_differ = subst (λ g. AreNew [] g) (sym globals) ((refl, refl), ((refl, refl), ((refl, refl), ((refl, refl), ((refl, refl), ((refl, refl), ((refl, refl), tt)))))));
    sizes_of_sets = λ k s e. absurd (nothing_at k s (subst (λ items. IsAt items k s) no_sets e));
    few_sets = subst (λ items. length items < 2 ^ 32) (sym no_sets) (omega arith);
    few_machines = omega arith;
    few_channels = omega arith;
    few_controllers = omega arith;
    numbers = refl;
    order_within = both_below;
    order_once = both_differ;
    listed = both_listed;
    machines = λ k m e. two die score k m (λ k m. TypedMachine (dice table) m) die_typed score_typed e;
    channels = λ k ch e. one said k ch (λ k ch. TypedChannel (dice table) ch) said_typed e;
    controllers = λ i c n. two 0 1 i n.0 (λ i k. IsAt (player ∷ listener ∷ []) k c → TypedController (dice table) i c)
        (λ e. subst (λ c. TypedController (dice table) 0 c) (some_is player c e) player_typed)
        (λ e. subst (λ c. TypedController (dice table) 1 c) (some_is listener c e) listener_typed) n.1.0 n.1.1;
    one_owner = both_differ;
    owned = λ k m e _ _. two die score k m (λ k m. Contains (0 ∷ 1 ∷ []) k) first second e;
  }

  -- ---- what is owed

  abbrev sizes : List ℕ
  sizes = set_sizes (dice table)

  abbrev opened : ℕ → Name
  opened b = record { text = b ∷ []; number = 1 }

  die_owes : AllOwedValid sizes (machine_owes die)
  die_owes = ((λ look g h. refl), ((λ look g h. h.1.0), ((λ look g h none. none (value.Int (pos 1)) tt refl), tt)))

  score_owes : AllOwedValid sizes (machine_owes score)
  score_owes = (
    (λ look g h. refl),
    (
      (λ look g h.
          with_int sizes (look (letter 116)) (g (letter 116) kind.Integer refl)
          (λ t. rel Member t (value.Set (range (pos 0) (pos 60))) ≡ true → rel Member (look (opened 107)) (value.Set (range (pos 1) (pos 6))) ≡ true → rel AtMost (bin Add t (look (opened 107))) (value.Int (pos 60)) ≡ true
          → rel Member (bin Add t (look (opened 107))) (value.Set (range (pos 0) (pos 60))) ≡ true)
          (λ a.
          with_int sizes (look (opened 107)) (g (opened 107) kind.Integer refl)
          (λ k. has (range (pos 0) (pos 60)) a ≡ true → rel Member k (value.Set (range (pos 1) (pos 6))) ≡ true → rel AtMost (bin Add (value.Int a) k) (value.Int (pos 60)) ≡ true
          → rel Member (bin Add (value.Int a) k) (value.Set (range (pos 0) (pos 60))) ≡ true)
          (λ b. adds a b))
          h.0 h.1.0 h.1.1.0),
      (
        (λ look g h.
            with_int sizes (look (opened 107)) (g (opened 107) kind.Integer refl)
            (λ k. rel Member k (value.Set (range (pos 1) (pos 6))) ≡ true → rel Member k (value.Set (range (pos 0) (pos 60))) ≡ true)
            shows h.1.0),
        tt,
      ),
    ),
  )

  player_owes : AllOwedValid sizes (controller_owes (dice table) player)
  player_owes = (
    (λ look g h. h.1.1.0),
    (
      (λ look g h. h.1.1.0),
      (
        (λ look g h. h.1.1.0),
        (
          (λ look g h.
              with_int sizes (look (opened 118)) (g (opened 118) kind.Integer refl)
              (λ v. rel Member v (value.Set (range (pos 1) (pos 6))) ≡ true → rel Member v (value.Set (range (pos 1) (pos 9))) ≡ true)
              may_be_said h.0),
          tt,
        ),
      ),
    ),
  )

  listener_owes : AllOwedValid sizes (controller_owes (dice table) listener)
  listener_owes = (
    (λ look g h.
        with_int sizes (look (opened 119)) (g (opened 119) kind.Integer refl)
        (λ w. rel Member w (value.Set (range (pos 1) (pos 9))) ≡ true → rel Less (value.Int (pos 0)) w ≡ true)
        is_heard h.0),
    tt,
  )

  dice_owe : OwesValid (dice table)
  dice_owe = record {
    machines = λ k m e. two die score k m (λ k m. AllOwedValid (set_sizes (dice table)) (machine_owes m)) die_owes score_owes e;
    controllers = λ k c e. two player listener k c (λ k c. AllOwedValid (set_sizes (dice table)) (controller_owes (dice table) c)) player_owes listener_owes e;
  }

pub dice_are_safe : DiceAreSafe
dice_are_safe = record {
  typed = dice_typed;
  sound = λ table no_sets. typed_systems_are_sound (dice table) (dice_typed table no_sets) (dice_owe table no_sets);
  safe = λ table no_sets. typed_systems_are_safe (dice table) (dice_typed table no_sets) (dice_owe table no_sets);
}
