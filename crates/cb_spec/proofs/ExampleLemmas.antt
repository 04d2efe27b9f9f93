-- The small system is typed.
use Rattle.std.proofs.Common.{◌≡◌, ◌<◌, ℕ, zero, suc, pos, List, [], ◌∷◌, ◌++◌, map, refl, sym, ap, subst, Some, arith}
use Rattle.std.specs.Prelude.{flat_map, IsSomeAnd, Contains, slice_index_or, true, length, ◌^◌}
use Rattle.std.proofs.lemmas.Int.{ints}
use Rattle.cb_term.specs.declared.name.Name.{Name}
use Rattle.cb_term.specs.declared.table.SetNames.{SetNames}
use Rattle.cb_term.specs.declared.table.SetTable.{SetTable}
use Rattle.cb_term.specs.declared.sign.RelSign.TheVariants.{Member}
use Rattle.cb_term.specs.Tree.{Var}
use Rattle.cb_spec.specs.declared.system.Declared.{Declared}
use Rattle.cb_spec.specs.Domains.{typing}
use Rattle.cb_spec.specs.Forms.{Number, Numbers, IsSmall, may_relate}
use Rattle.cb_spec.specs.States.{IsAt}
use Rattle.cb_spec.specs.Journals.{set_sizes}
use Rattle.cb_spec.specs.TypedTerms.{Scope, form_in, TypedFormula}
use Rattle.cb_spec.specs.TypedProcesses.{AreNew, scope_of, scope_in}
use Rattle.cb_spec.specs.Typed.{global_names, TypedOperation, TypedMachine, TypedChannel, TypedDefinition, TypedController, Typed}
use Rattle.cb_spec.specs.TypedSubsts.{always_writes}
use Rattle.cb_spec.specs.Example.{letter, a_digit, digit, set_box, box, coin, pays, takes, payer, till, shop}

-- ---- the elements of short lists

nothing_at : {A : Type 0} (k : ℕ) (b : A) → IsAt [] k b → ⊥
nothing_at zero b e = cc
nothing_at (suc k) b e = cc

some_is : {A : Type 0} (a b : A) → Some a ≡ Some b → a ≡ b
some_is a b e = cc

one : {A : Type 0} (a : A) (k : ℕ) (b : A) (P : ℕ → A → Type 0) → P 0 a → IsAt (a ∷ []) k b → P k b
one a zero b P p e = subst (P 0) (some_is a b e) p
one a (suc k) b P p e = absurd (nothing_at k b e)

two : {A : Type 0} (a c : A) (k : ℕ) (b : A) (P : ℕ → A → Type 0) → P 0 a → P 1 c → IsAt (a ∷ c ∷ []) k b → P k b
two a c zero b P p q e = subst (P 0) (some_is a b e) p
two a c (suc k) b P p q e = one c k b (λ k z. P (suc k) z) q e

none_there : {A : Type 0} (b : A) → Contains [] b → ⊥
none_there b c = below c.0 c.1
  where
    below : (k : ℕ) → k < 0 → ⊥
    below k l = omega (arith, l)

only_one : {A : Type 0} (a b : A) → Contains (a ∷ []) b → a ≡ b
only_one a b c = here c.0 c.1 c.2
  where
    here : (k : ℕ) → k < 1 → slice_index_or (a ∷ []) k b ≡ b → a ≡ b
    here zero l e = e
    here (suc k) l e = absurd (omega (arith, l))

-- ---- digits

small_digit : IsSmall (Number (pos 0) (pos 9))
small_digit = (omega (arith, ints), omega (arith, ints))

small_0 : IsSmall (Number (pos 0) (pos 0))
small_0 = (omega (arith, ints), omega (arith, ints))

small_3 : IsSmall (Number (pos 3) (pos 3))
small_3 = (omega (arith, ints), omega (arith, ints))

small_9 : IsSmall (Number (pos 9) (pos 9))
small_9 = (omega (arith, ints), omega (arith, ints))

typed_digit : (sizes : List ℕ) (scope : Scope) (taken : List Name) (x : Name) → form_in scope x ≡ Some (Number (pos 0) (pos 9)) → TypedFormula sizes scope taken [] (typing (Var x) digit)
typed_digit sizes scope taken x e = (
  subst (λ o. IsSomeAnd o IsSmall) (sym e) small_digit,
  (small_0, small_9, tt),
  subst (λ o. IsSomeAnd o (λ f. may_relate Member f (Numbers (pos 0) (pos 9)) ≡ true)) (sym e) refl,
)

module _ (table : SetTable) (no_sets : table.sets.items ≡ []) where
  abbrev plain : List Name
  plain = letter 66 ∷ letter 110 ∷ letter 99 ∷ letter 80 ∷ letter 84 ∷ []

  globals : global_names (shop table) ≡ plain
  globals = ap (λ items. map (λ (s : SetNames). s.name) items ++ flat_map (λ (s : SetNames). s.elements) items
      ++ [] ++ letter 66 ∷ [] ++ letter 110 ∷ [] ++ letter 99 ∷ [] ++ letter 80 ∷ letter 84 ∷ []) no_sets

  new : (xs : List Name) → AreNew plain xs → AreNew (global_names (shop table)) xs
  new xs h = subst (λ g. AreNew g xs) (sym globals) h

  operation_typed : TypedOperation (shop table) box set_box
  operation_typed = record {
    new_names = new (letter 107 ∷ []) ((refl, refl), tt);
    few_names = omega arith;
    domains = ((omega (arith, ints), tt), refl, tt);
    precondition = typed_digit (set_sizes (shop table)) (scope_in box set_box) (letter 107 ∷ global_names (shop table)) (letter 107) refl;
    body = (small_digit, refl);
    body_fits = tt;
    writes_results = λ r c. absurd (none_there r c);
    result_kinds = λ r c. absurd (none_there r c);
  }

  box_typed : TypedMachine (shop table) box
  box_typed = record {
    domains = ((omega (arith, ints), tt), refl, tt);
    invariant = typed_digit (set_sizes (shop table)) (scope_of box.variables) (global_names (shop table)) (letter 110) refl;
    init = (small_0, refl);
    init_fits = tt;
    writes_variables = λ d c. subst (λ (d : Declared). always_writes d.name box.init ≡ true) (only_one (a_digit 110) d c) refl;
    operation_names = ((refl, refl), tt);
    few_operations = omega arith;
    operations = λ j o e. one set_box j o (λ j o. TypedOperation (shop table) box o) operation_typed e;
  }

  coin_typed : TypedChannel (shop table) coin
  coin_typed = record {
    new_names = new (letter 118 ∷ []) ((refl, refl), tt);
    few_names = omega arith;
    domains = ((omega (arith, ints), tt), refl, tt);
    assertion = typed_digit (set_sizes (shop table)) (scope_of coin.values) (letter 118 ∷ global_names (shop table)) (letter 118) refl;
    sender = omega arith;
    receiver = omega arith;
    two_ends = λ e. absurd (omega (arith, e));
  }

  first : Contains {X = ℕ} (0 ∷ []) 0
  first = (0, omega arith, refl)

  pays_typed : TypedDefinition (shop table) 0 payer 0 pays
  pays_typed = record {
    new_names = tt;
    few_names = omega arith;
    domains = tt;
    invariant = tt;
    body = ((refl, ((small_3, refl), tt), tt), tt);
    calls_later = tt;
    operands = tt;
    few_silent = λ n k w. omega (arith, w);
    few_silent_after = ((λ n k w. omega (arith, w)), tt);
    few_branches = omega arith;
  }

  takes_typed : TypedDefinition (shop table) 1 till 0 takes
  takes_typed = record {
    new_names = tt;
    few_names = omega arith;
    domains = tt;
    invariant = tt;
    body = (new (letter 120 ∷ []) ((refl, refl), tt), (refl, refl, tt, (first, tt, (((small_digit, refl), tt), refl, tt))));
    calls_later = tt;
    operands = tt;
    few_silent = λ n k w. omega (arith, w);
    few_silent_after = ((λ n k w. omega (arith, w)), ((λ n k w. omega (arith, w)), tt));
    few_branches = omega arith;
  }

  payer_typed : TypedController (shop table) 0 payer
  payer_typed = record {
    machines = λ i k e. absurd (nothing_at i k e);
    definition_names = ((refl, refl), tt);
    few_definitions = omega arith;
    start = tt;
    start_args = λ t c. absurd (none_there t c);
    definitions = λ j d e. one pays j d (λ j d. TypedDefinition (shop table) 0 payer j d) pays_typed e;
  }

  till_typed : TypedController (shop table) 1 till
  till_typed = record {
    machines = λ i k e. one 0 i k (λ i k. k < 1) (omega arith) e;
    definition_names = ((refl, refl), tt);
    few_definitions = omega arith;
    start = tt;
    start_args = λ t c. absurd (none_there t c);
    definitions = λ j d e. one takes j d (λ j d. TypedDefinition (shop table) 1 till j d) takes_typed e;
  }

  both_listed : (k : ℕ) → k < 2 → (i : ℕ) × IsAt (0 ∷ 1 ∷ []) i k
  both_listed zero l = (0, refl)
  both_listed (suc zero) l = (1, refl)
  both_listed (suc (suc k)) l = absurd (omega (arith, l))

  pub shop_typed : Typed (shop table)
  shop_typed = record {
    names_differ = subst (λ g. AreNew [] g) (sym globals) ((refl, refl), ((refl, refl), ((refl, refl), ((refl, refl), ((refl, refl), tt)))));
    sizes_of_sets = λ k s e. absurd (nothing_at k s (subst (λ items. IsAt items k s) no_sets e));
    few_sets = subst (λ items. length items < 2 ^ 32) (sym no_sets) (omega arith);
    few_machines = omega arith;
    few_channels = omega arith;
    few_controllers = omega arith;
    numbers = refl;
    order_within = λ i k e. two 0 1 i k (λ i k. k < 2) (omega arith) (omega arith) e;
    order_once = λ i j k e f. two 0 1 i k (λ i k. IsAt (0 ∷ 1 ∷ []) j k → i ≡ j)
        (λ f. two 0 1 j 0 (λ j k. k ≡ 0 → 0 ≡ j) (λ _. refl) (λ e. absurd (omega (arith, e))) f refl)
        (λ f. two 0 1 j 1 (λ j k. k ≡ 1 → 1 ≡ j) (λ e. absurd (omega (arith, e))) (λ _. refl) f refl) e f;
    listed = both_listed;
    machines = λ k m e. one box k m (λ k m. TypedMachine (shop table) m) box_typed e;
    channels = λ k ch e. one coin k ch (λ k ch. TypedChannel (shop table) ch) coin_typed e;
    controllers = λ i c n. two 0 1 i n.0 (λ i k. IsAt (payer ∷ till ∷ []) k c → TypedController (shop table) i c)
        (λ e. subst (λ c. TypedController (shop table) 0 c) (some_is payer c e) payer_typed)
        (λ e. subst (λ c. TypedController (shop table) 1 c) (some_is till c e) till_typed) n.1.0 n.1.1;
    one_owner = λ i j k e f. one 0 i k (λ i k. IsAt (0 ∷ []) j k → i ≡ j) (λ f. one 0 j 0 (λ j k. 0 ≡ j) refl f) e f;
    owned = λ k m e _ _. one box k m (λ k m. Contains (0 ∷ []) k) first e;
  }
