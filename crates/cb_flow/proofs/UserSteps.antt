-- The users of all channels, step by step.
use Rattle.std.proofs.Common.{◌≡◌, ℕ, ◌+◌, ◌<◌, ◌≤◌, ◌==◌, zero, suc, List, [], ◌∷◌, map, length, get_or, set, Option, Some, None, arith, refl, sym, ap, ◌∙◌, if◌then◌else◌}
use Rattle.std.proofs.lemmas.Bool.Decides.{nat_tests}
use Rattle.cb_lex.specs.declared.token.Place.{Place}
use Rattle.cb_lex.specs.declared.raw.event.RawCall.{RawCall}
use Rattle.cb_lex.specs.declared.raw.event.RawEvent.{RawEvent}
use Rattle.cb_lex.specs.declared.raw.name.RawName.{RawName}
use Rattle.cb_lex.specs.declared.raw.text.RawChannel.{RawChannel}
use Rattle.cb_lex.specs.declared.raw.text.RawController.{RawController}
use Rattle.cb_lex.specs.declared.raw.text.RawDefinition.{RawDefinition}
use Rattle.cb_lex.specs.RawTermTree.{RawFormulaTree}
use Rattle.cb_lex.specs.RawProcessTree.{RawProcessTree, Stop, Skip, Call, If, Prefix, External, Internal, RawProcesses, NoOperand, Operand}
use Rattle.cb_forms.specs.Find.{found}
use Rattle.cb_judge.specs.Meanings.{Names}
use Rattle.cb_types.specs.Declares.{next}
use Rattle.cb_text_laws.specs.TextNames.{channel_number}
use Rattle.cb_text_laws.specs.UseFaults.{Side, Users, no_users, used_name, with_used, with_use, after_use, after_uses, definitions_use, controllers_use, after_event_use, users_of}
use Rattle.cb_flow.specs.Uses.{each_from, number_uses, event_uses, process_uses, processes_uses, definitions_uses, controllers_uses, all_users}

module _ {A B C : Type 0} where
  -- one after another is both at once
  each_each : (f : ℕ → A → B) (g : ℕ → B → C) (k : ℕ) (xs : List A) → each_from g k (each_from f k xs) ≡ each_from (λ j x. g j (f j x)) k xs
  each_each f g k [] = refl
  each_each f g k (x ∷ xs) = ap (λ rest. g k (f k x) ∷ rest) (each_each f g (k + 1) xs)

  each_map : (f : A → B) (g : ℕ → B → C) (k : ℕ) (xs : List A) → each_from g k (map f xs) ≡ each_from (λ j x. g j (f x)) k xs
  each_map f g k [] = refl
  each_map f g k (x ∷ xs) = ap (λ rest. g k (f x) ∷ rest) (each_map f g (k + 1) xs)

module _ {A : Type 0} where
  -- where nothing is done, nothing changes
  each_same : (k : ℕ) (xs : List A) → each_from (λ j x. x) k xs ≡ xs
  each_same k [] = refl
  each_same k (x ∷ xs) = ap (λ rest. x ∷ rest) (each_same (k + 1) xs)

module _ {A B : Type 0} where
  each_length : (f : ℕ → A → B) (k : ℕ) (xs : List A) → length (each_from f k xs) ≡ length xs
  each_length f k [] = refl
  each_length f k (x ∷ xs) = ap suc (each_length f (k + 1) xs)

  -- the one at a place
  each_at : (f : ℕ → B) (k i : ℕ) (xs : List A) (d : B) → i < length xs → get_or (each_from (λ j x. f j) k xs) i d ≡ f (k + i)
  each_at f k i [] d lt = absurd (omega (arith, lt))
  each_at f k zero (x ∷ xs) d lt = ap f (omega arith)
  each_at f k (suc i) (x ∷ xs) d lt = each_at f (k + 1) i xs d (omega (arith, lt)) ∙ ap f (omega arith)

module _ (names : Names) (side : Side) (i : ℕ) where
  pub stop_uses : (q : Place) (us : List Users) → process_uses names side i (Stop q) us ≡ us
  unfolding process_uses
  stop_uses q us = each_same 0 us

  pub skip_uses : (q : Place) (us : List Users) → process_uses names side i (Skip q) us ≡ us
  unfolding process_uses
  skip_uses q us = each_same 0 us

  pub call_uses : (c : RawCall) (us : List Users) → process_uses names side i (Call c) us ≡ us
  unfolding process_uses
  call_uses c us = each_same 0 us

  pub if_uses : (q : Place) (f : RawFormulaTree) (a b : RawProcessTree) (us : List Users) →
      process_uses names side i (If q f a b) us ≡ process_uses names side i b (process_uses names side i a us)
  unfolding process_uses
  if_uses q f a b us = sym (each_each (λ k u. after_use names side k i u a) (λ k u. after_use names side k i u b) 0 us)

  pub prefix_uses : (e : RawEvent) (a : RawProcessTree) (us : List Users) →
      process_uses names side i (Prefix e a) us ≡ process_uses names side i a (event_uses names side i e us)
  unfolding process_uses event_uses
  prefix_uses e a us = sym (each_each (λ k u. after_event_use names side k i u e) (λ k u. after_use names side k i u a) 0 us)

  pub external_uses : (ps : RawProcesses) (us : List Users) → process_uses names side i (External ps) us ≡ processes_uses names side i ps us
  unfolding process_uses processes_uses
  external_uses ps us = refl

  pub internal_uses : (ps : RawProcesses) (us : List Users) → process_uses names side i (Internal ps) us ≡ processes_uses names side i ps us
  unfolding process_uses processes_uses
  internal_uses ps us = refl

  pub no_operand_uses : (us : List Users) → processes_uses names side i NoOperand us ≡ us
  unfolding processes_uses
  no_operand_uses us = each_same 0 us

  pub operand_uses : (p : RawProcessTree) (ps : RawProcesses) (us : List Users) →
      processes_uses names side i (Operand p ps) us ≡ processes_uses names side i ps (process_uses names side i p us)
  unfolding process_uses processes_uses
  operand_uses p ps us = sym (each_each (λ k u. after_use names side k i u p) (λ k u. after_uses names side k i u ps) 0 us)

  pub no_definition_uses : (us : List Users) → definitions_uses names side i [] us ≡ us
  unfolding definitions_uses
  no_definition_uses us = each_same 0 us

  pub definition_uses : (d : RawDefinition) (ds : List RawDefinition) (us : List Users) →
      definitions_uses names side i (d ∷ ds) us ≡ definitions_uses names side i ds (process_uses names side i d.process us)
  unfolding process_uses definitions_uses
  definition_uses d ds us = sym (each_each (λ k u. after_use names side k i u d.process) (λ k u. definitions_use names side k i u ds) 0 us)

  pub no_controller_uses : (us : List Users) → controllers_uses names side i [] us ≡ us
  unfolding controllers_uses
  no_controller_uses us = each_same 0 us

  pub controller_uses : (c : RawController) (cs : List RawController) (us : List Users) →
      controllers_uses names side i (c ∷ cs) us ≡ controllers_uses names side (next i) cs (definitions_uses names side i c.definitions us)
  unfolding controllers_uses definitions_uses
  controller_uses c cs us = sym (each_each (λ k u. definitions_use names side k i u c.definitions) (λ k u. controllers_use names side k (next i) u cs) 0 us)

  pub no_event_uses : (e : RawEvent) (us : List Users) → used_name side e ≡ None → event_uses names side i e us ≡ us
  unfolding event_uses
  no_event_uses e us is = ap (λ (o : Option RawName). each_from (λ k u. with_used names side k i o u) 0 us) is ∙ each_same 0 us

  pub named_uses : (e : RawEvent) (x : RawName) (us : List Users) → used_name side e ≡ Some x → event_uses names side i e us ≡ number_uses i x.place (channel_number (found x.text names)) us
  unfolding event_uses number_uses
  named_uses e x us is = ap (λ (o : Option RawName). each_from (λ k u. with_used names side k i o u) 0 us) is

-- nobody uses an end, and then these controllers do
pub whole_uses : (names : Names) (side : Side) (cs : List RawController) (channels : List RawChannel) →
    controllers_uses names side 0 cs (map (λ c. no_users) channels) ≡ all_users names side cs channels
unfolding controllers_uses all_users
whole_uses names side cs channels = each_map (λ c. no_users) (λ k u. controllers_use names side k 0 u cs) 0 channels

pub all_length : (names : Names) (side : Side) (cs : List RawController) (channels : List RawChannel) → length (all_users names side cs channels) ≡ length channels
unfolding all_users
all_length names side cs channels = each_length (λ k c. users_of names side k cs) 0 channels

pub all_at : (names : Names) (side : Side) (cs : List RawController) (channels : List RawChannel) (i : ℕ) (d : Users) → i < length channels →
    get_or (all_users names side cs channels) i d ≡ users_of names side i cs
unfolding all_users
all_at names side cs channels i d lt = each_at (λ k. users_of names side k cs) 0 i channels d lt ∙ ap (λ k. users_of names side k cs) (omega arith)

-- ---- one number

module _ {A : Type 0} (f : A → A) (j : ℕ) where
  -- the thing with the number j
  abbrev changed : ℕ → A → A
  changed k x = if k == j then f x else x

  at_number : (k : ℕ) (x : A) → k ≡ j → changed k x ≡ f x
  at_number k x is = grind (arith, nat_tests)

  before_number : (k : ℕ) (x : A) → k < j → changed k x ≡ x
  before_number k x lt = grind (arith, nat_tests)

  after_number : (k : ℕ) (x : A) → j < k → changed k x ≡ x
  after_number k x lt = grind (arith, nat_tests)

  -- no number after j is changed
  each_after : (k : ℕ) (xs : List A) → j < k → each_from changed k xs ≡ xs
  each_after k [] lt = refl
  each_after k (x ∷ xs) lt = ap (λ y. y ∷ each_from changed (k + 1) xs) (after_number k x lt) ∙ ap (λ rest. x ∷ rest) (each_after (k + 1) xs (omega (arith, lt)))

  -- no number before j is changed
  each_before : (k : ℕ) (xs : List A) → k + length xs ≤ j → each_from changed k xs ≡ xs
  each_before k [] le = refl
  each_before k (x ∷ xs) le =
      ap (λ y. y ∷ each_from changed (k + 1) xs) (before_number k x (omega (arith, le)))
      ∙ ap (λ rest. x ∷ rest) (each_before (k + 1) xs (omega (arith, le)))

  each_set : (k i : ℕ) (xs : List A) (d : A) → k + i ≡ j → i < length xs → d ≡ get_or xs i d → set xs i (f d) ≡ each_from changed k xs
  each_set k i [] d is lt at = absurd (omega (arith, lt))
  each_set k zero (x ∷ xs) d is lt at =
      ap (λ y. f y ∷ xs) at
      ∙ ap (λ y. y ∷ xs) (sym (at_number k x (omega (arith, is))))
      ∙ ap (λ rest. changed k x ∷ rest) (sym (each_after (k + 1) xs (omega (arith, is))))
  each_set k (suc i) (x ∷ xs) d is lt at =
      ap (λ rest. x ∷ rest) (each_set (k + 1) i xs d (omega (arith, is)) (omega (arith, lt)) at)
      ∙ ap (λ y. y ∷ each_from changed (k + 1) xs) (sym (before_number k x (omega (arith, is))))

pub no_number_uses : (i : ℕ) (p : Place) (us : List Users) → number_uses i p None us ≡ us
unfolding number_uses
no_number_uses i p us = each_same 0 us

pub far_number_uses : (i : ℕ) (p : Place) (j : ℕ) (us : List Users) → length us ≤ j → number_uses i p (Some j) us ≡ us
unfolding number_uses
far_number_uses i p j us le = each_before (with_use i p) j 0 us (omega (arith, le))

pub one_number_uses : (i : ℕ) (p : Place) (j : ℕ) (us : List Users) (u : Users) → j < length us → u ≡ get_or us j u → set us j (with_use i p u) ≡ number_uses i p (Some j) us
unfolding number_uses
one_number_uses i p j us u lt at = each_set (with_use i p) j 0 j us u (omega arith) lt at
