-- The system with the dice runs to an end that is due.
use Rattle.std.proofs.Common.{◌≡◌, ℕ, zero, suc, pos, Bool, true, false, if◌then◌else◌, inl, List, [], ◌∷◌, None, Some, IsSome, refl, sym, ap, subst, true≢false, arith}
use Rattle.std.specs.Prelude.{⊤}
use Rattle.std.proofs.lemmas.Int.{ints}
use Rattle.cb_term.specs.declared.name.Name.{Name}
use Rattle.cb_term.specs.declared.value.Value.{Value}
use Rattle.cb_term.specs.Names.{same_name}
use Rattle.cb_term.proofs.ValueLemmas.{same_name_tells}
use Rattle.cb_spec.specs.declared.event.Event.{Event}
use Rattle.cb_spec.specs.Runs.{Apart}
use Rattle.cb_controlled_laws.proofs.ShortLists.{nothing_at, some_is, one}
use Rattle.cb_term.specs.declared.sign.RelSign.TheVariants.{Less}
use Rattle.cb_term.specs.declared.table.SetTable.{SetTable}
use Rattle.cb_term.specs.declared.value.Value.TheVariants as value
use Rattle.cb_term.specs.Tree.{Rel}
use Rattle.cb_term.specs.Values.{Look}
use Rattle.cb_spec.specs.declared.event.Event.TheVariants as event
use Rattle.cb_spec.specs.declared.system.System.{System}
use Rattle.cb_spec.specs.declared.state.Entry.TheVariants as entry
use Rattle.cb_spec.specs.Domains.{typing}
use Rattle.cb_spec.specs.Example.{letter}
use Rattle.cb_spec.specs.ProcessTree.{ProcessTree, Skip, Call, Prefix}
use Rattle.cb_spec.specs.Stores.{Writes, found, over, empty, look_of}
use Rattle.cb_spec.specs.Bound.{bind, bound_look}
use Rattle.cb_spec.specs.States.{IsAt, BranchView, ControlView, AtProcess, Offering, Done, StateView}
use Rattle.cb_spec.specs.Journals.{Settling, Operating, Passing, IsStill, Run}
use Rattle.cb_conditions.specs.Till.{of_name, number, within}
use Rattle.cb_controlled_laws.specs.Dice.{roll, die, add, score, said, play, player, hear, listener, dice, first_values, one_roll, DiceRun}

written_at : (n : Name) (v : Value) (x : Name) → IsSome (found ((n, v) ∷ []) x) → same_name x n ≡ true
written_at n v x h = by (same_name x n) refl h
  where
    by : (b : Bool) → same_name x n ≡ b → IsSome (if b then Some v else None) → same_name x n ≡ true
    by true e h = e
    by false e h = absurd (true≢false (sym h))

apart : (v : Value) → Apart ((letter 114, v) ∷ []) ((letter 108, v) ∷ [])
apart v x p q =
    let at = same_name_tells x (letter 114) (written_at (letter 114) v x p) in
    true≢false (sym (subst (λ z. same_name z (letter 108) ≡ true) at (written_at (letter 108) v x q)))

module _ (table : SetTable) where
  abbrev y : System
  y = dice table

  -- what is offered, and what follows

  abbrev after_first : ProcessTree → ProcessTree
  after_first (Prefix e p) = p
  after_first p = p

  abbrev bare : Look
  bare = bound_look [] []

  abbrev rolls : BranchView
  rolls = record { event = event.Call 0 0 [] (letter 113 ∷ []); next = after_first play.body; env = bare }

  abbrev rolled : Look
  rolled = over (bind (letter 113 ∷ []) (value.Int (pos 4) ∷ [])) bare

  abbrev adds : BranchView
  adds = record { event = event.Call 1 0 (of_name 113 ∷ []) []; next = after_first (after_first play.body); env = rolled }

  abbrev added : Look
  added = over (bind [] []) rolled

  abbrev says : BranchView
  says = record { event = event.Output 0 (of_name 113 ∷ []) (Some (typing (of_name 118) (within 1 6))); next = Skip; env = added }

  abbrev hears : BranchView
  hears = record { event = event.Input 0 (letter 119 ∷ []) (Some (Rel Less (number 0) (of_name 119))); next = after_first hear.body; env = bare }

  abbrev heard : Look
  heard = over (bind (letter 119 ∷ []) (value.Int (pos 4) ∷ [])) bare

  abbrev shows : Writes
  shows = (letter 108, value.Int (pos 4)) ∷ []

  abbrev counts : Writes
  counts = (letter 116, value.Int (pos 4)) ∷ []

  abbrev first_store : Look
  first_store = look_of first_values

  abbrev last_store : Look
  last_store = over counts (over shows first_store)

  abbrev starts : ControlView
  starts = AtProcess (Call 0 []) empty

  abbrev state : Look → ControlView → ControlView → StateView
  state store a b = record { store = store; controls = a ∷ b ∷ [] }

  -- ---- what happens

  play_begins : Settling y (state first_store starts starts) 0 0 (state first_store (Offering (rolls ∷ [])) starts)
  play_begins = record {
    controller = player;
    its = (0, (refl, refl));
    process = Call 0 [];
    env = empty;
    from = refl;
    outcome = Offering (rolls ∷ []);
    depth = 1;
    sides = [];
    settles = (play, ([], (refl, tt, (refl, refl))));
    bits_are = refl;
    after = refl;
  }

  -- any of 1..6 may come, and here 4 does
  die_rolls : Operating y (state first_store (Offering (rolls ∷ [])) starts) 0 0 0 0 [] (value.Int (pos 4) ∷ []) shows
      (state (over shows first_store) (AtProcess (after_first play.body) rolled) starts)
  die_rolls = record {
    branches = rolls ∷ [];
    from = refl;
    terms = [];
    targets = letter 113 ∷ [];
    next = after_first play.body;
    env = bare;
    offered = refl;
    machine = die;
    its = refl;
    operation = roll;
    listed = refl;
    arguments = tt;
    own = λ x. refl;
    runs = λ h. (
      (letter 114, value.Int (pos 4)) ∷ shows,
      (
        (
          value.Int (pos 4),
          (
            (omega (arith, ints), omega (arith, ints)),
            refl,
            ((letter 114, value.Int (pos 4)) ∷ [], (shows, ((value.Int (pos 4), (refl, refl)), (value.Int (pos 4), (refl, refl)), apart (value.Int (pos 4)), refl))),
          ),
        ),
        refl,
        (λ x. refl),
      ),
    );
    after = refl;
  }

  add_offered : Settling y (state (over shows first_store) (AtProcess (after_first play.body) rolled) starts) 0 0 (state (over shows first_store) (Offering (adds ∷ [])) starts)
  add_offered = record {
    controller = player;
    its = (0, (refl, refl));
    process = after_first play.body;
    env = rolled;
    from = refl;
    outcome = Offering (adds ∷ []);
    depth = 0;
    sides = [];
    settles = (refl, refl);
    bits_are = refl;
    after = refl;
  }

  score_adds : Operating y (state (over shows first_store) (Offering (adds ∷ [])) starts) 0 0 1 0 (value.Int (pos 4) ∷ []) [] counts
      (state last_store (AtProcess adds.next added) starts)
  score_adds = record {
    branches = adds ∷ [];
    from = refl;
    terms = of_name 113 ∷ [];
    targets = [];
    next = adds.next;
    env = rolled;
    offered = refl;
    machine = score;
    its = refl;
    operation = add;
    listed = refl;
    arguments = (refl, tt);
    own = λ x. refl;
    runs = λ h. (counts, (inl (refl, (value.Int (pos 4), (refl, refl))), refl, (λ x. refl)));
    after = refl;
  }

  -- the right side of the player's choice
  says_it : Settling y (state last_store (AtProcess adds.next added) starts) 0 1 (state last_store (Offering (says ∷ [])) starts)
  says_it = record {
    controller = player;
    its = (0, (refl, refl));
    process = adds.next;
    env = added;
    from = refl;
    outcome = Offering (says ∷ []);
    depth = 0;
    sides = true ∷ [];
    settles = (refl, refl);
    bits_are = refl;
    after = refl;
  }

  hear_begins : Settling y (state last_store (Offering (says ∷ [])) starts) 1 0 (state last_store (Offering (says ∷ [])) (Offering (hears ∷ [])))
  hear_begins = record {
    controller = listener;
    its = (1, (refl, refl));
    process = Call 0 [];
    env = empty;
    from = refl;
    outcome = Offering (hears ∷ []);
    depth = 1;
    sides = [];
    settles = (hear, ([], (refl, tt, (refl, refl))));
    bits_are = refl;
    after = refl;
  }

  passes : Passing y (state last_store (Offering (says ∷ [])) (Offering (hears ∷ []))) 0 0 0 (value.Int (pos 4) ∷ [])
      (state last_store (AtProcess Skip added) (AtProcess hears.next heard))
  passes = record {
    channel = said;
    its = refl;
    outs = says ∷ [];
    sender = refl;
    terms = of_name 113 ∷ [];
    guarantee = Some (typing (of_name 118) (within 1 6));
    out_next = Skip;
    out_env = added;
    out = refl;
    ins = hears ∷ [];
    receiver = refl;
    targets = letter 119 ∷ [];
    assume = Some (Rel Less (number 0) (of_name 119));
    in_next = hears.next;
    in_env = bare;
    into = refl;
    sent_values = (refl, tt);
    after = refl;
  }

  player_ends : Settling y (state last_store (AtProcess Skip added) (AtProcess hears.next heard)) 0 0 (state last_store Done (AtProcess hears.next heard))
  player_ends = record {
    controller = player;
    its = (0, (refl, refl));
    process = Skip;
    env = added;
    from = refl;
    outcome = Done;
    depth = 0;
    sides = [];
    settles = (refl, refl);
    bits_are = refl;
    after = refl;
  }

  abbrev last : StateView
  last = state last_store Done (Offering (hears ∷ []))

  -- the left side of the listener's choice
  hears_again : Settling y (state last_store Done (AtProcess hears.next heard)) 1 0 last
  hears_again = record {
    controller = listener;
    its = (1, (refl, refl));
    process = hears.next;
    env = heard;
    from = refl;
    outcome = Offering (hears ∷ []);
    depth = 1;
    sides = false ∷ [];
    settles = (hear, ([], (refl, tt, (refl, refl))));
    bits_are = refl;
    after = refl;
  }

  -- ---- the end

  -- nothing is offered but to hear
  only_hears : (i : ℕ) (bs : List BranchView) (b : ℕ) (branch : BranchView) → IsAt last.controls i (Offering bs) → IsAt bs b branch → hears ≡ branch
  only_hears zero bs b branch e at = cc
  only_hears (suc zero) bs b branch e at = one hears b branch (λ _ z. hears ≡ z) refl (subst (λ z. IsAt z b branch) (sym (ap offered (some_is (Offering (hears ∷ [])) (Offering bs) e))) at)
    where
      offered : ControlView → List BranchView
      offered (AtProcess p env) = []
      offered (Offering bs) = bs
      offered Done = []
  only_hears (suc (suc i)) bs b branch e at = absurd (nothing_at i (Offering bs) e)

  abbrev IsHeard : Event → Type 0
  IsHeard (event.Output k ts f) = ⊥
  IsHeard (event.Input k xs f) = ⊤
  IsHeard (event.Call k j ts xs) = ⊥

  is_heard : (branch : BranchView) → hears ≡ branch → IsHeard branch.event
  is_heard branch e = subst (λ z. IsHeard z.event) e tt

  still : IsStill y last
  still (entry.Settle i bits) t is r = is
  still (entry.Op i b k j args results written) t is r =
      let branch : BranchView = record { event = event.Call k j r.terms r.targets; next = r.next; env = r.env } in
      is_heard branch (only_hears i r.branches b branch r.from r.offered)
  still (entry.Pass k sent got vs) t is r =
      let branch : BranchView = record { event = event.Output k r.terms r.guarantee; next = r.out_next; env = r.out_env } in
      is_heard branch (only_hears r.channel.sender r.outs sent branch r.sender r.out)
  still (entry.End c) t is r = is

  runs : Run y 9 first_values one_roll last
  runs = (
    first_values,
    (
      ((letter 108, value.Int (pos 1)) ∷ [], ((letter 116, value.Int (pos 0)) ∷ [], ((value.Int (pos 1), (refl, refl)), ((letter 116, value.Int (pos 0)) ∷ [], ([], ((value.Int (pos 0), (refl, refl)), refl, refl))), refl))),
      (λ x. refl),
      (
        _,
        (
          (tt, omega arith, play_begins),
          (
            _,
            (
              (tt, omega arith, die_rolls),
              (
                _,
                (
                  (tt, omega arith, add_offered),
                  (
                    _,
                    (
                      (tt, omega arith, score_adds),
                      (
                        _,
                        (
                          (tt, omega arith, says_it),
                          (
                            _,
                            (
                              (tt, omega arith, hear_begins),
                              (
                                _,
                                (
                                  (tt, omega arith, passes),
                                  (
                                    _,
                                    (
                                      (tt, omega arith, player_ends),
                                      (_, ((tt, omega arith, hears_again), (_, ((tt, ((λ h. h), (λ e. omega (arith, e)), tt, still), refl), refl)))),
                                    ),
                                  ),
                                ),
                              ),
                            ),
                          ),
                        ),
                      ),
                    ),
                  ),
                ),
              ),
            ),
          ),
        ),
      ),
    ),
  )

pub dice_run : DiceRun
dice_run table = (last table, runs table, tt)
