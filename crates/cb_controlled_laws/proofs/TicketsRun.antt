-- The tickets' system runs to an end that is due.
use Rattle.std.proofs.Common.{pos, inl, [], ◌∷◌, None, refl, arith}
use Rattle.cb_term.specs.declared.sign.TermSign.TheVariants.{Add}
use Rattle.cb_term.specs.declared.table.SetTable.{SetTable}
use Rattle.cb_term.specs.declared.value.Value.TheVariants as value
use Rattle.cb_term.specs.Tree.{Bin}
use Rattle.cb_term.specs.Values.{Look}
use Rattle.cb_spec.specs.declared.event.Event.TheVariants as event
use Rattle.cb_spec.specs.declared.system.System.{System}
use Rattle.cb_spec.specs.Example.{letter}
use Rattle.cb_spec.specs.ProcessTree.{ProcessTree, Call, Prefix}
use Rattle.cb_spec.specs.Stores.{over, empty, look_of}
use Rattle.cb_spec.specs.Bound.{bind, bound_look}
use Rattle.cb_spec.specs.States.{BranchView, ControlView, AtProcess, Offering, StateView}
use Rattle.cb_spec.specs.Journals.{Settling, Operating, Passing, Run}
use Rattle.cb_conditions.specs.Till.{of_name, number, add, box, idle, till}
use Rattle.cb_controlled_laws.specs.Tickets.{coin, go, payer, tickets, empty_box, two_events, TicketsRun}

module _ (table : SetTable) where
  abbrev y : System
  y = tickets table

  -- what is offered, and what follows

  abbrev after_coin : ProcessTree → ProcessTree
  after_coin (Prefix e p) = p
  after_coin p = p

  abbrev idles : Look
  idles = bound_look (letter 109 ∷ []) (value.Int (pos 0) ∷ [])

  abbrev goes : Look
  goes = bound_look [] []

  abbrev gets : BranchView
  gets = record { event = event.Input 0 (letter 107 ∷ []) None; next = after_coin idle.body; env = idles }

  abbrev pays : BranchView
  pays = record { event = event.Output 0 (number 3 ∷ []) None; next = Call 0 []; env = goes }

  abbrev takes_back : BranchView
  takes_back = record { event = event.Input 1 (letter 120 ∷ []) None; next = Call 0 []; env = goes }

  abbrev got : Look
  got = over (bind (letter 107 ∷ []) (value.Int (pos 3) ∷ [])) idles

  abbrev on : ProcessTree
  on = Call 0 (Bin Add (of_name 109) (of_name 107) ∷ [])

  abbrev adds : BranchView
  adds = record { event = event.Call 0 0 (of_name 107 ∷ []) []; next = on; env = got }

  abbrev first_store : Look
  first_store = look_of empty_box

  abbrev last_store : Look
  last_store = over ((letter 110, value.Int (pos 3)) ∷ []) first_store

  abbrev state : Look → ControlView → ControlView → StateView
  state store a b = record { store = store; controls = a ∷ b ∷ [] }

  till_settles : (b : ControlView) → Settling y (state first_store (AtProcess (Call 0 (number 0 ∷ [])) empty) b) 0 0 (state first_store (Offering (gets ∷ [])) b)
  till_settles b = record {
    controller = till;
    its = (0, (refl, refl));
    process = Call 0 (number 0 ∷ []);
    env = empty;
    from = refl;
    outcome = Offering (gets ∷ []);
    depth = 1;
    sides = [];
    settles = (idle, (value.Int (pos 0) ∷ [], (refl, (refl, tt), (refl, refl))));
    bits_are = refl;
    after = refl;
  }

  payer_settles : (a : ControlView) (env : Look) → Settling y (state first_store a (AtProcess (Call 0 []) env)) 1 0 (state first_store a (Offering (pays ∷ takes_back ∷ [])))
  payer_settles a env = record {
    controller = payer;
    its = (1, (refl, refl));
    process = Call 0 [];
    env = env;
    from = refl;
    outcome = Offering (pays ∷ takes_back ∷ []);
    depth = 1;
    sides = [];
    settles = (go, ([], (refl, tt, (pays ∷ [], (takes_back ∷ [], ([], ([], ((refl, refl), (refl, refl), refl, refl))))))));
    bits_are = refl;
    after = refl;
  }

  passes : Passing y (state first_store (Offering (gets ∷ [])) (Offering (pays ∷ takes_back ∷ []))) 0 0 0 (value.Int (pos 3) ∷ [])
      (state first_store (AtProcess (after_coin idle.body) got) (AtProcess (Call 0 []) goes))
  passes = record {
    channel = coin;
    its = refl;
    outs = pays ∷ takes_back ∷ [];
    sender = refl;
    terms = number 3 ∷ [];
    guarantee = None;
    out_next = Call 0 [];
    out_env = goes;
    out = refl;
    ins = gets ∷ [];
    receiver = refl;
    targets = letter 107 ∷ [];
    assume = None;
    in_next = after_coin idle.body;
    in_env = idles;
    into = refl;
    sent_values = (refl, tt);
    after = refl;
  }

  room_settles : (b : ControlView) → Settling y (state first_store (AtProcess (after_coin idle.body) got) b) 0 0 (state first_store (Offering (adds ∷ [])) b)
  room_settles b = record {
    controller = till;
    its = (0, (refl, refl));
    process = after_coin idle.body;
    env = got;
    from = refl;
    outcome = Offering (adds ∷ []);
    depth = 0;
    sides = [];
    settles = inl (refl, (refl, refl));
    bits_are = refl;
    after = refl;
  }

  operates : (b : ControlView) → Operating y (state first_store (Offering (adds ∷ [])) b) 0 0 0 0 (value.Int (pos 3) ∷ []) [] ((letter 110, value.Int (pos 3)) ∷ [])
      (state last_store (AtProcess on (over (bind [] []) got)) b)
  operates b = record {
    branches = adds ∷ [];
    from = refl;
    terms = of_name 107 ∷ [];
    targets = [];
    next = on;
    env = got;
    offered = refl;
    machine = box;
    its = refl;
    operation = add;
    listed = refl;
    arguments = (refl, tt);
    own = λ x. refl;
    runs = λ h. ((letter 110, value.Int (pos 3)) ∷ [], ((value.Int (pos 3), (refl, refl)), refl, (λ x. refl)));
    after = refl;
  }

  abbrev offers : ControlView
  offers = Offering (pays ∷ takes_back ∷ [])

  abbrev last : StateView
  last = state last_store (AtProcess on (over (bind [] []) got)) offers

  runs : Run y 2 empty_box two_events last
  runs = (
    empty_box,
    (
      (empty_box, ([], ((value.Int (pos 0), (refl, refl)), refl, refl))),
      (λ x. refl),
      (
        _,
        (
          (tt, omega arith, till_settles (AtProcess (Call 0 []) empty)),
          (
            _,
            (
              (tt, omega arith, payer_settles (Offering (gets ∷ [])) empty),
              (
                _,
                (
                  (tt, omega arith, passes),
                  (
                    _,
                    (
                      (tt, omega arith, payer_settles (AtProcess (after_coin idle.body) got) goes),
                      (_, ((tt, omega arith, room_settles offers), (_, ((tt, omega arith, operates offers), (_, ((tt, ((λ h. h), refl), refl), refl)))))),
                    ),
                  ),
                ),
              ),
            ),
          ),
        ),
      ),
    ),
  )

pub tickets_run : TicketsRun
tickets_run table = (last table, runs table, tt)
