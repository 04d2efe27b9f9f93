-- What is promised of every run of a system.
use Rattle.std.specs.Prelude.{ℕ, List, [], ⊤}
use Rattle.cb_term.specs.Holds.{Holds}
use Rattle.cb_term.specs.Values.{Look}
use Rattle.cb_spec.specs.declared.system.Channel.{Channel}
use Rattle.cb_spec.specs.declared.system.Machine.{Machine}
use Rattle.cb_spec.specs.declared.system.Operation.{Operation}
use Rattle.cb_spec.specs.declared.system.System.{System}
use Rattle.cb_spec.specs.declared.state.Entry.{Entry}
use Rattle.cb_spec.specs.declared.state.Entry.TheVariants as entry
use Rattle.cb_spec.specs.Stores.{Writes}
use Rattle.cb_spec.specs.Bound.{names, bound_look}
use Rattle.cb_spec.specs.Machines.{with_args}
use Rattle.cb_spec.specs.States.{IsAt, StateView}
use Rattle.cb_spec.specs.Journals.{set_sizes, Step, Run}

-- each machine's invariant holds
abbrev pub Invariants : System → Look → Type 0
Invariants y look = (k : ℕ) (m : Machine) → IsAt y.machines k m → Holds (set_sizes y) look m.invariant []

-- a called operation's precondition holds of its arguments, and what passes a channel meets its assertion
abbrev pub Promised : System → StateView → Entry → Type 0
Promised y s (entry.Settle i bits) = ⊤
Promised y s (entry.Op i b k j args results written) =
    (m : Machine) (o : Operation) → IsAt y.machines k m → IsAt m.operations j o → Holds (set_sizes y) (with_args o args s.store) o.pre []
Promised y s (entry.Pass k sent got vs) = (ch : Channel) → IsAt y.channels k ch → Holds (set_sizes y) (bound_look (names ch.values) vs) ch.assertion []
Promised y s (entry.End c) = ⊤

-- the entry leads rightly from the state to the other
pub record Right (y : System) (s : StateView) (e : Entry) (t : StateView) : Type 0 where
  pub promised : Promised y s e
  pub before : Invariants y s.store
  pub after : Invariants y t.store

-- wherever a run leads, the invariants hold, and each entry that may follow is right
abbrev pub Safe : System → Type 0
Safe y = (limit : ℕ) (s0 : Writes) (es : List Entry) (s : StateView) → Run y limit s0 es s →
    Invariants y s.store × ((e : Entry) (t : StateView) → Step y limit es s e t → Right y s e t)
