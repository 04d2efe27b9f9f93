-- How branches fire that controllers offer.
use Rattle.std.specs.Prelude.{ℕ, ◌≡◌, Option, List}
use Rattle.cb_term.specs.declared.name.Name.{Name}
use Rattle.cb_term.specs.Tree.{TermTree, FormulaTree}
use Rattle.cb_term.specs.Values.{Look}
use Rattle.cb_spec.specs.declared.event.Event.TheVariants as event
use Rattle.cb_spec.specs.declared.system.Channel.{Channel}
use Rattle.cb_spec.specs.declared.system.Machine.{Machine}
use Rattle.cb_spec.specs.declared.system.Operation.{Operation}
use Rattle.cb_spec.specs.declared.system.System.{System}
use Rattle.cb_spec.specs.ProcessTree.{ProcessTree}
use Rattle.cb_spec.specs.Bound.{bind}
use Rattle.cb_spec.specs.Stores.{Writes, over, look_of}
use Rattle.cb_spec.specs.States.{IsAt, state_of}
use Rattle.cb_spec.specs.Settling.{AreValues}
use Rattle.cb_spec.specs.Journals.{set_sizes}
use Rattle.cb_safety_laws.specs.Causes.{IsCall, Offers, Meet}
use Rattle.cb_code.specs.declared.place.Place.{Place}
use Rattle.cb_settling.specs.Calling.{IsCalled, IsRoomy}
use Rattle.cb_beginning.specs.Placed.{state_in}
use Rattle.cb_system.specs.declared.perform.Performed.{Performed}
use Rattle.cb_system.specs.declared.pass.Passed.{Passed}
use Rattle.cb_system.specs.Moves.{AreGood}
use Rattle.cb_system.specs.Branches.{AreOffered, IsBranch}

-- a branch of the controller is a call that can be performed
pub record CanPerform (y : System) (ps : List ProcessTree) (store : Writes) (places : List Place) (i b : ℕ) : Type 0 where
  pub good : AreGood y ps store places
  pub room : IsRoomy y store
  pub prefixes : AreOffered ps places
  pub offers : Offers IsCall (state_of (state_in ps store places)) i b

-- it is performed
pub record IsPerformed (y : System) (ps : List ProcessTree) (places : List Place) (look : Look) (i b : ℕ) (r : Performed) : Type 0 where
  pub here : Writes
  pub terms : List TermTree
  pub targets : List Name
  pub branch : IsBranch ps places i b (event.Call r.machine r.operation terms targets) r.next here
  pub arguments : AreValues (set_sizes y) (look_of here) terms r.args
  pub machine : Machine
  pub its : IsAt y.machines r.machine machine
  pub operation : Operation
  pub listed : IsAt machine.operations r.operation operation
  pub called : IsCalled (set_sizes y) machine operation r.args look r.called
  pub bound : look_of r.env ≡ over (bind targets r.called.results) (look_of here)

-- a sender's branch and a receiver's meet on the channel
pub record CanPass (y : System) (ps : List ProcessTree) (places : List Place) (k sent got : ℕ) : Type 0 where
  pub store : Writes
  pub good : AreGood y ps store places
  pub prefixes : AreOffered ps places
  pub channel : Channel
  pub meet : Meet y (state_of (state_in ps store places)) k sent got channel

-- values pass
pub record IsPassed (y : System) (ps : List ProcessTree) (places : List Place) (k sent got : ℕ) (r : Passed) : Type 0 where
  pub channel : Channel
  pub its : IsAt y.channels k channel
  pub sender : r.sender ≡ channel.sender
  pub receiver : r.receiver ≡ channel.receiver
  pub terms : List TermTree
  pub guarantee : Option FormulaTree
  pub out_env : Writes
  pub out : IsBranch ps places channel.sender sent (event.Output k terms guarantee) r.out_next out_env
  pub targets : List Name
  pub assume : Option FormulaTree
  pub in_env : Writes
  pub into : IsBranch ps places channel.receiver got (event.Input k targets assume) r.in_next in_env
  pub values : AreValues (set_sizes y) (look_of out_env) terms r.values
  pub bound : look_of r.env ≡ over (bind targets r.values) (look_of in_env)
