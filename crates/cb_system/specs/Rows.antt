-- What controllers offer, as the rendezvous table has it.
use Rattle.std.specs.Prelude.{ℕ, List, [], map}
use Rattle.cb_spec.specs.declared.event.Event.{Event}
use Rattle.cb_spec.specs.declared.event.Event.TheVariants as event
use Rattle.cb_spec.specs.ProcessTree.{ProcessTree, Stop, Skip, Call, Prefix, Choice, Internal, If}
use Rattle.cb_code.specs.declared.place.Place.{Place}
use Rattle.cb_code.specs.declared.place.Place.TheVariants.{At, Ready, Ended}
use Rattle.cb_code.specs.Nodes.{part}
use Rattle.cb_settling.specs.declared.settle.Outcome.{Outcome}
use Rattle.cb_settling.specs.declared.settle.Outcome.TheVariants.{Shown, Over}
use Rattle.cb_offers.specs.declared.offers.Side.{Side}
use Rattle.cb_offers.specs.declared.offers.Side.TheVariants as side

abbrev pub side_of : Event → Side
side_of (event.Output k ts said) = side.Output k
side_of (event.Input k xs said) = side.Input k
side_of (event.Call k j ts xs) = side.Call

-- the side of a prefix
abbrev pub side_at : ProcessTree → Side
side_at Stop = side.Call
side_at Skip = side.Call
side_at (Call k ts) = side.Call
side_at (Prefix e p) = side_of e
side_at (Choice p q) = side.Call
side_at (Internal p q) = side.Call
side_at (If f p q) = side.Call

-- the sides of the prefixes at these places
abbrev pub sides_at : List ProcessTree → List ℕ → List Side
sides_at ps ks = map (λ k. side_at (part ps k)) ks

-- what is offered by a controller that is there
abbrev pub row_at : List ProcessTree → Place → List Side
row_at ps (At k env) = []
row_at ps (Ready ks env) = sides_at ps ks
row_at ps Ended = []

abbrev pub rows_at : List ProcessTree → List Place → List (List Side)
rows_at ps places = map (row_at ps) places

-- what is offered by a controller whose process is resolved to this
abbrev pub row_shown : List ProcessTree → Outcome → List Side
row_shown ps (Shown ks own) = sides_at ps ks
row_shown ps Over = []
