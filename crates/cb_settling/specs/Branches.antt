-- Branches that are offered, told by the places of their prefixes.
use Rattle.std.specs.Prelude.{ℕ, None, List, [], ◌∷◌, map, ⊤}
use Rattle.cb_term.specs.Values.{Look}
use Rattle.cb_spec.specs.declared.event.Event.{Event}
use Rattle.cb_spec.specs.declared.event.Event.TheVariants as event
use Rattle.cb_spec.specs.ProcessTree.{ProcessTree, Stop, Skip, Call, Prefix, Choice, Internal, If}
use Rattle.cb_spec.specs.States.{BranchView}
use Rattle.cb_code.specs.Nodes.{part}

abbrev pub IsPrefix : ProcessTree → Type 0
IsPrefix Stop = ⊥
IsPrefix Skip = ⊥
IsPrefix (Call k ts) = ⊥
IsPrefix (Prefix e p) = ⊤
IsPrefix (Choice p q) = ⊥
IsPrefix (Internal p q) = ⊥
IsPrefix (If f p q) = ⊥

-- at each of the places is a prefix
abbrev pub ArePrefixes : List ProcessTree → List ℕ → Type 0
ArePrefixes ps [] = ⊤
ArePrefixes ps (k ∷ ks) = IsPrefix (part ps k) × ArePrefixes ps ks

-- what stands for the event of a process that is no prefix
abbrev pub no_event : Event
no_event = event.Input 0 [] None

-- the branch that a prefix offers
abbrev pub offered : ProcessTree → Look → BranchView
offered (Prefix e p) env = record { event = e; next = p; env = env }
offered p env = record { event = no_event; next = Stop; env = env }

-- the branches of the prefixes at these places
abbrev pub branches_at : List ProcessTree → List ℕ → Look → List BranchView
branches_at ps ks env = map (λ k. offered (part ps k) env) ks
