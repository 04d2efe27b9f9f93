-- Counting on, from one list of steps to the next, and past one step.
use Rattle.std.proofs.Common.{List, ◌∷◌, ◌++◌, ◌∙◌}
use Rattle.cb_obligations.specs.Steps.{Step}
use Rattle.cb_wp.specs.declared.limits.MakeFault.{MakeFault}
use Rattle.cb_wp.specs.declared.limits.MakeFault.TheVariants as fault
use Rattle.cb_wp.specs.declared.limits.Used.{Used}
use Rattle.cb_wp.specs.Limits.{Counted, Faulted}
use Rattle.cb_wp.proofs.CountLemmas.{count_after}
use Rattle.cb_symbolic.specs.Walks.{Passes}

pub counted_on : (ps qs : List Step) (u v w : Used) → Counted u v ps → Counted v w qs → Counted u w (ps ++ qs)
counted_on ps qs u v w p q = count_after ps qs u.obligations u.nodes v.obligations v.nodes p ∙ q

pub counted_past : (s : Step) (steps : List Step) (u v : Used) → Passes s → Counted u v steps → Counted u v (s ∷ steps)
counted_past s steps u v p q = p u.obligations u.nodes steps ∙ q

pub fault_past : (s : Step) (steps : List Step) (u : Used) (e : MakeFault) → Passes s → Faulted e u steps → Faulted e u (s ∷ steps)
fault_past s steps u (fault.Limit w) p f = p u.obligations u.nodes steps ∙ f
fault_past s steps u fault.Memory p f = f
