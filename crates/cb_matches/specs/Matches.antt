-- The formulas of annotations, and what is met on the way through them.
use Rattle.std.specs.Prelude.{List, [], ◌∷◌, flat_map, Option, Some, None, slice_get}
use Rattle.cb_term.specs.declared.name.Name.{Name}
use Rattle.cb_term.specs.Tree.{FormulaTree}
use Rattle.cb_seq.specs.Validity.{Claim}
use Rattle.cb_spec.specs.declared.event.Event.{Event}
use Rattle.cb_spec.specs.declared.event.Event.TheVariants as event
use Rattle.cb_spec.specs.declared.system.Declared.{Declared}
use Rattle.cb_spec.specs.declared.system.System.{System}
use Rattle.cb_obligations.specs.Pieces.{pieces}
use Rattle.cb_obligations.specs.Steps.{Step, steps_under}
use Rattle.cb_conditions.specs.Conditions.{for_found, sent_match, got_match}

-- the name with the domain of the value that is there
abbrev pub declared_at : Name → Option Declared → List Declared
declared_at x None = []
declared_at x (Some d) = record { name = x; domain = d.domain } ∷ []

-- what the event's written annotation owes
abbrev pub event_formulas : System → Event → List FormulaTree
event_formulas y (event.Output k ts None) = []
event_formulas y (event.Output k ts (Some f)) = for_found (slice_get y.channels k) (λ ch. sent_match ch f) ∷ []
event_formulas y (event.Input k xs None) = []
event_formulas y (event.Input k xs (Some f)) = for_found (slice_get y.channels k) (λ ch. got_match ch xs f) ∷ []
event_formulas y (event.Call k j ts xs) = []

-- what is met on the way through formulas without names around them, and their sequents
abbrev pub formulas_steps : List FormulaTree → List Step
formulas_steps fs = flat_map (λ (f : FormulaTree). steps_under [] 0 [] [] f) fs

abbrev pub formulas_claims : List FormulaTree → List Claim
formulas_claims fs = flat_map (λ (f : FormulaTree). pieces [] [] 0 f) fs
