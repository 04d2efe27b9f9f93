-- One step over the symbols that are still to be spelled.
use Rattle.std.specs.Prelude.{◌≡◌, Bool, true, false, if◌then◌else◌, List, [], ◌∷◌, ◌++◌, Option, Some, None}
use Rattle.cb_engine.specs.declared.Symbol.{Symbol}
use Rattle.cb_engine.specs.declared.Symbol.TheVariants.{Take, Keep, Act, Part, Gives, Then, Line}
use Rattle.cb_engine.specs.declared.Terminal.{Terminal}
use Rattle.cb_engine.specs.declared.Item.{Item}
use Rattle.cb_engine.specs.declared.Item.TheVariants.{Word, Do}
use Rattle.cb_engine.specs.declared.Step.{Step}
use Rattle.cb_engine.specs.declared.Step.TheVariants.{Over, Stuck, Taken, Stayed}
use Rattle.cb_engine.specs.Rules.{Rules, chosen, kept, admits}

pub data Move : Type 0 where
  AtEnd : Move
  NoWay : Move
  Moves : (taken : Bool) (out : List Item) (k : List Symbol) → Move

abbrev pub by_other : Option (List Symbol) → List Symbol → Move
by_other None k = NoWay
by_other (Some body) k = Moves false [] (body ++ k)

abbrev pub by_key : Option (Bool × List Symbol) → Terminal → Move → List Symbol → Move
by_key None t m k = m
by_key (Some alt) t m k = Moves true (kept alt.0 t []) (alt.1 ++ k)

abbrev pub move : Rules → Option Terminal → List Symbol → Move
move r next [] = AtEnd
move r None (Take c ∷ k) = NoWay
move r (Some t) (Take c ∷ k) = if admits c t.class then Moves true [] k else NoWay
move r None (Keep c ∷ k) = NoWay
move r (Some t) (Keep c ∷ k) = if admits c t.class then Moves true (Word t ∷ []) k else NoWay
move r next (Act a ∷ k) = Moves false (Do a ∷ []) k
move r None (Part n ∷ k) = by_other (r.otherwise n) k
move r (Some t) (Part n ∷ k) = by_key (r.keyed n t.class) t (by_other (r.otherwise n) k) k
move r next (Gives s ∷ Then a b ∷ k) = Moves false [] (Part (chosen a b s) ∷ k)
move r next (Gives s ∷ k) = NoWay
move r next (Then a b ∷ k) = NoWay
move r next (Line l0 l1 l2 ∷ k) = NoWay

abbrev pub Does : Bool → Move → List Symbol → List Item → List Item → Type 0
Does taken m k old new = (x : List Item) × (m ≡ Moves taken x k) × (new ≡ old ++ x)

abbrev pub IsStep : Move → List Symbol → List Item → List Item → Step → Type 0
IsStep m k old new Over = (m ≡ AtEnd) × (new ≡ old)
IsStep m k old new Stuck = m ≡ NoWay
IsStep m k old new Taken = Does true m k old new
IsStep m k old new Stayed = Does false m k old new
