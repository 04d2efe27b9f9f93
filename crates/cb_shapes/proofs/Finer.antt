-- Kinds of values that are finer than the grammar's: what an action leaves may go by what it takes, and a part may leave
-- one of several.
use Rattle.std.specs.Prelude.{ℕ, zero, suc, Bool, true, false, ◌&&◌, eqb, if◌then◌else◌, List, [], ◌∷◌, ◌++◌, Option, Some, None}
use Rattle.std.specs.List.{list_any, list_all}
use Rattle.cb_engine.specs.declared.Symbol.{Symbol}
use Rattle.cb_engine.specs.declared.Symbol.TheVariants.{Take, Keep, Act, Part, Gives, Then, Line}
use Rattle.cb_engine.specs.declared.Item.{Item}
use Rattle.cb_engine.specs.declared.Item.TheVariants.{Word, Do}
use Rattle.cb_engine.specs.Rules.{chosen}
use Rattle.cb_engine.specs.Tables.{body}
use Rattle.cb_engine.specs.Kinds.{Effect, same_kinds, strip, when_left}

-- the sort with which a part ends, where it has sorts, and the kinds that it leaves
abbrev pub Outcome : Type 0
Outcome = Option ℕ × List ℕ

-- what a part may take, and what it may leave then
pub record Passage : Type 0 where
  pub takes : List ℕ
  pub leaves : List Outcome

-- every word has one kind
pub record Finer : Type 0 where
  pub word : ℕ
  pub action : ℕ → List Effect
  pub part : ℕ → List Passage

-- ---- an action

-- the kinds of an action's values and those below them; all its effects take as many
abbrev pub onto : ℕ → Option (List ℕ × List ℕ) → Option (List ℕ × List ℕ)
onto x None = None
onto x (Some p) = Some (x ∷ p.0, p.1)

abbrev pub split : List ℕ → List ℕ → Option (List ℕ × List ℕ)
split [] k = Some ([], k)
split (w ∷ ws) [] = None
split (w ∷ ws) (x ∷ k) = onto x (split ws k)

abbrev pub turned : List Effect → List ℕ → List ℕ → Option (List ℕ)
turned [] k rest = None
turned (e ∷ es) k rest = if same_kinds e.takes k then Some (e.leaves ++ rest) else turned es k rest

abbrev pub within : List Effect → Option (List ℕ × List ℕ) → Option (List ℕ)
within es None = None
within es (Some p) = turned es p.0 p.1

abbrev pub act : List Effect → List ℕ → Option (List ℕ)
act [] k = None
act (e ∷ es) k = within (e ∷ es) (split e.takes k)

abbrev pub acted : List Effect → Option (List ℕ) → Option (List ℕ)
acted es None = None
acted es (Some k) = act es k

abbrev pub pushed : ℕ → Option (List ℕ) → Option (List ℕ)
pushed w None = None
pushed w (Some k) = Some (w ∷ k)

-- the kinds after the items, or none where one of them doesn't fit
abbrev pub kinds : Finer → List Item → Option (List ℕ) → Option (List ℕ)
kinds g [] o = o
kinds g (Word t ∷ out) o = kinds g out (pushed g.word o)
kinds g (Do a ∷ out) o = kinds g out (acted (g.action a) o)

-- ---- the test of a line

abbrev pub same_sort : Option ℕ → Option ℕ → Bool
same_sort None None = true
same_sort None (Some n) = false
same_sort (Some m) None = false
same_sort (Some m) (Some n) = eqb m n

abbrev pub ends_as : Option ℕ → List ℕ → Outcome → Bool
ends_as m k o = same_sort m o.0 && same_kinds k o.1

abbrev pub passes : (Option ℕ → List ℕ → Bool) → List ℕ → Passage → Bool
passes on k p = when_left (λ r. list_all (λ o. on o.0 (o.1 ++ r)) p.leaves) (strip p.takes k)

-- the symbols lead from some kinds to one of the outcomes; after (Some m) the part before ended with the sort m
abbrev pub leads : Finer → List Outcome → List Symbol → Option ℕ → List ℕ → Bool
leads g top [] m k = list_any (ends_as m k) top
leads g top (Take c ∷ b) None k = leads g top b None k
leads g top (Keep c ∷ b) None k = leads g top b None (g.word ∷ k)
leads g top (Act a ∷ b) None k = when_left (λ r. leads g top b None r) (act (g.action a) k)
leads g top (Part n ∷ b) None k = list_any (passes (λ m r. leads g top b m r) k) (g.part n)
leads g top (Gives m ∷ b) None k = leads g top b (Some m) k
leads g top (Then x y ∷ b) None k = false
leads g top (Line l0 l1 l2 ∷ b) None k = false
leads g top (Then x y ∷ b) (Some m) k = list_any (passes (λ i r. leads g top b i r) k) (g.part (chosen x y m))
leads g top (Take c ∷ b) (Some m) k = false
leads g top (Keep c ∷ b) (Some m) k = false
leads g top (Act a ∷ b) (Some m) k = false
leads g top (Part n ∷ b) (Some m) k = false
leads g top (Gives n ∷ b) (Some m) k = false
leads g top (Line l0 l1 l2 ∷ b) (Some m) k = false

abbrev pub entered : Finer → Bool → List ℕ → List ℕ
entered g true k = g.word ∷ k
entered g false k = k

abbrev pub line_leads : Finer → ℕ → ℕ → Bool → List Symbol → Bool
line_leads g n zero keep b = list_all (λ p. leads g p.leaves b None p.takes) (g.part n)
line_leads g n (suc c) keep b = list_all (λ p. leads g p.leaves b None (entered g keep p.takes)) (g.part n)

-- the test of all lines
abbrev pub all_lead : Finer → List Symbol → Bool
all_lead g [] = true
all_lead g (Line n c keep ∷ l) = line_leads g n c keep (body l) && all_lead g l
all_lead g (_ ∷ l) = all_lead g l
