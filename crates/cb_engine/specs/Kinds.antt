-- The kinds of the values for which items are written: what each action takes from the top of a stack and leaves there.
use Rattle.std.specs.Prelude.{◌≡◌, ℕ, zero, suc, Bool, true, false, not, ◌&&◌, eqb, if◌then◌else◌, List, [], ◌∷◌, ◌++◌, Option, Some, None}
use Rattle.cb_engine.specs.declared.Symbol.{Symbol}
use Rattle.cb_engine.specs.declared.Symbol.TheVariants.{Take, Keep, Act, Part, Gives, Then, Line}
use Rattle.cb_engine.specs.declared.Item.{Item}
use Rattle.cb_engine.specs.declared.Item.TheVariants.{Word, Do}
use Rattle.cb_engine.specs.declared.Reading.{Reading}
use Rattle.cb_engine.specs.declared.Reading.TheVariants as reading
use Rattle.cb_engine.specs.Rules.{Rules, chosen, group}
use Rattle.cb_engine.specs.Tables.{body}

-- what an action takes and leaves, the top first
pub record Effect : Type 0 where
  pub takes : List ℕ
  pub leaves : List ℕ

-- what a part takes, and what it leaves; with sorts what it leaves with the first and with the second
pub record Signature : Type 0 where
  pub sorted : Bool
  pub takes : List ℕ
  pub leaves : List ℕ
  pub second : List ℕ

-- the kind of a word goes by the group of its class
pub record Signatures : Type 0 where
  pub word : ℕ → ℕ
  pub action : ℕ → Effect
  pub part : ℕ → Signature

abbrev pub signature : Bool → List ℕ → List ℕ → List ℕ → Signature
signature b t l s = record { sorted = b; takes = t; leaves = l; second = s }

-- what is below the kinds that are taken, where these are on top
abbrev pub strip : List ℕ → List ℕ → Option (List ℕ)
strip [] k = Some k
strip (x ∷ p) [] = None
strip (x ∷ p) (y ∷ k) = if eqb x y then strip p k else None

-- the kinds after the items, or none where one of them doesn't fit
abbrev pub with_left : (List ℕ → Option (List ℕ)) → Option (List ℕ) → Option (List ℕ)
with_left f None = None
with_left f (Some k) = f k

abbrev pub kinds : Signatures → List Item → List ℕ → Option (List ℕ)
kinds g [] k = Some k
kinds g (Word t ∷ out) k = kinds g out (g.word (group t.class) ∷ k)
kinds g (Do n ∷ out) k = with_left (λ r. kinds g out ((g.action n).leaves ++ r)) (strip (g.action n).takes k)

-- The test of a line: its symbols lead from some kinds to what its part leaves.
abbrev pub same_kinds : List ℕ → List ℕ → Bool
same_kinds [] [] = true
same_kinds [] (y ∷ k) = false
same_kinds (x ∷ l) [] = false
same_kinds (x ∷ l) (y ∷ k) = eqb x y && same_kinds l k

abbrev pub ends_plain : Signature → List ℕ → Bool
ends_plain s k = not s.sorted && same_kinds k s.leaves

abbrev pub left_by : Signature → ℕ → List ℕ
left_by s zero = s.leaves
left_by s (suc _) = s.second

abbrev pub ends_sorted : Signature → ℕ → List ℕ → Bool
ends_sorted s n k = s.sorted && same_kinds k (left_by s n)

abbrev pub when_left : (List ℕ → Bool) → Option (List ℕ) → Bool
when_left f None = false
when_left f (Some k) = f k

-- past a part: on by its sorts, or without
abbrev pub onward : (List ℕ → Bool) → (ℕ → List ℕ → Bool) → Signature → List ℕ → Bool
onward plain by s k = if s.sorted then by 0 (s.leaves ++ k) && by 1 (s.second ++ k) else plain (s.leaves ++ k)

-- after (Some m): the part before ended with the sort m
abbrev pub leads : Signatures → Signature → List Symbol → Option ℕ → List ℕ → Bool
leads g s [] None k = ends_plain s k
leads g s (Take c ∷ b) None k = leads g s b None k
leads g s (Keep c ∷ b) None k = leads g s b None (g.word (group c) ∷ k)
leads g s (Act a ∷ b) None k = when_left (λ r. leads g s b None ((g.action a).leaves ++ r)) (strip (g.action a).takes k)
leads g s (Part n ∷ b) None k = when_left (onward (λ r. leads g s b None r) (λ m r. leads g s b (Some m) r) (g.part n)) (strip (g.part n).takes k)
leads g s (Gives m ∷ b) None k = leads g s b (Some m) k
leads g s (Then x y ∷ b) None k = false
leads g s (Line l0 l1 l2 ∷ b) None k = false
leads g s [] (Some m) k = ends_sorted s m k
leads g s (Then x y ∷ b) (Some m) k = when_left (onward (λ r. leads g s b None r) (λ m r. leads g s b (Some m) r) (g.part (chosen x y m))) (strip (g.part (chosen x y m)).takes k)
leads g s (Take c ∷ b) (Some m) k = false
leads g s (Keep c ∷ b) (Some m) k = false
leads g s (Act a ∷ b) (Some m) k = false
leads g s (Part n ∷ b) (Some m) k = false
leads g s (Gives n ∷ b) (Some m) k = false
leads g s (Line l0 l1 l2 ∷ b) (Some m) k = false

abbrev pub entered : Signatures → ℕ → Bool → List ℕ → List ℕ
entered g c true k = g.word (group c) ∷ k
entered g c false k = k

abbrev pub line_leads : Signatures → ℕ → ℕ → Bool → List Symbol → Bool
line_leads g n zero keep b = leads g (g.part n) b None (g.part n).takes
line_leads g n (suc c) keep b = leads g (g.part n) b None (entered g (suc c) keep (g.part n).takes)

-- the test of all lines
abbrev pub all_lead : Signatures → List Symbol → Bool
all_lead g [] = true
all_lead g (Line n c keep ∷ l) = line_leads g n c keep (body l) && all_lead g l
all_lead g (_ ∷ l) = all_lead g l

-- what the test says of the rules
pub record Leads (r : Rules) (g : Signatures) : Type 0 where
  pub key : (n c : ℕ) (alt : Bool × List Symbol) → r.keyed n c ≡ Some alt → leads g (g.part n) alt.1 None (entered g c alt.0 (g.part n).takes) ≡ true
  pub other : (n : ℕ) (b : List Symbol) → r.otherwise n ≡ Some b → leads g (g.part n) b None (g.part n).takes ≡ true

-- what is written for a part that takes nothing fits and leaves these kinds
abbrev pub Leaves : Signatures → List ℕ → Reading → Type 0
Leaves g k (reading.Whole to out) = kinds g out.items [] ≡ Some k
Leaves g k (reading.Fault to) = Unit {0}

-- what is no action takes and leaves the kind 0, which no value has
abbrev pub effect_or : Option Effect → Effect
effect_or None = record { takes = 0 ∷ []; leaves = 0 ∷ [] }
effect_or (Some r) = r

abbrev pub signature_or : Option Signature → Signature
signature_or None = signature false [] [] []
signature_or (Some s) = s
