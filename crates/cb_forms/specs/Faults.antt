-- Faults and their order.
use Rattle.std.specs.Prelude.{◌≡◌, ◌⊎◌, false, ℕ, Bool, ◌&&◌, ◌||◌, ◌==◌, nat_lt, Option, Some, None, if◌then◌else◌}
use Rattle.cb_lex.specs.declared.token.Place.{Place}
use Rattle.cb_forms.specs.declared.fault.Fault.{Fault}

-- the first place is before the second in the text
abbrev pub above : Place → Place → Bool
above p q = nat_lt p.line q.line || (p.line == q.line && nat_lt p.col q.col)

abbrev pub later_of : Place → Place → Place
later_of p q = if above p q then q else p

-- the less code, and at one code the earlier place
abbrev pub before : Fault → Fault → Bool
before f g = nat_lt f.code g.code || (f.code == g.code && above f.place g.place)

-- the first of two
abbrev pub least : Option Fault → Option Fault → Option Fault
least None b = b
least (Some f) None = Some f
least (Some f) (Some g) = if before g f then Some g else Some f

-- the faults of a part, in any order
pub data Faults : Type 0 where
  Nowhere : Faults
  At : ℕ → Place → Faults
  Both : Faults → Faults → Faults

abbrev pub fault_if : Bool → ℕ → Place → Faults
fault_if bad code p = if bad then At code p else Nowhere

abbrev pub first : Faults → Option Fault
first Nowhere = None
first (At code p) = Some (record { code = code; place = p })
first (Both a b) = least (first a) (first b)

-- the fault is one of them
abbrev pub Occurs : Faults → Fault → Type 0
Occurs Nowhere h = ⊥
Occurs (At code p) h = h ≡ record { code = code; place = p }
Occurs (Both a b) h = Occurs a h ⊎ Occurs b h

-- none where nothing occurs, else one that occurs and that none is before
abbrev pub Least : Option Fault → (Fault → Type 0) → Type 0
Least None P = (h : Fault) → P h → ⊥
Least (Some f) P = P f × ((h : Fault) → P h → before h f ≡ false)

pub record IsFirst (o : Option Fault) (P : Fault → Type 0) : Type 0 where
  pub least : Least o P

-- the first of the faults is the least that occurs
abbrev pub FirstIsLeast : Type 0
FirstIsLeast = (fs : Faults) → IsFirst (first fs) (Occurs fs)
