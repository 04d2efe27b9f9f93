-- Forms as they are made step by step, each number with a test of its size. The clauses of private functions speak of these; those
-- of public ones speak of the forms of Form and the bounds of Small.
use Rattle.std.specs.Prelude.{ℕ, suc, ℤ, pos, negsuc, ◌+ℤ◌, ◌*ℤ◌, Bool, true, false, List, [], ◌∷◌, Option, Some, None, if◌then◌else◌}
use Rattle.std.specs.Ordering.{int_eq}
use Rattle.cb_term.specs.declared.sign.TermSign.{TermSign}
use Rattle.cb_term.specs.declared.sign.TermSign.TheVariants.{Add, Minus, Mul}
use Rattle.cb_term.specs.Tree.{TermTree, Num, Neg, Bin}
use Rattle.cb_term.specs.Same.{same_term}
use Rattle.cb_lin.specs.Form.{Form, zero_form, single}
use Rattle.cb_lin.specs.Small.{is_small}

-- the number, unless it passes 2^100
abbrev pub small : ℤ → Option ℤ
small n = if is_small n then Some n else None

-- goes on with the value, where there is one
abbrev pub and_then : {A B : Type 0} → Option A → (A → Option B) → Option B
and_then None f = None
and_then (Some x) f = f x

-- where the test holds, the value
abbrev pub when : {A : Type 0} → Bool → A → Option A
when true x = Some x
when false x = None

-- the place of the part with this term, or the length
abbrev pub place : TermTree → List (TermTree × ℤ) → ℕ
place t [] = 0
place t (p ∷ ps) = if same_term t p.0 then 0 else suc (place t ps)

abbrev pub behind : TermTree × ℤ → Option (List (TermTree × ℤ)) → Option (List (TermTree × ℤ))
behind p None = None
behind p (Some ps) = Some (p ∷ ps)

-- a part with a new coefficient before the parts ps. At 0 it is dropped
abbrev pub renewed : TermTree → Option ℤ → List (TermTree × ℤ) → Option (List (TermTree × ℤ))
renewed t None ps = None
renewed t (Some n) ps = if int_eq n (pos 0) then Some ps else Some ((t, n) ∷ ps)

-- one part more
abbrev pub add_part : TermTree × ℤ → List (TermTree × ℤ) → Option (List (TermTree × ℤ))
add_part q [] = Some (q ∷ [])
add_part q (p ∷ ps) = if same_term q.0 p.0 then renewed p.0 (small (p.1 +ℤ q.1)) ps else behind p (add_part q ps)

abbrev pub plus_parts : List (TermTree × ℤ) → List (TermTree × ℤ) → Option (List (TermTree × ℤ))
plus_parts ps [] = Some ps
plus_parts ps (q ∷ qs) = and_then (add_part q ps) (λ r. plus_parts r qs)

abbrev pub form : Option (List (TermTree × ℤ)) → Option ℤ → Option Form
form None c = None
form (Some ps) None = None
form (Some ps) (Some n) = Some (record { parts = ps; constant = n })

abbrev pub plus : Form → Form → Option Form
plus f g = form (plus_parts f.parts g.parts) (small (f.constant +ℤ g.constant))

-- a part with this coefficient before the others
abbrev pub coefficient_then : TermTree → Option ℤ → Option (List (TermTree × ℤ)) → Option (List (TermTree × ℤ))
coefficient_then t None o = None
coefficient_then t (Some n) o = behind (t, n) o

abbrev pub scale_parts : ℤ → List (TermTree × ℤ) → Option (List (TermTree × ℤ))
scale_parts k [] = Some []
scale_parts k (p ∷ ps) = coefficient_then p.0 (small (k *ℤ p.1)) (scale_parts k ps)

abbrev pub scaled : ℤ → Form → Option Form
scaled k f = if int_eq k (pos 0) then Some zero_form else form (scale_parts k f.parts) (small (k *ℤ f.constant))

abbrev pub product : TermTree → Form → Form → List (TermTree × ℤ) → List (TermTree × ℤ) → Option Form
product t f g ps [] = scaled g.constant f
product t f g [] (q ∷ qs) = scaled f.constant g
product t f g (p ∷ ps) (q ∷ qs) = Some (single t)

-- the form of a term with this sign is made of those of its sides
abbrev pub is_linear : TermSign → Bool
is_linear Add = true
is_linear Minus = true
is_linear Mul = true
is_linear sign = false

abbrev pub join : TermSign → TermTree → Form → Form → Option Form
join Add t f g = plus f g
join Minus t f g = and_then (scaled (negsuc 0) g) (plus f)
join Mul t f g = product t f g f.parts g.parts
join sign t f g = Some (single t)

abbrev pub linear_of : TermTree → Option Form
linear_of (Num n) = form (Some []) (small n)
linear_of (Neg a) = and_then (linear_of a) (scaled (negsuc 0))
linear_of (Bin sign a b) =
    if is_linear sign then and_then (linear_of a) (λ f. and_then (linear_of b) (join sign (Bin sign a b) f)) else Some (single (Bin sign a b))
linear_of t = Some (single t)

abbrev pub combine_from : Form → List Form → List ℤ → Option Form
combine_from f [] ks = Some f
combine_from f (g ∷ gs) [] = Some f
combine_from f (g ∷ gs) (k ∷ ks) = and_then (scaled k g) (λ h. and_then (plus f h) (λ r. combine_from r gs ks))
