-- Names, stores and values.
use Rattle.std.proofs.Common.{◌≡◌, ℕ, suc, ◌+◌, ◌<◌, ◌≤◌, false, List, [], ◌∷◌, ap, ◌∙◌, slice_index_or, arith, if◌then◌else◌}
use Rattle.std.proofs.lemmas.Bool.{ne_eqb, and_right}
use Rattle.cb_term.specs.declared.name.Name.{Name}
use Rattle.cb_term.specs.declared.value.Value.{Value}
use Rattle.cb_term.specs.Names.{same_name}
use Rattle.cb_term.specs.Values.{Look, nothing, set_at}
use Rattle.cb_term.proofs.ValueLemmas.{same_name_self}
use Rattle.cb_spec.specs.Stores.{Writes}

pub other_number : (x y : Name) → (x.number ≡ y.number → ⊥) → same_name x y ≡ false
other_number x y ne = and_right _ _ (ne_eqb x.number y.number ne)

pub set_here : (look : Look) (x : Name) (v : Value) → set_at look x v x ≡ v
set_here look x v = ap (λ b. if b then v else look x) (same_name_self x)

pub set_other : (look : Look) (x : Name) (v : Value) (y : Name) → same_name y x ≡ false → set_at look x v y ≡ look y
set_other look x v y e = ap (λ b. if b then v else look y) e

-- the stores agree on the names with numbers up to n
abbrev pub AgreeUpTo : ℕ → Look → Look → Type 0
AgreeUpTo n l l' = (y : Name) → y.number ≤ n → l' y ≡ l y

pub set_agrees : (n : ℕ) (l : Look) (x : Name) (v : Value) → n < x.number → AgreeUpTo n l (set_at l x v)
set_agrees n l x v lt y le = set_other l x v y (other_number y x (λ e. absurd (omega (arith, e, lt, le))))

-- ---- writes

abbrev pub names_of : Writes → List Name
names_of [] = []
names_of (p ∷ ps) = p.0 ∷ names_of ps

abbrev pub values_of : Writes → List Value
values_of [] = []
values_of (p ∷ ps) = p.1 ∷ values_of ps

-- from place k on, `env` is `vs`
abbrev pub Shift : ℕ → List Value → List Value → Type 0
Shift k env vs = (j : ℕ) → slice_index_or env (k + j) nothing ≡ slice_index_or vs j nothing

pub shift_none : (env : List Value) → Shift 0 env env
shift_none env j = ap (λ i. slice_index_or env i nothing) (omega arith)

pub shift_more : (k : ℕ) (env vs : List Value) (v : Value) → Shift k env vs → Shift (k + 1) (v ∷ env) vs
shift_more k env vs v h j = ap (λ i. slice_index_or (v ∷ env) i nothing) e ∙ h j
  where
    e : k + 1 + j ≡ suc (k + j)
    e = omega arith

pub shift_tail : (k : ℕ) (env vs : List Value) (v : Value) → Shift k env (v ∷ vs) → Shift (k + 1) env vs
shift_tail k env vs v h j = ap (λ i. slice_index_or env i nothing) e ∙ h (suc j)
  where
    e : k + 1 + j ≡ k + suc j
    e = omega arith

pub shift_head : (k : ℕ) (env vs : List Value) (v : Value) → Shift k env (v ∷ vs) → slice_index_or env k nothing ≡ v
shift_head k env vs v h = ap (λ i. slice_index_or env i nothing) e ∙ h 0
  where
    e : k ≡ k + 0
    e = omega arith
