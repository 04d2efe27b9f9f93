-- Small numbers, and values that are numbers.
use Rattle.std.proofs.Common.{◌≡◌, ◌<◌, ℕ, ℤ, pos, ◌<ℤ◌, ◌≤ℤ◌, int_le, int_lt, Bool, true, false, List, refl, arith}
use Rattle.std.specs.Ordering.{int_eq}
use Rattle.std.proofs.lemmas.Int.{ints}
use Rattle.std.proofs.lemmas.Bool.Decides.{Decides-int_eq}
use Rattle.cb_term.specs.declared.kind.Kind.TheVariants as kind
use Rattle.cb_term.specs.declared.value.Value.{Value}
use Rattle.cb_term.specs.declared.value.Value.TheVariants as value
use Rattle.cb_term.specs.Values.{IsOf}
use Rattle.cb_term.specs.Sets.{has, range}
use Rattle.cb_spec.specs.Domains.{Within}
use Rattle.cb_spec.specs.Forms.{Number, IsSmall}
use Rattle.cb_spec.proofs.DomainLemmas.{range_tells}

pub small : (a b : ℕ) → b < 1000 → IsSmall (Number (pos a) (pos b))
small a b l = (omega (arith, ints), omega (arith, ints, l))

pub n0 : IsSmall (Number (pos 0) (pos 0))
n0 = small 0 0 (omega arith)

pub n1 : IsSmall (Number (pos 1) (pos 1))
n1 = small 1 1 (omega arith)

pub n9 : IsSmall (Number (pos 9) (pos 9))
n9 = small 9 9 (omega arith)

pub c9 : IsSmall (Number (pos 1) (pos 9))
c9 = small 1 9 (omega arith)

pub with_int : (sizes : List ℕ) (v : Value) → IsOf sizes kind.Integer v → (P : Value → Type 0) → ((x : ℤ) → P (value.Int x)) → P v
with_int sizes (value.Int x) i P f = f x
with_int sizes (value.Truth b) i P f = absurd i
with_int sizes (value.Elem k) i P f = absurd i
with_int sizes (value.Set xs) i P f = absurd i

pub equal : (x y : ℤ) → int_eq x y ≡ true → x ≡ y
equal x y e = (Decides-int_eq x y).0 e

pub in_range : (lo hi z : ℤ) → has (range lo hi) z ≡ true → Within lo hi z
in_range lo hi z h = range_tells lo hi z h

pub at_most : (x y : ℤ) → x ≤ℤ y → int_le x y ≡ true
at_most x y l = by (int_le x y) refl
  where
    by : (b : Bool) → int_le x y ≡ b → int_le x y ≡ true
    by true e = e
    by false e = absurd (omega (arith, ints, l, e))

pub less : (x y : ℤ) → x <ℤ y → int_lt x y ≡ true
less x y l = by (int_lt x y) refl
  where
    by : (b : Bool) → int_lt x y ≡ b → int_lt x y ≡ true
    by true e = e
    by false e = absurd (omega (arith, ints, l, e))
