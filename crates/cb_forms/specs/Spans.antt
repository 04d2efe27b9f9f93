-- Intervals of whole numbers of any size.
use Rattle.std.specs.Prelude.{ℤ, pos, negsuc, ◌+ℤ◌, ◌-ℤ◌, ◌*ℤ◌, neg_ℤ, ◌^◌, suc, Bool, ◌||◌, nat_le, int_lt, int_le, if◌then◌else◌, false, ◌≡◌}
use Rattle.std.specs.Int.{int_min, int_max, int_div_euclid}
use Rattle.cb_forms.specs.declared.span.Span.{Span}

-- the number, cut to what is kept of an end
abbrev pub cut : ℤ → ℤ
cut (pos n) = if nat_le n (2 ^ 126) then pos n else pos (2 ^ 126)
cut (negsuc n) = if nat_le (suc n) (2 ^ 126) then negsuc n else neg_ℤ (pos (2 ^ 126))

abbrev pub is_above : ℤ → Bool
is_above z = int_lt (pos (2 ^ 62)) z

abbrev pub is_below : ℤ → Bool
is_below z = int_lt z (neg_ℤ (pos (2 ^ 62)))

-- a number of it is further than 2 ^ 62 from 0
abbrev pub leaves : Span → Bool
leaves s = is_below s.lo || is_above s.hi

abbrev pub added : Span → Span → Span
added s t = record { lo = cut (s.lo +ℤ t.lo); hi = cut (s.hi +ℤ t.hi) }

abbrev pub taken : Span → Span → Span
taken s t = record { lo = cut (s.lo -ℤ t.hi); hi = cut (s.hi -ℤ t.lo) }

abbrev pub negated : Span → Span
negated s = record { lo = cut (pos 0 -ℤ s.hi); hi = cut (pos 0 -ℤ s.lo) }

abbrev pub least4 : ℤ → ℤ → ℤ → ℤ → ℤ
least4 a b c d = int_min (int_min a b) (int_min c d)

abbrev pub greatest4 : ℤ → ℤ → ℤ → ℤ → ℤ
greatest4 a b c d = int_max (int_max a b) (int_max c d)

abbrev pub scaled : Span → Span → Span
scaled s t =
    let a = cut (s.lo *ℤ t.lo) in
    let b = cut (s.lo *ℤ t.hi) in
    let c = cut (s.hi *ℤ t.lo) in
    let d = cut (s.hi *ℤ t.hi) in
    record { lo = least4 a b c d; hi = greatest4 a b c d }

-- one number
abbrev pub point : ℤ → Span
point n = record { lo = n; hi = n }

-- it has more than so many numbers
abbrev pub has_more : ℤ → Span → Bool
has_more most s = int_le most (s.hi -ℤ s.lo)

-- the floors of the ends
abbrev pub divided : Span → ℤ → Span
divided s d = record { lo = int_div_euclid s.lo d; hi = int_div_euclid s.hi d }

abbrev pub rest_of : ℤ → Span
rest_of d = record { lo = pos 0; hi = d -ℤ pos 1 }

abbrev pub CutIsExact : Type 0
CutIsExact = (z : ℤ) → is_above (cut z) ≡ false → is_below (cut z) ≡ false → cut z ≡ z
