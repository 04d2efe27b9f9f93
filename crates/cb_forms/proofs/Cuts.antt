-- A number that stays in the bounds after the cut was not cut.
use Rattle.std.proofs.Common.{◌≡◌, ◌^◌, suc, ℤ, pos, negsuc, Bool, true, false, nat_le, refl, true≢false}
use Rattle.cb_forms.specs.Spans.{cut, is_above, is_below}

pub cut_exact : (z : ℤ) → is_above (cut z) ≡ false → is_below (cut z) ≡ false → cut z ≡ z
cut_exact (pos n) h l = by (nat_le n (2 ^ 126)) refl
  where
    by : (b : Bool) → nat_le n (2 ^ 126) ≡ b → cut (pos n) ≡ pos n
    by true e = rw e refl
    by false e = absurd (true≢false (rw e at h))
cut_exact (negsuc n) h l = by (nat_le (suc n) (2 ^ 126)) refl
  where
    by : (b : Bool) → nat_le (suc n) (2 ^ 126) ≡ b → cut (negsuc n) ≡ negsuc n
    by true e = rw e refl
    by false e = absurd (true≢false (rw e at l))
