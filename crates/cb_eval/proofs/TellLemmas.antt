-- What an answer tells of what it is made of.
use Rattle.std.proofs.Common.{◌≡◌, ℕ, zero, suc, Bool, true, false, ◌&&◌, List, [], ◌∷◌, Option, Some, None, refl, if◌then◌else◌}
use Rattle.std.specs.Prelude.{nat_le, slice_get, slice_index_or, length}
use Rattle.cb_term.specs.declared.value.Value.{Value}
use Rattle.cb_term.specs.declared.value.Value.TheVariants as value
use Rattle.cb_term.specs.Values.{nothing}
use Rattle.cb_eval.specs.ClosedTruth.{with_one, with_two}
use Rattle.cb_eval.specs.Evaluation.{fits, kept, kept_unless, is_ascending, given, where_named}

pub one_tells : {A B : Type 0} (o : Option A) (g : A → Option B) (c : B) (R : Type 0) → with_one o g ≡ Some c → ((a : A) → o ≡ Some a → g a ≡ Some c → R) → R
one_tells None g c R e go = cc
one_tells (Some a) g c R e go = go a refl e

pub two_tells : {A B C : Type 0} (o : Option A) (p : Option B) (g : A → B → Option C) (c : C) (R : Type 0) → with_two o p g ≡ Some c → ((a : A) (b : B) → o ≡ Some a → p ≡ Some b → g a b ≡ Some c → R) → R
two_tells None p g c R e go = cc
two_tells (Some a) None g c R e go = cc
two_tells (Some a) (Some b) g c R e go = go a b refl refl e

pub some_is : {A : Type 0} (a b : A) → Some a ≡ Some b → a ≡ b
some_is a b e = cc

pub if_tells : {A : Type 0} (b : Bool) (v w : A) → (if b then Some v else None) ≡ Some w → v ≡ w
if_tells true v w e = cc
if_tells false v w e = cc

pub kept_tells : (named : Bool) (v w : Value) → kept named v ≡ Some w → v ≡ w
kept_tells named (value.Int n) w e = if_tells (fits named n) _ _ e
kept_tells named (value.Truth b) w e = cc
kept_tells named (value.Elem k) w e = cc
kept_tells named (value.Set xs) w e = if_tells (nat_le (length xs) 256) _ _ e

pub unless_tells : (free named : Bool) (v w : Value) → kept_unless free named v ≡ Some w → v ≡ w
unless_tells true named v w e = cc
unless_tells false named v w e = kept_tells named v w e

pub given_tells : (v w : Value) → given v ≡ Some w → v ≡ w
given_tells (value.Int n) w e = cc
given_tells (value.Truth b) w e = cc
given_tells (value.Elem k) w e = cc
given_tells (value.Set xs) w e = if_tells (is_ascending xs && nat_le (length xs) 256) _ _ e

pub where_tells : {A : Type 0} (named : Bool) (o : Option A) (a : A) → where_named named o ≡ Some a → o ≡ Some a
where_tells true o a e = e
where_tells false o a e = cc

-- the variable's value, where there is one
pub bound_is : (env : List Value) (j : ℕ) (v : Value) → slice_get env j ≡ Some v → slice_index_or env j nothing ≡ v
bound_is [] j v e = cc
bound_is (w ∷ env) zero v e = cc
bound_is (w ∷ env) (suc j) v e = bound_is env j v e
