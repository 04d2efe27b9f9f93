-- The operations of a text without a fault are typed.
use Rattle.std.proofs.Common.{◌≡◌, ℕ, zero, suc, ◌<◌, true, inl, inr, List, [], ◌∷◌, map, length, Option, refl, subst, arith, get_or, Contains}
use Rattle.cb_lex.specs.declared.token.Place.{Place}
use Rattle.cb_lex.specs.declared.raw.name.RawName.{RawName}
use Rattle.cb_lex.specs.RawSubstTree.{RawSubstTree}
use Rattle.cb_judge.specs.Writes.{always, missing, place_or}
use Rattle.cb_typing.proofs.Clean.{Clean, is_good}
use Rattle.cb_typing.proofs.Members.{Has}

-- ---- lists of what is declared

-- an element of a mapped list is that of a name
pub record Made {B : Type 0} (f : RawName → B) (xs : List RawName) (b : B) : Type 0 where
  pub name : RawName
  pub has : Has xs name
  pub is : f name ≡ b

pub made : {B : Type 0} (f : RawName → B) (xs : List RawName) (b : B) → Contains (map f xs) b → Made f xs b
made f [] b h = absurd (omega (arith, h.1))
made f (x ∷ xs) b h = by (made f xs b) h.0 h.1 h.2
  where
    by : (Contains (map f xs) b → Made f xs b) → (k : ℕ) → k < length (map f (x ∷ xs)) → get_or (map f (x ∷ xs)) k b ≡ b → Made f (x ∷ xs) b
    by w zero l e = record { name = x; has = inl refl; is = e }
    by w (suc k) l e = let r = w (k, (omega (arith, l)), e) in record { name = r.name; has = inr r.has; is = r.is }

pub all_written : (s : RawSubstTree) (at : Option Place) (xs : List RawName) → Clean (missing s at xs) → (x : RawName) → Has xs x → always x.text s ≡ true
all_written s at [] h x m = absurd m
all_written s at (y ∷ ys) h x (inl e) = subst (λ (z : RawName). always z.text s ≡ true) e (is_good _ 9 (place_or at y.place) h.0)
all_written s at (y ∷ ys) h x (inr m) = all_written s at ys h.1 x m
