-- Finite sets of whole numbers, as ascending lists.
use Rattle.std.specs.Prelude.{ℕ, zero, suc, ◌+◌, ℤ, pos, ◌+ℤ◌, ◌<ℤ◌, int_lt, int_le, Bool, true, false, not, ◌&&◌, ◌||◌, if◌then◌else◌, List, [], ◌∷◌, filter, ⊤}
use Rattle.std.specs.Ordering.{int_eq}
use Rattle.std.specs.Int.{int_gap}
use Rattle.std.specs.List.{list_all}

abbrev pub IsAscending : List ℤ → Type 0
IsAscending [] = ⊤
IsAscending (x ∷ []) = ⊤
IsAscending (x ∷ y ∷ ys) = (x <ℤ y) × IsAscending (y ∷ ys)

abbrev pub has : List ℤ → ℤ → Bool
has [] x = false
has (y ∷ ys) x = int_eq y x || has ys x

abbrev pub insert : ℤ → List ℤ → List ℤ
insert x [] = x ∷ []
insert x (y ∷ ys) = if int_lt x y then x ∷ (y ∷ ys) else (if int_eq x y then y ∷ ys else y ∷ insert x ys)

abbrev pub union : List ℤ → List ℤ → List ℤ
union [] ys = ys
union (x ∷ xs) ys = insert x (union xs ys)

abbrev pub intersection : List ℤ → List ℤ → List ℤ
intersection xs ys = filter (has ys) xs

-- what the first set has and the second lacks
abbrev pub difference : List ℤ → List ℤ → List ℤ
difference xs ys = filter (λ x. not (has ys x)) xs

abbrev pub is_subset : List ℤ → List ℤ → Bool
is_subset xs ys = list_all (has ys) xs

abbrev pub same_items : List ℤ → List ℤ → Bool
same_items [] [] = true
same_items [] (y ∷ ys) = false
same_items (x ∷ xs) [] = false
same_items (x ∷ xs) (y ∷ ys) = int_eq x y && same_items xs ys

-- n numbers from x on
abbrev pub upwards : ℤ → ℕ → List ℤ
upwards x zero = []
upwards x (suc n) = x ∷ upwards (x +ℤ pos 1) n

-- the numbers from x to y
abbrev pub range : ℤ → ℤ → List ℤ
range x y = if int_le x y then upwards x (int_gap x y + 1) else []
