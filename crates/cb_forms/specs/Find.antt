-- Names in a list of names with what they stand for, and numbers in a list of numbers.
use Rattle.std.specs.Prelude.{ℕ, nat_eq, List, [], ◌∷◌, ◌++◌, Bool, Option, Some, None, if◌then◌else◌, bytes_eq, is_some, option_map, slice_get}
use Rattle.std.specs.List.{list_any}

-- the second spelling of a name: no name ends with a blank
abbrev pub spelled_again : List ℕ → List ℕ
spelled_again x = x ++ 32 ∷ []

module _ {M : Type 0} where
  -- what the first of the name stands for
  abbrev pub found : List ℕ → List (List ℕ × M) → Option M
  found x [] = None
  found x (e ∷ es) = if bytes_eq x e.0 then Some e.1 else found x es

  -- with the name, where it is not there already
  abbrev pub inside : List ℕ → M → List (List ℕ × M) → List (List ℕ × M)
  inside x m es = if is_some (found x es) then es else es ++ (x, m) ∷ []

  -- the spelling of a name that is added: the second, where the name is there already
  unfoldable pub free_spelling : List ℕ → List (List ℕ × M) → List ℕ
  free_spelling x es = if is_some (found x es) then spelled_again x else x

  -- with the name in that spelling
  abbrev pub beside : List ℕ → M → List (List ℕ × M) → List (List ℕ × M)
  beside x m es = inside (free_spelling x es) m es

  -- with the name, which stands for this even where it is there already
  abbrev pub put : List ℕ → M → List (List ℕ × M) → List (List ℕ × M)
  put x m [] = (x, m) ∷ []
  put x m (e ∷ es) = if bytes_eq x e.0 then (e.0, m) ∷ es else e ∷ put x m es

  -- with the names that both of the others have, which stand for this where they are not there already
  abbrev pub with_common : M → List (List ℕ × M) → List (List ℕ × M) → List (List ℕ × M) → List (List ℕ × M)
  with_common m es [] bs = es
  with_common m es (a ∷ rest) bs = with_common m (if is_some (found a.0 bs) then inside a.0 m es else es) rest bs

  -- the name at the index
  abbrev pub name_in : List (List ℕ × M) → ℕ → Option (List ℕ)
  name_in es i = option_map (λ e. e.0) (slice_get es i)

abbrev pub is_in : ℕ → List ℕ → Bool
is_in k ks = list_any (nat_eq k) ks

abbrev pub with_number : ℕ → List ℕ → List ℕ
with_number k ks = if is_in k ks then ks else ks ++ k ∷ []
