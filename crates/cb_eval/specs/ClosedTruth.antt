-- The truth of a formula that is told by its numbers and sets alone, where they are small: none for a name, for a variable, for
-- a quantifier, for a number whose size passes 2^100 and for a set of more than 256 items. A range directly to the right of `:`
-- or `<:` may have any size. `sizes` has the number of elements of each enumerated set.
use Rattle.std.specs.Prelude.{ℕ, ◌^◌, suc, ℤ, pos, negsuc, Bool, true, false, not, ◌&&◌, ◌||◌, nat_le, if◌then◌else◌, List, [], ◌∷◌, length, Option, Some, None}
use Rattle.cb_term.specs.declared.value.Value.{Value}
use Rattle.cb_term.specs.declared.value.Value.TheVariants as value
use Rattle.cb_term.specs.Tree.{TermTree, Var, Bound, Num, Truth, Elem, Bin, Neg, Card, Listed, Elems, Truths, Test, TermTrees, End, More, FormulaTree, True, False, Rel, Not, And, Or, Implies, Iff, Every, Exist}
use Rattle.cb_term.specs.Sets.{insert, upwards}
use Rattle.cb_term.specs.Values.{item, bin, neg, card, rel, same_truth, size_of_set}
use Rattle.cb_spec.specs.TypedTerms.{is_membership, is_free_range}

-- the size is at most 2^100
abbrev pub is_small : ℤ → Bool
is_small (pos n) = nat_le n (2 ^ 100)
is_small (negsuc n) = nat_le (suc n) (2 ^ 100)

-- the value, unless it is too large
abbrev pub kept : Value → Option Value
kept (value.Int n) = if is_small n then Some (value.Int n) else None
kept (value.Set xs) = if nat_le (length xs) 256 then Some (value.Set xs) else None
kept v = Some v

abbrev pub kept_set : List ℤ → Option (List ℤ)
kept_set xs = if nat_le (length xs) 256 then Some xs else None

abbrev pub kept_unless : Bool → Value → Option Value
kept_unless true v = Some v
kept_unless false v = kept v

abbrev pub with_one : {A B : Type 0} → Option A → (A → Option B) → Option B
with_one None g = None
with_one (Some a) g = g a

abbrev pub with_two : {A B C : Type 0} → Option A → Option B → (A → B → Option C) → Option C
with_two None o g = None
with_two (Some a) None g = None
with_two (Some a) (Some b) g = g a b

module _ (sizes : List ℕ) where
  abbrev mutual
    -- the value of a term, which stands directly to the right of `:` or `<:` or does not
    pub closed_value : (on_right : Bool) → TermTree → Option Value
    closed_value on_right (Var x) = None
    closed_value on_right (Bound j) = None
    closed_value on_right (Num n) = kept (value.Int n)
    closed_value on_right (Truth b) = Some (value.Truth b)
    closed_value on_right (Elem set index) = Some (value.Elem index)
    closed_value on_right (Bin sign a b) =
        with_two (closed_value false a) (closed_value false b) (λ u v. kept_unless (is_free_range on_right sign) (bin sign u v))
    closed_value on_right (Neg a) = with_one (closed_value false a) (λ u. kept (neg u))
    closed_value on_right (Card a) = with_one (closed_value false a) (λ u. kept (card u))
    closed_value on_right (Listed ts) = with_one (closed_items ts) (λ xs. Some (value.Set xs))
    closed_value on_right (Elems set) = kept (value.Set (upwards (pos 0) (size_of_set sizes set)))
    closed_value on_right Truths = Some (value.Set (pos 0 ∷ pos 1 ∷ []))
    closed_value on_right (Test f) = with_one (closed_truth f) (λ b. Some (value.Truth b))

    -- the set of the terms' values. What the last terms make has no more items than the whole
    pub closed_items : TermTrees → Option (List ℤ)
    closed_items End = Some []
    closed_items (More t ts) = with_two (closed_value false t) (closed_items ts) (λ u xs. kept_set (insert (item u) xs))

    pub closed_truth : FormulaTree → Option Bool
    closed_truth True = Some true
    closed_truth False = Some false
    closed_truth (Rel sign a b) = with_two (closed_value false a) (closed_value (is_membership sign) b) (λ u v. Some (rel sign u v))
    closed_truth (Not f) = with_one (closed_truth f) (λ p. Some (not p))
    closed_truth (And f g) = with_two (closed_truth f) (closed_truth g) (λ p q. Some (p && q))
    closed_truth (Or f g) = with_two (closed_truth f) (closed_truth g) (λ p q. Some (p || q))
    closed_truth (Implies f g) = with_two (closed_truth f) (closed_truth g) (λ p q. Some (not p || q))
    closed_truth (Iff f g) = with_two (closed_truth f) (closed_truth g) (λ p q. Some (same_truth p q))
    closed_truth (Every x kind f) = None
    closed_truth (Exist x kind f) = None
