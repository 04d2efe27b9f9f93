-- The value of a term and the truth of a formula as they are worked out. Where `named` is false no name is known, no quantifier
-- is gone over, and numbers keep to a size of 2^100; else `look` has what names stand for, and numbers have 64 bits.
use Rattle.std.specs.Prelude.{ℕ, zero, suc, ◌+◌, ◌^◌, ℤ, pos, negsuc, Bool, true, false, not, ◌&&◌, ◌||◌, nat_lt, nat_le, int_lt, if◌then◌else◌, List, [], ◌∷◌, length, slice_get, Option, Some, None}
use Rattle.cb_term.specs.declared.kind.Domain.{Domain}
use Rattle.cb_term.specs.declared.value.Value.{Value}
use Rattle.cb_term.specs.declared.value.Value.TheVariants as value
use Rattle.cb_term.specs.declared.sign.TermSign.TheVariants.{Range}
use Rattle.cb_term.specs.Tree.{TermTree, Var, Bound, Num, Truth, Elem, Bin, Neg, Card, Listed, Elems, Truths, Test, TermTrees, End, More, FormulaTree, True, False, Rel, Not, And, Or, Implies, Iff, Every, Exist}
use Rattle.cb_term.specs.Sets.{insert, upwards}
use Rattle.cb_term.specs.Values.{Look, item, bin, neg, card, rel, same_truth, size_of_set}
use Rattle.cb_spec.specs.TypedTerms.{is_membership, is_free_range, premise_of}
use Rattle.cb_eval.specs.ClosedTruth.{is_small, kept_set, with_one, with_two}
use Rattle.cb_eval.specs.Walks.{count_of, value_number, walked_domain}

abbrev pub fits : Bool → ℤ → Bool
fits false n = is_small n
fits true (pos n) = nat_lt n (2 ^ 63)
fits true (negsuc n) = nat_lt n (2 ^ 63)

-- the value, unless it is too large
abbrev pub kept : Bool → Value → Option Value
kept named (value.Int n) = if fits named n then Some (value.Int n) else None
kept named (value.Set xs) = if nat_le (length xs) 256 then Some (value.Set xs) else None
kept named v = Some v

abbrev pub kept_unless : Bool → Bool → Value → Option Value
kept_unless true named v = Some v
kept_unless false named v = kept named v

abbrev pub is_ascending : List ℤ → Bool
is_ascending [] = true
is_ascending (x ∷ []) = true
is_ascending (x ∷ y ∷ ys) = int_lt x y && is_ascending (y ∷ ys)

-- a value that is given, if it is one: its set ascends, and has at most 256 items
abbrev pub given : Value → Option Value
given (value.Set xs) = if is_ascending xs && nat_le (length xs) 256 then Some (value.Set xs) else None
given v = Some v

-- the first answer other than `go_on` of n from i on
abbrev pub until : Bool → ℕ → ℕ → (ℕ → Option Bool) → Option Bool
until go_on i zero g = Some go_on
until go_on i (suc n) g = with_one (g i) (λ b. if same_truth b go_on then until go_on (i + 1) n g else Some b)

-- no answer where there is no domain
abbrev pub walk : List ℕ → Bool → Option Domain → (Value → Option Bool) → Option Bool
walk sizes go_on None g = None
walk sizes go_on (Some d) g = until go_on 0 (count_of sizes d) (λ i. g (value_number sizes d i))

abbrev pub where_named : {A : Type 0} → Bool → Option A → Option A
where_named true o = o
where_named false o = None

-- the ends of a range that may be of any size, where the term is one
abbrev pub range_ends : Bool → TermTree → Option (TermTree × TermTree)
range_ends true (Bin Range a b) = Some (a, b)
range_ends on_right t = None

module _ (sizes : List ℕ) (named : Bool) (look : Look) where
  abbrev mutual
    pub value_in : (on_right : Bool) → List Value → TermTree → Option Value
    value_in on_right env (Var x) = where_named named (given (look x))
    value_in on_right env (Bound j) = with_one (slice_get env j) (λ v. where_named named (given v))
    value_in on_right env (Num n) = kept named (value.Int n)
    value_in on_right env (Truth b) = Some (value.Truth b)
    value_in on_right env (Elem set index) = Some (value.Elem index)
    value_in on_right env (Bin sign a b) =
        with_two (value_in false env a) (value_in false env b) (λ u v. kept_unless (is_free_range on_right sign) named (bin sign u v))
    value_in on_right env (Neg a) = with_one (value_in false env a) (λ u. kept named (neg u))
    value_in on_right env (Card a) = with_one (value_in false env a) (λ u. kept named (card u))
    value_in on_right env (Listed ts) = with_one (items_in env ts) (λ xs. Some (value.Set xs))
    value_in on_right env (Elems set) = kept named (value.Set (upwards (pos 0) (size_of_set sizes set)))
    value_in on_right env Truths = Some (value.Set (pos 0 ∷ pos 1 ∷ []))
    value_in on_right env (Test f) = with_one (truth_in env f) (λ b. Some (value.Truth b))

    pub items_in : List Value → TermTrees → Option (List ℤ)
    items_in env End = Some []
    items_in env (More t ts) = with_two (value_in false env t) (items_in env ts) (λ u xs. kept_set (insert (item u) xs))

    pub truth_in : List Value → FormulaTree → Option Bool
    truth_in env True = Some true
    truth_in env False = Some false
    truth_in env (Rel sign a b) = with_two (value_in false env a) (value_in (is_membership sign) env b) (λ u v. Some (rel sign u v))
    truth_in env (Not f) = with_one (truth_in env f) (λ p. Some (not p))
    truth_in env (And f g) = with_two (truth_in env f) (truth_in env g) (λ p q. Some (p && q))
    truth_in env (Or f g) = with_two (truth_in env f) (truth_in env g) (λ p q. Some (p || q))
    truth_in env (Implies f g) = with_two (truth_in env f) (truth_in env g) (λ p q. Some (not p || q))
    truth_in env (Iff f g) = with_two (truth_in env f) (truth_in env g) (λ p q. Some (same_truth p q))
    truth_in env (Every x kind f) =
        where_named named (walk sizes true (walked_domain sizes kind (premise_of f)) (λ v. truth_in (v ∷ env) f))
    truth_in env (Exist x kind f) = where_named named (walk sizes false (walked_domain sizes kind f) (λ v. truth_in (v ∷ env) f))
