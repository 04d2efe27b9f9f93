-- Values, their kinds, what the signs do with them, and what names stand for.
-- A set's items are whole numbers: 0 and 1 for FALSE and TRUE, and the places of elements.
use Rattle.std.specs.Prelude.{ℕ, ◌<◌, ◌==◌, ℤ, pos, ◌+ℤ◌, ◌-ℤ◌, ◌*ℤ◌, neg_ℤ, int_lt, int_le, Bool, true, false, ◌&&◌, ◌||◌, if◌then◌else◌, List, [], ◌∷◌, length, slice_index_or, IsTrue, ⊤}
use Rattle.std.specs.Ordering.{int_eq}
use Rattle.std.specs.Int.{int_div_euclid, int_rem_euclid}
use Rattle.cb_term.specs.declared.name.Name.{Name}
use Rattle.cb_term.specs.declared.kind.Kind.{Kind}
use Rattle.cb_term.specs.declared.kind.Kind.TheVariants as kind
use Rattle.cb_term.specs.declared.kind.Base.{Base}
use Rattle.cb_term.specs.declared.kind.Base.TheVariants as base
use Rattle.cb_term.specs.declared.sign.TermSign.{TermSign}
use Rattle.cb_term.specs.declared.sign.TermSign.TheVariants.{Add, Minus, Mul, Div, Mod, Range, Union, Inter}
use Rattle.cb_term.specs.declared.sign.RelSign.{RelSign}
use Rattle.cb_term.specs.declared.sign.RelSign.TheVariants.{Equal, Less, AtMost, Member, Subset}
use Rattle.cb_term.specs.Names.{same_name}
use Rattle.cb_term.specs.Sets.{IsAscending, has, union, intersection, difference, is_subset, same_items, range}
use Rattle.cb_term.specs.declared.value.Value.{Value}
use Rattle.cb_term.specs.declared.value.Value.TheVariants.{Int, Truth, Elem, Set}

-- what stands for a thing that has no value of its own: the number 0
abbrev pub nothing : Value
nothing = Int (pos 0)

-- ---- signs. Over values of sorts that a sign does not take, a term has the value 0 and a relation is false

abbrev pub bit : Bool → ℤ
bit true = pos 1
bit false = pos 0

abbrev pub same_truth : Bool → Bool → Bool
same_truth true true = true
same_truth false false = true
same_truth a b = false

-- `-` is the difference of two numbers, and the difference of two sets
abbrev pub minus : Value → Value → Value
minus (Int x) (Int y) = Int (x -ℤ y)
minus (Set xs) (Set ys) = Set (difference xs ys)
minus u v = nothing

-- a positive divisor gives the floor of the quotient and the rest of that, any other divisor 0
abbrev pub bin : TermSign → Value → Value → Value
bin Add (Int x) (Int y) = Int (x +ℤ y)
bin Minus u v = minus u v
bin Mul (Int x) (Int y) = Int (x *ℤ y)
bin Div (Int x) (Int y) = if int_lt (pos 0) y then Int (int_div_euclid x y) else nothing
bin Mod (Int x) (Int y) = if int_lt (pos 0) y then Int (int_rem_euclid x y) else nothing
bin Range (Int x) (Int y) = Set (range x y)
bin Union (Set xs) (Set ys) = Set (union xs ys)
bin Inter (Set xs) (Set ys) = Set (intersection xs ys)
bin sign u v = nothing

abbrev pub neg : Value → Value
neg (Int x) = Int (neg_ℤ x)
neg v = nothing

abbrev pub card : Value → Value
card (Set xs) = Int (pos (length xs))
card v = nothing

abbrev pub rel : RelSign → Value → Value → Bool
rel Equal (Int x) (Int y) = int_eq x y
rel Equal (Truth a) (Truth b) = same_truth a b
rel Equal (Elem j) (Elem k) = j == k
rel Equal (Set xs) (Set ys) = same_items xs ys
rel Less (Int x) (Int y) = int_lt x y
rel AtMost (Int x) (Int y) = int_le x y
rel Member (Int x) (Set ys) = has ys x
rel Member (Truth b) (Set ys) = has ys (bit b)
rel Member (Elem k) (Set ys) = has ys (pos k)
rel Subset (Set xs) (Set ys) = is_subset xs ys
rel sign u v = false

-- the value as an item of a set
abbrev pub item : Value → ℤ
item (Int x) = x
item (Truth b) = bit b
item (Elem k) = pos k
item (Set xs) = pos 0

-- ---- kinds. `sizes` has the number of elements of each enumerated set

abbrev pub size_of_set : List ℕ → ℕ → ℕ
size_of_set sizes set = slice_index_or sizes set 0

abbrev pub IsItem : List ℕ → Base → ℤ → Type 0
IsItem sizes base.Integer x = ⊤
IsItem sizes base.Truth x = IsTrue (int_eq x (pos 0) || int_eq x (pos 1))
IsItem sizes (base.Elem set) x = IsTrue (int_le (pos 0) x && int_lt x (pos (size_of_set sizes set)))

abbrev pub AreItems : List ℕ → Base → List ℤ → Type 0
AreItems sizes base [] = ⊤
AreItems sizes base (x ∷ xs) = IsItem sizes base x × AreItems sizes base xs

-- the value is one of the kind
abbrev pub IsOf : List ℕ → Kind → Value → Type 0
IsOf sizes kind.Integer (Int x) = ⊤
IsOf sizes kind.Truth (Truth b) = ⊤
IsOf sizes (kind.Elem set) (Elem k) = k < size_of_set sizes set
IsOf sizes (kind.SetOf base) (Set xs) = IsAscending xs × AreItems sizes base xs
IsOf sizes kind.EmptySet (Set []) = ⊤
IsOf sizes kind v = ⊥

-- ---- what names stand for. A store that lacks a name gives it the value 0

abbrev pub Look : Type 0
Look = Name → Value

-- the look-up with another value at one name
abbrev pub set_at : Look → Name → Value → Look
set_at look x v = λ y. if same_name y x then v else look y
