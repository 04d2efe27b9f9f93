-- The class of a written name.
use Rattle.std.specs.Prelude.{◌≡◌, ℕ, zero, suc, Bool, true, false, ◌&&◌, nat_eq, List, [], ◌∷◌, Some, slice_get, drop, refl}
use Rattle.std.proofs.Common.{cond, sym, arith, ◌∙◌}
use Rattle.std.specs.Cmp.Lexicographic.{pointwise}
use Rattle.cb_grammar.specs.Classes.{words}
use Rattle.cb_grammar.specs.Terminals.{class_in, word_class, has_two_capitals}

-- one word further
pub class_next : (ws : List (List ℕ)) (n c : ℕ) (text word : List ℕ) → slice_get ws n ≡ Some word → class_in c (drop n ws) text ≡ cond (pointwise nat_eq text word) c (class_in (suc c) (drop (suc n) ws) text)
class_next [] zero c text word e = absurd (cc)
class_next [] (suc n) c text word e = absurd (cc)
class_next (w ∷ ws) zero c text word e = let q : w ≡ word = cc in rw q refl
class_next (w ∷ ws) (suc n) c text word e = class_next ws n c text word e

each_has_capitals : List (List ℕ) → Bool
each_has_capitals [] = true
each_has_capitals (w ∷ ws) = has_two_capitals w && each_has_capitals ws

same_number : (a b : ℕ) → nat_eq a b ≡ true → a ≡ b
same_number a b e = grind arith

both : (a b : Bool) → (a && b) ≡ true → (a ≡ true) × (b ≡ true)
both true b e = (refl, e)
both false b e = absurd (cc)

differ : false ≡ true → ⊥
differ e = cc

-- a text that is a word with capitals has them
has_them : (text w : List ℕ) → pointwise nat_eq text w ≡ true → has_two_capitals text ≡ has_two_capitals w
has_them [] [] e = refl
has_them [] (y ∷ w) e = absurd (cc)
has_them (x ∷ text) [] e = absurd (cc)
has_them (x ∷ []) (y ∷ []) e = refl
has_them (x ∷ []) (y ∷ z ∷ w) e = let q = both (nat_eq x y) false e in absurd (differ q.1)
has_them (x ∷ v ∷ text) (y ∷ []) e = let q = both (nat_eq x y) false e in absurd (differ q.1)
has_them (x ∷ v ∷ text) (y ∷ z ∷ w) e =
    let p : (nat_eq x y ≡ true) × ((nat_eq v z && pointwise nat_eq text w) ≡ true) = both (nat_eq x y) (nat_eq v z && pointwise nat_eq text w) e in
    let q : (nat_eq v z ≡ true) × (pointwise nat_eq text w ≡ true) = both (nat_eq v z) (pointwise nat_eq text w) p.1 in
    let a : x ≡ y = same_number x y p.0 in
    let b : v ≡ z = same_number v z q.0 in
    rw (a, b) refl

none_without : (ws : List (List ℕ)) (c : ℕ) (text : List ℕ) → each_has_capitals ws ≡ true → has_two_capitals text ≡ false → class_in c ws text ≡ 1
unfolding each_has_capitals
none_without [] c text e f = refl
none_without (w ∷ ws) c text e f = go (pointwise nat_eq text w) refl (none_without ws (suc c) text (both (has_two_capitals w) (each_has_capitals ws) e).1 f)
  where
    go : (b : Bool) → pointwise nat_eq text w ≡ b → class_in (suc c) ws text ≡ 1 → cond b c (class_in (suc c) ws text) ≡ 1
    go true g more =
        let h : has_two_capitals text ≡ has_two_capitals w = has_them text w g in
        let k : has_two_capitals w ≡ true = (both (has_two_capitals w) (each_has_capitals ws) e).0 in
        absurd (differ (sym f ∙ (h ∙ k)))
    go false g more = more

each_word : each_has_capitals words ≡ true
unfolding each_has_capitals words
each_word = refl

-- without them it is a name
pub no_capitals : (text : List ℕ) → has_two_capitals text ≡ false → word_class text ≡ 1
no_capitals text f = none_without words 128 text each_word f

pub no_more : (text : List ℕ) → class_in 177 (drop 49 words) text ≡ 1
unfolding words
no_more text = refl
