-- The places of a pass's own entries stay in order.
use Rattle.std.proofs.Common.{◌≡◌, ℕ, ◌+◌, ◌≤◌, nat_lt, Bool, true, false, if◌then◌else◌, List, [], ◌∷◌, ◌++◌, length, drop, sym, refl, ap, subst, length-append, length-drop, arith}
use borrow.Author.Tests.{ltb-true}
use Rattle.cb_turn.specs.declared.view.View.{View}
use Rattle.cb_turn.specs.Views.{IsPrefix, IsAscendingIn, IsInOrder, places_from, longer, taking, giving, joined}

lower : (a b to : ℕ) (ns : List ℕ) → a ≤ b → IsAscendingIn b to ns → IsAscendingIn a to ns
lower a b to [] h o = tt
lower a b to (n ∷ ns) h o = (omega (arith, o.0), o.1, o.2)

raise : (from a b : ℕ) (ns : List ℕ) → a ≤ b → IsAscendingIn from a ns → IsAscendingIn from b ns
raise from a b [] h o = tt
raise from a b (n ∷ ns) h o = (o.0, omega (arith, o.1), raise (n + 1) a b ns h o.2)

joins : (from mid to : ℕ) (ns ms : List ℕ) → from ≤ mid → mid ≤ to → IsAscendingIn from mid ns → IsAscendingIn mid to ms → IsAscendingIn from to (ns ++ ms)
joins from mid to [] ms h k o p = lower from mid to ms h p
joins from mid to (n ∷ ns) ms h k o p = (o.0, omega (arith, o.1), joins (n + 1) mid to ns ms (omega (arith, o.1)) k o.2 p)

module _ {E : Type 0} where
  places_ascend : (n to : ℕ) (xs : List E) → n + length xs ≤ to → IsAscendingIn n to (places_from n xs)
  places_ascend n to [] h = tt
  places_ascend n to (x ∷ xs) h = (omega arith, omega arith, places_ascend (n + 1) to xs (omega arith))

  prefix_length : (xs ys : List E) → IsPrefix xs ys → length xs ≤ length ys
  prefix_length xs ys p = let e = ap length p.1 in omega (arith, e, length-append xs p.0)

  longer_length : (b : Bool) (xs ys : List E) → nat_lt (length xs) (length ys) ≡ b → length xs ≤ length (if b then ys else xs)
  longer_length true xs ys e = omega (arith, ltb-true (length xs) (length ys) e)
  longer_length false xs ys e = omega arith

module _ {P E : Type 0} where
  pub in_order_taking : (v : View P E) (list : List E) → IsPrefix v.seen list → IsInOrder v → IsInOrder (taking v list)
  in_order_taking v list p o = raise 0 (length v.seen) (length list) v.mine (prefix_length v.seen list p) o

  pub in_order_giving : (v : View P E) (list : List E) → IsPrefix v.seen list → IsInOrder v → IsInOrder (giving v list)
  in_order_giving v list p o = let h = prefix_length v.seen list p in
      joins 0 (length v.seen) (length list) v.mine (places_from (length v.seen) (drop (length v.seen) list)) (omega arith) h o
      (places_ascend (length v.seen) (length list) (drop (length v.seen) list) (let d = length-drop (length v.seen) list in omega arith))

  pub in_order_joined : (v w : View P E) → IsInOrder v → IsInOrder (joined v w)
  in_order_joined v w o = raise 0 (length v.seen) (length (longer v.seen w.seen)) v.mine (longer_length (nat_lt (length v.seen) (length w.seen)) v.seen w.seen refl) o

  pub in_order_is : (v w : View P E) → w ≡ v → IsInOrder v → IsInOrder w
  in_order_is v w e o = subst (λ (u : View P E). IsInOrder u) (sym e) o
