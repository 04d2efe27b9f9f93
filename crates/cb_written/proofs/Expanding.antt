-- Parts without repetition stand for the lines that one gets by putting their alternatives in their places.
use Rattle.std.specs.Prelude.{◌≡◌, ℕ, zero, suc, Bool, true, false, ◌&&◌, List, [], ◌∷◌, ◌++◌, refl}
use Rattle.std.proofs.Common.{inl, inr, ◌⊎◌, cond}
use Rattle.cb_engine.specs.declared.Symbol.{Symbol}
use Rattle.cb_engine.specs.declared.Symbol.TheVariants.{Take, Keep, Act, Part, Gives, Then, Line}
use Rattle.cb_engine.specs.Deciding.{both}
use Rattle.cb_engine.specs.Lines.{alternatives, Among}
use Rattle.cb_grammar.specs.declared.table.TheConstants.{GRAMMAR}
use Rattle.cb_written.specs.Shapes.{Exactly, ◌before◌, Either}
use Rattle.cb_written.proofs.Standing.{Stands, AllStand, asks_none, exact, lines, more_lines, part_of, next, told_as, all_told_as}

abbrev pub each_behind : List Symbol → List (List Symbol) → List (List Symbol)
each_behind u [] = []
each_behind u (v ∷ vs) = (u ++ v) ∷ each_behind u vs

abbrev pub products : List (List Symbol) → List (List Symbol) → List (List Symbol)
products [] vs = []
products (u ∷ us) vs = each_behind u vs ++ products us vs

-- a symbol that stays, or a part's lines in its place
abbrev pub in_place : (ℕ → List (List Symbol)) → Symbol → List (List Symbol)
in_place h (Part n) = h n
in_place h (Take c) = (Take c ∷ []) ∷ []
in_place h (Keep c) = (Keep c ∷ []) ∷ []
in_place h (Act a) = (Act a ∷ []) ∷ []
in_place h (Gives s) = (Gives s ∷ []) ∷ []
in_place h (Then a b) = (Then a b ∷ []) ∷ []
in_place h (Line m c keep) = (Line m c keep ∷ []) ∷ []

abbrev pub line_in_place : (ℕ → List (List Symbol)) → List Symbol → List (List Symbol)
line_in_place h [] = [] ∷ []
line_in_place h (x ∷ u) = products (in_place h x) (line_in_place h u)

abbrev pub lines_in_place : (ℕ → List (List Symbol)) → List (List Symbol) → List (List Symbol)
lines_in_place h [] = []
lines_in_place h (l ∷ ls) = line_in_place h l ++ lines_in_place h ls

abbrev pub no_thens : List Symbol → Bool
no_thens [] = true
no_thens (Then a b ∷ u) = false
no_thens (_ ∷ u) = no_thens u

abbrev pub all_no_thens : List (List Symbol) → Bool
all_no_thens [] = true
all_no_thens (l ∷ ls) = no_thens l && all_no_thens ls

-- the lines of a part, with those of the chosen parts in their places, so many times
abbrev pub expanded : (ℕ → Bool) → ℕ → ℕ → List (List Symbol)
expanded chosen zero n = (Part n ∷ []) ∷ []
expanded chosen (suc f) n = cond (chosen n && all_no_thens (alternatives GRAMMAR n)) (lines_in_place (λ m. expanded chosen f m) (alternatives GRAMMAR n)) ((Part n ∷ []) ∷ [])

in_left : (us vs : List (List Symbol)) (w : List Symbol) → Among us w → Among (us ++ vs) w
in_left [] vs w a = absurd a
in_left (u ∷ us) vs w (inl e) = inl e
in_left (u ∷ us) vs w (inr a) = inr (in_left us vs w a)

in_right : (us vs : List (List Symbol)) (w : List Symbol) → Among vs w → Among (us ++ vs) w
in_right [] vs w a = a
in_right (u ∷ us) vs w a = inr (in_right us vs w a)

of_both : (us vs : List (List Symbol)) (w : List Symbol) → Among (us ++ vs) w → Among us w ⊎ Among vs w
of_both [] vs w a = inr a
of_both (u ∷ us) vs w (inl e) = inl (inl e)
of_both (u ∷ us) vs w (inr a) = go (of_both us vs w a)
  where
    go : Among us w ⊎ Among vs w → Among (u ∷ us) w ⊎ Among vs w
    go (inl a) = inl (inr a)
    go (inr a) = inr a

to_each : (u v : List Symbol) (vs : List (List Symbol)) → Among vs v → Among (each_behind u vs) (u ++ v)
to_each u v [] a = absurd a
to_each u v (x ∷ vs) (inl e) = inl (rw e refl)
to_each u v (x ∷ vs) (inr a) = inr (to_each u v vs a)

of_each : (u w : List Symbol) (vs : List (List Symbol)) → Among (each_behind u vs) w → (v : List Symbol) × Among vs v × (w ≡ u ++ v)
of_each u w [] a = absurd a
of_each u w (x ∷ vs) (inl e) = (x, inl refl, e)
of_each u w (x ∷ vs) (inr a) = let q = of_each u w vs a in (q.0, inr q.1, q.2)

to_products : (us vs : List (List Symbol)) (u v : List Symbol) → Among us u → Among vs v → Among (products us vs) (u ++ v)
to_products [] vs u v a b = absurd a
to_products (x ∷ us) vs u v (inl e) b = in_left (each_behind x vs) (products us vs) (u ++ v) (rw e (to_each x v vs b))
to_products (x ∷ us) vs u v (inr a) b = in_right (each_behind x vs) (products us vs) (u ++ v) (to_products us vs u v a b)

of_products : (us vs : List (List Symbol)) (w : List Symbol) → Among (products us vs) w → (Among us before Among vs) w
of_products [] vs w a = absurd a
of_products (x ∷ us) vs w a = go (of_both (each_behind x vs) (products us vs) w a) (λ b. of_products us vs w b)
  where
    further : (Among us before Among vs) w → (Among (x ∷ us) before Among vs) w
    further (u, v, p, q, e) = (u, v, inr p, q, e)

    go : Among (each_behind x vs) w ⊎ Among (products us vs) w → (Among (products us vs) w → (Among us before Among vs) w) → (Among (x ∷ us) before Among vs) w
    go (inl b) rest = let q = of_each x w vs b in (x, q.0, inl refl, q.1, q.2)
    go (inr b) rest = further (rest b)

from_before : (us vs : List (List Symbol)) (w : List Symbol) → (Among us before Among vs) w → Among (products us vs) w
from_before us vs w (u, v, p, q, e) = rw e (to_products us vs u v p q)

alone : (u : List Symbol) → asks_none u ≡ true → Stands u (Among (u ∷ []))
alone u e = told_as u (Exactly u) (Among (u ∷ [])) (λ w q. inl q) (λ w a. go w a) (exact u e)
  where
    go : (w : List Symbol) → Among (u ∷ []) w → Exactly u w
    go w (inl q) = q
    go w (inr a) = absurd a

module _ (h : ℕ → List (List Symbol)) (each : (m : ℕ) → Stands (Part m ∷ []) (Among (h m))) where
  behind : (x : Symbol) (l : List Symbol) → Stands (x ∷ []) (Among (in_place h x)) → Stands l (Among (line_in_place h l)) → Stands (x ∷ l) (Among (line_in_place h (x ∷ l)))
  behind x l s t =
      told_as (x ∷ l) (Among (in_place h x) before Among (line_in_place h l)) (Among (products (in_place h x) (line_in_place h l))) (from_before (in_place h x) (line_in_place h l)) (of_products (in_place h x) (line_in_place h l))
      (next (x ∷ []) l (Among (in_place h x)) (Among (line_in_place h l)) s t)

  pub line_stands : (l : List Symbol) → no_thens l ≡ true → Stands l (Among (line_in_place h l))
  line_stands [] e = alone [] refl
  line_stands (Take c ∷ l) e = behind (Take c) l (alone (Take c ∷ []) refl) (line_stands l e)
  line_stands (Keep c ∷ l) e = behind (Keep c) l (alone (Keep c ∷ []) refl) (line_stands l e)
  line_stands (Act c ∷ l) e = behind (Act c) l (alone (Act c ∷ []) refl) (line_stands l e)
  line_stands (Gives c ∷ l) e = behind (Gives c) l (alone (Gives c ∷ []) refl) (line_stands l e)
  line_stands (Line c d k ∷ l) e = behind (Line c d k) l (alone (Line c d k ∷ []) refl) (line_stands l e)
  line_stands (Part n ∷ l) e = behind (Part n) l (each n) (line_stands l e)
  line_stands (Then a b ∷ l) e = absurd (cc)

  pub lines_stand : (ls : List (List Symbol)) → all_no_thens ls ≡ true → AllStand ls (Among (lines_in_place h ls))
  lines_stand [] e = lines [] refl
  lines_stand (l ∷ ls) e =
      all_told_as (l ∷ ls) (Either (Among (line_in_place h l)) (Among (lines_in_place h ls))) (Among (lines_in_place h (l ∷ ls))) to (of_both (line_in_place h l) (lines_in_place h ls))
      (more_lines l ls (Among (line_in_place h l)) (Among (lines_in_place h ls)) (line_stands l (both e).0) (lines_stand ls (both e).1))
    where
      to : (w : List Symbol) → Either (Among (line_in_place h l)) (Among (lines_in_place h ls)) w → Among (lines_in_place h (l ∷ ls)) w
      to w (inl a) = in_left (line_in_place h l) (lines_in_place h ls) w a
      to w (inr a) = in_right (line_in_place h l) (lines_in_place h ls) w a

pub expanded_stands : (chosen : ℕ → Bool) (f n : ℕ) → Stands (Part n ∷ []) (Among (expanded chosen f n))
expanded_stands chosen zero n = alone (Part n ∷ []) refl
expanded_stands chosen (suc f) n = go (chosen n && all_no_thens (alternatives GRAMMAR n)) refl (λ m. expanded_stands chosen f m)
  where
    inner : List (List Symbol)
    inner = lines_in_place (λ m. expanded chosen f m) (alternatives GRAMMAR n)

    go : (b : Bool) → (chosen n && all_no_thens (alternatives GRAMMAR n)) ≡ b → ((m : ℕ) → Stands (Part m ∷ []) (Among (expanded chosen f m))) → Stands (Part n ∷ []) (Among (cond b inner ((Part n ∷ []) ∷ [])))
    go true e each = part_of n (alternatives GRAMMAR n) (Among inner) refl (lines_stand (λ m. expanded chosen f m) each (alternatives GRAMMAR n) (both e).1)
    go false e each = alone (Part n ∷ []) refl
