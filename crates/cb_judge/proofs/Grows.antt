-- What is written only grows, at its end.
use Rattle.std.proofs.Common.{◌≡◌, ℕ, Bool, true, false, List, [], ◌∷◌, ◌++◌, take, length, is_some, refl, sym, ap, ◌∙◌, append_assoc}
use Rattle.cb_lex.specs.declared.raw.name.RawName.{RawName}
use Rattle.cb_lex.specs.RawSubstTree.{RawSubstTree, Skip, Assign, Among, If, IfElse, Choice, Any, Parallel, RawSubsts, NoSide, Side}
use Rattle.cb_forms.specs.Find.{found, inside}
use Rattle.cb_judge.specs.Writes.{Written, with_target, after, after_sides}

abbrev Grows : Written → Written → Type 0
Grows w v = (es : Written) × (v ≡ w ++ es)

nothing : (w : Written) → w ++ [] ≡ w
nothing [] = refl
nothing (e ∷ w) = ap (λ v. e ∷ v) (nothing w)

stays : (w : Written) → Grows w w
stays w = ([], sym (nothing w))

one : (x : RawName) (w : Written) → Grows w (with_target x w)
one x w = by (is_some (found x.text w)) refl
  where
    by : (b : Bool) → is_some (found x.text w) ≡ b → Grows w (with_target x w)
    by true e = rw e (stays w)
    by false e = rw e ((x.text, x.place) ∷ [], refl)

two : (w v u : Written) → Grows w v → Grows v u → Grows w u
two w v u g h = (g.0 ++ h.0, h.1 ∙ ap (λ t. t ++ h.0) g.1 ∙ append_assoc w g.0 h.0)

mutual
  grows : (s : RawSubstTree) (w : Written) → Grows w (after w s)
  grows Skip w = stays w
  grows (Assign x t) w = one x w
  grows (Among x d) w = one x w
  grows (If f s) w = grows s w
  grows (IfElse f s t) w = two w (after w t) (after (after w t) s) (grows t w) (grows s (after w t))
  grows (Choice ss) w = sides_grow ss w
  grows (Any x f s) w = grows s w
  grows (Parallel s t) w = two w (after w s) (after (after w s) t) (grows s w) (grows t (after w s))

  sides_grow : (ss : RawSubsts) (w : Written) → Grows w (after_sides w ss)
  sides_grow NoSide w = stays w
  sides_grow (Side s ss) w = two w (after w s) (after_sides (after w s) ss) (grows s w) (sides_grow ss (after w s))

module _ {M : Type 0} where
  front_of : (w es : List (List ℕ × M)) → take (length w) (w ++ es) ≡ w
  front_of [] es = refl
  front_of (e ∷ w) es = ap (λ v. e ∷ v) (front_of w es)

  all_of : (w : List (List ℕ × M)) → take (length w) w ≡ w
  all_of [] = refl
  all_of (e ∷ w) = ap (λ v. e ∷ v) (all_of w)

  -- the names before one is added are in front
  pub take_inside : (x : List ℕ) (m : M) (w : List (List ℕ × M)) → take (length w) (inside x m w) ≡ w
  take_inside x m w = by (is_some (found x w)) refl
    where
      by : (b : Bool) → is_some (found x w) ≡ b → take (length w) (inside x m w) ≡ w
      by true e = rw e (all_of w)
      by false e = rw e (front_of w ((x, m) ∷ []))

front : (w es : Written) → take (length w) (w ++ es) ≡ w
front [] es = refl
front (e ∷ w) es = ap (λ v. e ∷ v) (front w es)

-- what was written before is in front
pub take_after : (s : RawSubstTree) (w : Written) → take (length w) (after w s) ≡ w
take_after s w = let g = grows s w in ap (take (length w)) g.1 ∙ front w g.0
