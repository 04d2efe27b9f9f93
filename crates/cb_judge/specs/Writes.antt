-- What substitutions write: beside each other, and always.
use Rattle.std.specs.Prelude.{ℕ, Bool, true, false, not, ◌&&◌, ◌||◌, List, [], ◌∷◌, Option, Some, None, is_some, if◌then◌else◌, bytes_eq}
use Rattle.cb_lex.specs.declared.token.Place.{Place}
use Rattle.cb_lex.specs.declared.raw.name.RawName.{RawName}
use Rattle.cb_lex.specs.RawSubstTree.{RawSubstTree, Skip, Assign, Among, If, IfElse, Choice, Any, Parallel, RawSubsts, NoSide, Side}
use Rattle.cb_forms.specs.Faults.{Faults, Nowhere, Both, fault_if}
use Rattle.cb_forms.specs.Find.{found, inside, with_common}
use Rattle.cb_judge.specs.Meanings.{Names}
use Rattle.cb_judge.specs.Substs.{is_result}

-- names that are written, each with a place
abbrev pub Written : Type 0
Written = List (List ℕ × Place)

abbrev pub with_target : RawName → Written → Written
with_target x w = inside x.text x.place w

-- what is written, with what the substitution may write
abbrev mutual
  pub after : Written → RawSubstTree → Written
  after w Skip = w
  after w (Assign x t) = with_target x w
  after w (Among x d) = with_target x w
  after w (If f s) = after w s
  after w (IfElse f s t) = after (after w t) s
  after w (Choice ss) = after_sides w ss
  after w (Any x f s) = after w s
  after w (Parallel s t) = after (after w s) t

  pub after_sides : Written → RawSubsts → Written
  after_sides w NoSide = w
  after_sides w (Side s ss) = after_sides (after w s) ss

module _ (names : Names) where
  -- a target that is written beside: a result or a variable
  abbrev pub beside : Written → RawName → Faults
  beside w x = fault_if (is_some (found x.text w)) (if is_result (found x.text names) then 10 else 8) x.place

  -- each target that is written beside, `w` being what stands beside the substitution
  abbrev mutual
    pub shared : Written → RawSubstTree → Faults
    shared w Skip = Nowhere
    shared w (Assign x t) = beside w x
    shared w (Among x d) = beside w x
    shared w (If f s) = shared w s
    shared w (IfElse f s t) = Both (shared w s) (shared w t)
    shared w (Choice ss) = shared_sides w ss
    shared w (Any x f s) = shared w s
    shared w (Parallel s t) = Both (shared w s) (shared (after w s) t)

    pub shared_sides : Written → RawSubsts → Faults
    shared_sides w NoSide = Nowhere
    shared_sides w (Side s ss) = Both (shared w s) (shared_sides w ss)

abbrev pub has_side : RawSubsts → Bool
has_side NoSide = false
has_side (Side s ss) = true

-- each branch of the substitution writes the name
module _ (x : List ℕ) where
  abbrev mutual
    pub always : RawSubstTree → Bool
    always Skip = false
    always (Assign y t) = bytes_eq x y.text
    always (Among y d) = bytes_eq x y.text
    always (If f s) = false
    always (IfElse f s t) = always s && always t
    always (Choice ss) = has_side ss && each ss
    always (Any y f s) = always s
    always (Parallel s t) = always s || always t

    pub each : RawSubsts → Bool
    each NoSide = true
    each (Side s ss) = always s && each ss

abbrev pub place_or : Option Place → Place → Place
place_or None p = p
place_or (Some q) p = q

-- each name of the list that a branch does not write, at its own place or at another
abbrev pub missing : RawSubstTree → Option Place → List RawName → Faults
missing s at [] = Nowhere
missing s at (x ∷ xs) = Both (fault_if (not (always x.text s)) 9 (place_or at x.place)) (missing s at xs)
