-- What substitutions write: always, and apart from each other.
use Rattle.std.proofs.Common.{◌≡◌, ℕ, Bool, true, false, ◌||◌, List, refl, sym, ◌∙◌, true≢false}
use Rattle.std.proofs.lemmas.Bool.{and_parts, and_from}
use Rattle.cb_lex.specs.RawSubstTree.{RawSubstTree, RawSubsts}
use Rattle.cb_lex.specs.RawSubstTree as raw
use Rattle.cb_spec.specs.TypedSubsts.{always_writes, each_writes}
use Rattle.cb_judge.specs.declared.names.View.{View}
use Rattle.cb_judge.specs.Meanings.{Names}
use Rattle.cb_judge.specs.Substs.{within}
use Rattle.cb_judge.specs.Choices.{typing_in}
use Rattle.cb_judge.specs.Writes.{has_side, always, each}
use Rattle.cb_normal.specs.Normal.{written}
use Rattle.cb_normal.specs.NormalSubsts.{subst_in, substs_in}
use Rattle.cb_typing.specs.Laws.{AlwaysIsAlways}
use Rattle.cb_typing.proofs.Under.{same_written}

or_left : (a b : Bool) → a ≡ true → (a || b) ≡ true
or_left true b e = refl
or_left false b e = absurd (true≢false (sym e))

or_right : (a b : Bool) → b ≡ true → (a || b) ≡ true
or_right true b e = refl
or_right false b e = e

module _ (v : View) (x : List ℕ) where
  mutual
    always_so : (s : RawSubstTree) (names : Names) → always x s ≡ true → always_writes (written x) (subst_in v names s) ≡ true
    always_so raw.Skip names e = e
    always_so (raw.Assign y t) names e = same_written x y.text ∙ e
    always_so (raw.Among y d) names e = same_written x y.text ∙ e
    always_so (raw.If f s) names e = absurd (true≢false (sym e))
    always_so (raw.IfElse f s t) names e =
        let p = and_parts (always x s) (always x t) e in
        and_from _ _ (always_so s names p.0) (always_so t names p.1)
    always_so (raw.Choice ss) names e = each_so ss names (and_parts (has_side ss) (each x ss) e).1
    always_so (raw.Any y f s) names e = always_so s (within y (typing_in v names y.text f) names) e
    always_so (raw.Parallel s t) names e =
        one (always x s) (always x t) (always_writes (written x) (subst_in v names s)) (always_writes (written x) (subst_in v names t)) (always_so s names) (always_so t names) e
      where
        one : (a b c d : Bool) → (a ≡ true → c ≡ true) → (b ≡ true → d ≡ true) → (a || b) ≡ true → (c || d) ≡ true
        one true b c d f g e = or_left c d (f refl)
        one false b c d f g e = or_right c d (g e)

    each_so : (ss : RawSubsts) (names : Names) → each x ss ≡ true → each_writes (written x) (substs_in v names ss) ≡ true
    each_so raw.NoSide names e = refl
    each_so (raw.Side s ss) names e =
        let p = and_parts (always x s) (each x ss) e in
        and_from _ _ (always_so s names p.0) (each_so ss names p.1)

pub always_is_always : AlwaysIsAlways
always_is_always v names x s e = always_so v x s names e
