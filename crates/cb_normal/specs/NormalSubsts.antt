-- The normal form of substitutions.
use Rattle.std.specs.Prelude.{[], ◌∷◌}
use Rattle.cb_lex.specs.RawSubstTree.{RawSubstTree, RawSubsts}
use Rattle.cb_lex.specs.RawSubstTree as raw
use Rattle.cb_term.specs.declared.name.Name.{Name}
use Rattle.cb_term.specs.declared.kind.Domain.{Domain}
use Rattle.cb_term.specs.Tree.{Var}
use Rattle.cb_spec.specs.Domains.{typing}
use Rattle.cb_spec.specs.SubstTree.{SubstTree, Skip, Assign, Together, Choice, If, AnyOf, SubstTrees, End, More}
use Rattle.cb_judge.specs.declared.names.View.{View}
use Rattle.cb_judge.specs.Meanings.{Names}
use Rattle.cb_judge.specs.Choices.{typing_in, domain_in}
use Rattle.cb_judge.specs.Substs.{within}
use Rattle.cb_normal.specs.Normal.{written, domain_or, term_in, formula_in}

-- the reserved name `any`
abbrev pub any : Name
any = written (97 ∷ 110 ∷ 121 ∷ [])

-- `x :: d` is `ANY any WHERE any : d THEN x := any END`
abbrev pub among : Name → Domain → SubstTree
among x d = AnyOf any d (typing (Var any) d) (Assign x (Var any))

module _ (v : View) where
  abbrev mutual
    pub subst_in : Names → RawSubstTree → SubstTree
    subst_in names raw.Skip = Skip
    subst_in names (raw.Assign x t) = Assign (written x.text) (term_in v names t)
    subst_in names (raw.Among x d) = among (written x.text) (domain_or (domain_in v names d))
    subst_in names (raw.If f s) = If (formula_in v names f) (subst_in names s) Skip
    subst_in names (raw.IfElse f s t) = If (formula_in v names f) (subst_in names s) (subst_in names t)
    subst_in names (raw.Choice ss) = Choice (substs_in names ss)
    subst_in names (raw.Any x f s) =
        AnyOf (written x.text) (domain_or (typing_in v names x.text f)) (formula_in v (within x (typing_in v names x.text f) names) f)
        (subst_in (within x (typing_in v names x.text f) names) s)
    subst_in names (raw.Parallel s t) = Together (subst_in names s) (subst_in names t)

    pub substs_in : Names → RawSubsts → SubstTrees
    substs_in names raw.NoSide = End
    substs_in names (raw.Side s ss) = More (subst_in names s) (substs_in names ss)
