-- Substitutions whose names are known and whose kinds and intervals are right.
use Rattle.std.specs.Prelude.{ℕ, pos, Bool, true, false, ◌||◌, ◌&&◌, if◌then◌else◌, List, [], ◌∷◌, Option, Some, None, IsSomeAnd, ⊤}
use Rattle.std.specs.Int.{int_min, int_max}
use Rattle.cb_term.specs.declared.name.Name.{Name}
use Rattle.cb_term.specs.declared.kind.Kind.{Kind}
use Rattle.cb_term.specs.Names.{same_name}
use Rattle.cb_spec.specs.SubstTree.{SubstTree, Skip, Assign, Together, Choice, If, AnyOf, SubstTrees, End, More}
use Rattle.cb_spec.specs.Forms.{Form, Number, Numbers, Empty, form_of_domain, joined_form}
use Rattle.cb_spec.specs.TypedTerms.{Scope, IsNew, IsDomain, IsChoosable, form_of, TypedFormula, TypedAs}

abbrev pub kind_of_target : List (Name × Kind) → Name → Option Kind
kind_of_target [] x = None
kind_of_target (p ∷ ps) x = if same_name x p.0 then Some p.1 else kind_of_target ps x

-- `targets` has what may be assigned to. An ANY's variable is known in its test and its body
module _ (sizes : List ℕ) (targets : List (Name × Kind)) where
  abbrev mutual
    pub TypedSubst : Scope → List Name → SubstTree → Type 0
    TypedSubst scope taken Skip = ⊤
    TypedSubst scope taken (Assign x e) = IsSomeAnd (kind_of_target targets x) (λ k. TypedAs sizes scope taken k e)
    TypedSubst scope taken (Together a b) = TypedSubst scope taken a × TypedSubst scope taken b
    TypedSubst scope taken (Choice ss) = TypedSides scope taken ss
    TypedSubst scope taken (If p a b) = TypedFormula sizes scope taken [] p × TypedSubst scope taken a × TypedSubst scope taken b
    TypedSubst scope taken (AnyOf z d p s) = IsNew taken z × IsDomain sizes d × IsChoosable sizes d
        × TypedFormula sizes ((z, form_of_domain d) ∷ scope) (z ∷ taken) [] p × TypedSubst ((z, form_of_domain d) ∷ scope) (z ∷ taken) s

    pub TypedSides : Scope → List Name → SubstTrees → Type 0
    TypedSides scope taken End = ⊤
    TypedSides scope taken (More s ss) = TypedSubst scope taken s × TypedSides scope taken ss

-- whether each run assigns to the name
module _ (x : Name) where
  abbrev mutual
    pub always_writes : SubstTree → Bool
    always_writes Skip = false
    always_writes (Assign y e) = same_name x y
    always_writes (Together a b) = always_writes a || always_writes b
    always_writes (Choice ss) = each_writes ss
    always_writes (If p a b) = always_writes a && always_writes b
    always_writes (AnyOf z d p s) = always_writes s

    pub each_writes : SubstTrees → Bool
    each_writes End = true
    each_writes (More s ss) = always_writes s && each_writes ss

-- the form of what may be one or the other
abbrev pub either_form : Form → Form → Form
either_form (Number a b) (Number c d) = Number (int_min a c) (int_max b d)
either_form a b = or_left (joined_form a b)
  where
    or_left : Option Form → Form
    or_left None = a
    or_left (Some c) = c

abbrev pub either : Option Form → Option Form → Option Form
either None b = b
either (Some a) None = Some a
either (Some a) (Some b) = Some (either_form a b)

-- the form of what is assigned to the name, if anything is
module _ (sizes : List ℕ) (x : Name) where
  abbrev mutual
    pub assigned_form : Scope → SubstTree → Option Form
    assigned_form scope Skip = None
    assigned_form scope (Assign y e) = if same_name x y then form_of sizes scope [] e else None
    assigned_form scope (Together a b) = either (assigned_form scope a) (assigned_form scope b)
    assigned_form scope (Choice ss) = assigned_in_one scope ss
    assigned_form scope (If p a b) = either (assigned_form scope a) (assigned_form scope b)
    assigned_form scope (AnyOf z d p s) = assigned_form ((z, form_of_domain d) ∷ scope) s

    pub assigned_in_one : Scope → SubstTrees → Option Form
    assigned_in_one scope End = None
    assigned_in_one scope (More s ss) = either (assigned_form scope s) (assigned_in_one scope ss)

-- the form of a result: where only `{}` is assigned to it, it is a set of numbers, and where nothing is, it is 0
abbrev pub result_form : Option Form → Form
result_form None = Number (pos 0) (pos 0)
result_form (Some Empty) = Numbers (pos 1) (pos 0)
result_form (Some form) = form
