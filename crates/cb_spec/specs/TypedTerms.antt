-- Terms and formulas whose names are known and whose kinds and intervals are right.
-- `sizes` has the number of elements of each enumerated set, `scope` what is known of names, and `inner` the same of bound
-- variables with their written names, the innermost first.
use Rattle.std.specs.Prelude.{ℕ, ◌≤◌, ◌≡◌, ℤ, pos, ◌-ℤ◌, ◌<ℤ◌, Bool, true, false, nat_lt, if◌then◌else◌, List, [], ◌∷◌, ◌++◌, map, length, slice_get, Option, Some, None, IsSomeAnd, ⊤}
use Rattle.cb_term.specs.declared.name.Name.{Name}
use Rattle.cb_term.specs.declared.kind.Kind.{Kind}
use Rattle.cb_term.specs.declared.kind.Domain.{Domain}
use Rattle.cb_term.specs.declared.kind.Domain.TheVariants as domain
use Rattle.cb_term.specs.declared.sign.RelSign.{RelSign}
use Rattle.cb_term.specs.declared.sign.RelSign.TheVariants.{Member, Subset}
use Rattle.cb_term.specs.declared.sign.TermSign.{TermSign}
use Rattle.cb_term.specs.declared.sign.TermSign.TheVariants as sign
use Rattle.cb_term.specs.Names.{same_name}
use Rattle.cb_term.specs.Tree.{TermTree, Var, Bound, Num, Truth, Elem, Bin, Neg, Card, Listed, Elems, Truths, Test, TermTrees, End, More, FormulaTree, True, False, Rel, Not, And, Or, Implies, Iff, Every, Exist}
use Rattle.cb_term.specs.Values.{size_of_set}
use Rattle.cb_spec.specs.Domains.{kind_of_domain, HasElements, typing}
use Rattle.cb_spec.specs.Bound.{is_among}
use Rattle.cb_spec.specs.Runs.{HasConjunct}
use Rattle.cb_spec.specs.Forms as form
use Rattle.cb_spec.specs.Forms.{Form, form_of_domain, is_some_form, single, joined_form, with_both, bin_form, neg_form, card_form, may_relate, is_of_kind, IsSmall}

-- what is known of names
abbrev pub Scope : Type 0
Scope = List (Name × Form)

abbrev pub form_in : Scope → Name → Option Form
form_in [] x = None
form_in (p ∷ scope) x = if same_name x p.0 then Some p.1 else form_in scope x

abbrev pub names_in : Scope → List Name
names_in scope = map (λ (p : Name × Form). p.0) scope

-- the name is as written, and not used for anything else here
abbrev pub IsNew : List Name → Name → Type 0
IsNew taken x = (x.number ≡ 0) × (is_among x taken ≡ false)

abbrev pub then_form : Option Form → (Form → Option Form) → Option Form
then_form None g = None
then_form (Some a) g = g a

-- the number that a term is, if it is a literal
abbrev pub literal : TermTree → Option ℤ
literal (Num n) = Some n
literal t = None

-- a set of which a value is chosen has at most 65536 values, and a domain of sets at most 256 elements
abbrev pub IsChoosable : List ℕ → Domain → Type 0
IsChoosable sizes (domain.Range lo hi) = (hi -ℤ lo) <ℤ pos 65536
IsChoosable sizes domain.Truth = ⊤
IsChoosable sizes (domain.Elems set) = ⊤
IsChoosable sizes (domain.Subsets lo hi) = (hi -ℤ lo) <ℤ pos 16
IsChoosable sizes (domain.ElemSubsets set) = size_of_set sizes set ≤ 16

abbrev pub IsSmallDomain : Domain → Type 0
IsSmallDomain (domain.Subsets lo hi) = (hi -ℤ lo) <ℤ pos 256
IsSmallDomain d = ⊤

-- the domain is not empty, and a domain of sets has at most 256 elements
abbrev pub IsDomain : List ℕ → Domain → Type 0
IsDomain sizes d = HasElements sizes d × IsSmallDomain d

-- what a for-all says of its variable in front
abbrev pub premise_of : FormulaTree → FormulaTree
premise_of (Implies f g) = f
premise_of f = True

module _ (sizes : List ℕ) (scope : Scope) where
  abbrev mutual
    pub form_of : Scope → TermTree → Option Form
    form_of inner (Var x) = form_in scope x
    form_of inner (Bound j) = slice_get (map (λ (p : Name × Form). p.1) inner) j
    form_of inner (Num n) = Some (form.Number n n)
    form_of inner (Truth b) = Some form.Truth
    form_of inner (Elem set index) = if nat_lt index (size_of_set sizes set) then Some (form.Element set) else None
    form_of inner (Bin sign a b) = with_both (form_of inner a) (form_of inner b) (bin_form sign (literal b))
    form_of inner (Neg a) = then_form (form_of inner a) neg_form
    form_of inner (Card a) = then_form (form_of inner a) card_form
    form_of inner (Listed ts) = form_of_listed inner ts
    form_of inner (Elems set) = if nat_lt set (length sizes) then Some (form.Elements set) else None
    form_of inner Truths = Some form.TruthSet
    form_of inner (Test f) = Some form.Truth

    pub form_of_listed : Scope → TermTrees → Option Form
    form_of_listed inner End = Some form.Empty
    form_of_listed inner (More t ts) = with_both (then_form (form_of inner t) single) (form_of_listed inner ts) joined_form

  -- the term has a form, and its numbers are small
  abbrev pub HasSmallForm : Scope → TermTree → Type 0
  HasSmallForm inner t = IsSomeAnd (form_of inner t) IsSmall

-- a range directly to the right of `:` or `<:` may be of any size
abbrev pub is_membership : RelSign → Bool
is_membership Member = true
is_membership Subset = true
is_membership sign = false

abbrev pub is_free_range : Bool → TermSign → Bool
is_free_range true sign.Range = true
is_free_range on_right sign = false

abbrev pub Unless : Bool → Type 0 → Type 0
Unless true P = ⊤
Unless false P = P

module _ (sizes : List ℕ) (scope : Scope) (taken : List Name) where
  abbrev mutual
    -- the term stands directly to the right of `:` or `<:`, or it does not
    pub TypedTerm : (on_right : Bool) → Scope → TermTree → Type 0
    TypedTerm on_right inner (Bin sign a b) =
        TypedTerm false inner a × TypedTerm false inner b × Unless (is_free_range on_right sign) (HasSmallForm sizes scope inner (Bin sign a b))
    TypedTerm on_right inner (Neg a) = TypedTerm false inner a × HasSmallForm sizes scope inner (Neg a)
    TypedTerm on_right inner (Card a) = TypedTerm false inner a × HasSmallForm sizes scope inner (Card a)
    TypedTerm on_right inner (Listed ts) = TypedTerms inner ts × HasSmallForm sizes scope inner (Listed ts)
    TypedTerm on_right inner (Test f) = TypedFormula inner f
    TypedTerm on_right inner t = HasSmallForm sizes scope inner t

    pub TypedTerms : Scope → TermTrees → Type 0
    TypedTerms inner End = ⊤
    TypedTerms inner (More t ts) = TypedTerm false inner t × TypedTerms inner ts

    pub TypedFormula : Scope → FormulaTree → Type 0
    TypedFormula inner True = ⊤
    TypedFormula inner False = ⊤
    TypedFormula inner (Rel sign a b) =
        TypedTerm false inner a × TypedTerm (is_membership sign) inner b
        × IsSomeAnd (form_of sizes scope inner a) (λ f. IsSomeAnd (form_of sizes scope inner b) (λ g. may_relate sign f g ≡ true))
    TypedFormula inner (Not f) = TypedFormula inner f
    TypedFormula inner (And f g) = TypedFormula inner f × TypedFormula inner g
    TypedFormula inner (Or f g) = TypedFormula inner f × TypedFormula inner g
    TypedFormula inner (Implies f g) = TypedFormula inner f × TypedFormula inner g
    TypedFormula inner (Iff f g) = TypedFormula inner f × TypedFormula inner g
    TypedFormula inner (Every x kind f) = (d : Domain) × (HasConjunct (typing (Bound 0) d) (premise_of f) × (kind_of_domain d ≡ kind)
        × IsDomain sizes d × IsChoosable sizes d × IsNew (taken ++ names_in inner) x × TypedFormula ((x, form_of_domain d) ∷ inner) f)
    TypedFormula inner (Exist x kind f) = (d : Domain) × (HasConjunct (typing (Bound 0) d) f × (kind_of_domain d ≡ kind)
        × IsDomain sizes d × IsChoosable sizes d × IsNew (taken ++ names_in inner) x × TypedFormula ((x, form_of_domain d) ∷ inner) f)

-- the term is typed, and may stand where one of the kind is wanted
abbrev pub TypedAs : List ℕ → Scope → List Name → Kind → TermTree → Type 0
TypedAs sizes scope taken kind t = TypedTerm sizes scope taken false [] t × IsSomeAnd (form_of sizes scope [] t) (λ f. is_of_kind f kind ≡ true)
