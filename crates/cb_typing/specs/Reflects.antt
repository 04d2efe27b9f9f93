-- When the names that a text is judged by stand for what the names of typed terms stand for.
use Rattle.std.specs.Prelude.{ℕ, ◌-◌, ◌<◌, ◌≡◌, ◌≢◌, ◌≤ℤ◌, true, List, ◌++◌, map, length, slice_get, Some, ⊤}
use Rattle.cb_term.specs.declared.name.Name.{Name}
use Rattle.cb_term.specs.declared.kind.Domain.{Domain}
use Rattle.cb_term.specs.declared.kind.Kind.{Kind}
use Rattle.cb_term.specs.Values.{size_of_set}
use Rattle.cb_spec.specs.Domains.{kind_of_domain}
use Rattle.cb_spec.specs.TypedSubsts.{kind_of_target}
use Rattle.cb_spec.specs.Bound.{is_among}
use Rattle.cb_spec.specs.Forms.{Form, Number, form_of_domain}
use Rattle.cb_spec.specs.TypedTerms.{Scope, names_in}
use Rattle.cb_spec.specs.TypedTerms as typed
use Rattle.cb_forms.specs.declared.form.Form.{Form as Known}
use Rattle.cb_forms.specs.Find.{found, is_in}
use Rattle.cb_forms.specs.Kinds.{form_of}
use Rattle.cb_judge.specs.declared.names.Entry.{Entry}
use Rattle.cb_judge.specs.declared.names.Meaning.{Meaning}
use Rattle.cb_judge.specs.declared.names.Meaning.TheVariants as meaning
use Rattle.cb_judge.specs.declared.names.View.{View}
use Rattle.cb_judge.specs.Meanings.{Names}
use Rattle.cb_judge.specs.Substs.{Results}
use Rattle.cb_normal.specs.Normal.{written}
use Rattle.cb_normal.specs.NormalSubsts.{any}
use Rattle.cb_types.specs.NormalMachines.{given_kind}

-- the interval of a number has a number
abbrev pub IsProper : Form → Type 0
IsProper (Number lo hi) = lo ≤ℤ hi
IsProper form = ⊤

module _ (v : View) (sizes : List ℕ) (scope inner : Scope) where
  -- the name is known with the form
  abbrev pub Stands : List ℕ → Known → Type 0
  Stands x form = (typed.form_in scope (written x) ≡ Some (form_of form)) × IsProper (form_of form)

  -- of so many names, one with this meaning stands for the same. What is not told of the meanings of other names does not matter
  abbrev pub Means : ℕ → List ℕ → Meaning → Type 0
  Means count x (meaning.Set owner set size) = (slice_get sizes set ≡ Some size) × (0 < size)
  Means count x (meaning.Element owner set index) = index < size_of_set sizes set
  Means count x (meaning.Variable owner form) = is_in owner v.reads ≡ true → Stands x form
  Means count x (meaning.Local form) = Stands x form
  Means count x (meaning.Bound level form) =
      (level < count) × (slice_get (map (λ (p : Name × Form). p.1) inner) (count - level - 1) ≡ Some (form_of form)) × IsProper (form_of form)
  Means count x meaning.Unformed = ⊥
  Means count x m = ⊤

-- the name is there, and not as the reserved word
abbrev pub IsKnown : Names → List ℕ → Type 0
IsKnown names x = (e : Entry) × (found x names ≡ Some e) × (e.meaning ≢ meaning.Reserved)

pub record Reflects (v : View) (names : Names) (sizes : List ℕ) (scope : Scope) (taken : List Name) (inner : Scope) : Type 0 where
  pub known : (x : List ℕ) → is_among (written x) (taken ++ names_in inner) ≡ true → IsKnown names x
  pub means : (x : List ℕ) (e : Entry) → found x names ≡ Some e → Means v sizes scope inner (length names) x e.meaning

-- what may be assigned to has the kind that is judged: a variable its domain's, and a result that of what is given at the end
pub record ReflectsTargets (v : View) (names : Names) (given : Results) (targets : List (Name × Kind)) : Type 0 where
  pub variables : (x : List ℕ) (e : Entry) (owner : ℕ) (form : Known) → found x names ≡ Some e → e.meaning ≡ meaning.Variable owner form → owner ≡ v.machine
      → (d : Domain) × ((kind_of_target targets (written x) ≡ Some (kind_of_domain d)) × (form_of form ≡ form_of_domain d))
  pub results : (x : List ℕ) (e : Entry) → found x names ≡ Some e → e.meaning ≡ meaning.Result → kind_of_target targets (written x) ≡ Some (given_kind (found x given))

-- the word `any` is reserved
abbrev pub Reserves : Names → Type 0
Reserves names = (e : Entry) × ((found any.text names ≡ Some e) × (e.meaning ≡ meaning.Reserved))
