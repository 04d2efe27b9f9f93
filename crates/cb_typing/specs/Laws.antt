-- Terms, formulas and substitutions without a fault are typed.
use Rattle.std.specs.Prelude.{ℕ, ◌+◌, ◌^◌, ◌≤◌, ◌≡◌, Bool, true, List, [], length, Some}
use Rattle.cb_lex.specs.RawTermTree.{RawTermTree, RawFormulaTree}
use Rattle.cb_lex.specs.RawSubstTree.{RawSubstTree}
use Rattle.cb_term.specs.declared.kind.Kind.{Kind}
use Rattle.cb_term.specs.declared.name.Name.{Name}
use Rattle.cb_spec.specs.Forms.{Form, is_of_kind}
use Rattle.cb_spec.specs.TypedTerms.{Scope, form_of, TypedTerm, TypedFormula}
use Rattle.cb_spec.specs.Runs.{Fits}
use Rattle.cb_spec.specs.TypedSubsts.{TypedSubst, always_writes, assigned_form, result_form}
use Rattle.cb_forms.specs.declared.fault.Fault.{Fault}
use Rattle.cb_forms.specs.Faults.{Faults, Occurs}
use Rattle.cb_forms.specs.Find.{found}
use Rattle.cb_judge.specs.declared.names.Entry.{Entry}
use Rattle.cb_judge.specs.declared.names.Meaning.TheVariants as meaning
use Rattle.cb_judge.specs.declared.names.View.{View}
use Rattle.cb_judge.specs.Meanings.{Names}
use Rattle.cb_judge.specs.Judged.{form_in, fault_in, fault_of}
use Rattle.cb_judge.specs.Substs.{Results, results_after, subst_fault}
use Rattle.cb_judge.specs.Writes.{shared, always}
use Rattle.cb_normal.specs.Normal.{written, term_in, formula_in}
use Rattle.cb_normal.specs.NormalSubsts.{subst_in}
use Rattle.cb_typing.specs.Depths.{term_depth, formula_depth, subst_depth}
use Rattle.cb_types.specs.NormalMachines.{given_kind}
use Rattle.cb_typing.specs.Reflects.{Reflects, ReflectsTargets, Reserves}
use Rattle.cb_typing.specs.Sides.{HasSides}

abbrev pub NoFault : Faults → Type 0
NoFault fs = (f : Fault) → Occurs fs f → ⊥

-- binders are told by numbers of 32 bits
abbrev pub FitsDepth : Scope → ℕ → Type 0
FitsDepth inner depth = length inner + depth ≤ 2 ^ 32

-- the normal form of a term without a fault is typed, and has the form that the term has
abbrev pub TermsAreTyped : Type 0
TermsAreTyped = (v : View) (names : Names) (sizes : List ℕ) (scope : Scope) (taken : List Name) (inner : Scope) → Reflects v names sizes scope taken inner
    → (on_right : Bool) (t : RawTermTree) → FitsDepth inner (term_depth t) → NoFault (fault_in v names on_right t)
    → (f : Form) × ((form_in v names t ≡ Some f) × (form_of sizes scope inner (term_in v names t) ≡ Some f) × TypedTerm sizes scope taken on_right inner (term_in v names t))

-- the normal form of a formula without a fault is typed
abbrev pub FormulasAreTyped : Type 0
FormulasAreTyped = (v : View) (names : Names) (sizes : List ℕ) (scope : Scope) (taken : List Name) (inner : Scope) → Reflects v names sizes scope taken inner
    → (f : RawFormulaTree) → FitsDepth inner (formula_depth f) → NoFault (fault_of v names f) → TypedFormula sizes scope taken inner (formula_in v names f)

-- a name that each branch of a substitution writes is written by each run
abbrev pub AlwaysIsAlways : Type 0
AlwaysIsAlways = (v : View) (names : Names) (x : List ℕ) (s : RawSubstTree) → always x s ≡ true → always_writes (written x) (subst_in v names s) ≡ true

-- a substitution without a fault fits
abbrev pub SubstsFit : Type 0
SubstsFit = (v : View) (names : Names) (sizes : List ℕ) (scope : Scope) (taken : List Name) → Reflects v names sizes scope taken [] → Reserves names
    → (given : Results) (s : RawSubstTree) → HasSides s → NoFault (subst_fault v names given s) → NoFault (shared names [] s) → Fits sizes (subst_in v names s)

-- a substitution without a fault is typed
abbrev pub SubstsAreTyped : Type 0
SubstsAreTyped = (v : View) (names : Names) (sizes : List ℕ) (scope : Scope) (taken : List Name) → Reflects v names sizes scope taken [] → Reserves names
    → (s : RawSubstTree) → subst_depth s ≤ 2 ^ 32 → NoFault (subst_fault v names [] s)
    → (targets : List (Name × Kind)) → ReflectsTargets v names (results_after v names [] s) targets → TypedSubst sizes targets scope taken (subst_in v names s)

-- what is assigned to a result is of the kind that is judged
abbrev pub ResultsHaveKinds : Type 0
ResultsHaveKinds = (v : View) (names : Names) (sizes : List ℕ) (scope : Scope) (taken : List Name) → Reflects v names sizes scope taken [] → Reserves names
    → (s : RawSubstTree) → subst_depth s ≤ 2 ^ 32 → NoFault (subst_fault v names [] s) → (x : List ℕ) (e : Entry) → found x names ≡ Some e → e.meaning ≡ meaning.Result
    → is_of_kind (result_form (assigned_form sizes (written x) scope (subst_in v names s))) (given_kind (found x (results_after v names [] s))) ≡ true
