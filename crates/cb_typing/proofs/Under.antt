-- The names under a binder stand for what the names of typed terms stand for there.
use Rattle.std.proofs.Common.{◌≡◌, ◌≢◌, ℕ, suc, ◌-◌, Bool, true, false, ◌&&◌, List, [], ◌∷◌, ◌++◌, length, Option, Some, None, refl, sym, ap, ◌∙◌, subst, if◌then◌else◌, arith, bytes_eq}
use Rattle.std.proofs.lemmas.Option.{same_Some}
use Rattle.cb_lex.specs.declared.raw.name.RawName.{RawName}
use Rattle.cb_term.specs.declared.name.Name.{Name}
use Rattle.cb_term.specs.declared.kind.Domain.{Domain}
use Rattle.cb_term.specs.Names.{same_name}
use Rattle.cb_spec.specs.Bound.{is_among}
use Rattle.cb_spec.specs.Forms.{Form, form_of_domain}
use Rattle.cb_spec.specs.TypedTerms.{Scope, IsNew, names_in}
use Rattle.cb_forms.specs.Find.{found}
use Rattle.cb_forms.specs.Kinds.{form_of}
use Rattle.cb_judge.specs.declared.domain.Choice.{Choice}
use Rattle.cb_judge.specs.declared.names.Entry.{Entry}
use Rattle.cb_judge.specs.declared.names.Meaning.{Meaning}
use Rattle.cb_judge.specs.declared.names.Meaning.TheVariants as meaning
use Rattle.cb_judge.specs.declared.names.View.{View}
use Rattle.cb_judge.specs.Meanings.{Names, double_with, double_fault}
use Rattle.cb_judge.specs.Choices.{form_or_nought}
use Rattle.cb_judge.specs.Judged.{entry, under}
use Rattle.cb_judge.specs.Substs.{Results, within}
use Rattle.cb_spec.specs.Domains.{kind_of_domain}
use Rattle.cb_spec.specs.TypedSubsts.{kind_of_target}
use Rattle.cb_spec.specs.TypedTerms as typed
use Rattle.cb_term.specs.declared.kind.Kind.{Kind}
use Rattle.cb_term.specs.Tree.{Bound, Var}
use Rattle.cb_normal.specs.Normal.{written, named, index_of}
use Rattle.cb_normal.specs.NormalSubsts.{any}
use Rattle.cb_types.specs.NormalMachines.{given_kind}
use Rattle.cb_typing.specs.Reflects.{IsProper, Means, IsKnown, Reflects, ReflectsTargets, Reserves}
use Rattle.cb_typing.proofs.Clean.{Clean}
use Rattle.cb_typing.proofs.Lookups.{bytes_tell, bytes_self, found_front, found_back, beside_new, found_last, length_last, among_parts}
use Rattle.cb_typing.proofs.Domains.{domain_form, KnowsSets, Stays}

pub same_written : (x y : List ℕ) → same_name (written x) (written y) ≡ bytes_eq x y
same_written x y = by (bytes_eq x y)
  where
    by : (b : Bool) → (b && true) ≡ b
    by true = refl
    by false = refl

-- a name that is declared but once is new
pub new_name : (names : Names) (x : RawName) → Clean (double_fault names x) → found x.text names ≡ None
new_name names x h = by (found x.text names) h
  where
    by : (o : Option Entry) → Clean (double_with names x o) → o ≡ None
    by None h = refl
    by (Some e) h = absurd h.0

-- ---- among the names in use

not_among : (b : Bool) → (b ≡ true → ⊥) → b ≡ false
not_among true h = absurd (h refl)
not_among false h = refl

module _ (v : View) (names : Names) (sizes : List ℕ) (scope : Scope) (taken : List Name) (inner : Scope) (r : Reflects v names sizes scope taken inner) where
  pub is_new : (x : List ℕ) → found x names ≡ None → IsNew (taken ++ names_in inner) (written x)
  is_new x h = (refl, not_among _ (λ e. let k = r.known x e in let no : ⊥ = cc in no))

  pub knows_sets : KnowsSets sizes names
  knows_sets x e owner set size h m = subst (λ n. Means v sizes scope inner (length names) x n) m (r.means x e h)

-- ---- with one name more

module _ (names : Names) (x : List ℕ) (new : found x names ≡ None) (e : Entry) (fair : e.meaning ≢ meaning.Reserved) where
  abbrev pub with_one : Names
  with_one = names ++ (x, e) ∷ []

  pub stays_one : Stays names with_one
  stays_one y f h = found_front y f names ((x, e) ∷ []) h

  pub known_one : (ys zs : List Name) → ((y : List ℕ) → is_among (written y) (ys ++ zs) ≡ true → IsKnown names y) →
      (y : List ℕ) → is_among (written y) (ys ++ written x ∷ zs) ≡ true → IsKnown with_one y
  known_one ys zs k y h = by (bytes_eq y x) refl
    where
      rest : bytes_eq y x ≡ false → is_among (written y) (ys ++ zs) ≡ true
      rest q =
          let s : same_name (written y) (written x) ≡ false = same_written y x ∙ q in
          among_parts (written y) ys zs ∙ sym (among_parts (written y) ys (written x ∷ zs) ∙ rw s refl) ∙ h

      by : (b : Bool) → bytes_eq y x ≡ b → IsKnown with_one y
      by true q = let i : x ≡ y = sym (bytes_tell y x q) in (e, ap (λ z. found z with_one) (sym i) ∙ found_last x e names new, fair)
      by false q = let w = k y (rest q) in (w.0, stays_one y w.0 w.1, w.2)

  -- what is told of an entry of the longer list
  pub of_one : (P : List ℕ → Entry → Type 0) → ((y : List ℕ) (f : Entry) → found y names ≡ Some f → P y f) → P x e → (y : List ℕ) (f : Entry) → found y with_one ≡ Some f → P y f
  of_one P old own y f h = by (found y names) refl
    where
      last : (b : Bool) → bytes_eq y x ≡ b → (if b then Some e else None) ≡ Some f → P y f
      last true q h =
          let i : x ≡ y = sym (bytes_tell y x q) in
          let j : e ≡ f = same_Some e f h in
          subst (λ z. P z f) i (subst (λ g. P x g) j own)
      last false q h = let no : ⊥ = cc in absurd no

      by : (o : Option Entry) → found y names ≡ o → P y f
      by (Some g) q = let j : g ≡ f = same_Some g f (sym (stays_one y g q) ∙ h) in old y f (q ∙ ap Some j)
      by None q = last (bytes_eq y x) refl (sym (found_back y names ((x, e) ∷ []) q) ∙ h)

-- ---- under a binder

module _ (v : View) (names : Names) (sizes : List ℕ) (scope : Scope) (taken : List Name) (inner : Scope) (r : Reflects v names sizes scope taken inner) where
  means_more : (p : Name × Form) (k : ℕ) (y : List ℕ) (m : Meaning) → Means v sizes scope inner k y m → Means v sizes scope (p ∷ inner) (suc k) y m
  means_more p k y (meaning.Bound level form) h =
      let s : suc k - level - 1 ≡ suc (k - level - 1) = omega (arith, h.0) in
      (omega (arith, h.0), rw s h.1, h.2)
  means_more p k y (meaning.Set owner set size) h = h
  means_more p k y (meaning.Element owner set index) h = h
  means_more p k y (meaning.Variable owner form) h = h
  means_more p k y (meaning.Local form) h = h
  means_more p k y meaning.Unformed h = h
  means_more p k y m h = tt

  abbrev binder : RawName → Choice → Entry
  binder x c = entry (meaning.Bound (length names) (form_or_nought (Some c))) x.place

  pub under_is : (x : RawName) (c : Choice) → found x.text names ≡ None → under x (Some c) names ≡ names ++ (x.text, binder x c) ∷ []
  under_is x c new = beside_new x.text (binder x c) names new

  pub under_reflects : (x : RawName) (c : Choice) → found x.text names ≡ None → IsProper (form_of_domain c.domain) →
      Reflects v (under x (Some c) names) sizes scope taken ((written x.text, form_of_domain c.domain) ∷ inner)
  under_reflects x c new proper =
      subst (λ ns. Reflects v ns sizes scope taken ((written x.text, form_of_domain c.domain) ∷ inner)) (sym (under_is x c new)) (record {
        known = known_one names x.text new (binder x c) (λ q. let no : ⊥ = cc in no) taken (names_in inner) r.known;
        means = λ y f h. subst (λ k. Means v sizes scope ((written x.text, form_of_domain c.domain) ∷ inner) k y f.meaning) (sym (length_last names (x.text, binder x c)))
            (of_one names x.text new (binder x c) (λ q. let no : ⊥ = cc in no) (λ y f. Means v sizes scope ((written x.text, form_of_domain c.domain) ∷ inner) (suc (length names)) y f.meaning)
            (λ y f h. means_more (written x.text, form_of_domain c.domain) (length names) y f.meaning (r.means y f h)) own y f h);
      })
    where
      own : Means v sizes scope ((written x.text, form_of_domain c.domain) ∷ inner) (suc (length names)) x.text (meaning.Bound (length names) (form_or_nought (Some c)))
      own =
          let s : suc (length names) - length names - 1 ≡ 0 = omega arith in
          let f = domain_form c.domain in
          (omega arith, rw (s, f) refl, rw f proper)

  -- there the variable is the innermost
  pub under_named : (x : RawName) (c : Choice) → found x.text names ≡ None → named (length (under x (Some c) names)) x.text (found x.text (under x (Some c) names)) ≡ Bound 0
  under_named x c new =
      subst (λ ns. named (length ns) x.text (found x.text ns) ≡ Bound 0) (sym (under_is x c new))
      (rw (found_last x.text (binder x c) names new, length_last names (x.text, binder x c)) innermost)
    where
      innermost : Bound (index_of (suc (length names)) (length names)) ≡ Bound 0
      innermost = let s : index_of (suc (length names)) (length names) ≡ 0 = omega arith in ap Bound s

  pub under_stays : (x : RawName) (c : Choice) → found x.text names ≡ None → Stays names (under x (Some c) names)
  under_stays x c new = subst (λ ns. Stays names ns) (sym (under_is x c new)) (λ y f h. found_front y f names ((x.text, binder x c) ∷ []) h)

-- ---- in an ANY

append_nothing : {A : Type 0} (xs : List A) → xs ++ [] ≡ xs
append_nothing [] = refl
append_nothing (x ∷ xs) = ap (λ ys. x ∷ ys) (append_nothing xs)

module _ (v : View) (names : Names) (sizes : List ℕ) (scope : Scope) (taken : List Name) (r : Reflects v names sizes scope taken []) where
  pub is_new_here : (x : List ℕ) → found x names ≡ None → IsNew taken (written x)
  is_new_here x h = subst (λ ns. IsNew ns (written x)) (append_nothing taken) (is_new v names sizes scope taken [] r x h)

  pub any_is_new : Reserves names → IsNew taken any
  any_is_new s = subst (λ ns. IsNew ns any) (append_nothing taken) ((refl, not_among _ (λ e. clash (r.known any.text e))))
    where
      clash : IsKnown names any.text → ⊥
      clash k =
          let j : k.0 ≡ s.0 = same_Some k.0 s.0 (sym k.1 ∙ s.1.0) in
          k.2 (ap (λ (e : Entry). e.meaning) j ∙ s.1.1)

  abbrev local_entry : RawName → Choice → Entry
  local_entry x c = entry (meaning.Local (form_or_nought (Some c))) x.place

  pub within_is : (x : RawName) (c : Choice) → found x.text names ≡ None → within x (Some c) names ≡ names ++ (x.text, local_entry x c) ∷ []
  within_is x c new = beside_new x.text (local_entry x c) names new

  -- another name is known as before
  pub other_form : (x y : List ℕ) (f : Form) → bytes_eq y x ≡ false → typed.form_in ((written x, f) ∷ scope) (written y) ≡ typed.form_in scope (written y)
  other_form x y f e = rw (same_written y x ∙ e) refl

  pub own_form : (x : List ℕ) (f : Form) → typed.form_in ((written x, f) ∷ scope) (written x) ≡ Some f
  own_form x f = rw (same_written x x ∙ bytes_self x) refl

  pub means_within : (x y : List ℕ) (f : Form) (k : ℕ) (m : Meaning) → bytes_eq y x ≡ false → Means v sizes scope [] k y m → Means v sizes ((written x, f) ∷ scope) [] (suc k) y m
  means_within x y f k (meaning.Bound level form) e h = (omega (arith, h.0), h.1, h.2)
  means_within x y f k (meaning.Set owner set size) e h = h
  means_within x y f k (meaning.Element owner set index) e h = h
  means_within x y f k (meaning.Variable owner form) e h = λ i. let s = h i in (other_form x y f e ∙ s.0, s.1)
  means_within x y f k (meaning.Local form) e h = (other_form x y f e ∙ h.0, h.1)
  means_within x y f k meaning.Unformed e h = h
  means_within x y f k m e h = tt

  pub differs : (x y : List ℕ) (e : Entry) → found x names ≡ None → found y names ≡ Some e → bytes_eq y x ≡ false
  differs x y e new h = by (bytes_eq y x) refl
    where
      by : (b : Bool) → bytes_eq y x ≡ b → b ≡ false
      by true q = let i : y ≡ x = bytes_tell y x q in let j : found x names ≡ Some e = rw i at h in let no : ⊥ = cc in absurd no
      by false q = refl

  pub within_reflects : (x : RawName) (c : Choice) → found x.text names ≡ None → IsProper (form_of_domain c.domain) →
      Reflects v (within x (Some c) names) sizes ((written x.text, form_of_domain c.domain) ∷ scope) (written x.text ∷ taken) []
  within_reflects x c new proper =
      subst (λ ns. Reflects v ns sizes ((written x.text, form_of_domain c.domain) ∷ scope) (written x.text ∷ taken) []) (sym (within_is x c new)) (record {
        known = known_one names x.text new (local_entry x c) (λ q. let no : ⊥ = cc in no) [] (taken ++ []) r.known;
        means = λ y f h. subst (λ k. Means v sizes ((written x.text, form_of_domain c.domain) ∷ scope) [] k y f.meaning) (sym (length_last names (x.text, local_entry x c)))
            (of_one names x.text new (local_entry x c) (λ q. let no : ⊥ = cc in no) (λ y f. Means v sizes ((written x.text, form_of_domain c.domain) ∷ scope) [] (suc (length names)) y f.meaning)
            (λ y f h. means_within x.text y (form_of_domain c.domain) (length names) f.meaning (differs x.text y f new h) (r.means y f h)) own y f h);
      })
    where
      own : Means v sizes ((written x.text, form_of_domain c.domain) ∷ scope) [] (suc (length names)) x.text (meaning.Local (form_or_nought (Some c)))
      own =
          let f = domain_form c.domain in
          (own_form x.text (form_of_domain c.domain) ∙ ap Some (sym f), rw f proper)

  pub within_stays : (x : RawName) (c : Choice) → found x.text names ≡ None → Stays names (within x (Some c) names)
  within_stays x c new = subst (λ ns. Stays names ns) (sym (within_is x c new)) (λ y f h. found_front y f names ((x.text, local_entry x c) ∷ []) h)

  pub within_named : (x : RawName) (c : Choice) → found x.text names ≡ None →
      named (length (within x (Some c) names)) x.text (found x.text (within x (Some c) names)) ≡ Var (written x.text)
  within_named x c new =
      subst (λ ns. named (length ns) x.text (found x.text ns) ≡ Var (written x.text)) (sym (within_is x c new))
      (rw (found_last x.text (local_entry x c) names new) refl)

  pub within_reserves : (x : RawName) (c : Choice) → found x.text names ≡ None → Reserves names → Reserves (within x (Some c) names)
  within_reserves x c new s = (s.0, (within_stays x c new any.text s.0 s.1.0, s.1.1))

  pub within_targets : (x : RawName) (c : Choice) → found x.text names ≡ None → (given : Results) (targets : List (Name × Kind)) → ReflectsTargets v names given targets →
      ReflectsTargets v (within x (Some c) names) given targets
  within_targets x c new given targets t =
      subst (λ ns. ReflectsTargets v ns given targets) (sym (within_is x c new)) (record {
        variables = λ y e owner form h m. of_one names x.text new (local_entry x c) (λ q. let no : ⊥ = cc in no)
            (λ y e. e.meaning ≡ meaning.Variable owner form → owner ≡ v.machine → (d : Domain) × ((kind_of_target targets (written y) ≡ Some (kind_of_domain d)) × (form_of form ≡ form_of_domain d)))
            (λ y e h m. t.variables y e owner form h m) (λ q. let no : ⊥ = cc in absurd no) y e h m;
        results = λ y e h m. of_one names x.text new (local_entry x c) (λ q. let no : ⊥ = cc in no)
            (λ y e. e.meaning ≡ meaning.Result → kind_of_target targets (written y) ≡ Some (given_kind (found y given)))
            (λ y e h m. t.results y e h m) (λ q. let no : ⊥ = cc in absurd no) y e h m;
      })
