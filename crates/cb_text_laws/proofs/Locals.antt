-- Names that are bound in a controller stand for what the names of typed terms stand for there.
use Rattle.std.proofs.Common.{◌≡◌, ℕ, suc, inl, inr, Bool, true, false, ◌||◌, List, [], ◌∷◌, ◌++◌, map, length, Some, None, refl, sym, ap, ◌∙◌, subst, true≢false, if◌then◌else◌, arith, bytes_eq}
use Rattle.cb_lex.specs.declared.raw.name.RawName.{RawName}
use Rattle.cb_term.specs.declared.name.Name.{Name}
use Rattle.cb_term.specs.Names.{same_name}
use Rattle.cb_spec.specs.Bound.{is_among, names}
use Rattle.cb_spec.specs.Forms.{Form, form_of_domain}
use Rattle.cb_spec.specs.TypedProcesses.{AreNew, scope_of, scope_at, scope_with}
use Rattle.cb_spec.specs.TypedTerms.{Scope}
use Rattle.cb_spec.specs.TypedTerms as typed
use Rattle.cb_forms.specs.declared.form.Form.{Form as Known}
use Rattle.cb_forms.specs.Find.{found}
use Rattle.cb_forms.specs.Kinds.{form_of}
use Rattle.cb_judge.specs.declared.names.Entry.{Entry}
use Rattle.cb_judge.specs.declared.names.Meaning.TheVariants as meaning
use Rattle.cb_judge.specs.declared.names.View.{View}
use Rattle.cb_judge.specs.Meanings.{Names}
use Rattle.cb_judge.specs.Judged.{entry}
use Rattle.cb_normal.specs.Normal.{written, domain_or}
use Rattle.cb_types.specs.declared.declare.Sort.TheVariants as sort
use Rattle.cb_types.specs.Declares.{Domains, next, with_name, declared, declare_fault}
use Rattle.cb_types.specs.NormalMachines.{written_name, declared_name}
use Rattle.cb_typing.specs.Reflects.{IsProper, Means, Reflects}
use Rattle.cb_typing.proofs.Clean.{Clean}
use Rattle.cb_typing.proofs.Lookups.{bytes_tell, bytes_self, beside_new, length_last, among_parts}
use Rattle.cb_typing.proofs.Under.{same_written, new_name, known_one, of_one, is_new_here, own_form, means_within, differs}
use Rattle.cb_typing.proofs.Members.{Has, nought_form, HasDomain}
use Rattle.cb_typing.proofs.Inside.{means_same}
use Rattle.cb_text_laws.specs.Signatures.{forms_of}
use Rattle.cb_text_laws.specs.ProcessFaults.{with_local, with_locals, bound_fault}

-- ---- one name more

module _ (v : View) (ns : Names) (sizes : List ℕ) (scope : Scope) (taken : List Name) (r : Reflects v ns sizes scope taken []) where
  pub local_reflects : (x : RawName) (f : Known) → found x.text ns ≡ None → IsProper (form_of f) → Reflects v (with_local x (meaning.Local f) ns) sizes ((written x.text, form_of f) ∷ scope) (written x.text ∷ taken) []
  local_reflects x f new proper =
      subst (λ ns. Reflects v ns sizes ((written x.text, form_of f) ∷ scope) (written x.text ∷ taken) []) (sym (beside_new x.text e ns new)) (record {
        known = known_one ns x.text new e (λ q. let no : ⊥ = cc in no) [] (taken ++ []) r.known;
        means = λ y g h. subst (λ k. Means v sizes ((written x.text, form_of f) ∷ scope) [] k y g.meaning) (sym (length_last ns (x.text, e)))
            (of_one ns x.text new e (λ q. let no : ⊥ = cc in no) (λ y g. Means v sizes ((written x.text, form_of f) ∷ scope) [] (suc (length ns)) y g.meaning)
            (λ y g h. means_within v ns sizes scope taken r x.text y (form_of f) (length ns) g.meaning (differs v ns sizes scope taken r x.text y g new h) (r.means y g h)) own y g h);
      })
    where
      e : Entry
      e = entry (meaning.Local f) x.place

      own : Means v sizes ((written x.text, form_of f) ∷ scope) [] (suc (length ns)) x.text (meaning.Local f)
      own = (own_form v ns sizes scope taken r x.text (form_of f), proper)

-- ---- the same names in another order

nothing : {A : Type 0} (xs : List A) → xs ++ [] ≡ xs
nothing [] = refl
nothing (x ∷ xs) = ap (λ ys. x ∷ ys) (nothing xs)

pub same_reflects : (v : View) (ns : Names) (sizes : List ℕ) (scope scope' : Scope) (taken taken' : List Name) → Reflects v ns sizes scope taken [] → ((y : List ℕ) → typed.form_in scope' (written y) ≡ typed.form_in scope (written y)) →
    ((y : List ℕ) → is_among (written y) taken' ≡ true → is_among (written y) taken ≡ true) → Reflects v ns sizes scope' taken' []
same_reflects v ns sizes scope scope' taken taken' r f k = record {
  known = λ y e. r.known y (ap (is_among (written y)) (nothing taken) ∙ k y (sym (ap (is_among (written y)) (nothing taken')) ∙ e));
  means = λ y g h. means_same v sizes scope scope' (length ns) (length ns) y g.meaning (f y) (r.means y g h);
}

pub form_past : (a b : Scope) (x : Name) → typed.form_in a x ≡ None → typed.form_in (a ++ b) x ≡ typed.form_in b x
form_past [] b x h = refl
form_past (p ∷ a) b x h = by (same_name x p.0) h (form_past a b x)
  where
    by : (t : Bool) → (if t then Some p.1 else typed.form_in a x) ≡ None → (typed.form_in a x ≡ None → typed.form_in (a ++ b) x ≡ typed.form_in b x) → (if t then Some p.1 else typed.form_in (a ++ b) x) ≡ typed.form_in b x
    by true h r = let no : ⊥ = cc in absurd no
    by false h r = r h

form_but : (a b : Scope) (x y : Name) (f : Form) → same_name y x ≡ false → typed.form_in (a ++ (x, f) ∷ b) y ≡ typed.form_in (a ++ b) y
form_but [] b x y f e = rw e refl
form_but (p ∷ a) b x y f e = ap (λ o. if same_name y p.0 then Some p.1 else o) (form_but a b x y f e)

moved : (a b : Scope) (x : List ℕ) (f : Form) → typed.form_in a (written x) ≡ None → (y : List ℕ) → typed.form_in ((written x, f) ∷ (a ++ b)) (written y) ≡ typed.form_in (a ++ (written x, f) ∷ b) (written y)
moved a b x f h y = by (bytes_eq y x) refl
  where
    by : (t : Bool) → bytes_eq y x ≡ t → typed.form_in ((written x, f) ∷ (a ++ b)) (written y) ≡ typed.form_in (a ++ (written x, f) ∷ b) (written y)
    by true q =
        let i : y ≡ x = bytes_tell y x q in
        let z : typed.form_in a (written y) ≡ None = ap (λ z. typed.form_in a (written z)) i ∙ h in
        rw (same_written y x ∙ q) (sym (form_past a ((written x, f) ∷ b) (written y) z ∙ rw (same_written y x ∙ q) refl))
    by false q = let s : same_name (written y) (written x) ≡ false = same_written y x ∙ q in rw s (sym (form_but a b (written x) (written y) f s))

swapped : (a b c : Bool) → (a || (b || c)) ≡ true → (b || (a || c)) ≡ true
swapped true true c e = refl
swapped true false c e = refl
swapped false true c e = refl
swapped false false c e = e

among_moved : (x : Name) (a b : List Name) (y : Name) → is_among y (x ∷ (a ++ b)) ≡ true → is_among y (a ++ x ∷ b) ≡ true
among_moved x a b y e =
    among_parts y a (x ∷ b) ∙ swapped (same_name y x) (is_among y a) (is_among y b) (ap (λ t. same_name y x || t) (sym (among_parts y a b)) ∙ e)

-- a name in use is none of the new ones
apart : (x : List ℕ) (xs : List RawName) (gs : List Form) (taken : List Name) → AreNew taken (map written_name xs) → is_among (written x) taken ≡ true → typed.form_in (scope_with (map written_name xs) gs) (written x) ≡ None
apart x [] gs taken h e = refl
apart x (z ∷ zs) [] taken h e = refl
apart x (z ∷ zs) (g ∷ gs) taken h e = by (bytes_eq x z.text) refl (apart x zs gs (written z.text ∷ taken) h.1 (among (same_name (written x) (written z.text))))
  where
    among : (b : Bool) → (b || is_among (written x) taken) ≡ true
    among true = refl
    among false = e

    by : (b : Bool) → bytes_eq x z.text ≡ b → typed.form_in (scope_with (map written_name zs) gs) (written x) ≡ None → typed.form_in (scope_with (map written_name (z ∷ zs)) (g ∷ gs)) (written x) ≡ None
    by true q r = let i : x ≡ z.text = bytes_tell x z.text q in absurd (true≢false (sym e ∙ ap (λ t. is_among (written t) taken) i ∙ h.0.1))
    by false q r = rw (same_written x z.text ∙ q) r

self_among : (x : List ℕ) (taken : List Name) → is_among (written x) (written x ∷ taken) ≡ true
self_among x taken = rw (same_written x x ∙ bytes_self x) refl

-- ---- several names

abbrev pub AreProper : List Known → Type 0
AreProper [] = Unit {0}
AreProper (f ∷ fs) = IsProper (form_of f) × AreProper fs

-- what is known of the names
abbrev pub local_scope : List RawName → List Known → Scope
local_scope xs fs = scope_with (map written_name xs) (map form_of fs)

pub record Bound (v : View) (sizes : List ℕ) (ns : Names) (scope : Scope) (taken : List Name) (xs : List RawName) (fs : List Known) : Type 0 where
  pub reflects : Reflects v (with_locals ns xs fs) sizes (local_scope xs fs ++ scope) (map written_name xs ++ taken) []
  pub new : AreNew taken (map written_name xs)

pub locals_bound : (v : View) (sizes : List ℕ) (xs : List RawName) (fs : List Known) (ns : Names) (scope : Scope) (taken : List Name) → Reflects v ns sizes scope taken [] → length xs ≡ length fs → AreProper fs → Clean (bound_fault ns xs fs) →
    Bound v sizes ns scope taken xs fs
locals_bound v sizes [] fs ns scope taken r l p h = record { reflects = r; new = tt }
locals_bound v sizes (x ∷ xs) [] ns scope taken r l p h = absurd (omega (arith, l))
locals_bound v sizes (x ∷ xs) (f ∷ fs) ns scope taken r l p h =
    let n = new_name ns x h.0 in
    let rest = locals_bound v sizes xs fs (with_local x (meaning.Local f) ns) ((written x.text, form_of f) ∷ scope) (written x.text ∷ taken) (local_reflects v ns sizes scope taken r x f n p.0) (omega (arith, l)) p.1 h.1 in
    let away = apart x.text xs (map form_of fs) (written x.text ∷ taken) rest.new (self_among x.text taken) in
    record {
      reflects = same_reflects v (with_locals ns (x ∷ xs) (f ∷ fs)) sizes (local_scope xs fs ++ (written x.text, form_of f) ∷ scope) (local_scope (x ∷ xs) (f ∷ fs) ++ scope) (map written_name xs ++ written x.text ∷ taken)
          (map written_name (x ∷ xs) ++ taken) rest.reflects (moved (local_scope xs fs) scope x.text (form_of f) away) (λ y e. among_moved (written x.text) (map written_name xs) taken (written y) e);
      new = (is_new_here v ns sizes scope taken r x.text n, rest.new);
    }

-- ---- names with domains

pub declared_locals : (ds : Domains) (xs : List RawName) (i : ℕ) (ns : Names) → declared sort.Parameter [] ds i ns xs ≡ with_locals ns xs (forms_of ds xs)
declared_locals ds [] i ns = refl
declared_locals ds (x ∷ xs) i ns = declared_locals ds xs (next i) (with_name sort.Parameter [] ds i x ns)

pub declared_bound : (ds : Domains) (xs : List RawName) (i : ℕ) (ns : Names) → Clean (declare_fault sort.Parameter [] ds i ns xs) → Clean (bound_fault ns xs (forms_of ds xs))
declared_bound ds [] i ns h = tt
declared_bound ds (x ∷ xs) i ns h = (h.0.0, declared_bound ds xs (next i) (with_name sort.Parameter [] ds i x ns) h.1)

pub scope_declared : (ds : Domains) (xs : List RawName) → scope_of (map (declared_name ds) xs) ≡ local_scope xs (forms_of ds xs)
unfolding declared_name
scope_declared ds [] = refl
scope_declared ds (x ∷ xs) = rw (nought_form (found x.text ds)) (ap (λ s. (written x.text, form_of_domain (domain_or (found x.text ds))) ∷ s) (scope_declared ds xs))

pub scope_at_declared : (xs : List RawName) (ds : Domains) (zs : List RawName) → scope_at (map written_name xs) (map (declared_name ds) zs) ≡ local_scope xs (forms_of ds zs)
unfolding declared_name
scope_at_declared [] ds zs = refl
scope_at_declared (x ∷ xs) ds [] = refl
scope_at_declared (x ∷ xs) ds (z ∷ zs) = rw (nought_form (found z.text ds)) (ap (λ s. (written x.text, form_of_domain (domain_or (found z.text ds))) ∷ s) (scope_at_declared xs ds zs))

pub names_declared : (ds : Domains) (xs : List RawName) → names (map (declared_name ds) xs) ≡ map written_name xs
unfolding declared_name
names_declared ds [] = refl
names_declared ds (x ∷ xs) = ap (λ l. written x.text ∷ l) (names_declared ds xs)

pub forms_proper : (sizes : List ℕ) (ds : Domains) (xs : List RawName) → ((x : RawName) → Has xs x → HasDomain sizes (found x.text ds)) → AreProper (forms_of ds xs)
forms_proper sizes ds [] h = tt
forms_proper sizes ds (x ∷ xs) h = (subst IsProper (sym (nought_form (found x.text ds))) (h x (inl refl)).proper, forms_proper sizes ds xs (λ y m. h y (inr m)))

pub forms_count : (ds : Domains) (xs : List RawName) → length xs ≡ length (forms_of ds xs)
forms_count ds [] = refl
forms_count ds (x ∷ xs) = ap suc (forms_count ds xs)

-- names that are declared with their domains, inside
pub domains_bound : (v : View) (sizes : List ℕ) (ds : Domains) (xs : List RawName) (ns : Names) (scope : Scope) (taken : List Name) → Reflects v ns sizes scope taken [] → ((x : RawName) → Has xs x → HasDomain sizes (found x.text ds)) →
    Clean (declare_fault sort.Parameter [] ds 0 ns xs) → Reflects v (declared sort.Parameter [] ds 0 ns xs) sizes (scope_of (map (declared_name ds) xs) ++ scope) (names (map (declared_name ds) xs) ++ taken) [] × AreNew taken (names (map (declared_name ds) xs))
domains_bound v sizes ds xs ns scope taken r d h =
    let b = locals_bound v sizes xs (forms_of ds xs) ns scope taken r (forms_count ds xs) (forms_proper sizes ds xs d) (declared_bound ds xs 0 ns h) in
    rw (declared_locals ds xs 0 ns, scope_declared ds xs, names_declared ds xs) (b.reflects, b.new)
