-- The names in an operation stand for what the names of typed terms stand for there.
use Rattle.std.proofs.Common.{◌≡◌, ◌≢◌, ℕ, ◌+◌, ◌<◌, Bool, true, false, ◌⊎◌, inl, inr, List, [], ◌∷◌, ◌++◌, map, Option, Some, None, refl, sym, ap, ◌∙◌, subst, true≢false, if◌then◌else◌, arith, bytes_eq}
use Rattle.std.proofs.lemmas.Option.{same_Some}
use Rattle.cb_lex.specs.declared.raw.name.RawName.{RawName}
use Rattle.cb_lex.specs.declared.raw.text.RawOperation.{RawOperation}
use Rattle.cb_term.specs.declared.name.Name.{Name}
use Rattle.cb_term.specs.declared.kind.Kind.{Kind}
use Rattle.cb_term.specs.Names.{same_name}
use Rattle.cb_spec.specs.Bound.{names, result_names}
use Rattle.cb_spec.specs.Forms.{Form}
use Rattle.cb_spec.specs.TypedProcesses.{scope_of}
use Rattle.cb_spec.specs.TypedSubsts.{kind_of_target}
use Rattle.cb_spec.specs.TypedTerms.{Scope, form_in}
use Rattle.cb_forms.specs.Find.{found}
use Rattle.cb_judge.specs.declared.names.Entry.{Entry}
use Rattle.cb_judge.specs.declared.names.Meaning.{Meaning}
use Rattle.cb_judge.specs.declared.names.Meaning.TheVariants as meaning
use Rattle.cb_judge.specs.declared.names.View.{View}
use Rattle.cb_judge.specs.Meanings.{Names}
use Rattle.cb_judge.specs.Judged.{entry}
use Rattle.cb_judge.specs.Substs.{Results}
use Rattle.cb_normal.specs.Normal.{written}
use Rattle.cb_types.specs.declared.declare.Sort.{Sort}
use Rattle.cb_types.specs.declared.declare.Sort.TheVariants as sort
use Rattle.cb_types.specs.Declares.{Numbers, Domains, next, meaning_of}
use Rattle.cb_types.specs.MachineFaults.{with_results, inside_operation, locals_fault}
use Rattle.cb_types.specs.NormalMachines.{declared_name, given_kind, result_name}
use Rattle.cb_typing.specs.Reflects.{Means, IsKnown}
use Rattle.cb_typing.proofs.Clean.{Clean}
use Rattle.cb_typing.proofs.Lookups.{bytes_tell, bytes_self, found_front, found_back}
use Rattle.cb_typing.proofs.Under.{same_written}
use Rattle.cb_typing.proofs.Counts.{hit, count, texts, none_counts, AllNew, Each, each_found, FoundIn, found_last_part, times, AreWritten}
use Rattle.cb_typing.proofs.Declared.{entries, Adds, adds_then, declared_adds}
use Rattle.cb_typing.proofs.Globals.{hit_same}
use Rattle.cb_typing.proofs.Members.{Has}
use Rattle.cb_typing.proofs.Parts.{locals_parts}

-- ---- names that are added are outside of what was there

module _ {M : Type 0} where
  outside_before : (x : List ℕ) (w es : List (List ℕ × M)) → found x (w ++ es) ≡ None → found x w ≡ None
  outside_before x w es h = by (found x w) refl
    where
      by : (o : Option M) → found x w ≡ o → found x w ≡ None
      by None q = q
      by (Some m) q = let e = sym (found_front x m w es q) ∙ h in let no : ⊥ = cc in absurd no

  pub all_outside : (w es : List (List ℕ × M)) → AllNew w es → Each (λ x m. found x w ≡ None) es
  all_outside w es h = go w es w h (λ x k. k)
    where
      go : (w es v : List (List ℕ × M)) → AllNew v es → ((x : List ℕ) → found x v ≡ None → found x w ≡ None) → Each (λ x m. found x w ≡ None) es
      go w [] v h k = tt
      go w (e ∷ es) v h k = (k e.0 h.0, go w es (v ++ e ∷ []) h.1 (λ x q. k x (outside_before x v (e ∷ []) q)))

  -- a name that was there is none of them
  pub not_added : (x : List ℕ) (m : M) (w es : List (List ℕ × M)) → Each (λ x m. found x w ≡ None) es → found x w ≡ Some m → count x (texts es) ≡ 0
  not_added x m w [] h e = refl
  not_added x m w (f ∷ es) h e = by (bytes_eq x f.0) refl (not_added x m w es h.1 e)
    where
      by : (b : Bool) → bytes_eq x f.0 ≡ b → count x (texts es) ≡ 0 → hit b + count x (texts es) ≡ 0
      by true q r = let i : f.0 ≡ x = sym (bytes_tell x f.0 q) in let j : found x w ≡ None = ap (λ z. found z w) (sym i) ∙ h.0 in let k = sym e ∙ j in let no : ⊥ = cc in absurd no
      by false q r = omega (arith, r)

pub each_has : (P : List ℕ → Entry → Type 0) (s : Sort) (ns : Numbers) (ds : Domains) (xs : List RawName) (i : ℕ) → Each P (entries s ns ds i xs) → (x : RawName) → Has xs x → (j : ℕ) × P x.text (entry (meaning_of s ns ds j x) x.place)
each_has P s ns ds [] i h x m = absurd m
each_has P s ns ds (y ∷ ys) i h x (inl e) = (i, subst (λ (z : RawName). P z.text (entry (meaning_of s ns ds i z) z.place)) e h.0)
each_has P s ns ds (y ∷ ys) i h x (inr m) = each_has P s ns ds ys (next i) h.1 x m

-- ---- scopes and targets in parts

pub form_front : (a b : Scope) (x : Name) (f : Form) → form_in a x ≡ Some f → form_in (a ++ b) x ≡ Some f
form_front [] b x f h = let no : ⊥ = cc in absurd no
form_front (p ∷ a) b x f h = by (same_name x p.0) h (form_front a b x f)
  where
    by : (t : Bool) → (if t then Some p.1 else form_in a x) ≡ Some f → (form_in a x ≡ Some f → form_in (a ++ b) x ≡ Some f) → (if t then Some p.1 else form_in (a ++ b) x) ≡ Some f
    by true h r = h
    by false h r = r h

pub kind_front : (a b : List (Name × Kind)) (x : Name) (f : Kind) → kind_of_target a x ≡ Some f → kind_of_target (a ++ b) x ≡ Some f
kind_front [] b x f h = let no : ⊥ = cc in absurd no
kind_front (p ∷ a) b x f h = by (same_name x p.0) h (kind_front a b x f)
  where
    by : (t : Bool) → (if t then Some p.1 else kind_of_target a x) ≡ Some f → (kind_of_target a x ≡ Some f → kind_of_target (a ++ b) x ≡ Some f) → (if t then Some p.1 else kind_of_target (a ++ b) x) ≡ Some f
    by true h r = h
    by false h r = r h

no_hit : (b : Bool) (n : ℕ) → hit b + n ≡ 0 → (b ≡ false) × (n ≡ 0)
no_hit true n h = absurd (omega (arith, h))
no_hit false n h = (refl, omega (arith, h))

-- a name that is no parameter has the form that it has outside
pub form_back : (ds : Domains) (xs : List RawName) (b : Scope) (x : List ℕ) (i : ℕ) → count x (texts (entries sort.Parameter [] ds i xs)) ≡ 0 → form_in (scope_of (map (declared_name ds) xs) ++ b) (written x) ≡ form_in b (written x)
unfolding declared_name
form_back ds [] b x i h = refl
form_back ds (y ∷ ys) b x i h =
    let n = no_hit (bytes_eq x y.text) (count x (texts (entries sort.Parameter [] ds (next i) ys))) h in
    rw (same_written x y.text ∙ n.0) (form_back ds ys b x (next i) n.1)

pub kind_back : (rs : Results) (xs : List RawName) (b : List (Name × Kind)) (x : List ℕ) (i : ℕ) → count x (texts (entries sort.Result [] [] i xs)) ≡ 0 → kind_of_target (map (result_name rs) xs ++ b) (written x) ≡ kind_of_target b (written x)
unfolding result_name
kind_back rs [] b x i h = refl
kind_back rs (y ∷ ys) b x i h =
    let n = no_hit (bytes_eq x y.text) (count x (texts (entries sort.Result [] [] (next i) ys))) h in
    rw (same_written x y.text ∙ n.0) (kind_back rs ys b x (next i) n.1)

pub results_have : (rs : Results) (xs : List RawName) (x : RawName) → Has xs x → kind_of_target (map (result_name rs) xs) (written x.text) ≡ Some (given_kind (found x.text rs))
unfolding result_name
results_have rs [] x m = absurd m
results_have rs (y ∷ ys) x m = by (results_have rs ys x) (bytes_eq x.text y.text) refl m
  where
    by : (Has ys x → kind_of_target (map (result_name rs) ys) (written x.text) ≡ Some (given_kind (found x.text rs))) → (b : Bool) → bytes_eq x.text y.text ≡ b → (y ≡ x) ⊎ Has ys x →
        kind_of_target (map (result_name rs) (y ∷ ys)) (written x.text) ≡ Some (given_kind (found x.text rs))
    by r true q m = let i : x.text ≡ y.text = bytes_tell x.text y.text q in rw (same_written x.text y.text ∙ q) (ap (λ t. Some (given_kind (found t rs))) (sym i))
    by r false q (inl e) = absurd (true≢false (sym (bytes_self x.text) ∙ ap (λ (z : RawName). bytes_eq x.text z.text) (sym e) ∙ q))
    by r false q (inr m) = rw (same_written x.text y.text ∙ q) (r m)

pub parameters_times : (x : List ℕ) (ds : Domains) (i : ℕ) (xs : List RawName) → times x (names (map (declared_name ds) xs)) ≡ count x (texts (entries sort.Parameter [] ds i xs))
unfolding declared_name
parameters_times x ds i [] = refl
parameters_times x ds i (y ∷ ys) = omega (arith, hit_same x y.text, parameters_times x ds (next i) ys)

pub results_times : (x : List ℕ) (rs : Results) (i : ℕ) (xs : List RawName) → times x (result_names (map (result_name rs) xs)) ≡ count x (texts (entries sort.Result [] [] i xs))
unfolding result_name
results_times x rs i [] = refl
results_times x rs i (y ∷ ys) = omega (arith, hit_same x y.text, results_times x rs (next i) ys)

pub results_written : (rs : Results) (xs : List RawName) → AreWritten (result_names (map (result_name rs) xs))
unfolding result_name
results_written rs [] = tt
results_written rs (x ∷ xs) = (refl, results_written rs xs)

-- ---- the names in an operation

abbrev pub local_entries : Domains → RawOperation → Names
local_entries ds o = entries sort.Result [] [] 0 o.results ++ entries sort.Parameter [] ds 0 o.parameters

pub locals_add : (ds : Domains) (o : RawOperation) (w : Names) → Clean (locals_fault ds o w) → Adds w (inside_operation ds o w) (local_entries ds o)
locals_add ds o w h =
    let p = locals_parts ds o w h in
    adds_then w (with_results o w) (inside_operation ds o w) (entries sort.Result [] [] 0 o.results) (entries sort.Parameter [] ds 0 o.parameters)
    (declared_adds sort.Result [] [] o.results 0 w p.0) (declared_adds sort.Parameter [] ds o.parameters 0 (with_results o w) p.1)

module _ (v : View) (w w' E : Names) (a : Adds w w' E) where
  pub added_stays : (x : List ℕ) (e : Entry) → found x w ≡ Some e → found x w' ≡ Some e
  added_stays x e h = ap (found x) a.is ∙ found_front x e w E h

  pub added_found : FoundIn w' E
  added_found = subst (λ v. FoundIn v E) (sym a.is) (found_last_part w E a.new)

  -- what is so of the names that were there, and of those that are added, is so of all
  pub of_added : (P : List ℕ → Entry → Type 0) → ((x : List ℕ) (e : Entry) → found x w ≡ Some e → count x (texts E) ≡ 0 → P x e) → Each P E → (x : List ℕ) (e : Entry) → found x w' ≡ Some e → P x e
  of_added P old own x e h = by (found x w) refl
    where
      by : (o : Option Entry) → found x w ≡ o → P x e
      by None q = each_found P E own x e (sym (found_back x w E q) ∙ sym (ap (found x) a.is) ∙ h)
      by (Some f) q = let j : f ≡ e = same_Some f e (sym (added_stays x f q) ∙ h) in let q' : found x w ≡ Some e = q ∙ ap Some j in old x e q' (not_added x e w E (all_outside w E a.new) q')

  pub added_known : Each (λ x e. e.meaning ≢ meaning.Reserved) E → (x : List ℕ) → 0 < count x (texts E) → IsKnown w' x
  added_known r x h = by (found x E) refl
    where
      out : found x w ≡ None
      out = at (found x w) refl
        where
          at : (o : Option Entry) → found x w ≡ o → found x w ≡ None
          at None q = q
          at (Some f) q = let z = not_added x f w E (all_outside w E a.new) q in absurd (omega (arith, z, h))

      by : (o : Option Entry) → found x E ≡ o → IsKnown w' x
      by None q = let z = none_counts x E q in absurd (omega (arith, z, h))
      by (Some e) q = (e, ap (found x) a.is ∙ found_back x w E out ∙ q, each_found (λ x e. e.meaning ≢ meaning.Reserved) E r x e q)

-- names of terms without bound ones mean the same in a scope that has the same of them
pub means_same : (v : View) (sizes : List ℕ) (scope scope' : Scope) (n n' : ℕ) (x : List ℕ) (m : Meaning) → form_in scope' (written x) ≡ form_in scope (written x) → Means v sizes scope [] n x m → Means v sizes scope' [] n' x m
means_same v sizes scope scope' n n' x (meaning.Set owner set size) e h = h
means_same v sizes scope scope' n n' x (meaning.Element owner set index) e h = h
means_same v sizes scope scope' n n' x (meaning.Variable owner form) e h = λ i. let s = h i in (e ∙ s.0, s.1)
means_same v sizes scope scope' n n' x (meaning.Local form) e h = (e ∙ h.0, h.1)
means_same v sizes scope scope' n n' x (meaning.Bound level form) e h = let q = h.1 in let no : ⊥ = cc in absurd no
means_same v sizes scope scope' n n' x meaning.Unformed e h = h
means_same v sizes scope scope' n n' x m e h = tt
