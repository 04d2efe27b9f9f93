-- How often a name stands in a list, and lists in which none stands twice.
use Rattle.std.proofs.Common.{◌≡◌, ℕ, ◌+◌, ◌≤◌, ◌<◌, Bool, true, false, ◌||◌, List, [], ◌∷◌, ◌++◌, map, Some, None, refl, sym, ap, ◌∙◌, subst, true≢false, if◌then◌else◌, arith, bytes_eq, append_assoc}
use Rattle.std.proofs.lemmas.Option.{same_Some}
use Rattle.cb_term.specs.declared.name.Name.{Name}
use Rattle.cb_term.specs.Names.{same_name}
use Rattle.cb_spec.specs.Bound.{is_among}
use Rattle.cb_spec.specs.TypedProcesses.{AreNew}
use Rattle.cb_forms.specs.Find.{found}
use Rattle.cb_normal.specs.Normal.{written}
use Rattle.cb_typing.proofs.Lookups.{bytes_tell, bytes_self, found_back}
use Rattle.cb_typing.proofs.Under.{same_written}

abbrev pub hit : Bool → ℕ
hit true = 1
hit false = 0

-- how often the text stands in the list
abbrev pub count : List ℕ → List (List ℕ) → ℕ
count x [] = 0
count x (y ∷ ys) = hit (bytes_eq x y) + count x ys

pub count_append : (x : List ℕ) (ys zs : List (List ℕ)) → count x (ys ++ zs) ≡ count x ys + count x zs
count_append x [] zs = omega arith
count_append x (y ∷ ys) zs = omega (arith, count_append x ys zs)

abbrev pub Distinct : List (List ℕ) → Type 0
Distinct ys = (x : List ℕ) → count x ys ≤ 1

abbrev pub texts : {M : Type 0} → List (List ℕ × M) → List (List ℕ)
texts {M} es = map (λ (e : List ℕ × M). e.0) es

module _ {M : Type 0} where
  pub texts_append : (a b : List (List ℕ × M)) → texts (a ++ b) ≡ texts a ++ texts b
  texts_append [] b = refl
  texts_append (e ∷ a) b = ap (λ t. e.0 ∷ t) (texts_append a b)

  pub none_counts : (x : List ℕ) (es : List (List ℕ × M)) → found x es ≡ None → count x (texts es) ≡ 0
  none_counts x [] h = refl
  none_counts x (e ∷ es) h = by (bytes_eq x e.0) h (none_counts x es)
    where
      by : (b : Bool) → (if b then Some e.1 else found x es) ≡ None → (found x es ≡ None → count x (texts es) ≡ 0) → hit b + count x (texts es) ≡ 0
      by true h r = let no : ⊥ = cc in absurd no
      by false h r = omega (arith, r h)

  pub counts_none : (x : List ℕ) (es : List (List ℕ × M)) → count x (texts es) ≡ 0 → found x es ≡ None
  counts_none x [] h = refl
  counts_none x (e ∷ es) h = by (bytes_eq x e.0) h (counts_none x es)
    where
      by : (b : Bool) → hit b + count x (texts es) ≡ 0 → (count x (texts es) ≡ 0 → found x es ≡ None) → (if b then Some e.1 else found x es) ≡ None
      by true h r = absurd (omega (arith, h))
      by false h r = r (omega (arith, h))

  -- each is new when it is added
  abbrev pub AllNew : List (List ℕ × M) → List (List ℕ × M) → Type 0
  AllNew w [] = Unit {0}
  AllNew w (e ∷ es) = (found e.0 w ≡ None) × AllNew (w ++ e ∷ []) es

  snoc : (w : List (List ℕ × M)) (e : List ℕ × M) (es : List (List ℕ × M)) → (w ++ e ∷ []) ++ es ≡ w ++ e ∷ es
  snoc w e es = append_assoc w (e ∷ []) es

  pub new_append : (w a b : List (List ℕ × M)) → AllNew w a → AllNew (w ++ a) b → AllNew w (a ++ b)
  new_append w [] b h k = subst (λ v. AllNew v b) (nothing w) k
    where
      nothing : (w : List (List ℕ × M)) → w ++ [] ≡ w
      nothing [] = refl
      nothing (e ∷ w) = ap (λ v. e ∷ v) (nothing w)
  new_append w (e ∷ a) b h k = (h.0, new_append (w ++ e ∷ []) a b h.1 (subst (λ v. AllNew v b) (sym (snoc w e a)) k))

  count_snoc : (x : List ℕ) (w : List (List ℕ × M)) (e : List ℕ × M) → count x (texts (w ++ e ∷ [])) ≡ count x (texts w) + hit (bytes_eq x e.0)
  count_snoc x w e = let q = ap (count x) (texts_append w (e ∷ [])) in omega (arith, q, count_append x (texts w) (e.0 ∷ []))

  pub new_distinct : (w es : List (List ℕ × M)) → Distinct (texts w) → AllNew w es → Distinct (texts (w ++ es))
  new_distinct w [] d h = λ x. let q = ap (count x) (texts_append w []) in let s = count_append x (texts w) [] in let l = d x in omega (arith, q, s, l)
  new_distinct w (e ∷ es) d h = subst (λ v. Distinct (texts v)) (snoc w e es) (new_distinct (w ++ e ∷ []) es more h.1)
    where
      more : Distinct (texts (w ++ e ∷ []))
      more x = by (bytes_eq x e.0) refl
        where
          by : (b : Bool) → bytes_eq x e.0 ≡ b → count x (texts (w ++ e ∷ [])) ≤ 1
          by true q =
              let i : e.0 ≡ x = sym (bytes_tell x e.0 q) in
              let z : count x (texts w) ≡ 0 = subst (λ y. count y (texts w) ≡ 0) i (none_counts e.0 w h.0) in
              let s = count_snoc x w e in
              let t : hit (bytes_eq x e.0) ≡ 1 = ap hit q in
              omega (arith, s, z, t)
          by false q = let s = count_snoc x w e in let t : hit (bytes_eq x e.0) ≡ 0 = ap hit q in let l = d x in omega (arith, s, t, l)

  pub distinct_new : (w es : List (List ℕ × M)) → Distinct (texts (w ++ es)) → AllNew w es
  distinct_new w [] d = tt
  distinct_new w (e ∷ es) d = (counts_none e.0 w low, distinct_new (w ++ e ∷ []) es (subst (λ v. Distinct (texts v)) (sym (snoc w e es)) d))
    where
      low : count e.0 (texts w) ≡ 0
      low =
          let q = ap (count e.0) (texts_append w (e ∷ es)) in
          let s = count_append e.0 (texts w) (e.0 ∷ texts es) in
          let t : hit (bytes_eq e.0 e.0) ≡ 1 = ap hit (bytes_self e.0) in
          let l = d e.0 in
          omega (arith, q, s, t, l)

  -- ---- entries of a list

  abbrev pub Each : (List ℕ → M → Type 0) → List (List ℕ × M) → Type 0
  Each P [] = Unit {0}
  Each P (e ∷ es) = P e.0 e.1 × Each P es

  pub each_append : (P : List ℕ → M → Type 0) (a b : List (List ℕ × M)) → Each P a → Each P b → Each P (a ++ b)
  each_append P [] b h k = k
  each_append P (e ∷ a) b h k = (h.0, each_append P a b h.1 k)

  pub each_found : (P : List ℕ → M → Type 0) (es : List (List ℕ × M)) → Each P es → (x : List ℕ) (m : M) → found x es ≡ Some m → P x m
  each_found P [] h x m e = let no : ⊥ = cc in absurd no
  each_found P (e ∷ es) h x m i = by (bytes_eq x e.0) refl i (each_found P es h.1 x m)
    where
      by : (b : Bool) → bytes_eq x e.0 ≡ b → (if b then Some e.1 else found x es) ≡ Some m → (found x es ≡ Some m → P x m) → P x m
      by true q i r =
          let j : e.0 ≡ x = sym (bytes_tell x e.0 q) in
          let k : e.1 ≡ m = same_Some e.1 m i in
          subst (λ y. P y m) j (subst (λ n. P e.0 n) k h.0)
      by false q i r = r i

  -- each of the first is found in the second as it is
  abbrev pub FoundIn : List (List ℕ × M) → List (List ℕ × M) → Type 0
  FoundIn all es = Each (λ x m. found x all ≡ Some m) es

  pub found_last_part : (w es : List (List ℕ × M)) → AllNew w es → FoundIn (w ++ es) es
  found_last_part w [] h = tt
  found_last_part w (e ∷ es) h =
      (found_back e.0 w (e ∷ es) h.0 ∙ rw (bytes_self e.0) refl, subst (λ v. FoundIn v es) (snoc w e es) (found_last_part (w ++ e ∷ []) es h.1))

  pub found_parts : (es : List (List ℕ × M)) → Distinct (texts es) → FoundIn es es
  found_parts es d = found_last_part [] es (distinct_new [] es d)

-- ---- lists of names

-- how often the written name stands in the list
abbrev pub times : List ℕ → List Name → ℕ
times x [] = 0
times x (n ∷ ns) = hit (same_name (written x) n) + times x ns

pub times_append : (x : List ℕ) (ms ns : List Name) → times x (ms ++ ns) ≡ times x ms + times x ns
times_append x [] ns = omega arith
times_append x (m ∷ ms) ns = omega (arith, times_append x ms ns)

pub among_times : (x : List ℕ) (ns : List Name) → is_among (written x) ns ≡ true → 0 < times x ns
among_times x [] h = absurd (true≢false (sym h))
among_times x (n ∷ ns) h = by (same_name (written x) n) h (among_times x ns)
  where
    by : (b : Bool) → (b || is_among (written x) ns) ≡ true → (is_among (written x) ns ≡ true → 0 < times x ns) → 0 < hit b + times x ns
    by true h r = omega arith
    by false h r = omega (arith, r h)

abbrev pub AreWritten : List Name → Type 0
AreWritten [] = Unit {0}
AreWritten (n ∷ ns) = (n.number ≡ 0) × AreWritten ns

pub written_append : (ms ns : List Name) → AreWritten ms → AreWritten ns → AreWritten (ms ++ ns)
written_append [] ns h k = k
written_append (m ∷ ms) ns h k = (h.0, written_append ms ns h.1 k)

-- no name stands twice: each is new
pub are_new : (taken ns : List Name) → AreWritten ns → ((x : List ℕ) → times x taken + times x ns ≤ 1) → AreNew taken ns
are_new taken [] w h = tt
are_new taken (n ∷ ns) w h = ((w.0, fresh (is_among n taken) refl), are_new (n ∷ taken) ns w.1 (λ x. let l = h x in omega (arith, l)))
  where
    self : n ≡ written n.text
    self = ap (λ k. record n { number = k }) w.0

    fresh : (b : Bool) → is_among n taken ≡ b → b ≡ false
    fresh true q =
        let a : is_among (written n.text) taken ≡ true = ap (λ m. is_among m taken) (sym self) ∙ q in
        let t = among_times n.text taken a in
        let s : same_name (written n.text) n ≡ true = ap (same_name (written n.text)) self ∙ same_written n.text n.text ∙ bytes_self n.text in
        let o : hit (same_name (written n.text) n) ≡ 1 = ap hit s in
        let l = h n.text in
        absurd (omega (arith, t, o, l))
    fresh false q = refl
