-- Domains that typing conjuncts tell: the conjunct in normal form, and what the domain has.
use Rattle.std.proofs.Common.{◌≡◌, ℕ, ◌<◌, ◌^◌, ℤ, pos, neg_ℤ, Bool, true, false, List, length, Option, Some, None, refl, sym, ap, ◌∙◌, if◌then◌else◌, ◌⊎◌, inl, inr, bytes_eq, slice_get}
use Rattle.std.specs.Ordering.{int_eq}
use Rattle.std.proofs.lemmas.Option.{same_Some, get_or_from_slice_get}
use Rattle.std.proofs.lemmas.Bool.{ltb-false}
use Rattle.cb_lex.specs.declared.token.Place.{Place}
use Rattle.cb_lex.specs.declared.raw.domain.RawDomain.{RawDomain}
use Rattle.cb_lex.specs.declared.raw.domain.RawDomain.TheVariants as raw_domain
use Rattle.cb_lex.specs.declared.raw.name.RawName.{RawName}
use Rattle.cb_lex.specs.declared.raw.sign.RawAtom.{RawAtom}
use Rattle.cb_lex.specs.declared.raw.sign.RawAtom.TheVariants as atom
use Rattle.cb_lex.specs.declared.raw.sign.RawOperator.TheVariants as operator
use Rattle.cb_lex.specs.declared.raw.sign.RawRelation.{RawRelation}
use Rattle.cb_lex.specs.declared.raw.sign.RawRelation.TheVariants as relation
use Rattle.cb_lex.specs.RawTermTree.{RawTermTree, RawFormulaTree}
use Rattle.cb_lex.specs.RawTermTree as raw
use Rattle.cb_term.specs.declared.kind.Domain.{Domain}
use Rattle.cb_term.specs.declared.kind.Domain.TheVariants as domain
use Rattle.cb_term.specs.declared.sign.RelSign.TheVariants.{Member, Subset}
use Rattle.cb_term.specs.Tree.{TermTree, Num, Neg, Bin, Elems, Rel}
use Rattle.cb_term.specs.declared.sign.TermSign.TheVariants as sign
use Rattle.cb_term.specs.Values.{size_of_set}
use Rattle.cb_spec.specs.Domains.{typing}
use Rattle.cb_spec.specs.Forms.{form_of_domain}
use Rattle.cb_spec.specs.Runs.{HasConjunct}
use Rattle.cb_spec.specs.TypedTerms.{IsDomain, IsChoosable}
use Rattle.cb_forms.specs.Find.{found, is_in}
use Rattle.cb_forms.specs.Kinds.{form_of}
use Rattle.cb_judge.specs.declared.domain.Choice.{Choice}
use Rattle.cb_judge.specs.declared.names.Entry.{Entry}
use Rattle.cb_judge.specs.declared.names.Meaning.{Meaning}
use Rattle.cb_judge.specs.declared.names.Meaning.TheVariants as meaning
use Rattle.cb_judge.specs.declared.names.View.{View}
use Rattle.cb_judge.specs.Meanings.{Names, known_number, known_set}
use Rattle.cb_judge.specs.Choices.{maxint, signed_of, plain_bound, bound, choice, range_of, subset_of, elements_of, element_sets_of, whole_of, member_choice, subset_choice, given_by, is_name, or_choice, typing_in, bound_of, domain_in, choice_faults, known_of_domain}
use Rattle.cb_normal.specs.Normal.{named, minus, related, term_in, formula_in}
use Rattle.cb_typing.specs.Reflects.{IsProper}
use Rattle.cb_typing.proofs.Clean.{Clean, not_bad}
use Rattle.cb_types.specs.Declares.{Domains, with_choice, domains_from, domain_faults}
use Rattle.cb_typing.proofs.Lookups.{bytes_tell, inside_cases}
use Rattle.cb_typing.proofs.Numbers.{lt_false, le_false}

-- ---- names that are known

pub record KnownNumber (o : Option Entry) (n : ℤ) : Type 0 where
  pub by : Entry
  pub is : o ≡ Some by
  pub owner : ℕ
  pub means : by.meaning ≡ meaning.Constant owner n

pub known_number_is : (v : View) (o : Option Entry) (n : ℤ) → known_number v o ≡ Some n → KnownNumber o n
known_number_is v None n e = let no : ⊥ = cc in absurd no
known_number_is v (Some e) n h = go e.meaning refl h
  where
    go : (m : Meaning) → e.meaning ≡ m → known_number v (Some (record e { meaning = m })) ≡ Some n → KnownNumber (Some e) n
    go (meaning.Constant owner k) q h = at (is_in owner v.sees) h
      where
        at : (b : Bool) → (if b then Some k else None) ≡ Some n → KnownNumber (Some e) n
        at true h = record { by = e; is = refl; owner = owner; means = q ∙ ap (meaning.Constant owner) (same_Some k n h) }
        at false h = let no : ⊥ = cc in absurd no
    go m q h = let no : ⊥ = cc in absurd no

pub record KnownSet (o : Option Entry) (s : ℕ × ℕ) : Type 0 where
  pub by : Entry
  pub is : o ≡ Some by
  pub owner : ℕ
  pub means : by.meaning ≡ meaning.Set owner s.0 s.1

pub known_set_is : (v : View) (o : Option Entry) (s : ℕ × ℕ) → known_set v o ≡ Some s → KnownSet o s
known_set_is v None s e = let no : ⊥ = cc in absurd no
known_set_is v (Some e) s h = go e.meaning refl h
  where
    go : (m : Meaning) → e.meaning ≡ m → known_set v (Some (record e { meaning = m })) ≡ Some s → KnownSet (Some e) s
    go (meaning.Set owner set size) q h = at (is_in owner v.sees) h
      where
        at : (b : Bool) → (if b then Some (set, size) else None) ≡ Some s → KnownSet (Some e) s
        at true h = let i : (set, size) ≡ s = same_Some (set, size) s h in record { by = e; is = refl; owner = owner; means = q ∙ ap (λ (t : ℕ × ℕ). meaning.Set owner t.0 t.1) i }
        at false h = let no : ⊥ = cc in absurd no
    go m q h = let no : ⊥ = cc in absurd no

-- ---- the conjunct in normal form

-- what is known of names stays
abbrev pub Stays : Names → Names → Type 0
Stays names more = (x : List ℕ) (e : Entry) → found x names ≡ Some e → found x more ≡ Some e

module _ (v v' : View) (names more : Names) (stays : Stays names more) where
  name_number : (x : RawName) (n : ℤ) → known_number v (found x.text names) ≡ Some n → term_in v' more (raw.Name x) ≡ Num n
  name_number x n e =
      let k = known_number_is v (found x.text names) n e in
      rw (stays x.text k.by k.is, k.means) refl

  name_set : (x : RawName) (s : ℕ × ℕ) → known_set v (found x.text names) ≡ Some s → term_in v' more (raw.Name x) ≡ Elems s.0
  name_set x s e =
      let k = known_set_is v (found x.text names) s e in
      rw (stays x.text k.by k.is, k.means) refl

  plain_normal : (t : RawTermTree) (n : ℤ) → plain_bound v names t ≡ Some n → term_in v' more t ≡ Num n
  plain_normal (raw.Number m p) n e = ap Num (same_Some m n e)
  plain_normal (raw.Name x) n e = name_number x n e
  plain_normal (raw.Atom atom.MaxInt p) n e = ap Num (same_Some _ n e)
  plain_normal (raw.Atom atom.MinInt p) n e = ap Num (same_Some _ n e)
  plain_normal t n e = let no : ⊥ = cc in absurd no

  minus_normal : (o : Option ℤ) (t : TermTree) (n : ℤ) → ((m : ℤ) → o ≡ Some m → t ≡ Num m) → signed_of true o ≡ Some n → minus t ≡ Num n
  minus_normal None t n h e = let no : ⊥ = cc in absurd no
  minus_normal (Some m) t n h e = let i : t ≡ Num m = h m refl in rw i (at (int_eq m (neg_ℤ (pos (2 ^ 63)))) e)
    where
      at : (b : Bool) → (if b then None else Some (neg_ℤ m)) ≡ Some n → (if b then Neg (Num m) else Num (neg_ℤ m)) ≡ Num n
      at true e = let no : ⊥ = cc in absurd no
      at false e = ap Num (same_Some (neg_ℤ m) n e)

  bound_normal : (t : RawTermTree) (n : ℤ) → bound v names t ≡ Some n → term_in v' more t ≡ Num n
  bound_normal (raw.Minus p t) n e = minus_normal (plain_bound v names t) (term_in v' more t) n (plain_normal t) e
  bound_normal (raw.Number m p) n e = plain_normal (raw.Number m p) n e
  bound_normal (raw.Name x) n e = plain_normal (raw.Name x) n e
  bound_normal (raw.Atom a p) n e = plain_normal (raw.Atom a p) n e
  bound_normal t n e = let no : ⊥ = cc in absurd no

  -- ---- the right side of a typing conjunct

  abbrev Ends : (Option ℤ → Option ℤ → Option Choice) → (ℤ → ℤ → Choice) → Type 0
  Ends g h = ((lo hi : ℤ) → g (Some lo) (Some hi) ≡ Some (h lo hi)) × ((b : Option ℤ) → g None b ≡ None) × ((lo : ℤ) → g (Some lo) None ≡ None)

  -- the two ends of a range
  both_ends : (g : Option ℤ → Option ℤ → Option Choice) (h : ℤ → ℤ → Choice) → Ends g h → (a b : RawTermTree) (c : Choice) → g (bound v names a) (bound v names b) ≡ Some c →
      (P : TermTree → TermTree → Choice → Type 0) → ((lo hi : ℤ) → P (Num lo) (Num hi) (h lo hi)) → P (term_in v' more a) (term_in v' more b) c
  both_ends g h w a b c e P p = at (bound v names a) (bound v names b) (bound_normal a) (bound_normal b) e
    where
      at : (m n : Option ℤ) → ((k : ℤ) → m ≡ Some k → term_in v' more a ≡ Num k) → ((k : ℤ) → n ≡ Some k → term_in v' more b ≡ Num k) →
          g m n ≡ Some c → P (term_in v' more a) (term_in v' more b) c
      at (Some lo) (Some hi) x y e =
          let i = x lo refl in
          let j = y hi refl in
          let k : h lo hi ≡ c = same_Some (h lo hi) c (sym (w.0 lo hi) ∙ e) in
          rw (i, j, ← k) (p lo hi)
      at (Some lo) None x y e = let q = sym (w.2 lo) ∙ e in let no : ⊥ = cc in absurd no
      at None n x y e = let q = sym (w.1 n) ∙ e in let no : ⊥ = cc in absurd no

  member_normal : (b : RawTermTree) (c : Choice) (t : TermTree) → member_choice v names b ≡ Some c → Rel Member t (term_in v' more b) ≡ typing t c.domain
  member_normal (raw.Binary operator.UpTo p a b) c t e =
      both_ends range_of (λ lo hi. choice (domain.Range lo hi) 0) ((λ lo hi. refl), (λ b. refl), (λ lo. refl)) a b c e
      (λ x y c. Rel Member t (Bin sign.Range x y) ≡ typing t c.domain) (λ lo hi. refl)
  member_normal (raw.Atom atom.Nat p) c t e = let i : choice (domain.Range (pos 0) maxint) 0 ≡ c = same_Some _ c e in rw (← i) refl
  member_normal (raw.Atom atom.Nat1 p) c t e = let i : choice (domain.Range (pos 1) maxint) 0 ≡ c = same_Some _ c e in rw (← i) refl
  member_normal (raw.Atom atom.Int p) c t e = let i : choice (domain.Range (neg_ℤ maxint) maxint) 0 ≡ c = same_Some _ c e in rw (← i) refl
  member_normal (raw.Atom atom.Truths p) c t e = let i : choice domain.Truth 0 ≡ c = same_Some _ c e in rw (← i) refl
  member_normal (raw.Name x) c t e = at (known_set v (found x.text names)) (name_set x) e
    where
      at : (o : Option (ℕ × ℕ)) → ((s : ℕ × ℕ) → o ≡ Some s → term_in v' more (raw.Name x) ≡ Elems s.0) → elements_of o ≡ Some c → Rel Member t (term_in v' more (raw.Name x)) ≡ typing t c.domain
      at None h e = let no : ⊥ = cc in absurd no
      at (Some s) h e = let i = h s refl in let k : choice (domain.Elems s.0) s.1 ≡ c = same_Some _ c e in rw (i, ← k) refl
  member_normal b c t e = let no : ⊥ = cc in absurd no

  subset_normal : (b : RawTermTree) (c : Choice) (t : TermTree) → subset_choice v names b ≡ Some c → Rel Subset t (term_in v' more b) ≡ typing t c.domain
  subset_normal (raw.Binary operator.UpTo p a b) c t e =
      both_ends subset_of (λ lo hi. choice (domain.Subsets lo hi) 0) ((λ lo hi. refl), (λ b. refl), (λ lo. refl)) a b c e
      (λ x y c. Rel Subset t (Bin sign.Range x y) ≡ typing t c.domain) (λ lo hi. refl)
  subset_normal (raw.Name x) c t e = at (known_set v (found x.text names)) (name_set x) e
    where
      at : (o : Option (ℕ × ℕ)) → ((s : ℕ × ℕ) → o ≡ Some s → term_in v' more (raw.Name x) ≡ Elems s.0) → element_sets_of o ≡ Some c → Rel Subset t (term_in v' more (raw.Name x)) ≡ typing t c.domain
      at None h e = let no : ⊥ = cc in absurd no
      at (Some s) h e = let i = h s refl in let k : choice (domain.ElemSubsets s.0) s.1 ≡ c = same_Some _ c e in rw (i, ← k) refl
  subset_normal b c t e = let no : ⊥ = cc in absurd no

  pub given_normal : (r : RawRelation) (b : RawTermTree) (c : Choice) (t : TermTree) → given_by v names r b ≡ Some c → HasConjunct (typing t c.domain) (related r t (term_in v' more b))
  given_normal relation.Member b c t e = member_normal b c t e
  given_normal relation.Subset b c t e = subset_normal b c t e
  given_normal r b c t e = let no : ⊥ = cc in absurd no

  -- the name stands for the term, and the formula in normal form has the conjunct
  pub conjunct : (x : List ℕ) (t : TermTree) → named (length more) x (found x more) ≡ t → (f : RawFormulaTree) (c : Choice) → typing_in v names x f ≡ Some c → HasConjunct (typing t c.domain) (formula_in v' more f)
  conjunct x t i (raw.And f g) c e = at (typing_in v names x f) (conjunct x t i f c) (conjunct x t i g c) e
    where
      at : (o : Option Choice) → (o ≡ Some c → HasConjunct (typing t c.domain) (formula_in v' more f)) → (typing_in v names x g ≡ Some c → HasConjunct (typing t c.domain) (formula_in v' more g)) → or_choice o (typing_in v names x g) ≡ Some c →
          HasConjunct (typing t c.domain) (formula_in v' more f) ⊎ HasConjunct (typing t c.domain) (formula_in v' more g)
      at None h k e = inr (k e)
      at (Some d) h k e = inl (h e)
  conjunct x t i (raw.Relation r p (raw.Name y) b) c e = at (bytes_eq x y.text) refl e
    where
      at : (s : Bool) → bytes_eq x y.text ≡ s → (if s then given_by v names r b else None) ≡ Some c → HasConjunct (typing t c.domain) (related r (term_in v' more (raw.Name y)) (term_in v' more b))
      at true q e =
          let k : x ≡ y.text = bytes_tell x y.text q in
          let j : term_in v' more (raw.Name y) ≡ t = ap (λ z. named (length more) z (found z more)) (sym k) ∙ i in
          rw j (given_normal r b c t e)
      at false q e = let no : ⊥ = cc in absurd no
  conjunct x t i f c e = let no : ⊥ = cc in absurd no

  -- a domain that the formula's conjuncts give, and that was not there before, has its conjunct
  pub domains_have : (x : List ℕ) (t : TermTree) → named (length more) x (found x more) ≡ t → (f : RawFormulaTree) (ds : Domains) (c : Choice) → found x (domains_from v names ds f) ≡ Some c →
      (found x ds ≡ Some c) ⊎ HasConjunct (typing t c.domain) (formula_in v' more f)
  domains_have x t i (raw.And f g) ds c e = at (domains_have x t i g (domains_from v names ds f) c e) (domains_have x t i f ds c)
    where
      at : (found x (domains_from v names ds f) ≡ Some c) ⊎ HasConjunct (typing t c.domain) (formula_in v' more g) →
          (found x (domains_from v names ds f) ≡ Some c → (found x ds ≡ Some c) ⊎ HasConjunct (typing t c.domain) (formula_in v' more f)) →
          (found x ds ≡ Some c) ⊎ (HasConjunct (typing t c.domain) (formula_in v' more f) ⊎ HasConjunct (typing t c.domain) (formula_in v' more g))
      at (inr h) k = inr (inr h)
      at (inl h) k = next (k h)
        where
          next : (found x ds ≡ Some c) ⊎ HasConjunct (typing t c.domain) (formula_in v' more f) → (found x ds ≡ Some c) ⊎ (HasConjunct (typing t c.domain) (formula_in v' more f) ⊎ HasConjunct (typing t c.domain) (formula_in v' more g))
          next (inl h) = inl h
          next (inr h) = inr (inl h)
  domains_have x t i (raw.Relation r p (raw.Name y) b) ds c e = at (given_by v names r b) refl e
    where
      at : (o : Option Choice) → given_by v names r b ≡ o → found x (with_choice y.text o ds) ≡ Some c → (found x ds ≡ Some c) ⊎ HasConjunct (typing t c.domain) (related r (term_in v' more (raw.Name y)) (term_in v' more b))
      at None q e = inl e
      at (Some k) q e = cases (inside_cases x y.text k c ds e)
        where
          cases : (found x ds ≡ Some c) ⊎ ((x ≡ y.text) × (k ≡ c)) → (found x ds ≡ Some c) ⊎ HasConjunct (typing t c.domain) (related r (term_in v' more (raw.Name y)) (term_in v' more b))
          cases (inl h) = inl h
          cases (inr h) =
              let j : term_in v' more (raw.Name y) ≡ t = ap (λ z. named (length more) z (found z more)) (sym h.0) ∙ i in
              inr (rw j (given_normal r b c t (q ∙ ap Some h.1)))
  domains_have x t i f ds c e = inl e

-- ---- what the domain has

-- the size of a set that a domain names is known
abbrev pub IsSized : List ℕ → Domain → ℕ → Type 0
IsSized sizes (domain.Elems set) size = (slice_get sizes set ≡ Some size) × (0 < size)
IsSized sizes (domain.ElemSubsets set) size = (slice_get sizes set ≡ Some size) × (0 < size)
IsSized sizes d size = Unit {0}

pub size_of : (sizes : List ℕ) (set size : ℕ) → slice_get sizes set ≡ Some size → size_of_set sizes set ≡ size
size_of sizes set size e = get_or_from_slice_get sizes set size 0 e

pub is_domain : (sizes : List ℕ) (c : Choice) (p : Place) → IsSized sizes c.domain c.size → Clean (choice_faults (Some c) p) → IsDomain sizes c.domain × IsChoosable sizes c.domain × IsProper (form_of_domain c.domain)
is_domain sizes c p s h = go c.domain c.size s h
  where
    go : (d : Domain) (n : ℕ) → IsSized sizes d n → Clean (choice_faults (Some (choice d n)) p) → IsDomain sizes d × IsChoosable sizes d × IsProper (form_of_domain d)
    go (domain.Range lo hi) n s h = let l = lt_false hi lo (not_bad _ 3 p h.0) in ((l, tt), le_false _ _ (not_bad _ 11 p h.1.0), l)
    go domain.Truth n s h = ((tt, tt), tt, tt)
    go (domain.Elems set) n s h = let e = size_of sizes set n s.0 in ((rw e s.1, tt), tt, tt)
    go (domain.Subsets lo hi) n s h = ((lt_false hi lo (not_bad _ 3 p h.0), le_false _ _ (not_bad _ 12 p h.1.1)), le_false _ _ (not_bad _ 11 p h.1.0), tt)
    go (domain.ElemSubsets set) n s h = let e = size_of sizes set n s.0 in ((rw e s.1, tt), rw e (ltb-false 16 n (not_bad _ 11 p h.1.0)), tt)

-- the same of a domain of which no value is chosen
pub is_whole : (sizes : List ℕ) (c : Choice) (p : Place) → IsSized sizes c.domain c.size → Clean (domain_faults (Some c) p) → IsDomain sizes c.domain × IsProper (form_of_domain c.domain)
is_whole sizes c p s h = go c.domain c.size s h
  where
    go : (d : Domain) (n : ℕ) → IsSized sizes d n → Clean (domain_faults (Some (choice d n)) p) → IsDomain sizes d × IsProper (form_of_domain d)
    go (domain.Range lo hi) n s h = let l = lt_false hi lo (not_bad _ 3 p h.0) in ((l, tt), l)
    go domain.Truth n s h = ((tt, tt), tt)
    go (domain.Elems set) n s h = let e = size_of sizes set n s.0 in ((rw e s.1, tt), tt)
    go (domain.Subsets lo hi) n s h = ((lt_false hi lo (not_bad _ 3 p h.0), le_false _ _ (not_bad _ 12 p h.1)), tt)
    go (domain.ElemSubsets set) n s h = let e = size_of sizes set n s.0 in ((rw e s.1, tt), tt)

pub domain_form : (d : Domain) → form_of (known_of_domain d) ≡ form_of_domain d
domain_form (domain.Range lo hi) = refl
domain_form domain.Truth = refl
domain_form (domain.Elems set) = refl
domain_form (domain.Subsets lo hi) = refl
domain_form (domain.ElemSubsets set) = refl

-- the sets that are known have their sizes
abbrev pub KnowsSets : List ℕ → Names → Type 0
KnowsSets sizes names = (x : List ℕ) (e : Entry) (owner set size : ℕ) → found x names ≡ Some e → e.meaning ≡ meaning.Set owner set size → (slice_get sizes set ≡ Some size) × (0 < size)

module _ (v : View) (names : Names) (sizes : List ℕ) (knows : KnowsSets sizes names) where
  set_sized : (x : RawName) (s : ℕ × ℕ) → known_set v (found x.text names) ≡ Some s → (slice_get sizes s.0 ≡ Some s.1) × (0 < s.1)
  set_sized x s e = let k = known_set_is v (found x.text names) s e in knows x.text k.by k.owner s.0 s.1 k.is k.means

  range_sized : (m n : Option ℤ) (c : Choice) → range_of m n ≡ Some c → IsSized sizes c.domain c.size
  range_sized (Some lo) (Some hi) c e = rw (← same_Some _ c e) tt
  range_sized (Some lo) None c e = let no : ⊥ = cc in absurd no
  range_sized None n c e = let no : ⊥ = cc in absurd no

  subset_sized : (m n : Option ℤ) (c : Choice) → subset_of m n ≡ Some c → IsSized sizes c.domain c.size
  subset_sized (Some lo) (Some hi) c e = rw (← same_Some _ c e) tt
  subset_sized (Some lo) None c e = let no : ⊥ = cc in absurd no
  subset_sized None n c e = let no : ⊥ = cc in absurd no

  elements_sized : (o : Option (ℕ × ℕ)) (c : Choice) → ((s : ℕ × ℕ) → o ≡ Some s → (slice_get sizes s.0 ≡ Some s.1) × (0 < s.1)) → elements_of o ≡ Some c → IsSized sizes c.domain c.size
  elements_sized None c h e = let no : ⊥ = cc in absurd no
  elements_sized (Some s) c h e = rw (← same_Some _ c e) (h s refl)

  element_sets_sized : (o : Option (ℕ × ℕ)) (c : Choice) → ((s : ℕ × ℕ) → o ≡ Some s → (slice_get sizes s.0 ≡ Some s.1) × (0 < s.1)) → element_sets_of o ≡ Some c → IsSized sizes c.domain c.size
  element_sets_sized None c h e = let no : ⊥ = cc in absurd no
  element_sets_sized (Some s) c h e = rw (← same_Some _ c e) (h s refl)

  whole_sized : (a : RawAtom) (c : Choice) → whole_of a ≡ Some c → IsSized sizes c.domain c.size
  whole_sized atom.Nat c e = rw (← same_Some _ c e) tt
  whole_sized atom.Nat1 c e = rw (← same_Some _ c e) tt
  whole_sized atom.Int c e = rw (← same_Some _ c e) tt
  whole_sized atom.Truths c e = rw (← same_Some _ c e) tt
  whole_sized a c e = let no : ⊥ = cc in absurd no

  pub given_sized : (r : RawRelation) (b : RawTermTree) (c : Choice) → given_by v names r b ≡ Some c → IsSized sizes c.domain c.size
  given_sized relation.Member (raw.Binary operator.UpTo p a b) c e = range_sized (bound v names a) (bound v names b) c e
  given_sized relation.Member (raw.Atom a p) c e = whole_sized a c e
  given_sized relation.Member (raw.Name x) c e = elements_sized (known_set v (found x.text names)) c (set_sized x) e
  given_sized relation.Member b c e = let no : ⊥ = cc in absurd no
  given_sized relation.Subset (raw.Binary operator.UpTo p a b) c e = subset_sized (bound v names a) (bound v names b) c e
  given_sized relation.Subset (raw.Name x) c e = element_sets_sized (known_set v (found x.text names)) c (set_sized x) e
  given_sized relation.Subset b c e = let no : ⊥ = cc in absurd no
  given_sized r b c e = let no : ⊥ = cc in absurd no

  pub domains_sized : (x : List ℕ) (f : RawFormulaTree) (ds : Domains) (c : Choice) → found x (domains_from v names ds f) ≡ Some c → (found x ds ≡ Some c) ⊎ IsSized sizes c.domain c.size
  domains_sized x (raw.And f g) ds c e = at (domains_sized x g (domains_from v names ds f) c e) (domains_sized x f ds c)
    where
      at : (found x (domains_from v names ds f) ≡ Some c) ⊎ IsSized sizes c.domain c.size → (found x (domains_from v names ds f) ≡ Some c → (found x ds ≡ Some c) ⊎ IsSized sizes c.domain c.size) →
          (found x ds ≡ Some c) ⊎ IsSized sizes c.domain c.size
      at (inr h) k = inr h
      at (inl h) k = k h
  domains_sized x (raw.Relation r p (raw.Name y) b) ds c e = at (given_by v names r b) refl e
    where
      at : (o : Option Choice) → given_by v names r b ≡ o → found x (with_choice y.text o ds) ≡ Some c → (found x ds ≡ Some c) ⊎ IsSized sizes c.domain c.size
      at None q e = inl e
      at (Some k) q e = cases (inside_cases x y.text k c ds e)
        where
          cases : (found x ds ≡ Some c) ⊎ ((x ≡ y.text) × (k ≡ c)) → (found x ds ≡ Some c) ⊎ IsSized sizes c.domain c.size
          cases (inl h) = inl h
          cases (inr h) = inr (given_sized r b c (q ∙ ap Some h.1))
  domains_sized x f ds c e = inl e

  pub typing_sized : (x : List ℕ) (f : RawFormulaTree) (c : Choice) → typing_in v names x f ≡ Some c → IsSized sizes c.domain c.size
  typing_sized x (raw.And f g) c e = at (typing_in v names x f) (typing_sized x f c) (typing_sized x g c) e
    where
      at : (o : Option Choice) → (o ≡ Some c → IsSized sizes c.domain c.size) → (typing_in v names x g ≡ Some c → IsSized sizes c.domain c.size) → or_choice o (typing_in v names x g) ≡ Some c → IsSized sizes c.domain c.size
      at None h k e = k e
      at (Some d) h k e = h e
  typing_sized x (raw.Relation r p a b) c e = at (is_name x a) e
    where
      at : (s : Bool) → (if s then given_by v names r b else None) ≡ Some c → IsSized sizes c.domain c.size
      at true e = given_sized r b c e
      at false e = let no : ⊥ = cc in absurd no
  typing_sized x f c e = let no : ⊥ = cc in absurd no

-- ---- domains that are written after `::`

-- a domain of what may stand to the right of `:`
abbrev pub IsOfMember : Domain → Type 0
IsOfMember (domain.Subsets lo hi) = ⊥
IsOfMember (domain.ElemSubsets set) = ⊥
IsOfMember d = Unit {0}

module _ (v : View) (names : Names) (sizes : List ℕ) (knows : KnowsSets sizes names) where
  pub domain_sized : (d : RawDomain) (c : Choice) → domain_in v names d ≡ Some c → IsSized sizes c.domain c.size × IsOfMember c.domain
  domain_sized (raw_domain.Range low high) c e = at (bound_of v names low) (bound_of v names high) e
    where
      at : (m n : Option ℤ) → range_of m n ≡ Some c → IsSized sizes c.domain c.size × IsOfMember c.domain
      at (Some lo) (Some hi) e = rw (← same_Some _ c e) (tt, tt)
      at (Some lo) None e = let no : ⊥ = cc in absurd no
      at None n e = let no : ⊥ = cc in absurd no
  domain_sized (raw_domain.Nat p) c e = rw (← same_Some _ c e) (tt, tt)
  domain_sized (raw_domain.Nat1 p) c e = rw (← same_Some _ c e) (tt, tt)
  domain_sized (raw_domain.Int p) c e = rw (← same_Some _ c e) (tt, tt)
  domain_sized (raw_domain.Truths p) c e = rw (← same_Some _ c e) (tt, tt)
  domain_sized (raw_domain.Name x) c e = at (known_set v (found x.text names)) (set_sized v names sizes knows x) e
    where
      at : (o : Option (ℕ × ℕ)) → ((s : ℕ × ℕ) → o ≡ Some s → (slice_get sizes s.0 ≡ Some s.1) × (0 < s.1)) → elements_of o ≡ Some c → IsSized sizes c.domain c.size × IsOfMember c.domain
      at None h e = let no : ⊥ = cc in absurd no
      at (Some s) h e = rw (← same_Some _ c e) (h s refl, tt)
