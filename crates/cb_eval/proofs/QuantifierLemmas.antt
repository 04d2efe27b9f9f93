-- A quantifier has the truth that the walk over its domain tells.
use Rattle.std.proofs.Common.{◌≡◌, ◌↔◌, ◌∙◌, ℕ, zero, suc, ◌+◌, ◌<◌, ◌≤◌, ◌==◌, ℤ, Bool, true, false, List, [], ◌∷◌, IsTrue, Option, Some, None, refl, sym, ap, subst, arith, if◌then◌else◌, true≢false}
use Rattle.std.specs.Int.{int_min, int_max}
use Rattle.std.proofs.lemmas.Bool.{eqb-true}
use Rattle.std.proofs.lemmas.Int.{ints, clamps}
use Rattle.cb_term.specs.declared.kind.Kind.{Kind}
use Rattle.cb_term.specs.declared.kind.Domain.{Domain}
use Rattle.cb_term.specs.declared.kind.Domain.TheVariants as domain
use Rattle.cb_term.specs.declared.name.Name.{Name}
use Rattle.cb_term.specs.declared.sign.RelSign.{RelSign}
use Rattle.cb_term.specs.declared.sign.RelSign.TheVariants as rel
use Rattle.cb_term.specs.declared.sign.TermSign.TheVariants as sign
use Rattle.cb_term.specs.declared.value.Value.{Value}
use Rattle.cb_term.specs.declared.value.Value.TheVariants as value
use Rattle.cb_term.specs.Kinds.{same_kind}
use Rattle.cb_term.specs.Tree.{TermTree, Bound, Num, Bin, Elems, Truths, FormulaTree, True, False, Rel, Not, And, Or, Implies, Iff, Every, Exist}
use Rattle.cb_term.specs.Values.{Look, IsOf, same_truth}
use Rattle.cb_term.specs.Holds.{Holds}
use Rattle.cb_term.proofs.ValueLemmas.{same_kind_tells, same_truth_tells}
use Rattle.cb_spec.specs.Domains.{kind_of_domain, AllWithin, In, typing}
use Rattle.cb_spec.specs.TypedTerms.{literal, premise_of}
use Rattle.cb_spec.proofs.DomainLemmas.{domain_typing}
use Rattle.cb_eval.specs.ClosedTruth.{with_one}
use Rattle.cb_eval.specs.Evaluation.{until, walk}
use Rattle.cb_eval.specs.Walks.{count_of, value_number, is_walkable, meet, meet_found, of_kind, typing_domain, is_innermost, domain_in, if_walkable, walked_domain}
use Rattle.cb_eval.proofs.TellLemmas.{one_tells, two_tells, some_is}
use Rattle.cb_eval.proofs.WalkLemmas.{walk_in, numbered}

-- ---- what a walk tells

until_all : (go_on : Bool) (i n : ℕ) (g : ℕ → Option Bool) → until go_on i n g ≡ Some go_on → (j : ℕ) → i ≤ j → j < i + n → g j ≡ Some go_on
until_all go_on i zero g e j l m = absurd (omega (arith, l, m))
until_all go_on i (suc n) g e j l m =
    one_tells (g i) (λ b. if same_truth b go_on then until go_on (i + 1) n g else Some b) go_on (g j ≡ Some go_on) e (λ b at more.
    by b at (same_truth b go_on) refl more (until_all go_on (i + 1) n g))
  where
    alike : (b : Bool) → same_truth b b ≡ true
    alike true = refl
    alike false = refl

    by : (b : Bool) → g i ≡ Some b → (c : Bool) → same_truth b go_on ≡ c → (if c then until go_on (i + 1) n g else Some b) ≡ Some go_on →
        (until go_on (i + 1) n g ≡ Some go_on → (j : ℕ) → i + 1 ≤ j → j < i + 1 + n → g j ≡ Some go_on) → g j ≡ Some go_on
    by b at true f more deep = here (j == i) refl
      where
        here : (s : Bool) → (j == i) ≡ s → g j ≡ Some go_on
        here true s = ap g (eqb-true j i s) ∙ at ∙ ap Some (same_truth_tells b go_on f)
        here false s = deep more j (grind arith) (omega (arith, m))
    by b at false f more deep = absurd (true≢false (sym (ap (λ z. same_truth z go_on) (some_is b go_on more) ∙ alike go_on) ∙ f))

until_other : (go_on b : Bool) (i n : ℕ) (g : ℕ → Option Bool) (R : Type 0) → same_truth b go_on ≡ false → until go_on i n g ≡ Some b →
    ((j : ℕ) → i ≤ j → j < i + n → g j ≡ Some b → R) → R
until_other go_on b i zero g R ne e found = absurd (apart b go_on ne (some_is go_on b e))
  where
    apart : (b c : Bool) → same_truth b c ≡ false → c ≡ b → ⊥
    apart true true ne e = true≢false ne
    apart false false ne e = true≢false ne
    apart true false ne e = true≢false (sym e)
    apart false true ne e = true≢false e
until_other go_on b i (suc n) g R ne e found =
    one_tells (g i) (λ c. if same_truth c go_on then until go_on (i + 1) n g else Some c) b R e (λ c at more.
    by c at (same_truth c go_on) more (until_other go_on b (i + 1) n g R ne))
  where
    by : (c : Bool) → g i ≡ Some c → (d : Bool) → (if d then until go_on (i + 1) n g else Some c) ≡ Some b →
        (until go_on (i + 1) n g ≡ Some b → ((j : ℕ) → i + 1 ≤ j → j < i + 1 + n → g j ≡ Some b → R) → R) → R
    by c at true more deep = deep more (λ j l m at'. found j (omega (arith, l)) (omega (arith, m)) at')
    by c at false more deep = found i (omega arith) (omega arith) (at ∙ more)

walk_tells : (sizes : List ℕ) (go_on : Bool) (o : Option Domain) (g : Value → Option Bool) (b : Bool) (R : Type 0) → walk sizes go_on o g ≡ Some b →
    ((d : Domain) → o ≡ Some d → until go_on 0 (count_of sizes d) (λ i. g (value_number sizes d i)) ≡ Some b → R) → R
walk_tells sizes go_on None g b R e found = cc
walk_tells sizes go_on (Some d) g b R e found = found d refl e

walkable_tells : (sizes : List ℕ) (o : Option Domain) (d : Domain) → if_walkable sizes o ≡ Some d → o ≡ Some d
walkable_tells sizes None d e = cc
walkable_tells sizes (Some c) d e = by (is_walkable sizes c) e
  where
    by : (b : Bool) → (if b then Some c else None) ≡ Some d → Some c ≡ Some d
    by true e = e
    by false e = cc

-- ---- the domain that is found

of_kind_tells : (kind : Kind) (c d : Domain) → of_kind kind c ≡ Some d → (c ≡ d) × (kind_of_domain d ≡ kind)
of_kind_tells kind c d e = by (same_kind (kind_of_domain c) kind) refl e
  where
    by : (b : Bool) → same_kind (kind_of_domain c) kind ≡ b → (if b then Some c else None) ≡ Some d → (c ≡ d) × (kind_of_domain d ≡ kind)
    by true f e = let same : c ≡ d = some_is c d e in (same, ap kind_of_domain (sym same) ∙ same_kind_tells (kind_of_domain c) kind f)
    by false f e = cc

literal_tells : (t : TermTree) (n : ℤ) → literal t ≡ Some n → t ≡ Num n
literal_tells (Num m) n e = ap Num (some_is m n e)
literal_tells t n e = cc

-- the relation is the typing conjunct of the domain
typing_tells : (s : RelSign) (t b : TermTree) (d : Domain) → typing_domain s b ≡ Some d → Rel s t b ≡ typing t d
typing_tells rel.Member t (Bin sign.Range a b) d e =
    two_tells (literal a) (literal b) (λ lo hi. Some (domain.Range lo hi)) d (Rel rel.Member t (Bin sign.Range a b) ≡ typing t d) e (λ lo hi f g is.
    (λ i. Rel rel.Member t (Bin sign.Range (literal_tells a lo f i) (literal_tells b hi g i))) ∙ ap (typing t) (some_is _ d is))
typing_tells rel.Subset t (Bin sign.Range a b) d e =
    two_tells (literal a) (literal b) (λ lo hi. Some (domain.Subsets lo hi)) d (Rel rel.Subset t (Bin sign.Range a b) ≡ typing t d) e (λ lo hi f g is.
    (λ i. Rel rel.Subset t (Bin sign.Range (literal_tells a lo f i) (literal_tells b hi g i))) ∙ ap (typing t) (some_is _ d is))
typing_tells rel.Member t Truths d e = ap (typing t) (some_is _ d e)
typing_tells rel.Member t (Elems set) d e = ap (typing t) (some_is _ d e)
typing_tells rel.Subset t (Elems set) d e = ap (typing t) (some_is _ d e)
typing_tells s t b d e = cc

innermost_tells : (t : TermTree) → is_innermost t ≡ true → t ≡ Bound 0
innermost_tells (Bound j) e = ap Bound (eqb-true j 0 e)
innermost_tells t e = cc

kind_meets : (d e : Domain) → kind_of_domain (meet d e) ≡ kind_of_domain d
kind_meets (domain.Range lo hi) (domain.Range lo' hi') = refl
kind_meets (domain.Subsets lo hi) (domain.Subsets lo' hi') = refl
kind_meets d e = refl

module _ (sizes : List ℕ) where
  -- a name that stands for the value, so that the law of domains can be used
  abbrev some_name : Name
  some_name = record { text = []; number = 0 }

  of_its_kind : (d : Domain) (v : Value) → In sizes d v → IsOf sizes (kind_of_domain d) v
  of_its_kind d v i = ((domain_typing sizes d (λ _. v) some_name).0 i).0

  conjunct_in : (look : Look) (env : List Value) (d : Domain) (v : Value) → IsOf sizes (kind_of_domain d) v → Holds sizes look (typing (Bound 0) d) (v ∷ env) → In sizes d v
  conjunct_in look env (domain.Range lo hi) v of h = (domain_typing sizes (domain.Range lo hi) (λ _. v) some_name).1 (of, h)
  conjunct_in look env domain.Truth v of h = (domain_typing sizes domain.Truth (λ _. v) some_name).1 (of, h)
  conjunct_in look env (domain.Elems set) v of h = (domain_typing sizes (domain.Elems set) (λ _. v) some_name).1 (of, h)
  conjunct_in look env (domain.Subsets lo hi) v of h = (domain_typing sizes (domain.Subsets lo hi) (λ _. v) some_name).1 (of, h)
  conjunct_in look env (domain.ElemSubsets set) v of h = (domain_typing sizes (domain.ElemSubsets set) (λ _. v) some_name).1 (of, h)

  within_both : (lo hi lo' hi' : ℤ) (xs : List ℤ) → AllWithin lo hi xs → AllWithin lo' hi' xs → AllWithin (int_max lo lo') (int_min hi hi') xs
  within_both lo hi lo' hi' [] a b = tt
  within_both lo hi lo' hi' (x ∷ xs) a b = ((omega (arith, ints, clamps, a.0.0, b.0.0), omega (arith, ints, clamps, a.0.1, b.0.1)), within_both lo hi lo' hi' xs a.1 b.1)

  in_both : (d e : Domain) (v : Value) → In sizes d v → In sizes e v → In sizes (meet d e) v
  in_both (domain.Range lo hi) (domain.Range lo' hi') (value.Int x) a b = (omega (arith, ints, clamps, a.0, b.0), omega (arith, ints, clamps, a.1, b.1))
  in_both (domain.Subsets lo hi) (domain.Subsets lo' hi') (value.Set xs) a b = (a.0, within_both lo hi lo' hi' xs a.1 b.1)
  in_both (domain.Range lo hi) (domain.Range lo' hi') v a b = absurd a
  in_both (domain.Subsets lo hi) (domain.Subsets lo' hi') v a b = absurd a
  in_both d e v a b = a

  pub record Found (kind : Kind) (d : Domain) (f : FormulaTree) : Type 0 where
    pub kind_is : kind_of_domain d ≡ kind
    pub holds_in : (look : Look) (env : List Value) (v : Value) → IsOf sizes kind v → Holds sizes look f (v ∷ env) → In sizes d v

  met_tells : (o p : Option Domain) (d : Domain) (R : Type 0) → meet_found o p ≡ Some d → ((c : Domain) → o ≡ Some c → c ≡ d → R) → ((c : Domain) → p ≡ Some c → c ≡ d → R) →
      ((c e : Domain) → o ≡ Some c → p ≡ Some e → meet c e ≡ d → R) → R
  met_tells None None d R e left right both = cc
  met_tells None (Some c) d R e left right both = right c refl (some_is c d e)
  met_tells (Some c) None d R e left right both = left c refl (some_is c d e)
  met_tells (Some c) (Some e') d R e left right both = both c e' refl refl (some_is _ d e)

  pub found_domain : (kind : Kind) (f : FormulaTree) (d : Domain) → domain_in kind f ≡ Some d → Found kind d f
  found_domain kind (And f g) d e =
      met_tells (domain_in kind f) (domain_in kind g) d (Found kind d (And f g)) e
      (λ c at is. let r = found_domain kind f c at in subst (λ z. Found kind z (And f g)) is (record { kind_is = r.kind_is; holds_in = λ look env v o h. r.holds_in look env v o h.0 }))
      (λ c at is. let r = found_domain kind g c at in subst (λ z. Found kind z (And f g)) is (record { kind_is = r.kind_is; holds_in = λ look env v o h. r.holds_in look env v o h.1 }))
      (λ c e' at at' is.
      let r = found_domain kind f c at in
      let s = found_domain kind g e' at' in
      subst (λ z. Found kind z (And f g)) is (record {
        kind_is = kind_meets c e' ∙ r.kind_is;
        holds_in = λ look env v o h. in_both c e' v (r.holds_in look env v o h.0) (s.holds_in look env v o h.1);
      }))
  found_domain kind (Rel s a b) d e = by (is_innermost a) refl e
    where
      by : (c : Bool) → is_innermost a ≡ c → (if c then with_one (typing_domain s b) (of_kind kind) else None) ≡ Some d → Found kind d (Rel s a b)
      by true f e =
          one_tells (typing_domain s b) (of_kind kind) d (Found kind d (Rel s a b)) e (λ c at of.
          let p = of_kind_tells kind c d of in
          let whole : Rel s a b ≡ typing (Bound 0) d = ap (λ z. Rel s z b) (innermost_tells a f) ∙ typing_tells s (Bound 0) b c at ∙ ap (typing (Bound 0)) p.0 in
          record {
            kind_is = p.1;
            holds_in = λ look env v o h. conjunct_in look env d v (subst (λ k. IsOf sizes k v) (sym p.1) o) (subst (λ z. Holds sizes look z (v ∷ env)) whole h);
          })
      by false f e = cc
  found_domain kind f d e = cc

  -- ---- quantifiers

  -- a for-all may take what it says of its variable in front
  by_premise : (look : Look) (f : FormulaTree) (env : List Value) → (Holds sizes look (premise_of f) env → Holds sizes look f env) → Holds sizes look f env
  by_premise look (Implies p h) env go = λ t. go t t
  by_premise look True env go = go tt
  by_premise look False env go = go tt
  by_premise look (Rel s a b) env go = go tt
  by_premise look (Not f) env go = go tt
  by_premise look (And f g) env go = go tt
  by_premise look (Or f g) env go = go tt
  by_premise look (Iff f g) env go = go tt
  by_premise look (Every x kind f) env go = go tt
  by_premise look (Exist x kind f) env go = go tt

  module _ (look : Look) (env : List Value) (x : Name) (kind : Kind) (f : FormulaTree) (g : Value → Option Bool)
      (tells : (v : Value) (b : Bool) → g v ≡ Some b → IsTrue b ↔ Holds sizes look f (v ∷ env)) where
    pub every_sound : (b : Bool) → walk sizes true (walked_domain sizes kind (premise_of f)) g ≡ Some b → IsTrue b ↔ Holds sizes look (Every x kind f) env
    every_sound b e =
        walk_tells sizes true (walked_domain sizes kind (premise_of f)) g b (IsTrue b ↔ Holds sizes look (Every x kind f) env) e (λ d at.
        by b d (found_domain kind (premise_of f) d (walkable_tells sizes _ d at)))
      where
        by : (b : Bool) (d : Domain) → Found kind d (premise_of f) → until true 0 (count_of sizes d) (λ i. g (value_number sizes d i)) ≡ Some b → IsTrue b ↔ Holds sizes look (Every x kind f) env
        by true d r all = (
          (λ _ v o. by_premise look f (v ∷ env) (λ h.
              let n = numbered sizes d v (r.holds_in look env v o h) in
              (tells v true (ap g (sym n.is) ∙ until_all true 0 (count_of sizes d) (λ i. g (value_number sizes d i)) all n.number (omega arith) (omega (arith, n.below)))).0 refl)),
          (λ _. refl),
        )
        by false d r one = (
          (λ t. absurd (true≢false (sym t))),
          (λ h. until_other true false 0 (count_of sizes d) (λ i. g (value_number sizes d i)) (false ≡ true) refl one (λ j l m at.
              let v = value_number sizes d j in
              (tells v false at).1 (h v (subst (λ k. IsOf sizes k v) r.kind_is (of_its_kind d v (walk_in sizes d j (omega (arith, m)))))))),
        )

    pub exist_sound : (b : Bool) → walk sizes false (walked_domain sizes kind f) g ≡ Some b → IsTrue b ↔ Holds sizes look (Exist x kind f) env
    exist_sound b e =
        walk_tells sizes false (walked_domain sizes kind f) g b (IsTrue b ↔ Holds sizes look (Exist x kind f) env) e (λ d at.
        by b d (found_domain kind f d (walkable_tells sizes _ d at)))
      where
        by : (b : Bool) (d : Domain) → Found kind d f → until false 0 (count_of sizes d) (λ i. g (value_number sizes d i)) ≡ Some b → IsTrue b ↔ Holds sizes look (Exist x kind f) env
        by true d r one = (
          (λ _ none. until_other false true 0 (count_of sizes d) (λ i. g (value_number sizes d i)) ⊥ refl one (λ j l m at.
              let v = value_number sizes d j in
              none v (subst (λ k. IsOf sizes k v) r.kind_is (of_its_kind d v (walk_in sizes d j (omega (arith, m))))) ((tells v true at).0 refl))),
          (λ _. refl),
        )
        by false d r all = (
          (λ t. absurd (true≢false (sym t))),
          (λ some. absurd (some (λ v o h.
              let n = numbered sizes d v (r.holds_in look env v o h) in
              true≢false (sym ((tells v false (ap g (sym n.is) ∙ until_all false 0 (count_of sizes d) (λ i. g (value_number sizes d i)) all n.number (omega arith) (omega (arith, n.below)))).1 h))))),
        )
