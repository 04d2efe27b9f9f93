-- Substitutions without a fault are typed in normal form.
use Rattle.std.proofs.Common.{◌≡◌, ℕ, ◌==◌, ◌^◌, ◌≤◌, Bool, true, false, not, List, [], ◌∷◌, length, Option, Some, None, IsSomeAnd, refl, sym, ap, ◌∙◌, subst, true≢false, if◌then◌else◌, arith, bytes_eq, eq-eqb, nat_lt}
use Rattle.std.proofs.lemmas.Option.{same_Some, slice_get_within}
use Rattle.std.proofs.lemmas.Bool.{eqb-true}
use Rattle.std.proofs.lemmas.Int.{ints}
use Rattle.cb_lex.specs.declared.token.Place.{Place}
use Rattle.cb_lex.specs.declared.raw.name.RawName.{RawName}
use Rattle.cb_lex.specs.declared.raw.domain.RawDomain.{RawDomain}
use Rattle.cb_lex.specs.RawTermTree.{RawTermTree}
use Rattle.cb_lex.specs.RawSubstTree.{RawSubstTree, RawSubsts}
use Rattle.cb_lex.specs.RawSubstTree as raw
use Rattle.cb_term.specs.declared.name.Name.{Name}
use Rattle.cb_term.specs.declared.kind.Domain.{Domain}
use Rattle.cb_term.specs.declared.kind.Domain.TheVariants as domain
use Rattle.cb_term.specs.declared.kind.Kind.{Kind}
use Rattle.cb_term.specs.declared.kind.Kind.TheVariants as kind
use Rattle.cb_term.specs.declared.sign.RelSign.TheVariants.{Equal}
use Rattle.cb_term.specs.Tree.{Var}
use Rattle.cb_spec.specs.Domains.{kind_of_domain, typing}
use Rattle.cb_spec.specs.Forms.{Form, Number, Truth, Element, Numbers, TruthSet, Elements, Empty, form_of_domain, may_relate, is_some_form, is_of_kind, IsSmall}
use Rattle.cb_spec.specs.SubstTree.{SubstTree, SubstTrees}
use Rattle.cb_spec.specs.SubstTree as tree
use Rattle.cb_spec.specs.TypedTerms.{Scope, IsDomain, IsChoosable, TypedAs, TypedFormula}
use Rattle.cb_spec.specs.TypedSubsts.{kind_of_target, TypedSubst, TypedSides}
use Rattle.cb_forms.specs.Faults.{fault_if}
use Rattle.cb_forms.specs.Find.{found, put}
use Rattle.cb_forms.specs.Kinds.{form_of, is_set, may_meet, size_fault}
use Rattle.cb_judge.specs.declared.domain.Choice.{Choice as Chosen}
use Rattle.cb_judge.specs.declared.names.Entry.{Entry}
use Rattle.cb_judge.specs.declared.names.Meaning.{Meaning}
use Rattle.cb_judge.specs.declared.names.Meaning.TheVariants as meaning
use Rattle.cb_judge.specs.declared.names.View.{View}
use Rattle.cb_judge.specs.declared.subst.Given.{Given}
use Rattle.cb_judge.specs.Meanings.{Names}
use Rattle.cb_judge.specs.Choices.{typing_in, choice_faults, domain_in}
use Rattle.cb_judge.specs.Judged.{place_of, form_in}
use Rattle.cb_judge.specs.Substs.{Results, kind_of_form, is_empty_set, given_fault, given_next, meaning_fault, target_fault, target_next, chosen_form, within, results_after, results_after_sides, subst_fault, sides_fault}
use Rattle.cb_normal.specs.Normal.{written, domain_or, term_in}
use Rattle.cb_normal.specs.NormalSubsts.{any, among, subst_in, substs_in}
use Rattle.cb_typing.specs.Depths.{subst_depth, sides_depth}
use Rattle.cb_types.specs.NormalMachines.{kind_or_set, given_kind}
use Rattle.cb_typing.specs.Reflects.{Reflects, ReflectsTargets, Reserves}
use Rattle.cb_typing.specs.Laws.{SubstsAreTyped}
use Rattle.cb_typing.proofs.Clean.{Clean, clean_of, is_good}
use Rattle.cb_typing.proofs.Lookups.{bytes_tell, bytes_self}
use Rattle.cb_typing.proofs.Signs.{size_small}
use Rattle.cb_typing.proofs.Domains.{is_domain, IsSized, IsOfMember, domain_sized}
use Rattle.cb_typing.proofs.Under.{knows_sets, is_new_here, any_is_new, within_reflects, within_reserves, within_targets}
use Rattle.cb_typing.proofs.Terms.{term_good, formula_good, Good, chosen, below_is}

-- ---- kinds that go on

-- what is of the kind is of the other
abbrev pub Goes : Kind → Kind → Type 0
Goes j k = (f : Form) → is_of_kind f j ≡ true → is_of_kind f k ≡ true

pub of_own_kind : (f : Form) → is_of_kind f (kind_of_form f) ≡ true
of_own_kind (Number a b) = refl
of_own_kind Truth = refl
of_own_kind (Element k) = eq-eqb k k refl
of_own_kind (Numbers a b) = refl
of_own_kind TruthSet = refl
of_own_kind (Elements k) = eq-eqb k k refl
of_own_kind Empty = refl

-- only `{}` is of its kind, and it is of each kind of sets
empty_goes : (f : Form) → is_set f ≡ true → Goes kind.EmptySet (kind_of_form f)
empty_goes f s Empty e = at f s
  where
    at : (f : Form) → is_set f ≡ true → is_of_kind Empty (kind_of_form f) ≡ true
    at (Numbers a b) s = refl
    at TruthSet s = refl
    at (Elements k) s = refl
    at Empty s = refl
    at f s = absurd (true≢false (sym s))
empty_goes f s g e = absurd (true≢false (sym e))

pub set_goes : (k : Kind) → Goes k (kind_or_set k)
set_goes kind.EmptySet Empty e = refl
set_goes kind.EmptySet f e = absurd (true≢false (sym e))
set_goes kind.Integer f e = e
set_goes kind.Truth f e = e
set_goes (kind.Elem j) f e = e
set_goes (kind.SetOf b) f e = e

is_empty_so : (k : Kind) → is_empty_set k ≡ true → k ≡ kind.EmptySet
is_empty_so kind.EmptySet e = refl
is_empty_so k e = absurd (true≢false (sym e))

-- ---- what is given

-- what is given goes on
abbrev pub Leads : Results → Results → Type 0
Leads rs fs = (x : List ℕ) (g : Given) → found x rs ≡ Some g → (h : Given) × ((found x fs ≡ Some h) × Goes g.kind h.kind)

pub leads_self : (rs : Results) → Leads rs rs
leads_self rs x g e = (g, (e, (λ f h. h)))

pub leads_then : (rs fs hs : Results) → Leads rs fs → Leads fs hs → Leads rs hs
leads_then rs fs hs l m x g e =
    let p = l x g e in
    let q = m x p.0 p.1.0 in
    (q.0, (q.1.0, (λ f h. q.1.1 f (p.1.1 f h))))

module _ {M : Type 0} where
  pub put_own : (x : List ℕ) (m : M) (es : List (List ℕ × M)) → found x (put x m es) ≡ Some m
  put_own x m [] = rw (bytes_self x) refl
  put_own x m (e ∷ es) = by (bytes_eq x e.0) refl (put_own x m es)
    where
      by : (b : Bool) → bytes_eq x e.0 ≡ b → found x (put x m es) ≡ Some m → found x (if b then (e.0, m) ∷ es else e ∷ put x m es) ≡ Some m
      by true q h = rw q refl
      by false q h = rw q h

  pub put_other : (x y : List ℕ) (m : M) (es : List (List ℕ × M)) → bytes_eq y x ≡ false → found y (put x m es) ≡ found y es
  put_other x y m [] q = rw q refl
  put_other x y m (e ∷ es) q = by (bytes_eq x e.0) refl (put_other x y m es q)
    where
      past : bytes_eq x e.0 ≡ true → bytes_eq y e.0 ≡ false
      past p = ap (bytes_eq y) (sym (bytes_tell x e.0 p)) ∙ q

      by : (b : Bool) → bytes_eq x e.0 ≡ b → found y (put x m es) ≡ found y es → found y (if b then (e.0, m) ∷ es else e ∷ put x m es) ≡ (if bytes_eq y e.0 then Some e.1 else found y es)
      by true p h = rw (past p) refl
      by false p h = ap (λ o. if bytes_eq y e.0 then Some e.1 else o) h

-- the term that is given to a result is of its kind, and the kind goes on
pub record Gives (x : List ℕ) (rs fs : Results) (f : Form) : Type 0 where
  pub given : Given
  pub now : found x fs ≡ Some given
  pub fits : is_of_kind f given.kind ≡ true
  pub leads : Leads rs fs

put_gives : (x : List ℕ) (g : Given) (rs : Results) (f : Form) → is_of_kind f g.kind ≡ true → ((h : Given) → found x rs ≡ Some h → Goes h.kind g.kind) → Gives x rs (put x g rs) f
put_gives x g rs f e w = record {
  given = g;
  now = put_own x g rs;
  fits = e;
  leads = λ y h i. at y h i (bytes_eq y x) refl;
}
  where
    at : (y : List ℕ) (h : Given) → found y rs ≡ Some h → (b : Bool) → bytes_eq y x ≡ b → (k : Given) × ((found y (put x g rs) ≡ Some k) × Goes h.kind k.kind)
    at y h i true q =
        let j : y ≡ x = bytes_tell y x q in
        (g, (ap (λ z. found z (put x g rs)) j ∙ put_own x g rs, w h (ap (λ z. found z rs) (sym j) ∙ i)))
    at y h i false q = (h, (put_other x y g rs q ∙ i, (λ f e. e)))

pub gives : (x : List ℕ) (rs : Results) (f : Form) (q : Place) → Clean (given_fault (found x rs) (Some f) q) → Gives x rs (given_next x rs (found x rs) (Some f) q) f
gives x rs f q h = by (found x rs) refl h
  where
    by : (o : Option Given) → found x rs ≡ o → Clean (given_fault o (Some f) q) → Gives x rs (given_next x rs o (Some f) q) f
    by None e h = put_gives x (record { kind = kind_of_form f; place = q }) rs f (of_own_kind f) (λ g i. let no : ⊥ = cc in absurd no)
    by (Some g) e h = at (is_empty_set g.kind) refl h
      where
        at : (b : Bool) → is_empty_set g.kind ≡ b → Clean (if b then fault_if (not (is_set f)) 5 g.place else fault_if (not (is_of_kind f g.kind)) 5 q) →
            Gives x rs (put x (if b then record { kind = kind_of_form f; place = g.place } else g) rs) f
        at true i h =
            put_gives x (record { kind = kind_of_form f; place = g.place }) rs f (of_own_kind f)
            (λ k j. let s : k ≡ g = same_Some k g (sym j ∙ e) in let t : k.kind ≡ kind.EmptySet = ap (λ (g : Given). g.kind) s ∙ is_empty_so g.kind i in subst (λ l. Goes l (kind_of_form f)) (sym t) (empty_goes f (is_good _ 5 g.place h)))
        at false i h =
            put_gives x g rs f (is_good _ 5 q h) (λ k j. let s : k ≡ g = same_Some k g (sym j ∙ e) in subst (λ (l : Given). Goes l.kind g.kind) (sym s) (λ f e. e))

-- ---- targets

-- a term that may meet a domain's is of the domain's kind
pub meets_kind : (d : Domain) (f : Form) → may_relate Equal (form_of_domain d) f ≡ true → is_of_kind f (kind_of_domain d) ≡ true
meets_kind (domain.Range lo hi) (Number a b) e = refl
meets_kind (domain.Range lo hi) f e = absurd (true≢false (sym e))
meets_kind domain.Truth Truth e = refl
meets_kind domain.Truth f e = absurd (true≢false (sym e))
meets_kind (domain.Elems j) (Element k) e = eq-eqb k j (sym (eqb-true j k e))
meets_kind (domain.Elems j) f e = absurd (true≢false (sym e))
meets_kind (domain.Subsets lo hi) (Numbers a b) e = refl
meets_kind (domain.Subsets lo hi) Empty e = refl
meets_kind (domain.Subsets lo hi) f e = absurd (true≢false (sym e))
meets_kind (domain.ElemSubsets j) (Elements k) e = at (j == k) refl e
  where
    at : (b : Bool) → (j == k) ≡ b → is_some_form (if b then Some (Elements j) else None) ≡ true → (k == j) ≡ true
    at true q e = eq-eqb k j (sym (eqb-true j k q))
    at false q e = absurd (true≢false (sym e))
meets_kind (domain.ElemSubsets j) Empty e = refl
meets_kind (domain.ElemSubsets j) f e = absurd (true≢false (sym e))

module _ (v : View) (names : Names) (rs : Results) where
  -- the name may be assigned the form, and what is given goes on
  pub record Assigns (x : RawName) (f : Form) (after : Results) : Type 0 where
    pub leads : Leads rs after
    pub typed : (final : Results) → Leads after final → (targets : List (Name × Kind)) → ReflectsTargets v names final targets → IsSomeAnd (kind_of_target targets (written x.text)) (λ k. is_of_kind f k ≡ true)

  some_kind : (targets : List (Name × Kind)) (x : RawName) (f : Form) (k : Kind) → kind_of_target targets (written x.text) ≡ Some k → is_of_kind f k ≡ true → IsSomeAnd (kind_of_target targets (written x.text)) (λ k. is_of_kind f k ≡ true)
  some_kind targets x f k e h = subst (λ o. IsSomeAnd o (λ k. is_of_kind f k ≡ true)) (sym e) h

  pub assigns : (x : RawName) (f : Form) (q : Place) → Clean (target_fault v (found x.text names) rs x (Some f) q) → Assigns x f (target_next (found x.text names) rs x (Some f) q)
  assigns x f q h = by (found x.text names) refl h
    where
      by : (o : Option Entry) → found x.text names ≡ o → Clean (target_fault v o rs x (Some f) q) → Assigns x f (target_next o rs x (Some f) q)
      by None i h = absurd h
      by (Some e) i h = at e.meaning refl h
        where
          at : (m : Meaning) → e.meaning ≡ m → Clean (meaning_fault v m rs x (Some f) q) → Assigns x f (target_next (Some (record e { meaning = m })) rs x (Some f) q)
          at (meaning.Variable owner form) j h = own (owner == v.machine) refl h
            where
              own : (b : Bool) → (owner == v.machine) ≡ b → Clean (if b then fault_if (not (may_meet (Some (form_of form)) (Some f))) 5 q else meaning_fault v meaning.Reserved rs x (Some f) q) → Assigns x f rs
              own true w h = record {
                leads = leads_self rs;
                typed = λ final l targets t.
                    let d = t.variables x.text e owner form i j (eqb-true owner v.machine w) in
                    let m : may_relate Equal (form_of_domain d.0) f ≡ true = ap (λ g. may_relate Equal g f) (sym d.1.1) ∙ is_good _ 5 q h in
                    some_kind targets x f (kind_of_domain d.0) d.1.0 (meets_kind d.0 f m);
              }
              own false w h = absurd h
          at meaning.Result j h =
              let g = gives x.text rs f q h in
              record {
                leads = g.leads;
                typed = λ final l targets t.
                    let p = l x.text g.given g.now in
                    let k : kind_of_target targets (written x.text) ≡ Some (kind_or_set p.0.kind) = t.results x.text e i j ∙ ap (λ o. Some (given_kind o)) p.1.0 in
                    some_kind targets x f (kind_or_set p.0.kind) k (set_goes p.0.kind f (p.1.1 f g.fits));
              }
          at m j h = absurd h

-- ---- `x :: d`

map_some : {A : Type 0} (o : Option A) (P Q : A → Type 0) → ((a : A) → P a → Q a) → IsSomeAnd o P → IsSomeAnd o Q
map_some None P Q f h = h
map_some (Some a) P Q f h = f a h

typing_typed : (sizes : List ℕ) (scope : Scope) (taken : List Name) (d : Domain) (n : ℕ) → IsOfMember d → IsDomain sizes d → IsSized sizes d n → IsSmall (form_of_domain d) →
    TypedFormula sizes ((any, form_of_domain d) ∷ scope) (any ∷ taken) [] (typing (Var any) d)
typing_typed sizes scope taken (domain.Range lo hi) n m i z s = (s, ((omega (arith, ints, s, i), omega (arith, ints, s, i)), (omega (arith, ints, s, i), omega (arith, ints, s, i)), tt), refl)
typing_typed sizes scope taken domain.Truth n m i z s = (tt, tt, refl)
typing_typed sizes scope taken (domain.Elems set) n m i z s =
    let q : nat_lt set (length sizes) ≡ true = below_is set (length sizes) (slice_get_within sizes set n z.0) in
    (tt, rw q tt, rw q (rw (eq-eqb set set refl) refl))
typing_typed sizes scope taken (domain.Subsets lo hi) n m i z s = absurd m
typing_typed sizes scope taken (domain.ElemSubsets set) n m i z s = absurd m

-- ---- the walk

module _ (v : View) (sizes : List ℕ) where
  -- what is given goes on, and where what is given at the end is what targets have, the normal form is typed
  pub record Done (names : Names) (scope : Scope) (taken : List Name) (rs after : Results) (t : SubstTree) : Type 0 where
    pub leads : Leads rs after
    pub typed : (final : Results) → Leads after final → (targets : List (Name × Kind)) → ReflectsTargets v names final targets → TypedSubst sizes targets scope taken t

  pub record SidesDone (names : Names) (scope : Scope) (taken : List Name) (rs after : Results) (ts : SubstTrees) : Type 0 where
    pub leads : Leads rs after
    pub typed : (final : Results) → Leads after final → (targets : List (Name × Kind)) → ReflectsTargets v names final targets → TypedSides sizes targets scope taken ts

  assign_done : (names : Names) (scope : Scope) (taken : List Name) → (rs : Results) (x : RawName) (t : RawTermTree) → Good v sizes scope taken [] false (form_in v names t) (term_in v names t) →
      Clean (target_fault v (found x.text names) rs x (form_in v names t) (place_of t)) →
      Done names scope taken rs (target_next (found x.text names) rs x (form_in v names t) (place_of t)) (tree.Assign (written x.text) (term_in v names t))
  assign_done names scope taken rs x t g h =
      let h' : Clean (target_fault v (found x.text names) rs x (Some g.form) (place_of t)) = rw g.as_judged at h in
      let a = assigns v names rs x g.form (place_of t) h' in
      subst (λ o. Done names scope taken rs (target_next (found x.text names) rs x o (place_of t)) (tree.Assign (written x.text) (term_in v names t))) (sym g.as_judged) (record {
        leads = a.leads;
        typed = λ final l targets w. map_some (kind_of_target targets (written x.text)) (λ k. is_of_kind g.form k ≡ true) (λ k. TypedAs sizes scope taken k (term_in v names t))
            (λ k e. (g.typed, subst (λ o. IsSomeAnd o (λ f. is_of_kind f k ≡ true)) (sym g.as_typed) e)) (a.typed final l targets w);
      })

  among_done : (names : Names) (scope : Scope) (taken : List Name) → Reflects v names sizes scope taken [] → Reserves names → (rs : Results) (x : RawName) (d : RawDomain) →
      Clean (subst_fault v names rs (raw.Among x d)) → Done names scope taken rs (results_after v names rs (raw.Among x d)) (subst_in v names (raw.Among x d))
  among_done names scope taken r z rs x d h = at (domain_in v names d) refl h.0.1 h.1.0 h.1.1
    where
      at : (o : Option Chosen) → domain_in v names d ≡ o → Clean (choice_faults o x.place) → Clean (target_fault v (found x.text names) rs x (chosen_form o) x.place) → Clean (size_fault (chosen_form o) x.place) →
          Done names scope taken rs (target_next (found x.text names) rs x (chosen_form o) x.place) (among (written x.text) (domain_or o))
      at None e c t s = absurd c.0
      at (Some k) e c t s =
          let w = domain_sized v names sizes (knows_sets v names sizes scope taken [] r) d k e in
          let i = is_domain sizes k x.place w.0 c in
          let m = size_small (form_of_domain k.domain) x.place s in
          let a = assigns v names rs x (form_of_domain k.domain) x.place t in
          record {
            leads = a.leads;
            typed = λ final l targets u. (
              any_is_new v names sizes scope taken r z,
              i.0,
              i.1,
              typing_typed sizes scope taken k.domain k.size w.1 i.0 w.0 m,
              map_some (kind_of_target targets (written x.text)) (λ j. is_of_kind (form_of_domain k.domain) j ≡ true) (λ j. TypedAs sizes ((any, form_of_domain k.domain) ∷ scope) (any ∷ taken) j (Var any))
                  (λ j e. (m, e)) (a.typed final l targets u),
            );
          }

  mutual
    pub walk : (s : RawSubstTree) (names : Names) (scope : Scope) (taken : List Name) → Reflects v names sizes scope taken [] → Reserves names → (rs : Results) → subst_depth s ≤ 2 ^ 32 → Clean (subst_fault v names rs s) →
        Done names scope taken rs (results_after v names rs s) (subst_in v names s)
    walk raw.Skip names scope taken r z rs l h = record { leads = leads_self rs; typed = λ final l targets w. tt }
    walk (raw.Assign x t) names scope taken r z rs l h =
        assign_done names scope taken rs x t (term_good v sizes scope taken t names [] r false (omega (arith, l)) h.0) h.1
    walk (raw.Among x d) names scope taken r z rs l h = among_done names scope taken r z rs x d h
    walk (raw.If f s) names scope taken r z rs l h =
        let p = formula_good v sizes scope taken f names [] r (omega (arith, l)) h.0 in
        let a = walk s names scope taken r z rs (omega (arith, l)) h.1 in
        record { leads = a.leads; typed = λ final l targets w. (p, a.typed final l targets w, tt) }
    walk (raw.IfElse f s t) names scope taken r z rs l h =
        let p = formula_good v sizes scope taken f names [] r (omega (arith, l)) h.0 in
        let a = walk s names scope taken r z rs (omega (arith, l)) h.1.0 in
        let b = walk t names scope taken r z (results_after v names rs s) (omega (arith, l)) h.1.1 in
        record {
          leads = leads_then rs (results_after v names rs s) (results_after v names (results_after v names rs s) t) a.leads b.leads;
          typed = λ final l targets w. (p, a.typed final (leads_then (results_after v names rs s) (results_after v names (results_after v names rs s) t) final b.leads l) targets w, b.typed final l targets w);
        }
    walk (raw.Choice ss) names scope taken r z rs l h = let a = sides_walk ss names scope taken r z rs l h in record { leads = a.leads; typed = a.typed }
    walk (raw.Any x f s) names scope taken r z rs l h =
        let c = chosen v sizes scope taken names [] r x f h.0 in
        let o = typing_in v names x.text f in
        let r' = subst (λ o. Reflects v (within x o names) sizes ((written x.text, form_of_domain (domain_or o)) ∷ scope) (written x.text ∷ taken) []) (sym c.is)
        (within_reflects v names sizes scope taken r x c.by c.new c.fits.2) in
        let z' = subst (λ o. Reserves (within x o names)) (sym c.is) (within_reserves v names sizes scope taken r x c.by c.new z) in
        let p = formula_good v sizes ((written x.text, form_of_domain (domain_or o)) ∷ scope) (written x.text ∷ taken) f (within x o names) [] r' (omega (arith, l)) h.1.0 in
        let a = walk s (within x o names) ((written x.text, form_of_domain (domain_or o)) ∷ scope) (written x.text ∷ taken) r' z' rs (omega (arith, l)) h.1.1 in
        record {
          leads = a.leads;
          typed = λ final l targets w. (
            is_new_here v names sizes scope taken r x.text c.new,
            subst (λ o. IsDomain sizes (domain_or o)) (sym c.is) c.fits.0,
            subst (λ o. IsChoosable sizes (domain_or o)) (sym c.is) c.fits.1,
            p,
            a.typed final l targets (subst (λ o. ReflectsTargets v (within x o names) final targets) (sym c.is) (within_targets v names sizes scope taken r x c.by c.new final targets w)),
          );
        }
    walk (raw.Parallel s t) names scope taken r z rs l h =
        let a = walk s names scope taken r z rs (omega (arith, l)) h.0 in
        let b = walk t names scope taken r z (results_after v names rs s) (omega (arith, l)) h.1 in
        record {
          leads = leads_then rs (results_after v names rs s) (results_after v names (results_after v names rs s) t) a.leads b.leads;
          typed = λ final l targets w. (a.typed final (leads_then (results_after v names rs s) (results_after v names (results_after v names rs s) t) final b.leads l) targets w, b.typed final l targets w);
        }

    pub sides_walk : (ss : RawSubsts) (names : Names) (scope : Scope) (taken : List Name) → Reflects v names sizes scope taken [] → Reserves names → (rs : Results) → sides_depth ss ≤ 2 ^ 32 → Clean (sides_fault v names rs ss) →
        SidesDone names scope taken rs (results_after_sides v names rs ss) (substs_in v names ss)
    sides_walk raw.NoSide names scope taken r z rs l h = record { leads = leads_self rs; typed = λ final l targets w. tt }
    sides_walk (raw.Side s ss) names scope taken r z rs l h =
        let a = walk s names scope taken r z rs (omega (arith, l)) h.0 in
        let b = sides_walk ss names scope taken r z (results_after v names rs s) (omega (arith, l)) h.1 in
        record {
          leads = leads_then rs (results_after v names rs s) (results_after_sides v names (results_after v names rs s) ss) a.leads b.leads;
          typed = λ final l targets w. (a.typed final (leads_then (results_after v names rs s) (results_after_sides v names (results_after v names rs s) ss) final b.leads l) targets w, b.typed final l targets w);
        }

pub substs_are_typed : SubstsAreTyped
substs_are_typed v names sizes scope taken r z s l h targets w =
    let d = walk v sizes s names scope taken r z [] l (clean_of (subst_fault v names [] s) h) in
    d.typed (results_after v names [] s) (leads_self (results_after v names [] s)) targets w
