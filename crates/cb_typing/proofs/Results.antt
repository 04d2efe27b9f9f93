-- What is assigned to a result is of the kind that is judged.
use Rattle.std.proofs.Common.{◌≡◌, ℕ, ◌==◌, ◌^◌, ◌≤◌, ℤ, int_lt, Bool, true, false, not, List, [], ◌∷◌, Option, Some, None, option_map, refl, sym, ap, ◌∙◌, subst, true≢false, if◌then◌else◌, arith, bytes_eq, eq-eqb}
use Rattle.std.specs.Int.{int_min, int_max}
use Rattle.std.proofs.lemmas.Option.{same_Some}
use Rattle.std.proofs.lemmas.Bool.{eqb-true}
use Rattle.cb_lex.specs.declared.token.Place.{Place}
use Rattle.cb_lex.specs.declared.raw.name.RawName.{RawName}
use Rattle.cb_lex.specs.RawTermTree.{RawTermTree}
use Rattle.cb_lex.specs.RawSubstTree.{RawSubstTree, RawSubsts}
use Rattle.cb_lex.specs.RawSubstTree as raw
use Rattle.cb_term.specs.declared.name.Name.{Name}
use Rattle.cb_term.specs.declared.kind.Kind.{Kind}
use Rattle.cb_term.specs.declared.kind.Kind.TheVariants as kind
use Rattle.cb_term.specs.declared.kind.Base.{Base}
use Rattle.cb_term.specs.declared.kind.Base.TheVariants as base
use Rattle.cb_term.specs.Names.{same_name}
use Rattle.cb_spec.specs.Forms.{Form, Number, Truth, Element, Numbers, TruthSet, Elements, Empty, hull, form_of_domain, is_of_kind}
use Rattle.cb_spec.specs.TypedTerms.{Scope}
use Rattle.cb_spec.specs.TypedTerms as typed
use Rattle.cb_spec.specs.TypedSubsts.{either_form, either, assigned_form, assigned_in_one, result_form}
use Rattle.cb_forms.specs.Faults.{fault_if}
use Rattle.cb_forms.specs.Find.{found, put}
use Rattle.cb_forms.specs.Kinds.{is_set}
use Rattle.cb_judge.specs.declared.domain.Choice.{Choice}
use Rattle.cb_judge.specs.declared.names.Entry.{Entry}
use Rattle.cb_judge.specs.declared.names.Meaning.TheVariants as meaning
use Rattle.cb_judge.specs.declared.names.View.{View}
use Rattle.cb_judge.specs.declared.subst.Given.{Given}
use Rattle.cb_judge.specs.Meanings.{Names}
use Rattle.cb_judge.specs.Choices.{typing_in, choice_faults, domain_in}
use Rattle.cb_judge.specs.Judged.{place_of, form_in}
use Rattle.cb_judge.specs.Substs.{Results, kind_of_form, is_empty_set, given_fault, next_given, given_next, target_fault, is_result, target_next, chosen_form, within, results_after, results_after_sides, subst_fault, sides_fault}
use Rattle.cb_normal.specs.Normal.{written, domain_or, term_in}
use Rattle.cb_normal.specs.NormalSubsts.{among, subst_in, substs_in}
use Rattle.cb_typing.specs.Depths.{subst_depth, sides_depth}
use Rattle.cb_types.specs.NormalMachines.{kind_or_set, given_kind}
use Rattle.cb_typing.specs.Reflects.{Reflects, Reserves}
use Rattle.cb_typing.specs.Laws.{ResultsHaveKinds}
use Rattle.cb_typing.proofs.Clean.{Clean, clean_of, is_good}
use Rattle.cb_typing.proofs.Lookups.{bytes_tell}
use Rattle.cb_typing.proofs.Under.{same_written, within_reflects, within_stays, within_reserves}
use Rattle.cb_typing.proofs.Terms.{term_good, Good, chosen}
use Rattle.cb_typing.proofs.Substs.{put_own, put_other}

-- ---- kinds of forms

-- what may be assigned after something of the kind
abbrev suits_kind : Kind → Form → Bool
suits_kind k f = if is_empty_set k then is_set f else is_of_kind f k

abbrev set_kind : Kind → Bool
set_kind (kind.SetOf b) = true
set_kind kind.EmptySet = true
set_kind k = false

-- whether what has the first kind is of the second
abbrev kind_fits : Kind → Kind → Bool
kind_fits kind.Integer kind.Integer = true
kind_fits kind.Truth kind.Truth = true
kind_fits (kind.Elem j) (kind.Elem k) = j == k
kind_fits (kind.SetOf base.Integer) (kind.SetOf base.Integer) = true
kind_fits (kind.SetOf base.Truth) (kind.SetOf base.Truth) = true
kind_fits (kind.SetOf (base.Elem j)) (kind.SetOf (base.Elem k)) = j == k
kind_fits kind.EmptySet (kind.SetOf b) = true
kind_fits kind.EmptySet kind.EmptySet = true
kind_fits j k = false

fits_so : (f : Form) (k : Kind) → is_of_kind f k ≡ kind_fits (kind_of_form f) k
fits_so (Number a b) kind.Integer = refl
fits_so (Number a b) k = refl
fits_so Truth kind.Truth = refl
fits_so Truth k = refl
fits_so (Element j) (kind.Elem i) = refl
fits_so (Element j) k = refl
fits_so (Numbers a b) (kind.SetOf base.Integer) = refl
fits_so (Numbers a b) (kind.SetOf b') = refl
fits_so (Numbers a b) k = refl
fits_so TruthSet (kind.SetOf base.Truth) = refl
fits_so TruthSet (kind.SetOf b) = refl
fits_so TruthSet k = refl
fits_so (Elements j) (kind.SetOf (base.Elem i)) = refl
fits_so (Elements j) (kind.SetOf b) = refl
fits_so (Elements j) k = refl
fits_so Empty (kind.SetOf b) = refl
fits_so Empty kind.EmptySet = refl
fits_so Empty k = refl

set_so : (f : Form) → is_set f ≡ set_kind (kind_of_form f)
set_so (Number a b) = refl
set_so Truth = refl
set_so (Element j) = refl
set_so (Numbers a b) = refl
set_so TruthSet = refl
set_so (Elements j) = refl
set_so Empty = refl

-- forms of one kind suit the same
same_suits : (f g : Form) (k : Kind) → kind_of_form f ≡ kind_of_form g → suits_kind k f ≡ suits_kind k g
same_suits f g k e = by (is_empty_set k)
  where
    by : (b : Bool) → (if b then is_set f else is_of_kind f k) ≡ (if b then is_set g else is_of_kind g k)
    by true = set_so f ∙ ap set_kind e ∙ sym (set_so g)
    by false = fits_so f k ∙ ap (λ j. kind_fits j k) e ∙ sym (fits_so g k)

of_set : (f : Form) (b : Base) → is_of_kind f (kind.SetOf b) ≡ true → is_set f ≡ true
of_set (Numbers m n) b e = refl
of_set TruthSet b e = refl
of_set (Elements j) b e = refl
of_set Empty b e = refl
of_set (Number m n) b e = e
of_set Truth b e = e
of_set (Element j) b e = e

of_empty : (f : Form) → is_of_kind f kind.EmptySet ≡ true → is_set f ≡ true
of_empty Empty e = refl
of_empty f e = absurd (true≢false (sym e))

-- forms of one kind go together
kinds_meet : (f g : Form) (k : Kind) → is_of_kind f k ≡ true → is_of_kind g k ≡ true → suits_kind (kind_of_form f) g ≡ true
kinds_meet (Number a b) g kind.Integer e h = h
kinds_meet (Number a b) g k e h = absurd (true≢false (sym e))
kinds_meet Truth g kind.Truth e h = h
kinds_meet Truth g k e h = absurd (true≢false (sym e))
kinds_meet (Element j) g (kind.Elem i) e h = rw (eqb-true j i e) h
kinds_meet (Element j) g k e h = absurd (true≢false (sym e))
kinds_meet (Numbers a b) g (kind.SetOf base.Integer) e h = h
kinds_meet (Numbers a b) g (kind.SetOf b') e h = absurd (true≢false (sym e))
kinds_meet (Numbers a b) g k e h = absurd (true≢false (sym e))
kinds_meet TruthSet g (kind.SetOf base.Truth) e h = h
kinds_meet TruthSet g (kind.SetOf b) e h = absurd (true≢false (sym e))
kinds_meet TruthSet g k e h = absurd (true≢false (sym e))
kinds_meet (Elements j) g (kind.SetOf (base.Elem i)) e h = rw (eqb-true j i e) h
kinds_meet (Elements j) g (kind.SetOf b) e h = absurd (true≢false (sym e))
kinds_meet (Elements j) g k e h = absurd (true≢false (sym e))
kinds_meet Empty g (kind.SetOf b) e h = of_set g b h
kinds_meet Empty g kind.EmptySet e h = of_empty g h
kinds_meet Empty g k e h = absurd (true≢false (sym e))

hull_kind : (a b c d : ℤ) → kind_of_form (hull a b c d) ≡ kind.SetOf base.Integer
hull_kind a b c d = by (int_lt b a) (int_lt d c)
  where
    by : (t u : Bool) → kind_of_form (if t then Numbers c d else (if u then Numbers a b else Numbers (int_min a c) (int_max b d))) ≡ kind.SetOf base.Integer
    by true u = refl
    by false true = refl
    by false false = refl

either_kind : (f g : Form) → suits_kind (kind_of_form f) g ≡ true → kind_of_form (either_form f g) ≡ (if is_empty_set (kind_of_form f) then kind_of_form g else kind_of_form f)
either_kind (Number a b) (Number c d) e = refl
either_kind (Number a b) g e = absurd (true≢false (sym e))
either_kind Truth Truth e = refl
either_kind Truth g e = absurd (true≢false (sym e))
either_kind (Element j) (Element k) e = refl
either_kind (Element j) g e = absurd (true≢false (sym e))
either_kind (Numbers a b) (Numbers c d) e = hull_kind a b c d
either_kind (Numbers a b) Empty e = refl
either_kind (Numbers a b) g e = absurd (true≢false (sym e))
either_kind TruthSet TruthSet e = refl
either_kind TruthSet Empty e = refl
either_kind TruthSet g e = absurd (true≢false (sym e))
either_kind (Elements j) (Elements k) e = rw (eq-eqb j k (sym (eqb-true k j e))) refl
either_kind (Elements j) Empty e = refl
either_kind (Elements j) g e = absurd (true≢false (sym e))
either_kind Empty Empty e = refl
either_kind Empty (Numbers a b) e = refl
either_kind Empty TruthSet e = refl
either_kind Empty (Elements k) e = refl
either_kind Empty g e = absurd (true≢false (sym e))

-- ---- kinds that are given

abbrev both : Option Kind → Option Kind → Option Kind
both None k = k
both (Some j) None = Some j
both (Some j) (Some k) = Some (if is_empty_set j then k else j)

both_none : (k : Option Kind) → both k None ≡ k
both_none None = refl
both_none (Some k) = refl

both_then : (a b c : Option Kind) → both (both a b) c ≡ both a (both b c)
both_then None b c = refl
both_then (Some a) None c = refl
both_then (Some a) (Some b) None = refl
both_then (Some a) (Some b) (Some c) = by (is_empty_set a) refl
  where
    by : (t : Bool) → is_empty_set a ≡ t → both (Some (if t then b else a)) (Some c) ≡ both (Some a) (Some (if is_empty_set b then c else b))
    by true e = rw e refl
    by false e = rw e refl

abbrev form_kind : Option Form → Option Kind
form_kind o = option_map kind_of_form o

-- with what is assigned the kind goes from the first to the second, and it suits the first
pub record Kept (before after : Option Kind) (o : Option Form) : Type 0 where
  pub at : after ≡ both before (form_kind o)
  suits : (f : Form) (k : Kind) → o ≡ Some f → before ≡ Some k → suits_kind k f ≡ true

kept_none : (k : Option Kind) → Kept k k None
kept_none k = record { at = sym (both_none k); suits = λ f k e h. let no : ⊥ = cc in absurd no }

-- the second term suits the first, where both suit what was before
meet_after : (k : Option Kind) (f g : Form) → ((j : Kind) → k ≡ Some j → suits_kind j f ≡ true) → ((j : Kind) → both k (Some (kind_of_form f)) ≡ Some j → suits_kind j g ≡ true) → suits_kind (kind_of_form f) g ≡ true
meet_after None f g h i = i (kind_of_form f) refl
meet_after (Some k) f g h i = by (is_empty_set k) refl (h k refl) (i (if is_empty_set k then kind_of_form f else k) refl)
  where
    by : (b : Bool) → is_empty_set k ≡ b → (if b then is_set f else is_of_kind f k) ≡ true → suits_kind (if b then kind_of_form f else k) g ≡ true → suits_kind (kind_of_form f) g ≡ true
    by true q h i = i
    by false q h i = let j : is_of_kind g k ≡ true = rw q at i in kinds_meet f g k h j

-- one of the two has the kind of either
one_kind : (f g : Form) → suits_kind (kind_of_form f) g ≡ true → (k : Kind) → suits_kind k f ≡ true → suits_kind k g ≡ true → suits_kind k (either_form f g) ≡ true
one_kind f g e k p q = by (is_empty_set (kind_of_form f)) (either_kind f g e)
  where
    by : (b : Bool) → kind_of_form (either_form f g) ≡ (if b then kind_of_form g else kind_of_form f) → suits_kind k (either_form f g) ≡ true
    by true i = same_suits (either_form f g) g k i ∙ q
    by false i = same_suits (either_form f g) f k i ∙ p

-- the second suits what was before
suits_before : (j : Kind) (f g : Form) → suits_kind j f ≡ true → suits_kind (if is_empty_set j then kind_of_form f else j) g ≡ true → suits_kind (kind_of_form f) g ≡ true → suits_kind j g ≡ true
suits_before j f g p q m = by (is_empty_set j) refl p q
  where
    by : (b : Bool) → is_empty_set j ≡ b → (if b then is_set f else is_of_kind f j) ≡ true → suits_kind (if b then kind_of_form f else j) g ≡ true → (if b then is_set g else is_of_kind g j) ≡ true
    by true i p q = set_meets f g p m
      where
        set_meets : (f g : Form) → is_set f ≡ true → suits_kind (kind_of_form f) g ≡ true → is_set g ≡ true
        set_meets (Numbers a b) g p m = of_set g base.Integer m
        set_meets TruthSet g p m = of_set g base.Truth m
        set_meets (Elements k) g p m = of_set g (base.Elem k) m
        set_meets Empty g p m = m
        set_meets f g p m = absurd (true≢false (sym p))
    by false i p q = rw i at q

kept_then : (k0 k1 k2 : Option Kind) (oa ob : Option Form) → Kept k0 k1 oa → Kept k1 k2 ob → Kept k0 k2 (either oa ob)
kept_then k0 k1 k2 None ob a b =
    let i : k1 ≡ k0 = a.at ∙ both_none k0 in
    record { at = b.at ∙ ap (λ k. both k (form_kind ob)) i; suits = λ f k e h. b.suits f k e (i ∙ h) }
kept_then k0 k1 k2 (Some f) None a b = record { at = b.at ∙ both_none k1 ∙ a.at; suits = a.suits }
kept_then k0 k1 k2 (Some f) (Some g) a b =
    let m = meet_after k0 f g (λ j e. a.suits f j refl e) (λ j e. b.suits g j refl (a.at ∙ e)) in
    record {
      at = b.at ∙ ap (λ k. both k (Some (kind_of_form g))) a.at ∙ both_then k0 (Some (kind_of_form f)) (Some (kind_of_form g)) ∙ ap (λ k. both k0 (Some k)) (sym (either_kind f g m));
      suits = λ h k e i.
          let q : either_form f g ≡ h = same_Some _ _ e in
          let w : k1 ≡ Some (if is_empty_set k then kind_of_form f else k) = a.at ∙ ap (λ k. both k (Some (kind_of_form f))) i in
          let p = a.suits f k refl i in
          subst (λ h. suits_kind k h ≡ true) q (one_kind f g m k p (suits_before k f g p (b.suits g (if is_empty_set k then kind_of_form f else k) refl w) m));
    }

-- ---- one assignment

abbrev kind_at : List ℕ → Results → Option Kind
kind_at x rs = option_map (λ (g : Given). g.kind) (found x rs)

-- the term that is given to a result
given_kept : (rs : Results) (y : List ℕ) (f : Form) (q : Place) → Clean (given_fault (found y rs) (Some f) q) → Kept (kind_at y rs) (kind_at y (given_next y rs (found y rs) (Some f) q)) (Some f)
given_kept rs y f q h = by (found y rs) refl h
  where
    by : (o : Option Given) → found y rs ≡ o → Clean (given_fault o (Some f) q) → Kept (option_map (λ (g : Given). g.kind) o) (kind_at y (given_next y rs o (Some f) q)) (Some f)
    by None i h = record { at = ap (option_map (λ (g : Given). g.kind)) (put_own y (record { kind = kind_of_form f; place = q }) rs); suits = λ f k e i. let no : ⊥ = cc in absurd no }
    by (Some g) i h = so (is_empty_set g.kind) refl h
      where
        so : (b : Bool) → is_empty_set g.kind ≡ b → Clean (if b then fault_if (not (is_set f)) 5 g.place else fault_if (not (is_of_kind f g.kind)) 5 q) →
            Kept (Some g.kind) (kind_at y (put y (if b then record { kind = kind_of_form f; place = g.place } else g) rs)) (Some f)
        so true w h = record {
          at = ap (option_map (λ (g : Given). g.kind)) (put_own y (record { kind = kind_of_form f; place = g.place }) rs) ∙ rw w refl;
          suits = λ h' k e i'.
              let a : f ≡ h' = same_Some f h' e in
              let b : g.kind ≡ k = same_Some g.kind k i' in
              subst (λ h. suits_kind k h ≡ true) a (subst (λ k. suits_kind k f ≡ true) b (rw w (is_good _ 5 g.place h)));
        }
        so false w h = record {
          at = ap (option_map (λ (g : Given). g.kind)) (put_own y g rs) ∙ rw w refl;
          suits = λ h' k e i'.
              let a : f ≡ h' = same_Some f h' e in
              let b : g.kind ≡ k = same_Some g.kind k i' in
              subst (λ h. suits_kind k h ≡ true) a (subst (λ k. suits_kind k f ≡ true) b (rw w (is_good _ 5 q h)));
        }

-- another name keeps what is given to it
next_other : (x y : List ℕ) (rs : Results) (g : Option Given) (o : Option Form) (q : Place) → bytes_eq x y ≡ false → found x (given_next y rs g o q) ≡ found x rs
next_other x y rs g None q e = refl
next_other x y rs None (Some f) q e = put_other y x (record { kind = kind_of_form f; place = q }) rs e
next_other x y rs (Some g) (Some f) q e = put_other y x (next_given g f) rs e

target_other : (x : List ℕ) (y : RawName) (rs : Results) (e : Option Entry) (o : Option Form) (q : Place) → bytes_eq x y.text ≡ false → found x (target_next e rs y o q) ≡ found x rs
target_other x y rs e o q h = by (is_result e)
  where
    by : (b : Bool) → found x (if b then given_next y.text rs (found y.text rs) o q else rs) ≡ found x rs
    by true = next_other x y.text rs (found y.text rs) o q h
    by false = refl

module _ (v : View) (x : List ℕ) (e : Entry) (m : e.meaning ≡ meaning.Result) where
  assigned_kept : (names : Names) → found x names ≡ Some e → (rs : Results) (y : RawName) (f : Form) (q : Place) → Clean (target_fault v (found y.text names) rs y (Some f) q) →
      Kept (kind_at x rs) (kind_at x (target_next (found y.text names) rs y (Some f) q)) (if same_name (written x) (written y.text) then Some f else None)
  assigned_kept names i rs y f q h =
      subst (λ b. Kept (kind_at x rs) (kind_at x (target_next (found y.text names) rs y (Some f) q)) (if b then Some f else None)) (sym (same_written x y.text)) (by (bytes_eq x y.text) refl)
    where
      own : x ≡ y.text → (d : Entry) → d ≡ e → d.meaning ≡ meaning.Result → found y.text names ≡ Some d → Kept (kind_at x rs) (kind_at x (target_next (found y.text names) rs y (Some f) q)) (Some f)
      own j d i m k =
          let h' : Clean (given_fault (found y.text rs) (Some f) q) = rw (k, m) at h in
          let r : is_result (Some d) ≡ true = rw m refl in
          rw (j, k, r) (given_kept rs y.text f q h')

      by : (b : Bool) → bytes_eq x y.text ≡ b → Kept (kind_at x rs) (kind_at x (target_next (found y.text names) rs y (Some f) q)) (if b then Some f else None)
      by true w = let j = bytes_tell x y.text w in own j e refl m (ap (λ z. found z names) (sym j) ∙ i)
      by false w =
          let s : kind_at x (target_next (found y.text names) rs y (Some f) q) ≡ kind_at x rs = ap (option_map (λ (g : Given). g.kind)) (target_other x y rs (found y.text names) (Some f) q w) in
          subst (λ k. Kept (kind_at x rs) k None) (sym s) (kept_none (kind_at x rs))

  -- ---- the walk

  module _ (sizes : List ℕ) where
    among_kept : (names : Names) (scope : Scope) → found x names ≡ Some e → (rs : Results) (y : RawName) (o : Option Choice) → Clean (choice_faults o y.place) →
        Clean (target_fault v (found y.text names) rs y (chosen_form o) y.place) →
        Kept (kind_at x rs) (kind_at x (target_next (found y.text names) rs y (chosen_form o) y.place)) (assigned_form sizes (written x) scope (among (written y.text) (domain_or o)))
    among_kept names scope i rs y None c h = absurd c.0
    among_kept names scope i rs y (Some d) c h = assigned_kept names i rs y (form_of_domain d.domain) y.place h

    assign_kept : (names : Names) (scope : Scope) (taken : List Name) → found x names ≡ Some e → (rs : Results) (y : RawName) (t : RawTermTree) → Good v sizes scope taken [] false (form_in v names t) (term_in v names t) →
        Clean (target_fault v (found y.text names) rs y (form_in v names t) (place_of t)) →
        Kept (kind_at x rs) (kind_at x (target_next (found y.text names) rs y (form_in v names t) (place_of t))) (if same_name (written x) (written y.text) then typed.form_of sizes scope [] (term_in v names t) else None)
    assign_kept names scope taken i rs y t g h =
        let h' : Clean (target_fault v (found y.text names) rs y (Some g.form) (place_of t)) = rw g.as_judged at h in
        subst (λ o. Kept (kind_at x rs) (kind_at x (target_next (found y.text names) rs y (form_in v names t) (place_of t))) (if same_name (written x) (written y.text) then o else None)) (sym g.as_typed)
        (subst (λ o. Kept (kind_at x rs) (kind_at x (target_next (found y.text names) rs y o (place_of t))) (if same_name (written x) (written y.text) then Some g.form else None)) (sym g.as_judged)
        (assigned_kept names i rs y g.form (place_of t) h'))

    either_none : (o : Option Form) → either o None ≡ o
    either_none None = refl
    either_none (Some f) = refl

    mutual
      pub kept : (s : RawSubstTree) (names : Names) (scope : Scope) (taken : List Name) → Reflects v names sizes scope taken [] → Reserves names → found x names ≡ Some e → (rs : Results) → subst_depth s ≤ 2 ^ 32 →
          Clean (subst_fault v names rs s) → Kept (kind_at x rs) (kind_at x (results_after v names rs s)) (assigned_form sizes (written x) scope (subst_in v names s))
      kept raw.Skip names scope taken r z i rs l h = kept_none (kind_at x rs)
      kept (raw.Assign y t) names scope taken r z i rs l h = assign_kept names scope taken i rs y t (term_good v sizes scope taken t names [] r false (omega (arith, l)) h.0) h.1
      kept (raw.Among y d) names scope taken r z i rs l h = among_kept names scope i rs y (domain_in v names d) h.0.1 h.1.0
      kept (raw.If f s) names scope taken r z i rs l h =
          subst (λ o. Kept (kind_at x rs) (kind_at x (results_after v names rs s)) o) (sym (either_none (assigned_form sizes (written x) scope (subst_in v names s)))) (kept s names scope taken r z i rs (omega (arith, l)) h.1)
      kept (raw.IfElse f s t) names scope taken r z i rs l h =
          kept_then (kind_at x rs) (kind_at x (results_after v names rs s)) (kind_at x (results_after v names (results_after v names rs s) t)) (assigned_form sizes (written x) scope (subst_in v names s)) (assigned_form sizes (written x) scope (subst_in v names t))
          (kept s names scope taken r z i rs (omega (arith, l)) h.1.0) (kept t names scope taken r z i (results_after v names rs s) (omega (arith, l)) h.1.1)
      kept (raw.Choice ss) names scope taken r z i rs l h = sides_kept ss names scope taken r z i rs l h
      kept (raw.Any y f s) names scope taken r z i rs l h =
          let c = chosen v sizes scope taken names [] r y f h.0 in
          let o = typing_in v names y.text f in
          let r' = subst (λ o. Reflects v (within y o names) sizes ((written y.text, form_of_domain (domain_or o)) ∷ scope) (written y.text ∷ taken) []) (sym c.is)
          (within_reflects v names sizes scope taken r y c.by c.new c.fits.2) in
          let z' = subst (λ o. Reserves (within y o names)) (sym c.is) (within_reserves v names sizes scope taken r y c.by c.new z) in
          let i' = subst (λ o. found x (within y o names) ≡ Some e) (sym c.is) (within_stays v names sizes scope taken r y c.by c.new x e i) in
          kept s (within y o names) ((written y.text, form_of_domain (domain_or o)) ∷ scope) (written y.text ∷ taken) r' z' i' rs (omega (arith, l)) h.1.1
      kept (raw.Parallel s t) names scope taken r z i rs l h =
          kept_then (kind_at x rs) (kind_at x (results_after v names rs s)) (kind_at x (results_after v names (results_after v names rs s) t)) (assigned_form sizes (written x) scope (subst_in v names s)) (assigned_form sizes (written x) scope (subst_in v names t))
          (kept s names scope taken r z i rs (omega (arith, l)) h.0) (kept t names scope taken r z i (results_after v names rs s) (omega (arith, l)) h.1)

      sides_kept : (ss : RawSubsts) (names : Names) (scope : Scope) (taken : List Name) → Reflects v names sizes scope taken [] → Reserves names → found x names ≡ Some e → (rs : Results) → sides_depth ss ≤ 2 ^ 32 →
          Clean (sides_fault v names rs ss) → Kept (kind_at x rs) (kind_at x (results_after_sides v names rs ss)) (assigned_in_one sizes (written x) scope (substs_in v names ss))
      sides_kept raw.NoSide names scope taken r z i rs l h = kept_none (kind_at x rs)
      sides_kept (raw.Side s ss) names scope taken r z i rs l h =
          kept_then (kind_at x rs) (kind_at x (results_after v names rs s)) (kind_at x (results_after_sides v names (results_after v names rs s) ss)) (assigned_form sizes (written x) scope (subst_in v names s)) (assigned_in_one sizes (written x) scope (substs_in v names ss))
          (kept s names scope taken r z i rs (omega (arith, l)) h.0) (sides_kept ss names scope taken r z i (results_after v names rs s) (omega (arith, l)) h.1)

-- ---- at the end

ends_as : (f : Form) (k : Kind) → k ≡ kind_of_form f → is_of_kind (result_form (Some f)) (kind_or_set k) ≡ true
ends_as (Number a b) k e = rw e refl
ends_as Truth k e = rw e refl
ends_as (Element j) k e = rw e (eq-eqb j j refl)
ends_as (Numbers a b) k e = rw e refl
ends_as TruthSet k e = rw e refl
ends_as (Elements j) k e = rw e (eq-eqb j j refl)
ends_as Empty k e = rw e refl

pub ends : (g : Option Given) (o : Option Form) → option_map (λ (g : Given). g.kind) g ≡ form_kind o → is_of_kind (result_form o) (given_kind g) ≡ true
ends None None e = refl
ends None (Some f) e = let no : ⊥ = cc in absurd no
ends (Some g) None e = let no : ⊥ = cc in absurd no
ends (Some g) (Some f) e = ends_as f g.kind (same_Some _ _ e)

pub results_have_kinds : ResultsHaveKinds
results_have_kinds v names sizes scope taken r z s l h x e i m =
    let k = kept v x e m sizes s names scope taken r z i [] l (clean_of (subst_fault v names [] s) h) in
    ends (found x (results_after v names [] s)) (assigned_form sizes (written x) scope (subst_in v names s)) k.at
