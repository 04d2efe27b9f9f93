-- What premises do for their claim, and what arguments that fit are.
use Rattle.std.proofs.Common.{◌≡◌, ℕ, zero, suc, ℤ, Bool, true, false, ◌&&◌, List, [], ◌∷◌, ◌++◌, Option, Some, None, refl, ap, ap₂, subst, slice_get, IsTrue, ◌↔◌}
use Rattle.std.proofs.lemmas.Bool.{and_parts}
use Rattle.std.proofs.lemmas.Option.{same_Some}
use Rattle.cb_term.specs.declared.name.Name.{Name}
use Rattle.cb_term.specs.declared.kind.Kind.{Kind}
use Rattle.cb_term.specs.declared.kind.Kind.TheVariants as kind
use Rattle.cb_term.specs.declared.value.Value.{Value}
use Rattle.cb_term.specs.declared.value.Value.TheVariants as value
use Rattle.cb_term.specs.declared.sign.TermSign.{TermSign}
use Rattle.cb_term.specs.declared.sign.RelSign.{RelSign}
use Rattle.cb_term.specs.Tree.{TermTree, Bin, FormulaTree, Rel}
use Rattle.cb_term.specs.Values.{Look, IsOf, set_at, bin, rel}
use Rattle.cb_term.specs.Holds.{Holds, Meets, IsValue}
use Rattle.cb_term.proofs.HoldsLemmas.{IsStable, true_stable, by_value, meets_mono, meets_stable, meets_at, meets_gives}
use Rattle.cb_term.proofs.ValueLemmas.{same_kind_tells}
use Rattle.cb_seq.specs.declared.premise.Premise.{Premise}
use Rattle.cb_seq.specs.Kinds.{kind_in, kind_of, fits, Gives}
use Rattle.cb_seq.specs.Clear.{is_kind}
use Rattle.cb_seq.specs.Validity.{Claim, AllHold, Valid, AllFit, Kinded}
use Rattle.cb_seq.specs.Premises.{hypothesis, premise_of, or_goal, only_where}
use Rattle.cb_seq.proofs.KindSound.{IsSetKind, by_int, by_set, of_stable, kind_sound}
use Rattle.cb_seq.proofs.MoreNames.{gives_more, all_unused, all_naming, differ_more}

pub only_tells : (b : Bool) (qs ps : List Premise) → only_where b qs ≡ Some ps → (b ≡ true) × (qs ≡ ps)
only_tells true qs ps e = (refl, same_Some qs ps e)
only_tells false qs ps e = cc

-- ---- hypotheses

lookup : (sizes : List ℕ) (look : Look) (fs : List FormulaTree) (n : ℕ) (f : FormulaTree) → slice_get fs n ≡ Some f → AllHold sizes look fs → Holds sizes look f []
lookup sizes look [] n f e a = cc
lookup sizes look (g ∷ fs) zero f e a = subst (λ h. Holds sizes look h []) (same_Some g f e) a.0
lookup sizes look (g ∷ fs) (suc n) f e a = lookup sizes look fs n f e a.1

pub hypothesis_holds : (sizes : List ℕ) (look : Look) (fs : List FormulaTree) (h : ℕ) (f : FormulaTree) → hypothesis fs h ≡ Some f → AllHold sizes look fs → Holds sizes look f []
hypothesis_holds sizes look fs zero f e a = cc
hypothesis_holds sizes look fs (suc n) f e a = lookup sizes look fs n f e a

fit_lookup : (sizes : List ℕ) (names : List (Name × Kind)) (fs : List FormulaTree) (n : ℕ) (f : FormulaTree) → slice_get fs n ≡ Some f → AllFit sizes names fs → fits sizes names [] f ≡ true
fit_lookup sizes names [] n f e a = cc
fit_lookup sizes names (g ∷ fs) zero f e a = subst (λ h. fits sizes names [] h ≡ true) (same_Some g f e) a.0
fit_lookup sizes names (g ∷ fs) (suc n) f e a = fit_lookup sizes names fs n f e a.1

pub hypothesis_fits : (sizes : List ℕ) (names : List (Name × Kind)) (fs : List FormulaTree) (h : ℕ) (f : FormulaTree) → hypothesis fs h ≡ Some f → AllFit sizes names fs → fits sizes names [] f ≡ true
hypothesis_fits sizes names fs zero f e a = cc
hypothesis_fits sizes names fs (suc n) f e a = fit_lookup sizes names fs n f e a

pub also : (sizes : List ℕ) (look : Look) (fs gs : List FormulaTree) → AllHold sizes look fs → AllHold sizes look gs → AllHold sizes look (fs ++ gs)
also sizes look [] gs a b = b
also sizes look (f ∷ fs) gs a b = (a.0, also sizes look fs gs a.1 b)

all_fit_also : (sizes : List ℕ) (names : List (Name × Kind)) (fs gs : List FormulaTree) → AllFit sizes names fs → AllFit sizes names gs → AllFit sizes names (fs ++ gs)
all_fit_also sizes names [] gs a b = b
all_fit_also sizes names (f ∷ fs) gs a b = (a.0, all_fit_also sizes names fs gs a.1 b)

-- ---- premises: they open no name, or one that is not among the names

module _ (sizes : List ℕ) (q : Claim) (g : Option FormulaTree) (fs : List FormulaTree) where
  abbrev pub added : Premise
  added = record { goal = g; added = fs; opened = None }

  -- where what a valid premise adds holds, its goal holds
  pub adds_valid : Valid sizes (premise_of q added) → (look : Look) → Gives sizes look q.names → AllHold sizes look q.hypotheses → AllHold sizes look fs → Holds sizes look (or_goal q.goal g) []
  adds_valid v look gives hyps more = v look gives (also sizes look q.hypotheses fs hyps more)

  pub adds_kinded : Kinded sizes q → fits sizes q.names [] (or_goal q.goal g) ≡ true → AllFit sizes q.names fs → Kinded sizes (premise_of q added)
  adds_kinded k fit more = record { differ = k.differ; hypotheses = all_fit_also sizes q.names q.hypotheses fs k.hypotheses more; goal = fit }

  module _ (y : Name) (k : Kind) (none : kind_in q.names y ≡ None) (kinded : Kinded sizes q) where
    abbrev pub opening : Premise
    opening = record { goal = g; added = fs; opened = Some (y, k) }

    pub opens_valid : Valid sizes (premise_of q opening) → (look : Look) → Gives sizes look q.names → AllHold sizes look q.hypotheses → (v : Value) → IsOf sizes k v →
        AllHold sizes (set_at look y v) fs → Holds sizes (set_at look y v) (or_goal q.goal g) []
    opens_valid valid look gives hyps v of_k more = valid (set_at look y v) (gives_more sizes look q.names y v none k gives of_k)
        (also sizes (set_at look y v) q.hypotheses fs (all_unused sizes look q.names y v none q.hypotheses kinded.hypotheses hyps) more)

    pub opens_kinded : fits sizes (q.names ++ (y, k) ∷ []) [] (or_goal q.goal g) ≡ true → AllFit sizes (q.names ++ (y, k) ∷ []) fs → Kinded sizes (premise_of q opening)
    opens_kinded fit more = record {
      differ = differ_more q.names y k none kinded.differ;
      hypotheses = all_fit_also sizes (q.names ++ (y, k) ∷ []) q.hypotheses fs (all_naming sizes q.names (y, k) q.hypotheses kinded.hypotheses) more;
      goal = fit;
    }

-- ---- terms with a kind

kind_tells : (k : Kind) (o : Option Kind) → is_kind k o ≡ true → o ≡ Some k
kind_tells k None e = cc
kind_tells k (Some l) e = ap Some (same_kind_tells l k e)

-- a clear term of the kind that is written with it has this kind
pub is_kind_tells : (clear : Bool) (k : Kind) (o : Option Kind) → (clear && is_kind k o) ≡ true → o ≡ Some k
is_kind_tells clear k o e = kind_tells k o (and_parts clear (is_kind k o) e).1

module _ (sizes : List ℕ) (look : Look) (names : List (Name × Kind)) (gives : Gives sizes look names) where
  -- for a stable goal the term has a value, and that is of its kind
  pub valued : (t : TermTree) (k : Kind) → kind_of sizes names [] t ≡ Some k → (C : Type 0) → IsStable C → ((v : Value) → IsValue sizes look t [] v → IsOf sizes k v → C) → C
  valued t k e C st go = by_value sizes look t [] C st (λ v iv. go v iv
      (meets_gives sizes look t [] v (IsOf sizes k) (of_stable sizes k v) iv (kind_sound sizes look names gives t [] [] k e tt)))

  pub set_valued : (s : TermTree) (l : Kind) → kind_of sizes names [] s ≡ Some l → IsSetKind sizes l → (C : Type 0) → IsStable C →
      ((xs : List ℤ) → IsValue sizes look s [] (value.Set xs) → IsOf sizes l (value.Set xs) → C) → C
  set_valued s l e sk C st go = valued s l e C st (λ v iv of_l.
      by_set sizes l sk v of_l (λ z. IsValue sizes look s [] z → C) (λ xs ix jv. go xs jv ix) iv)

  pub int_valued : (t : TermTree) → kind_of sizes names [] t ≡ Some kind.Integer → (C : Type 0) → IsStable C → ((x : ℤ) → IsValue sizes look t [] (value.Int x) → C) → C
  int_valued t e C st go = valued t kind.Integer e C st (λ v iv of_k. by_int sizes v of_k (λ z. IsValue sizes look t [] z → C) (λ x jv. go x jv) iv)

-- a sign between terms whose values are known
module _ (sizes : List ℕ) (look : Look) (env : List Value) (a b : TermTree) (u w : Value) (hu : IsValue sizes look a env u) (hw : IsValue sizes look b env w) where
  pub bin_value : (s : TermSign) → IsValue sizes look (Bin s a b) env (bin s u w)
  bin_value s = meets_mono sizes look a env _ _ (λ u' e. meets_mono sizes look b env _ _ (λ w' e'. ap₂ (bin s) e e') hw) hu

  pub rel_holds : (s : RelSign) → IsTrue (rel s u w) ↔ Holds sizes look (Rel s a b) env
  rel_holds s =
      let P : Value → Type 0 = λ x. Meets sizes look b env (λ y. IsTrue (rel s x y)) in (
        (λ p. meets_at sizes look a env u P hu (meets_at sizes look b env w (λ y. IsTrue (rel s u y)) hw p)),
        (λ h. meets_gives sizes look b env w (λ y. IsTrue (rel s u y)) (true_stable _) hw
            (meets_gives sizes look a env u P (meets_stable sizes look b env _ (λ y. true_stable (rel s u y))) hu h)),
      )
