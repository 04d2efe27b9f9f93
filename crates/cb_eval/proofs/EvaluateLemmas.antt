-- Steps of the evaluation.
use Rattle.std.proofs.Common.{◌≡◌, ◌∙◌, ℕ, zero, suc, ◌+◌, ◌-◌, ◌<◌, ◌≤◌, Bool, true, false, List, [], ◌∷◌, length, drop, get_or, Option, Some, None, refl, sym, ap, arith, if◌then◌else◌}
use Rattle.std.specs.Prelude.{slice_get}
use Rattle.cb_term.specs.declared.kind.Domain.{Domain}
use Rattle.cb_term.specs.declared.kind.Kind.{Kind}
use Rattle.cb_term.specs.declared.name.Name.{Name}
use Rattle.cb_term.specs.declared.value.Value.{Value}
use Rattle.cb_term.specs.declared.sign.TermSign.TheVariants as sign
use Rattle.cb_term.specs.Sets.{insert}
use Rattle.cb_term.specs.Tree.{TermTree, Bin, FormulaTree, Exist, trees_of}
use Rattle.cb_term.specs.Values.{Look, item}
use Rattle.cb_term.specs.Values.{same_truth}
use Rattle.cb_eval.specs.ClosedTruth.{kept_set, with_one, with_two}
use Rattle.cb_eval.proofs.TellLemmas.{some_is}
use Rattle.cb_eval.specs.Evaluation.{range_ends, until, walk, where_named, value_in, items_in, truth_in}
use Rattle.cb_eval.specs.Walks.{count_of, value_number, walked_domain}

pub bound_here : (env : List Value) (j : ℕ) (v : Value) → j < length env → v ≡ get_or env j v → Some v ≡ slice_get env j
bound_here [] j v l e = absurd (omega (arith, l))
bound_here (w ∷ env) zero v l e = ap Some e
bound_here (w ∷ env) (suc j) v l e = bound_here env j v (omega (arith, l)) e

pub bound_past : (env : List Value) (j : ℕ) → length env ≤ j → None ≡ slice_get env j
bound_past [] j l = refl
bound_past (w ∷ env) zero l = absurd (omega (arith, l))
bound_past (w ∷ env) (suc j) l = bound_past env j (omega (arith, l))

none_right : {A B C : Type 0} (o : Option A) (g : A → B → Option C) → with_two o None g ≡ None
none_right None g = refl
none_right (Some a) g = refl

module _ (sizes : List ℕ) (named : Bool) (look : Look) (env : List Value) where
  -- where a part of the terms has no set, the whole has none
  pub items_none : (k : ℕ) (ts : List TermTree) → items_in sizes named look env (trees_of (drop k ts)) ≡ None → None ≡ items_in sizes named look env (trees_of ts)
  items_none zero ts e = sym e
  items_none (suc k) [] e = sym e
  items_none (suc k) (t ∷ ts) e = sym (ap (λ o. with_two (value_in sizes named look false env t) o (λ u xs. kept_set (insert (item u) xs))) (sym (items_none k ts e)) ∙ none_right _ _)

  -- what isn't a range that may be of any size has the same value on either side
  pub right_same : (r : Bool) (t : TermTree) → range_ends r t ≡ None → value_in sizes named look r env t ≡ value_in sizes named look false env t
  right_same false t e = refl
  right_same true (Bin sign.Range a b) e = cc
  right_same true (Bin sign.Add a b) e = refl
  right_same true (Bin sign.Minus a b) e = refl
  right_same true (Bin sign.Mul a b) e = refl
  right_same true (Bin sign.Div a b) e = refl
  right_same true (Bin sign.Mod a b) e = refl
  right_same true (Bin sign.Union a b) e = refl
  right_same true (Bin sign.Inter a b) e = refl
  right_same true t e = refl

pub ends_tell : (r : Bool) (t a b : TermTree) → range_ends r t ≡ Some (a, b) → (r ≡ true) × (t ≡ Bin sign.Range a b)
ends_tell true (Bin sign.Range x y) a b e =
    let p : (x, y) ≡ (a, b) = some_is _ _ e in
    (refl, λ i. Bin sign.Range (p i).0 (p i).1)
ends_tell r t a b e = cc

-- ---- the steps of a walk up to the number `end`

module _ (go_on : Bool) (end : ℕ) (g : ℕ → Option Bool) (i : ℕ) where
  step : i < end → until go_on i (end - i) g ≡ with_one (g i) (λ b. if same_truth b go_on then until go_on (i + 1) (end - (i + 1)) g else Some b)
  step l = let n : end - i ≡ suc (end - (i + 1)) = omega (arith, l) in ap (λ m. until go_on i m g) n

  pub walk_goes_on : i < end → g i ≡ Some go_on → until go_on i (end - i) g ≡ until go_on (i + 1) (end - (i + 1)) g
  walk_goes_on l e = step l ∙ ap (λ o. with_one o (λ b. if same_truth b go_on then until go_on (i + 1) (end - (i + 1)) g else Some b)) e ∙ same go_on
    where
      same : (b : Bool) → (if same_truth b b then until go_on (i + 1) (end - (i + 1)) g else Some b) ≡ until go_on (i + 1) (end - (i + 1)) g
      same true = refl
      same false = refl

  pub walk_stops : (b : Bool) → same_truth b go_on ≡ false → i < end → g i ≡ Some b → until go_on i (end - i) g ≡ Some b
  walk_stops b other l e =
      step l ∙ ap (λ o. with_one o (λ b. if same_truth b go_on then until go_on (i + 1) (end - (i + 1)) g else Some b)) e
      ∙ ap (λ c. if c then until go_on (i + 1) (end - (i + 1)) g else Some b) other

  pub walk_lacks : i < end → g i ≡ None → until go_on i (end - i) g ≡ None
  walk_lacks l e = step l ∙ ap (λ o. with_one o (λ b. if same_truth b go_on then until go_on (i + 1) (end - (i + 1)) g else Some b)) e

  pub walk_ends : end ≤ i → until go_on i (end - i) g ≡ Some go_on
  walk_ends l = let n : end - i ≡ 0 = omega (arith, l) in ap (λ m. until go_on i m g) n

pub exist_is : (sizes : List ℕ) (named : Bool) (look : Look) (env : List Value) (x : Name) (kind : Kind) (f : FormulaTree) (d : Domain) →
    named ≡ true → walked_domain sizes kind f ≡ Some d →
    truth_in sizes named look env (Exist x kind f) ≡ until false 0 (count_of sizes d) (λ i. truth_in sizes named look (value_number sizes d i ∷ env) f)
exist_is sizes named look env x kind f d n e = λ i. where_named (n i) (walk sizes false (e i) (λ v. truth_in sizes named look (v ∷ env) f))
