-- Values of terms, and names that are bound to values.
use Rattle.std.proofs.Common.{◌≡◌, ℕ, zero, suc, ◌+◌, ◌-◌, ◌<◌, ◌≤◌, List, [], ◌∷◌, ◌++◌, length, get_or, take, drop, refl, sym, ap, subst, ◌∙◌, arith}
use Rattle.cb_term.specs.declared.name.Name.{Name}
use Rattle.cb_term.specs.declared.value.Value.{Value}
use Rattle.cb_term.specs.Tree.{TermTree}
use Rattle.cb_term.specs.Values.{Look, set_at}
use Rattle.cb_term.specs.Holds.{IsValue}
use Rattle.cb_spec.specs.declared.system.Declared.{Declared}
use Rattle.cb_spec.specs.Stores.{Writes, over, look_of, Puts}
use Rattle.cb_spec.specs.Bound.{bind, AreIn, AreOfKinds}
use Rattle.cb_spec.specs.Settling.{AreValues}
use Rattle.cb_spec.specs.TypedTerms.{Scope}
use Rattle.cb_spec.specs.TypedProcesses.{TypedArgs, kinds_of}
use Rattle.cb_spec.specs.Sound.{Agrees}
use Rattle.cb_eval.specs.TypedIn.{AreSmallSets, TypedTermIn}
use Rattle.cb_settling.specs.Resolving.{AreTypedIn}

-- ---- terms

pub args_typed : (sizes : List ℕ) (scope : Scope) (taken : List Name) (env : Look) (ds : List Declared) (ts : List TermTree) → Agrees sizes scope env → AreSmallSets sizes →
    TypedArgs sizes scope taken (kinds_of ds) ts → AreTypedIn sizes env ts
args_typed sizes scope taken env [] [] agrees small h = tt
args_typed sizes scope taken env [] (t ∷ ts) agrees small h = absurd h
args_typed sizes scope taken env (d ∷ ds) [] agrees small h = absurd h
args_typed sizes scope taken env (d ∷ ds) (t ∷ ts) agrees small h = (
  record { scope = scope; taken = taken; agrees = agrees; small_sets = small; typed = h.0.0 },
  args_typed sizes scope taken env ds ts agrees small h.1,
)

pub in_as_many : (sizes : List ℕ) (ds : List Declared) (vs : List Value) → AreIn sizes ds vs → length ds ≡ length vs
in_as_many sizes [] [] h = refl
in_as_many sizes [] (v ∷ vs) h = absurd h
in_as_many sizes (d ∷ ds) [] h = absurd h
in_as_many sizes (d ∷ ds) (v ∷ vs) h = ap suc (in_as_many sizes ds vs h.1)

pub kinds_as_many : (sizes : List ℕ) (ds : List Declared) (vs : List Value) → AreOfKinds sizes ds vs → length ds ≡ length vs
kinds_as_many sizes [] [] h = refl
kinds_as_many sizes [] (v ∷ vs) h = absurd h
kinds_as_many sizes (d ∷ ds) [] h = absurd h
kinds_as_many sizes (d ∷ ds) (v ∷ vs) h = ap suc (kinds_as_many sizes ds vs h.1)

pub values_more : (sizes : List ℕ) (look : Look) (ts : List TermTree) (vs : List Value) (t : TermTree) (v : Value) → AreValues sizes look ts vs → IsValue sizes look t [] v →
    AreValues sizes look (ts ++ t ∷ []) (vs ++ v ∷ [])
values_more sizes look [] [] t v h is = (is, tt)
values_more sizes look [] (w ∷ vs) t v h is = absurd h
values_more sizes look (s ∷ ts) [] t v h is = absurd h
values_more sizes look (s ∷ ts) (w ∷ vs) t v h is = (h.0, values_more sizes look ts vs t v h.1 is)

pub typed_at : (sizes : List ℕ) (look : Look) (ts : List TermTree) (k : ℕ) (d : TermTree) → AreTypedIn sizes look ts → k < length ts → TypedTermIn sizes look (get_or ts k d)
typed_at sizes look [] k d h l = absurd (omega (arith, l))
typed_at sizes look (t ∷ ts) zero d h l = h.0
typed_at sizes look (t ∷ ts) (suc k) d h l = typed_at sizes look ts k d h.1 (omega (arith, l))

one_more : {A : Type 0} (xs : List A) (k : ℕ) (d : A) → k < length xs → take (suc k) xs ≡ take k xs ++ get_or xs k d ∷ []
one_more [] k d l = absurd (omega (arith, l))
one_more (x ∷ xs) zero d l = refl
one_more (x ∷ xs) (suc k) d l = ap (λ ys. x ∷ ys) (one_more xs k d (omega (arith, l)))

pub take_more : {A : Type 0} (xs : List A) (k : ℕ) (d : A) → k < length xs → take (k + 1) xs ≡ take k xs ++ get_or xs k d ∷ []
take_more xs k d l = subst (λ n. take n xs ≡ take k xs ++ get_or xs k d ∷ []) {x = suc k} {y = k + 1} (omega arith) (one_more xs k d l)

-- ---- names

-- the element at a place, and those behind it
pub drop_front : {A : Type 0} (xs : List A) (k : ℕ) (d : A) → k < length xs → drop k xs ≡ get_or xs k d ∷ drop (suc k) xs
drop_front [] k d l = absurd (omega (arith, l))
drop_front (x ∷ xs) zero d l = refl
drop_front (x ∷ xs) (suc k) d l = drop_front xs k d (omega (arith, l))

-- the names from `left` on have their values over the look-up
abbrev pub BoundFrom : List Name → List Value → Look → Writes → ℕ → Type 0
BoundFrom xs vs look now left = (left ≤ length xs) × (look_of now ≡ over (bind (drop left xs) (drop left vs)) look)

pub bound_last : (xs : List Name) (vs : List Value) (look : Look) → length xs ≡ length vs → over (bind (drop (length xs) xs) (drop (length xs) vs)) look ≡ look
bound_last [] [] look n = refl
bound_last [] (v ∷ vs) look n = refl
bound_last (x ∷ xs) [] look n = absurd (omega (arith, n))
bound_last (x ∷ xs) (v ∷ vs) look n = bound_last xs vs look (omega (arith, n))

pub bound_one : (xs : List Name) (vs : List Value) (look : Look) (left : ℕ) (x y : Name) (v w : Value) (old new : Writes) → length xs ≡ length vs → 0 < left → x ≡ get_or xs (left - 1) y → v ≡ get_or vs (left - 1) w →
    Puts old new x v → BoundFrom xs vs look old left → BoundFrom xs vs look new (left - 1)
bound_one xs vs look left x y v w old new many some x_is v_is puts h =
    let k = left - 1 in
    let low : k < length xs = omega (arith, some, h.0) in
    let next : left ≡ suc k = omega (arith, some) in
    let before : look_of old ≡ over (bind (drop (suc k) xs) (drop (suc k) vs)) look = subst (λ n. look_of old ≡ over (bind (drop n xs) (drop n vs)) look) next h.1 in (
      omega (arith, h.0),
      puts.look_is ∙ (λ i. set_at (before i) (x_is i) (v_is i))
          ∙ (λ i. over (bind (sym (drop_front xs k y low) i) (sym (drop_front vs k w (omega (arith, low, many))) i)) look),
    )
