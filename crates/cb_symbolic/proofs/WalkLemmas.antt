-- Walks that go on, step by step.
use Rattle.std.proofs.Common.{◌≡◌, ℕ, ◌+◌, ◌<◌, ◌≤◌, List, [], ◌∷◌, ◌++◌, length, take, drop, get_or, Some, None, slice_get, unwrap_or, pos, append_assoc, refl, sym, ap, ◌∙◌, arith, zero, suc}
use Rattle.std.proofs.lemmas.List.{take-append-drop, take-append-le, length-take}
use Rattle.cb_term.specs.declared.name.Name.{Name}
use Rattle.cb_term.specs.declared.kind.Kind.{Kind}
use Rattle.cb_term.specs.Tree.{TermTree, Var, Num}
use Rattle.cb_term.proofs.Steps.{drop_step}
use Rattle.cb_spec.specs.declared.system.Declared.{Declared}
use Rattle.cb_spec.specs.Bound.{names}
use Rattle.cb_spec.specs.Domains.{kind_of_domain}
use Rattle.cb_obligations.specs.Branches.{Assigned, numbered}
use Rattle.cb_conditions.specs.Conditions.{declared_as}
use Rattle.cb_conditions.specs.Reading.{with_terms, terms_at}
use Rattle.cb_conditions.specs.Ways.{Way, opening, opening_each}
use Rattle.cb_symbolic.specs.declared.walk.Reached.{Reached}
use Rattle.cb_symbolic.specs.declared.walk.Walk.{Walk}
use Rattle.cb_symbolic.specs.Stores.{meaning_of}
use Rattle.cb_symbolic.specs.Walks.{way_of, Extends}
use Rattle.cb_symbolic.proofs.EntryLemmas.{meaning_push}

-- ---- one name more

pub opened_way : (r : Reached) (w : Walk) (x : Name) (kind : Kind) (n : ℕ) (ns : List (Name × Kind)) (store : Assigned) → n ≡ r.number + 1 →
    ns ≡ w.names ++ (numbered x n, kind) ∷ [] → store ≡ w.store ++ (x, Var (numbered x n)) ∷ [] →
    way_of (record { number = n; nodes = r.nodes }) (record { store = store; names = ns; hypotheses = w.hypotheses }) ≡ opening (way_of r w) x kind
opened_way r w x kind n ns store is_next is_names is_store =
    let at : ℕ → Way = λ i. record {
      number = i;
      names = w.names ++ (numbered x i, kind) ∷ [];
      hypotheses = w.hypotheses;
      store = with_terms ((x, Var (numbered x i)) ∷ []) (meaning_of w.store);
    } in
    let means = ap meaning_of is_store ∙ meaning_push w.store (x, Var (numbered x n)) in
    let here : way_of (record { number = n; nodes = r.nodes }) (record { store = store; names = ns; hypotheses = w.hypotheses }) ≡ at n =
    λ l. record { number = n; names = is_names l; hypotheses = w.hypotheses; store = means l } in
    here ∙ ap at is_next

pub each_step : (v w whole : Way) (d : Declared) (kind : Kind) (left rest : List Declared) → v ≡ opening w d.name kind → kind ≡ kind_of_domain d.domain →
    left ≡ d ∷ rest → opening_each w left ≡ whole → opening_each v rest ≡ whole
each_step v w whole d kind left rest is_way is_kind is_left so_far =
    ap (λ u. opening_each u rest) (is_way ∙ ap (opening w d.name) is_kind) ∙ (ap (opening_each w) (sym is_left) ∙ so_far)

-- ---- names beside values

one_more : (i : ℕ) → suc (i + 1) ≡ suc i + 1
one_more i = omega arith

some_left : {A : Type 0} (xs : List A) (i : ℕ) (x : A) → slice_get xs i ≡ Some x → drop i xs ≡ x ∷ drop (i + 1) xs
some_left [] zero x e = cc
some_left [] (suc i) x e = cc
some_left (y ∷ ys) zero x e = let same : y ≡ x = cc in λ l. same l ∷ ys
some_left (y ∷ ys) (suc i) x e = some_left ys i x e ∙ ap (λ n. x ∷ drop n (y ∷ ys)) (one_more i)

none_left : {A : Type 0} (xs : List A) (i : ℕ) → slice_get xs i ≡ None → drop i xs ≡ []
none_left [] zero e = refl
none_left [] (suc i) e = refl
none_left (y ∷ ys) zero e = cc
none_left (y ∷ ys) (suc i) e = none_left ys i e

pub declared_step : (xs : List Name) (ds : List Declared) (i : ℕ) (x : Name) (d : Declared) → i < length xs → x ≡ get_or xs i x → slice_get ds i ≡ Some d →
    declared_as (drop i xs) (drop i ds) ≡ record { name = x; domain = d.domain } ∷ declared_as (drop (i + 1) xs) (drop (i + 1) ds)
declared_step xs ds i x d within is some = λ l. declared_as (drop_step xs i x within is l) (some_left ds i d some l)

pub declared_none : (xs : List Name) (ds : List Declared) (i : ℕ) → slice_get ds i ≡ None → declared_as xs (drop i ds) ≡ []
declared_none xs ds i none = ap (declared_as xs) (none_left ds i none) ∙ empty xs
  where
    empty : (ys : List Name) → declared_as ys [] ≡ []
    empty [] = refl
    empty (y ∷ ys) = refl

-- ---- names with terms

first_term : (x : Name) (xs : List Name) (ts : List TermTree) (i : ℕ) →
    terms_at (x ∷ xs) (drop i ts) ≡ (x, unwrap_or (slice_get ts i) (Num (pos 0))) ∷ terms_at xs (drop (i + 1) ts)
first_term x xs [] zero = refl
first_term x xs [] (suc i) = ap (λ n. (x, Num (pos 0)) ∷ terms_at xs (drop n [])) (one_more i)
first_term x xs (t ∷ ts) zero = refl
first_term x xs (t ∷ ts) (suc i) =
    first_term x xs ts i ∙ ap (λ n. (x, unwrap_or (slice_get ts i) (Num (pos 0))) ∷ terms_at xs (drop n (t ∷ ts))) (one_more i)

pub terms_step : (ds : List Declared) (ts : List TermTree) (i : ℕ) (d : Declared) (t : TermTree) (made more whole : Assigned) → i < length ds → d ≡ get_or ds i d →
    t ≡ unwrap_or (slice_get ts i) (Num (pos 0)) → more ≡ made ++ (d.name, t) ∷ [] → made ++ terms_at (names (drop i ds)) (drop i ts) ≡ whole →
    more ++ terms_at (names (drop (i + 1) ds)) (drop (i + 1) ts) ≡ whole
terms_step ds ts i d t made more whole within is is_term is_more so_far =
    ap (λ l. l ++ terms_at (names (drop (i + 1) ds)) (drop (i + 1) ts)) is_more
    ∙ (append_assoc made ((d.name, t) ∷ []) (terms_at (names (drop (i + 1) ds)) (drop (i + 1) ts))
    ∙ (ap (λ l. made ++ l) (ap (λ u. (d.name, u) ∷ terms_at (names (drop (i + 1) ds)) (drop (i + 1) ts)) is_term
    ∙ (sym (first_term d.name (names (drop (i + 1) ds)) ts i) ∙ ap (λ l. terms_at (names l) (drop i ts)) (sym (drop_step ds i d within is))))
    ∙ so_far))

-- ---- what is longer at its ends

take_through : {A : Type 0} (xs ys zs : List A) → take (length ys) zs ≡ ys → take (length xs) ys ≡ xs → take (length xs) zs ≡ xs
take_through xs ys zs is_ys is_xs =
    let within : length xs ≤ length (take (length ys) zs) = omega (arith, ap length is_ys, ap length is_xs, length-take (length xs) ys) in
    ap (take (length xs)) (sym (take-append-drop (length ys) zs))
    ∙ (take-append-le (length xs) (take (length ys) zs) (drop (length ys) zs) within ∙ (ap (take (length xs)) is_ys ∙ is_xs))

pub extends_through : (last later first : Walk) → Extends last later → Extends later first → Extends last first
extends_through last later first e f =
    let store = take_through first.store later.store last.store (λ l. (e l).store) (λ l. (f l).store) in
    let ns = take_through first.names later.names last.names (λ l. (e l).names) (λ l. (f l).names) in
    let hyps = take_through first.hypotheses later.hypotheses last.hypotheses (λ l. (e l).hypotheses) (λ l. (f l).hypotheses) in
    λ l. record { store = store l; names = ns l; hypotheses = hyps l }
