-- Valid pieces make a formula hold, and a formula that holds has valid pieces.
use Rattle.std.proofs.Common.{◌≡◌, ℕ, zero, suc, ◌+◌, ◌<◌, ◌≤◌, ◌==◌, Bool, true, false, List, [], ◌∷◌, ◌++◌, ◌⊎◌, inl, inr, ◌↔◌, refl, sym, ap, ◌∙◌, subst, arith, if◌then◌else◌, slice_index_or, Some, None}
use Rattle.std.proofs.lemmas.Bool.{eqb-true, eqb-false, cases_lt}
use Rattle.cb_term.specs.declared.name.Name.{Name}
use Rattle.cb_term.specs.declared.kind.Kind.{Kind}
use Rattle.cb_term.specs.declared.value.Value.{Value}
use Rattle.cb_term.specs.Names.{same_name}
use Rattle.cb_term.specs.Tree.{Var, FormulaTree, True, And, Implies, Every}
use Rattle.cb_term.specs.Values.{Look, nothing, set_at, IsOf}
use Rattle.cb_term.specs.Holds.{Holds, IsValue}
use Rattle.cb_term.specs.Change.{name_stays}
use Rattle.cb_term.proofs.Equivalences.{stays}
use Rattle.cb_term.proofs.ChangeLemmas.{mapped_holds}
use Rattle.cb_term.proofs.ValueLemmas.{same_name_tells, same_name_self}
use Rattle.cb_seq.specs.Kinds.{kind_in, Gives}
use Rattle.cb_seq.specs.Validity.{Claim, AllHold, AllValid}
use Rattle.cb_obligations.specs.Written.{EachName}
use Rattle.cb_obligations.specs.Branches.{numbered}
use Rattle.cb_obligations.specs.Pieces.{conjuncts, freed, with_opened, pieces_under}
use Rattle.cb_obligations.specs.Laws.{UpTo, NamesUpTo, EachUpTo, PiecesSuffice, PiecesAreNeeded}
use Rattle.cb_obligations.proofs.NameLemmas.{agree_holds, each_name_weaken}
use Rattle.cb_obligations.proofs.Stores.{AgreeUpTo, other_number, set_here, set_agrees, Shift, shift_none, shift_more, shift_tail, shift_head}

abbrev pub looked_up : Look → List Name → List Value
looked_up l [] = []
looked_up l (y ∷ ys) = l y ∷ looked_up l ys

-- ---- opened names in the places of bound variables

-- `env` are the k innermost of `env'`, and then come `vs`
record Split (vs : List Value) (k : ℕ) (env env' : List Value) : Type 0 where
  low : (j : ℕ) → j < k → slice_index_or env j nothing ≡ slice_index_or env' j nothing
  high : (j : ℕ) → k ≤ j → slice_index_or env j nothing ≡ nothing
  rest : Shift k env' vs

split_low : (k : ℕ) (env env' : List Value) (v : Value) → ((j : ℕ) → j < k → slice_index_or env j nothing ≡ slice_index_or env' j nothing) →
    (j : ℕ) → j < k + 1 → slice_index_or (v ∷ env) j nothing ≡ slice_index_or (v ∷ env') j nothing
split_low k env env' v h zero lt = refl
split_low k env env' v h (suc j) lt = h j (omega (arith, lt))

split_high : (k : ℕ) (env : List Value) (v : Value) → ((j : ℕ) → k ≤ j → slice_index_or env j nothing ≡ nothing) →
    (j : ℕ) → k + 1 ≤ j → slice_index_or (v ∷ env) j nothing ≡ nothing
split_high k env v h zero le = absurd (omega (arith, le))
split_high k env v h (suc j) le = h j (omega (arith, le))

split_more : (vs : List Value) (k : ℕ) (env env' : List Value) (v : Value) → Split vs k env env' → Split vs (k + 1) (v ∷ env) (v ∷ env')
split_more vs k env env' v s = record {
  low = split_low k env env' v s.low;
  high = split_high k env v s.high;
  rest = shift_more k env' vs v s.rest;
}

distance : (i j : ℕ) → i ≤ j → (m : ℕ) × (j ≡ i + m)
distance zero j le = (j, omega arith)
distance (suc i) zero le = absurd (omega (arith, le))
distance (suc i) (suc j) le =
    let d = distance i j (omega (arith, le)) in
    (d.0, omega (arith, d.1))

shift_past : (i : ℕ) (env : List Value) → Shift i env [] → (j : ℕ) → i ≤ j → slice_index_or env j nothing ≡ nothing
shift_past i env h j le =
    let d = distance i j le in
    ap (λ m. slice_index_or env m nothing) d.1 ∙ h d.0

module _ (sizes : List ℕ) where
  freed_value : (l : Look) (vs : List Value) (k j : ℕ) (env env' : List Value) → Split vs k env env' →
      (ys : List Name) (i : ℕ) → k ≤ i → Shift i env' (looked_up l ys) → (j < k) ⊎ (i ≤ j) → IsValue sizes l (freed ys i j) env (slice_index_or env' j nothing)
  freed_value l vs k j env env' s [] i ki h (inl lt) = s.low j lt
  freed_value l vs k j env env' s [] i ki h (inr le) = s.high j (omega (arith, ki, le)) ∙ sym (shift_past i env' h j le)
  freed_value l vs k j env env' s (y ∷ ys) i ki h at =
      by_test (j == i) (eqb-true j i) (eqb-false j i) (λ t. freed_value l vs k j env env' s ys (i + 1) (omega (arith, ki)) (shift_tail i env' (looked_up l ys) (l y) h) t)
    where
      further : (j ≡ i → ⊥) → (j < k) ⊎ (i ≤ j) → (j < k) ⊎ (i + 1 ≤ j)
      further ne (inl lt) = inl lt
      further ne (inr le) = inr (omega (arith, ne, le))

      by_test : (b : Bool) → (b ≡ true → j ≡ i) → (b ≡ false → j ≡ i → ⊥) →
          ((j < k) ⊎ (i + 1 ≤ j) → IsValue sizes l (freed ys (i + 1) j) env (slice_index_or env' j nothing)) →
          IsValue sizes l (if b then Var y else freed ys (i + 1) j) env (slice_index_or env' j nothing)
      by_test true same other go = sym (ap (λ m. slice_index_or env' m nothing) (same refl) ∙ shift_head i env' (looked_up l ys) (l y) h)
      by_test false same other go = go (further (other refl) at)

  low_or_high : (k j : ℕ) → (j < k) ⊎ (k ≤ j)
  low_or_high k j = cases_lt j k

  -- the formula with opened names holds where the formula holds with their values
  pub with_opened_holds : (l : Look) (ys : List Name) (f : FormulaTree) → Holds sizes l (with_opened ys f) [] ↔ Holds sizes l f (looked_up l ys)
  with_opened_holds l ys f = mapped_holds sizes l l name_stays (freed ys) (Split (looked_up l ys)) (split_more (looked_up l ys))
      (λ k y env env' r. refl)
      (λ k j env env' r. freed_value l (looked_up l ys) k j env env' r ys k (omega arith) r.rest (low_or_high k j))
      ⊥ f 0 [] (looked_up l ys) (record { low = λ j lt. absurd (omega (arith, lt)); high = λ j le. refl; rest = shift_none (looked_up l ys) })

  -- ---- hypotheses

  hold_append : (fs gs : List FormulaTree) (l : Look) → AllHold sizes l (fs ++ gs) ↔ (AllHold sizes l fs × AllHold sizes l gs)
  hold_append [] gs l = ((λ h. (tt, h)), (λ h. h.1))
  hold_append (f ∷ fs) gs l =
      let i = hold_append fs gs l in
      ((λ h. ((h.0, (i.0 h.1).0), (i.0 h.1).1)), (λ h. (h.0.0, i.1 (h.0.1, h.1))))

  -- what is bound later is nothing to them
  abbrev AllLocal : ℕ → List FormulaTree → Type 0
  AllLocal n [] = Unit {0}
  AllLocal n (f ∷ fs) = ((l l' : Look) → AgreeUpTo n l l' → Holds sizes l f [] → Holds sizes l' f []) × AllLocal n fs

  local_more : (n m : ℕ) (fs : List FormulaTree) → n ≤ m → AllLocal n fs → AllLocal m fs
  local_more n m [] le h = tt
  local_more n m (f ∷ fs) le h = ((λ l l' a. h.0 l l' (λ y k. a y (omega (arith, k, le)))), local_more n m fs le h.1)

  local_append : (n : ℕ) (fs gs : List FormulaTree) → AllLocal n fs → AllLocal n gs → AllLocal n (fs ++ gs)
  local_append n [] gs a b = b
  local_append n (f ∷ fs) gs a b = (a.0, local_append n fs gs a.1 b)

  hold_later : (n : ℕ) (fs : List FormulaTree) (l l' : Look) → AllLocal n fs → AgreeUpTo n l l' → AllHold sizes l fs → AllHold sizes l' fs
  hold_later n [] l l' lo a h = tt
  hold_later n (f ∷ fs) l l' lo a h = (lo.0 l l' a h.0, hold_later n fs l l' lo.1 a h.1)

  abbrev AllUpTo : ℕ → List Name → Type 0
  AllUpTo n [] = Unit {0}
  AllUpTo n (y ∷ ys) = (y.number ≤ n) × AllUpTo n ys

  up_more : (n : ℕ) (ys : List Name) → AllUpTo n ys → AllUpTo (n + 1) ys
  up_more n [] h = tt
  up_more n (y ∷ ys) h = (omega (arith, h.0), up_more n ys h.1)

  looked_up_later : (n : ℕ) (ys : List Name) (l l' : Look) → AllUpTo n ys → AgreeUpTo n l l' → looked_up l' ys ≡ looked_up l ys
  looked_up_later n [] l l' u a = refl
  looked_up_later n (y ∷ ys) l l' u a = cc (a y u.0, looked_up_later n ys l l' u.1 a)

  opened_local : (n : ℕ) (ys : List Name) (f : FormulaTree) → AllUpTo n ys → EachName (UpTo n) f →
      (l l' : Look) → AgreeUpTo n l l' → Holds sizes l (with_opened ys f) [] → Holds sizes l' (with_opened ys f) []
  opened_local n ys f u e l l' a h =
      (with_opened_holds l' ys f).1 (subst (λ env. Holds sizes l' f env) (sym (looked_up_later n ys l l' u a))
      ((agree_holds sizes l l' (UpTo n) (λ y le. sym (a y le)) ⊥ f (looked_up l ys) e).0 ((with_opened_holds l ys f).0 h)))

  conjuncts_local : (n : ℕ) (ys : List Name) (f : FormulaTree) → AllUpTo n ys → EachName (UpTo n) f → AllLocal n (conjuncts (with_opened ys f))
  conjuncts_local n ys (And a b) u e = local_append n (conjuncts (with_opened ys a)) (conjuncts (with_opened ys b)) (conjuncts_local n ys a u e.0) (conjuncts_local n ys b u e.1)
  conjuncts_local n ys True u e = tt
  conjuncts_local n ys f u e = (opened_local n ys f u e, tt)

  pub conjuncts_hold : (f : FormulaTree) (l : Look) → AllHold sizes l (conjuncts f) ↔ Holds sizes l f []
  conjuncts_hold (And a b) l =
      let i = hold_append (conjuncts a) (conjuncts b) l in
      ((λ h. ((conjuncts_hold a l).0 (i.0 h).0, (conjuncts_hold b l).0 (i.0 h).1)), (λ h. i.1 ((conjuncts_hold a l).1 h.0, (conjuncts_hold b l).1 h.1)))
  conjuncts_hold True l = stays
  conjuncts_hold f l = ((λ h. h.0), (λ h. (h, tt)))

  -- ---- names with kinds

  pub names_more : (n : ℕ) (ps : List (Name × Kind)) (p : Name × Kind) → NamesUpTo n ps → p.0.number ≤ n + 1 → NamesUpTo (n + 1) (ps ++ p ∷ [])
  names_more n [] p h le = (le, tt)
  names_more n (q ∷ ps) p h le = (omega (arith, h.0), names_more n ps p h.1 le)

  -- a name that has a kind is listed, so its number is not above n
  pub up_to : (n : ℕ) (ps : List (Name × Kind)) (x : Name) (k : Kind) → NamesUpTo n ps → kind_in ps x ≡ Some k → x.number ≤ n
  up_to n [] x k u e = cc
  up_to n (p ∷ ps) x k u e = by (same_name x p.0) refl e (up_to n ps x k u.1)
    where
      by : (b : Bool) → same_name x p.0 ≡ b → (if b then Some p.1 else kind_in ps x) ≡ Some k → (kind_in ps x ≡ Some k → x.number ≤ n) → x.number ≤ n
      by true s e r = let same : x ≡ p.0 = same_name_tells x p.0 s in subst (λ y. y.number ≤ n) (sym same) u.0
      by false s e r = r e

  -- with one name more
  kind_before : (ps : List (Name × Kind)) (p : Name × Kind) (x : Name) (k : Kind) → kind_in ps x ≡ Some k → kind_in (ps ++ p ∷ []) x ≡ Some k
  kind_before [] p x k e = cc
  kind_before (q ∷ ps) p x k e = by (same_name x q.0) e (kind_before ps p x k)
    where
      by : (b : Bool) → (if b then Some q.1 else kind_in ps x) ≡ Some k → (kind_in ps x ≡ Some k → kind_in (ps ++ p ∷ []) x ≡ Some k) →
          (if b then Some q.1 else kind_in (ps ++ p ∷ []) x) ≡ Some k
      by true e r = e
      by false e r = r e

  kind_last : (n : ℕ) (ps : List (Name × Kind)) (p : Name × Kind) → NamesUpTo n ps → n < p.0.number → kind_in (ps ++ p ∷ []) p.0 ≡ Some p.1
  kind_last n [] p u lt = ap (λ b. if b then Some p.1 else None) (same_name_self p.0)
  kind_last n (q ∷ ps) p u lt =
      ap (λ b. if b then Some q.1 else kind_in (ps ++ p ∷ []) p.0) (other_number p.0 q.0 (λ e. absurd (omega (arith, e, lt, u.0)))) ∙ kind_last n ps p u.1 lt

  kind_in_one : (ps : List (Name × Kind)) (p : Name × Kind) (x : Name) (k : Kind) → kind_in (ps ++ p ∷ []) x ≡ Some k →
      (kind_in ps x ≡ Some k) ⊎ ((x ≡ p.0) × (p.1 ≡ k))
  kind_in_one [] p x k e = by (same_name x p.0) refl e
    where
      by : (b : Bool) → same_name x p.0 ≡ b → (if b then Some p.1 else None) ≡ Some k → (None ≡ Some k) ⊎ ((x ≡ p.0) × (p.1 ≡ k))
      by true s e = inr (same_name_tells x p.0 s, cc (e))
      by false s e = inl e
  kind_in_one (q ∷ ps) p x k e = by (same_name x q.0) e (kind_in_one ps p x k)
    where
      by : (b : Bool) → (if b then Some q.1 else kind_in (ps ++ p ∷ []) x) ≡ Some k →
          (kind_in (ps ++ p ∷ []) x ≡ Some k → (kind_in ps x ≡ Some k) ⊎ ((x ≡ p.0) × (p.1 ≡ k))) →
          ((if b then Some q.1 else kind_in ps x) ≡ Some k) ⊎ ((x ≡ p.0) × (p.1 ≡ k))
      by true e r = inl e
      by false e r = r e

  gives_more : (n : ℕ) (ps : List (Name × Kind)) (p : Name × Kind) (l l' : Look) → NamesUpTo n ps → AgreeUpTo n l l' → Gives sizes l ps → IsOf sizes p.1 (l' p.0) →
      Gives sizes l' (ps ++ p ∷ [])
  gives_more n ps p l l' u a g o x k e = elim (kind_in_one ps p x k e) [
    | inl e' ↦ subst (IsOf sizes k) (sym (a x (up_to n ps x k u e'))) (g x k e')
    | inr s ↦ subst (λ y. IsOf sizes k (l' y)) (sym s.0) (subst (λ j. IsOf sizes j (l' p.0)) s.1 o)
  ]

  gives_fewer : (ps : List (Name × Kind)) (p : Name × Kind) (l : Look) → Gives sizes l (ps ++ p ∷ []) → Gives sizes l ps
  gives_fewer ps p l g x k e = g x k (kind_before ps p x k e)

  -- ---- pieces

  pub valid_append : (ps qs : List Claim) → AllValid sizes (ps ++ qs) ↔ (AllValid sizes ps × AllValid sizes qs)
  valid_append [] qs = ((λ h. (tt, h)), (λ h. h.1))
  valid_append (p ∷ ps) qs =
      let i = valid_append ps qs in
      ((λ h. ((h.0, (i.0 h.1).0), (i.0 h.1).1)), (λ h. (h.0.0, i.1 (h.0.1, h.1))))

  pub pieces_hold : (f : FormulaTree) (ys : List Name) (n : ℕ) (names : List (Name × Kind)) (hyps : List FormulaTree) →
      AllUpTo n ys → EachName (UpTo n) f → NamesUpTo n names → AllLocal n hyps → AllValid sizes (pieces_under ys n names hyps f) →
      (l : Look) → Gives sizes l names → AllHold sizes l hyps → Holds sizes l f (looked_up l ys)
  pieces_hold (And a b) ys n names hyps u e nu lo v l k h =
      let w = (valid_append (pieces_under ys n names hyps a) (pieces_under ys n names hyps b)).0 v in
      (pieces_hold a ys n names hyps u e.0 nu lo w.0 l k h, pieces_hold b ys n names hyps u e.1 nu lo w.1 l k h)
  pieces_hold (Implies a b) ys n names hyps u e nu lo v l k h = λ ha.
      let cs = conjuncts (with_opened ys a) in
      pieces_hold b ys n names (hyps ++ cs) u e.1 nu (local_append n hyps cs lo (conjuncts_local n ys a u e.0)) v l k
      ((hold_append hyps cs l).1 (h, (conjuncts_hold (with_opened ys a) l).1 ((with_opened_holds l ys a).1 ha)))
  pieces_hold (Every x kind f) ys n names hyps u e nu lo v l k h = λ w o.
      let y = numbered x (n + 1) in
      let l' = set_at l y w in
      let a : AgreeUpTo n l l' = set_agrees n l y w (omega arith) in
      let o' : IsOf sizes kind (l' y) = subst (IsOf sizes kind) (sym (set_here l y w)) o in
      let q = pieces_hold f (y ∷ ys) (n + 1) (names ++ (y, kind) ∷ []) hyps (omega arith, up_more n ys u) (each_name_weaken (UpTo n) (UpTo (n + 1)) (λ x le. omega (arith, le)) f e)
      (names_more n names (y, kind) nu (omega arith)) (local_more n (n + 1) hyps (omega arith) lo) v l'
      (gives_more n names (y, kind) l l' nu a k o') (hold_later n hyps l l' lo a h) in
      let env : looked_up l' (y ∷ ys) ≡ w ∷ looked_up l ys = cc (set_here l y w, looked_up_later n ys l l' u a) in
      (agree_holds sizes l' l (UpTo n) a ⊥ f (w ∷ looked_up l ys) e).0 (subst (λ z. Holds sizes l' f z) env q)
  pieces_hold True ys n names hyps u e nu lo v l k h = tt
  pieces_hold f ys n names hyps u e nu lo v l k h = (with_opened_holds l ys f).0 (v.0 l k h)

  pub pieces_valid : (f : FormulaTree) (ys : List Name) (n : ℕ) (names : List (Name × Kind)) (hyps : List FormulaTree) → NamesUpTo n names →
      ((l : Look) → Gives sizes l names → AllHold sizes l hyps → Holds sizes l f (looked_up l ys)) → AllValid sizes (pieces_under ys n names hyps f)
  pieces_valid (And a b) ys n names hyps u g =
      (valid_append (pieces_under ys n names hyps a) (pieces_under ys n names hyps b)).1
      (pieces_valid a ys n names hyps u (λ l k h. (g l k h).0), pieces_valid b ys n names hyps u (λ l k h. (g l k h).1))
  pieces_valid (Implies a b) ys n names hyps u g =
      let cs = conjuncts (with_opened ys a) in
      pieces_valid b ys n names (hyps ++ cs) u (λ l k h.
      let hs = (hold_append hyps cs l).0 h in
      g l k hs.0 ((with_opened_holds l ys a).0 ((conjuncts_hold (with_opened ys a) l).0 hs.1)))
  pieces_valid (Every x kind f) ys n names hyps u g =
      let y = numbered x (n + 1) in
      pieces_valid f (y ∷ ys) (n + 1) (names ++ (y, kind) ∷ []) hyps (names_more n names (y, kind) u (omega arith)) (λ l k h.
      g l (gives_fewer names (y, kind) l k) h (l y) (k y kind (kind_last n names (y, kind) u (omega arith))))
  pieces_valid True ys n names hyps u g = tt
  pieces_valid f ys n names hyps u g = ((λ l k h. (with_opened_holds l ys f).1 (g l k h)), tt)

  locals : (n : ℕ) (hyps : List FormulaTree) → EachUpTo n hyps → AllLocal n hyps
  locals n [] e = tt
  locals n (f ∷ fs) e = ((λ l l' a. (agree_holds sizes l l' (UpTo n) (λ y le. sym (a y le)) ⊥ f [] e.0).0), locals n fs e.1)

pub pieces_suffice : PiecesSuffice
pieces_suffice sizes names hyps n f nu hu e v look k h = pieces_hold sizes f [] n names hyps tt e nu (locals sizes n hyps hu) v look k h

pub pieces_needed : PiecesAreNeeded
pieces_needed sizes names hyps n f u g = pieces_valid sizes f [] n names hyps u g
