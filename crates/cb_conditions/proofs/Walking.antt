-- The walk makes the pieces of the process's formula.
use Rattle.std.proofs.Common.{◌≡◌, ℕ, ◌+◌, ◌==◌, Bool, true, false, List, [], ◌∷◌, ◌++◌, ◌⊎◌, inl, inr, flat_map, Option, Some, None, slice_get, refl, sym, ap, ◌∙◌, subst, arith, if◌then◌else◌}
use Rattle.std.proofs.lemmas.Bool.{eqb-true}
use Rattle.cb_term.specs.declared.name.Name.{Name}
use Rattle.cb_term.specs.declared.kind.Kind.{Kind}
use Rattle.cb_term.specs.Tree.{TermTree, Var, Bound, FormulaTree, True, Not, And, Implies, Every}
use Rattle.cb_term.specs.Closed.{IsClosed}
use Rattle.cb_term.specs.Change.{mapped_term, mapped_formula, name_stays, bound_stays}
use Rattle.cb_seq.specs.Validity.{Claim}
use Rattle.cb_spec.specs.declared.event.Event.TheVariants as event
use Rattle.cb_spec.specs.declared.system.Controller.{Controller}
use Rattle.cb_spec.specs.declared.system.Declared.{Declared}
use Rattle.cb_spec.specs.declared.system.Machine.{Machine}
use Rattle.cb_spec.specs.declared.system.Operation.{Operation}
use Rattle.cb_spec.specs.declared.system.System.{System}
use Rattle.cb_spec.specs.ProcessTree.{ProcessTree, Stop, Skip, Call, Prefix, Choice, Internal, If}
use Rattle.cb_spec.specs.Domains.{kind_of_domain}
use Rattle.cb_spec.specs.Bound.{names}
use Rattle.cb_obligations.specs.Written.{EachNameOfTerm, IsWritten, IsPlain, AsWritten}
use Rattle.cb_term.specs.Names.{same_name}
use Rattle.cb_term.proofs.ValueLemmas.{same_name_tells}
use Rattle.cb_spec.specs.SubstTree.{SubstTree}
use Rattle.cb_obligations.proofs.Stores.{other_number}
use Rattle.cb_obligations.specs.Branches.{Item, Bind, Guard, Assigned, Branch, numbered, branches}
use Rattle.cb_obligations.specs.Transform.{branch_formula, and_branches, all_branches}
use Rattle.cb_obligations.specs.Pieces.{conjuncts, freed, with_opened, pieces_under, pieces}
use Rattle.cb_obligations.specs.Owed.{for_all}
use Rattle.cb_obligations.proofs.Runs.{EachOf, Numbered, Good, good_branches}
use Rattle.cb_conditions.specs.Reading.{Meaning, itself, with_terms, meaning_at, read_term, read, read_each, after, replaced, replaced_each, terms_at}
use Rattle.cb_conditions.specs.Conditions.{for_found, declared_as, guarantee, assumption, asked, argued_items, outcome, argued_each, wc, known, beginnings, start_formula, loop_formula, own_names, invariants_of, machines_of}
use Rattle.cb_conditions.specs.Ways.{Way, shown, standing, written, supposing, opening, opening_each, inside, leaving, after_branch, on_found, ways, at_first}
use Rattle.cb_conditions.specs.Fitting.{AreWritten, ArePlain, PlainProcess, PlainController, IsClosedMeaning}
use Rattle.cb_conditions.specs.Laws.{WaysArePieces, LoopByWays, StartByWays}
use Rattle.cb_conditions.specs.Steps.{start_way}
use Rattle.cb_conditions.proofs.Trees.{fused, same_again, same_again_term, by_names_term}
use Rattle.cb_conditions.proofs.Readings.{AreClosed, Pairs, firsts, seconds, opened_as, closed_itself, closed_with, closed_read, closed_read_each, closed_after, closed_replaced, closed_stays, closed_over_read, assigned_read, reading_after, reading_after_each, freed_low}
use Rattle.cb_conditions.proofs.Closing.{EachMachine, all_listed, invariants_closed, GuardsClosed, ClosedBranch, branches_closed, plain_closed, outcome_closed, typings_closed, assumption_closed, wc_closed}

-- ---- names may be opened before the formula is cut

freed_is : (ys : List Name) (k j : ℕ) → ((v : Name) × (freed ys k j ≡ Var v)) ⊎ (freed ys k j ≡ Bound j)
freed_is [] k j = inr refl
freed_is (y ∷ ys) k j = by (j == k) (freed_is ys (k + 1) j)
  where
    by : (b : Bool) → ((v : Name) × (freed ys (k + 1) j ≡ Var v)) ⊎ (freed ys (k + 1) j ≡ Bound j) →
        ((v : Name) × ((if b then Var y else freed ys (k + 1) j) ≡ Var v)) ⊎ ((if b then Var y else freed ys (k + 1) j) ≡ Bound j)
    by true h = inl (y, refl)
    by false h = h

-- opening `ys` is opening `ws` and then `zs`
abbrev Same : List Name → List Name → List Name → ℕ → Type 0
Same ys zs ws d = (k j : ℕ) → freed ys k j ≡ mapped_term name_stays (freed zs) k (freed ws (d + k) j)

same_first : (ys : List Name) → Same ys [] ys 0
same_first ys k j = elim (freed_is ys k j) [
  | inl v ↦ v.1 ∙ sym (ap (mapped_term name_stays (freed []) k) (zero_more ∙ v.1))
  | inr e ↦ e ∙ sym (ap (mapped_term name_stays (freed []) k) (zero_more ∙ e))
]
  where
    zero_more : freed ys (0 + k) j ≡ freed ys k j
    zero_more = ap (λ i. freed ys i j) (omega arith)

same_more : (x : Name) (ys zs ws : List Name) (d : ℕ) → Same ys zs ws d → Same (x ∷ ys) (x ∷ zs) ws (d + 1)
same_more x ys zs ws d h k j = by (j == k) refl
  where
    moved : freed ws (d + (k + 1)) j ≡ freed ws (d + 1 + k) j
    moved = ap (λ i. freed ws i j) (omega arith)

    further : freed ys (k + 1) j ≡ mapped_term name_stays (freed zs) (k + 1) (freed ws (d + 1 + k) j)
    further = h (k + 1) j ∙ ap (mapped_term name_stays (freed zs) (k + 1)) moved

    alike_at : (t : TermTree) → (j == k) ≡ false → (((v : Name) × (t ≡ Var v)) ⊎ (t ≡ Bound j)) →
        mapped_term name_stays (freed zs) (k + 1) t ≡ mapped_term name_stays (freed (x ∷ zs)) k t
    alike_at t e (inl v) = subst (λ u. mapped_term name_stays (freed zs) (k + 1) u ≡ mapped_term name_stays (freed (x ∷ zs)) k u) (sym v.1) refl
    alike_at t e (inr b) = subst (λ u. mapped_term name_stays (freed zs) (k + 1) u ≡ mapped_term name_stays (freed (x ∷ zs)) k u) (sym b)
        (sym (ap (λ b. if b then Var x else freed zs (k + 1) j) e))

    low : (j == k) ≡ true → freed ws (d + 1 + k) j ≡ Bound j
    low e = freed_low ws (d + 1 + k) j (omega (arith, eqb-true j k e))

    by : (b : Bool) → (j == k) ≡ b → freed (x ∷ ys) k j ≡ mapped_term name_stays (freed (x ∷ zs)) k (freed ws (d + 1 + k) j)
    by true e = ap (λ b. if b then Var x else freed ys (k + 1) j) e
        ∙ sym (ap (mapped_term name_stays (freed (x ∷ zs)) k) (low e) ∙ ap (λ b. if b then Var x else freed zs (k + 1) j) e)
    by false e = ap (λ b. if b then Var x else freed ys (k + 1) j) e ∙ (further ∙ alike_at (freed ws (d + 1 + k) j) e (freed_is ws (d + 1 + k) j))

abbrev Deeper : ℕ → ℕ → ℕ → ℕ → Type 0
Deeper d i j k = (k ≡ i) × (j ≡ d + i)

opened_same : (f : FormulaTree) (ys zs ws : List Name) (d : ℕ) → Same ys zs ws d → with_opened ys f ≡ with_opened zs (mapped_formula name_stays (freed ws) d f)
opened_same f ys zs ws d h = sym (fused name_stays (freed zs) name_stays (freed ws) name_stays (freed ys) (Deeper d)
    (λ i j k r. (omega (arith, r.0), omega (arith, r.1))) (λ i j k y r. refl)
    (λ i j k m r. ap (λ e. mapped_term name_stays (freed zs) i (freed ws e m)) r.1 ∙ (sym (h i m) ∙ ap (λ e. freed ys e m) (sym r.0)))
    f 0 d 0 (refl, omega arith))

pieces_same : (f : FormulaTree) (ys zs ws : List Name) (d n : ℕ) (ns : List (Name × Kind)) (hyps : List FormulaTree) → Same ys zs ws d →
    pieces_under ys n ns hyps f ≡ pieces_under zs n ns hyps (mapped_formula name_stays (freed ws) d f)
pieces_same (And a b) ys zs ws d n ns hyps h =
    let p = pieces_same a ys zs ws d n ns hyps h in
    let q = pieces_same b ys zs ws d n ns hyps h in
    λ l. p l ++ q l
pieces_same (Implies a b) ys zs ws d n ns hyps h =
    ap (λ g. pieces_under ys n ns (hyps ++ conjuncts g) b) (opened_same a ys zs ws d h)
    ∙ pieces_same b ys zs ws d n ns (hyps ++ conjuncts (with_opened zs (mapped_formula name_stays (freed ws) d a))) h
pieces_same (Every x kind f) ys zs ws d n ns hyps h =
    let y = numbered x (n + 1) in
    pieces_same f (y ∷ ys) (y ∷ zs) ws (d + 1) (n + 1) (ns ++ (y, kind) ∷ []) hyps (same_more y ys zs ws d h)
pieces_same True ys zs ws d n ns hyps h = refl
pieces_same f ys zs ws d n ns hyps h = let p = opened_same f ys zs ws d h in λ l. record { names = ns; hypotheses = hyps; goal = p l } ∷ []

pub pieces_opened : (ys : List Name) (n : ℕ) (ns : List (Name × Kind)) (hyps : List FormulaTree) (f : FormulaTree) →
    pieces_under ys n ns hyps f ≡ pieces ns hyps n (with_opened ys f)
pieces_opened ys n ns hyps f = pieces_same f ys [] ys 0 n ns hyps (same_first ys)

-- ---- names for all of whose values a formula is

-- the arguments read anew at each place, as the formula has them
abbrev supposing_at : Assigned → Way → FormulaTree → Way
supposing_at args w f = record { number = w.number; names = w.names; hypotheses = w.hypotheses ++ conjuncts (read (after w.store args) f); store = w.store }

abbrev behind : Assigned → Way → List Item → Way
behind args w [] = w
behind args w (Bind x kind ∷ is) = behind args (opening w x kind) is
behind args w (Guard g ∷ is) = behind args (supposing_at args w g) is

abbrev leaving_at : Assigned → Meaning → Assigned → Way → Way
leaving_at args s ws v = standing v (with_terms (read_each (after v.store args) ws) s)

-- written names for terms of written names
abbrev pub AllWritten : Assigned → Type 0
AllWritten [] = Unit {0}
AllWritten (w ∷ ws) = (IsWritten w.0 × EachNameOfTerm IsWritten w.1) × AllWritten ws

pub args_written : (xs : List Name) (ts : List TermTree) → AreWritten xs → ArePlain ts → AllWritten (terms_at xs ts)
args_written [] ts w p = tt
args_written (x ∷ xs) [] w p = ((w.0, tt), args_written xs [] w.1 tt)
args_written (x ∷ xs) (t ∷ ts) w p = ((w.0, p.0.0), args_written xs ts w.1 p.1)

-- that is the same as the arguments read once, since what a branch binds is no written name
module _ (s : Meaning) (x z : Name) (ne : x.number ≡ 0 → ⊥) where
  abbrev more : Meaning
  more = with_terms ((x, Var z) ∷ []) s

  read_alike : (t : TermTree) → EachNameOfTerm IsWritten t → read_term s t ≡ read_term more t
  read_alike t w = by_names_term (meaning_at s) (meaning_at more) bound_stays IsWritten
      (λ k y yw. sym (ap (λ b. if b then Var z else s y) (other_number y x (λ e. ne (sym e ∙ yw))))) t 0 w

  bound_here : (us : Assigned) → AllWritten us → (y : Name) → same_name y x ≡ true → Var z ≡ with_terms (read_each more us) more y
  bound_here [] w y e = sym (ap (λ b. if b then Var z else s y) e)
  bound_here (u ∷ us) w y e = bound_here us w.1 y e
      ∙ sym (ap (λ b. if b then read_term more u.1 else with_terms (read_each more us) more y)
      (other_number y u.0 (λ i. ne (sym (ap (λ (v : Name). v.number) (same_name_tells y x e)) ∙ (i ∙ w.0.0)))))

  bound_else : (us : Assigned) → AllWritten us → (y : Name) → same_name y x ≡ false → with_terms (read_each s us) s y ≡ with_terms (read_each more us) more y
  bound_else [] w y e = sym (ap (λ b. if b then Var z else s y) e)
  bound_else (u ∷ us) w y e = by (same_name y u.0) (bound_else us w.1 y e)
    where
      by : (b : Bool) → with_terms (read_each s us) s y ≡ with_terms (read_each more us) more y →
          (if b then read_term s u.1 else with_terms (read_each s us) s y) ≡ (if b then read_term more u.1 else with_terms (read_each more us) more y)
      by true r = read_alike u.1 w.0.1
      by false r = r

  bound_args : (us : Assigned) → AllWritten us → (y : Name) → with_terms ((x, Var z) ∷ []) (after s us) y ≡ after more us y
  bound_args us w y = by (same_name y x) refl
    where
      by : (b : Bool) → same_name y x ≡ b → (if b then Var z else after s us y) ≡ after more us y
      by true e = bound_here us w y e
      by false e = bound_else us w y e

inside_once : (args : Assigned) → AllWritten args → (is : List Item) (k : ℕ) → Numbered k is → (w : Way) →
    inside (standing w (after w.store args)) is ≡ standing (behind args w is) (after (behind args w is).store args)
inside_once args aw [] k n w = refl
inside_once args aw (Bind x kind ∷ is) k n w =
    let z = numbered x (w.number + 1) in
    let ne : x.number ≡ 0 → ⊥ = λ e. absurd (omega (arith, e, n.0)) in
    ap (λ s. inside (standing (opening w x kind) s) is) (λ i y. bound_args w.store x z ne args aw y i) ∙ inside_once args aw is (k + 1) n.1 (opening w x kind)
inside_once args aw (Guard g ∷ is) k n w = inside_once args aw is k n (supposing_at args w g)

abbrev way : ℕ → List (Name × Kind) → List FormulaTree → Meaning → Way
way n ns hyps s = record { number = n; names = ns; hypotheses = hyps; store = s }

module _ (s : Meaning) (c : IsClosedMeaning s) where
  for_all_ways : (ds : List Declared) (ps : Pairs) (d n : ℕ) (ns : List (Name × Kind)) (hyps : List FormulaTree) (f : FormulaTree) → IsClosed 0 f →
      pieces_under (seconds ps) n ns hyps (mapped_formula (meaning_at s) bound_stays d (for_all (firsts ps) ds f)) ≡ shown (opening_each (way n ns hyps (opened_as ps s)) ds) f
  for_all_ways [] ps d n ns hyps f cf =
      pieces_opened (seconds ps) n ns hyps (mapped_formula (meaning_at s) bound_stays d (for_all (firsts ps) [] f)) ∙ ap (pieces ns hyps n) (closed_over_read s c ps f cf d)
  for_all_ways (e ∷ ds) ps d n ns hyps f cf =
      let y = numbered e.name (n + 1) in
      for_all_ways ds ((e.name, y) ∷ ps) (d + 1) (n + 1) (ns ++ (y, kind_of_domain e.domain) ∷ []) hyps f cf

  -- ---- a branch, with the arguments for the parameters

  module _ (args : Assigned) (ca : AreClosed args) (r : FormulaTree) (cr : IsClosed 0 r) where
    branch_ways : (is : List Item) (ws : Assigned) → GuardsClosed is → AreClosed ws → (ps : Pairs) (d n : ℕ) (ns : List (Name × Kind)) (hyps : List FormulaTree) →
        pieces_under (seconds ps) n ns hyps (mapped_formula (meaning_at s) bound_stays d (branch_formula (firsts ps) (argued_items args is) (replaced_each args ws) r))
        ≡ shown (leaving_at args s ws (behind args (way n ns hyps (opened_as ps s)) is)) r
    branch_ways [] ws cg cw ps d n ns hyps =
        pieces_opened (seconds ps) n ns hyps (mapped_formula (meaning_at s) bound_stays d (branch_formula (firsts ps) [] (replaced_each args ws) r))
        ∙ (ap (pieces ns hyps n) (assigned_read s c ps (replaced_each args ws) (closed_read_each (with_terms args itself) (closed_with itself closed_itself args ca) ws cw) r cr d)
        ∙ ap (λ us. pieces ns hyps n (read (with_terms us s) r)) (reading_after_each (opened_as ps s) args ws))
    branch_ways (Bind x kind ∷ is) ws cg cw ps d n ns hyps =
        let y = numbered x (n + 1) in
        branch_ways is ws cg cw ((x, y) ∷ ps) (d + 1) (n + 1) (ns ++ (y, kind) ∷ []) hyps
    branch_ways (Guard g ∷ is) ws cg cw ps d n ns hyps =
        ap (λ h. pieces_under (seconds ps) n ns (hyps ++ conjuncts h) (mapped_formula (meaning_at s) bound_stays d (branch_formula (firsts ps) (argued_items args is) (replaced_each args ws) r)))
        (closed_over_read s c ps (replaced args g) (closed_replaced args ca g cg.0) d ∙ sym (reading_after (opened_as ps s) args g))
        ∙ branch_ways is ws cg.1 cw ps d n ns (hyps ++ conjuncts (read (after (opened_as ps s) args) g))

-- ---- all branches

append_none : {A : Type 0} (xs : List A) → xs ++ [] ≡ xs
append_none [] = refl
append_none (x ∷ xs) = ap (λ ys. x ∷ ys) (append_none xs)

append_both : {A : Type 0} (xs ys zs : List A) → (xs ++ ys) ++ zs ≡ xs ++ (ys ++ zs)
append_both [] ys zs = refl
append_both (x ∷ xs) ys zs = ap (λ us. x ∷ us) (append_both xs ys zs)

-- a branch of a plain substitution
abbrev pub FineBranch : Branch → Type 0
FineBranch b = ClosedBranch b × Numbered 0 b.items

pub branches_fine : (s : SubstTree) → AsWritten s → EachOf FineBranch (branches s)
branches_fine s w = zip (branches s) (branches_closed s 0 [] w) (good_branches [] s 0 [] w (λ y yw. omega (arith, yw)))
  where
    zip : (bs : List Branch) → EachOf ClosedBranch bs → EachOf (Good [] 0) bs → EachOf FineBranch bs
    zip [] p q = tt
    zip (b ∷ bs) p q = ((p.0, q.0.numbers), zip bs p.1 q.1)

module _ (w : Way) (c : IsClosedMeaning w.store) (m : Machine) (o : Operation) (ts : List TermTree) (xs : List Name) (ca : AreClosed (terms_at (names o.params) ts)) (aw : AllWritten (terms_at (names o.params) ts))
    (r : FormulaTree) (cr : IsClosed 0 r) where
  abbrev args : Assigned
  args = terms_at (names o.params) ts

  one_branch : (b : Branch) → FineBranch b →
      shown w (branch_formula [] (argued_items args b.items) (replaced_each args (outcome m o xs b.writes)) r) ≡ shown (after_branch w m o ts xs b) r
  one_branch b cb = branch_ways w.store c args ca r cr b.items (outcome m o xs b.writes) cb.0.0 (outcome_closed m o xs b.writes cb.0.1) [] 0 w.number w.names w.hypotheses
      ∙ ap (λ v. shown (leaving w.store (outcome m o xs b.writes) v) r) (sym (inside_once args aw b.items 0 cb.1 w))

  and_ways : (f : FormulaTree) (bs : List Branch) → EachOf FineBranch bs →
      shown w (and_branches f (argued_each args m o xs bs) r) ≡ shown w f ++ flat_map (λ (b : Branch). shown (after_branch w m o ts xs b) r) bs
  and_ways f [] cb = sym (append_none (shown w f))
  and_ways f (b ∷ bs) cb =
      let g = branch_formula [] (argued_items args b.items) (replaced_each args (outcome m o xs b.writes)) r in
      let rest = flat_map (λ (b : Branch). shown (after_branch w m o ts xs b) r) bs in
      and_ways (And f g) bs cb.1 ∙ (append_both (shown w f) (shown w g) rest ∙ ap (λ us. shown w f ++ (us ++ rest)) (one_branch b cb.0))

  pub all_ways : (bs : List Branch) → EachOf FineBranch bs →
      shown w (all_branches (argued_each args m o xs bs) r) ≡ flat_map (λ (b : Branch). shown (after_branch w m o ts xs b) r) bs
  all_ways [] cb = refl
  all_ways (b ∷ bs) cb =
      let g = branch_formula [] (argued_items args b.items) (replaced_each args (outcome m o xs b.writes)) r in
      and_ways g bs cb.1 ∙ ap (λ us. us ++ flat_map (λ (b : Branch). shown (after_branch w m o ts xs b) r) bs) (one_branch b cb.0)

-- ---- the walk

pub shown_supposing : (w : Way) → IsClosedMeaning w.store → (f g : FormulaTree) → IsClosed 0 f → shown w (Implies f g) ≡ shown (supposing w f) g
shown_supposing w c f g cf = ap (λ h. pieces w.names (w.hypotheses ++ conjuncts h) w.number (read w.store g)) (closed_stays [] (read w.store f) (closed_read w.store c f 0 cf))

pub closed_opening : (ds : List Declared) (w : Way) → IsClosedMeaning w.store → IsClosedMeaning (opening_each w ds).store
closed_opening [] w c = c
closed_opening (d ∷ ds) w c = closed_opening ds (opening w d.name (kind_of_domain d.domain)) (closed_with w.store c ((d.name, Var (numbered d.name (w.number + 1))) ∷ []) (tt, tt))

pub closed_inside : (is : List Item) (w : Way) → IsClosedMeaning w.store → IsClosedMeaning (inside w is).store
closed_inside [] w c = c
closed_inside (Bind x kind ∷ is) w c = closed_inside is (opening w x kind) (closed_with w.store c ((x, Var (numbered x (w.number + 1))) ∷ []) (tt, tt))
closed_inside (Guard g ∷ is) w c = closed_inside is (supposing w g) c

pub closed_leaving : (s : Meaning) → IsClosedMeaning s → (ws : Assigned) → AreClosed ws → (v : Way) → IsClosedMeaning v.store → IsClosedMeaning (leaving s ws v).store
closed_leaving s cs ws cw v cv = closed_with s cs (read_each v.store ws) (closed_read_each v.store cv ws cw)

flat_alike : {A : Type 0} (f g : Branch → List A) (bs : List Branch) → EachOf FineBranch bs → ((b : Branch) → FineBranch b → f b ≡ g b) → flat_map f bs ≡ flat_map g bs
flat_alike f g [] cb h = refl
flat_alike f g (b ∷ bs) cb h =
    let p = h b cb.0 in
    let q = flat_alike f g bs cb.1 h in
    λ l. p l ++ q l

found_alike : {A : Type 0} (w : Way) (o : Option A) (f : A → List Claim) (g : A → FormulaTree) → ((a : A) → o ≡ Some a → f a ≡ shown w (g a)) → on_found w o f ≡ shown w (for_found o g)
found_alike w None f g h = refl
found_alike w (Some a) f g h = h a refl

module _ (y : System) (c : Controller) (fine : PlainController y c) where
  pub walk : (p : ProcessTree) → PlainProcess p → (w : Way) → IsClosedMeaning w.store → ways y c p w ≡ shown w (wc y c p)
  walk Stop h w cs = refl
  walk Skip h w cs = refl
  walk (Call k ts) h w cs = found_alike w (slice_get c.definitions k) _ (λ d. replaced (terms_at (names d.params) ts) (asked d))
      (λ d e. ap (pieces w.names w.hypotheses w.number) (reading_after w.store (terms_at (names d.params) ts) (asked d)))
  walk (Prefix (event.Output k ts note) p) h w cs =
      let a = found_alike w (slice_get y.channels k) (λ ch. shown (written w (terms_at (names ch.values) ts)) (guarantee ch note)) (λ ch. replaced (terms_at (names ch.values) ts) (guarantee ch note))
      (λ ch e. ap (pieces w.names w.hypotheses w.number) (reading_after w.store (terms_at (names ch.values) ts) (guarantee ch note))) in
      let b = walk p h.2 w cs in
      λ l. a l ++ b l
  walk (Prefix (event.Input k xs note) p) h w cs = found_alike w (slice_get y.channels k) _ (λ ch. for_all [] (declared_as xs ch.values) (Implies (assumption ch xs note) (wc y c p)))
      (λ ch e.
      let ds = declared_as xs ch.values in
      let v = opening_each w ds in
      let cv = closed_opening ds w cs in
      let ca = assumption_closed ch xs note (fine.channels k ch e).1 h.1 in
      walk p h.2 (supposing v (assumption ch xs note)) cv
      ∙ (sym (shown_supposing v cv (assumption ch xs note) (wc y c p) ca)
      ∙ sym (for_all_ways w.store cs ds [] 0 w.number w.names w.hypotheses (Implies (assumption ch xs note) (wc y c p)) (ca, wc_closed y c fine p h.2))))
  walk (Prefix (event.Call k j ts xs) p) h w cs = found_alike w (slice_get y.machines k) _ _
      (λ m em. found_alike w (slice_get m.operations j) _ _
      (λ o eo.
      let fm = fine.machines k m em in
      let fo = fm.operations j o eo in
      let args = terms_at (names o.params) ts in
      let ca = plain_closed (names o.params) ts h.0 in
      let cb = branches_fine o.body fo.body in
      let r = Implies m.invariant (wc y c p) in
      let pre = ap (pieces w.names w.hypotheses w.number) (reading_after w.store args o.pre) in
      let next = flat_alike (λ b. ways y c p (supposing (after_branch w m o ts xs b) m.invariant)) (λ b. shown (after_branch w m o ts xs b) r) (branches o.body) cb
      (λ b q.
      let v = after_branch w m o ts xs b in
      let cv = closed_leaving w.store cs (outcome m o xs b.writes) (outcome_closed m o xs b.writes q.0.1) (inside (written w args) b.items)
      (closed_inside b.items (written w args) (closed_after w.store cs args ca)) in
      walk p h.2 (supposing v m.invariant) cv ∙ sym (shown_supposing v cv m.invariant (wc y c p) fm.invariant.1)) in
      let all = all_ways w cs m o ts xs ca (args_written (names o.params) ts fo.params h.0) r (fm.invariant.1, wc_closed y c fine p h.2) (branches o.body) cb in
      let both = next ∙ sym all in
      λ l. pre l ++ both l))
  walk (Choice p q) h w cs = let a = walk p h.0 w cs in let b = walk q h.1 w cs in λ l. a l ++ b l
  walk (Internal p q) h w cs = let a = walk p h.0 w cs in let b = walk q h.1 w cs in λ l. a l ++ b l
  walk (If f p q) h w cs =
      let a = walk p h.1 (supposing w f) cs ∙ sym (shown_supposing w cs f (wc y c p) h.0.1) in
      let b = walk q h.2 (supposing w (Not f)) cs ∙ sym (shown_supposing w cs (Not f) (wc y c q) h.0.1) in
      λ l. a l ++ b l

pub ways_are_pieces : WaysArePieces
ways_are_pieces y c fine p h w cs = walk y c fine p h w cs

pub loop_by_ways : LoopByWays
loop_by_ways y c fine k d at =
    let ns = own_names y c in
    let fd = fine.definitions k d at in
    let w = opening_each (at_first ns) d.params in
    let cw = closed_opening d.params (at_first ns) closed_itself in
    let ck : IsClosed 0 (known y c d) = (typings_closed d.params, (invariants_closed (machines_of y c) (all_listed (λ m. IsPlain m.invariant) y.machines c.machines (λ k m e. (fine.machines k m e).invariant)), fd.invariant.1)) in
    let r = wc_closed y c fine d.body fd.body in
    walk y c fine d.body fd.body (supposing w (known y c d)) cw
    ∙ (sym (shown_supposing w cw (known y c d) (wc y c d.body) ck)
    ∙ (sym (for_all_ways itself closed_itself d.params [] 0 0 ns [] (Implies (known y c d) (wc y c d.body)) (ck, r))
    ∙ ap (pieces ns [] 0) (same_again (loop_formula y c d) 0)))

-- ---- the beginning

-- nothing is replaced where there are no arguments
none_items : (is : List Item) → argued_items [] is ≡ is
none_items [] = refl
none_items (Bind x kind ∷ is) = let p = none_items is in λ l. Bind x kind ∷ p l
none_items (Guard g ∷ is) = let p = none_items is in let q = same_again g 0 in λ l. Guard (q l) ∷ p l

none_writes : (ws : Assigned) → replaced_each [] ws ≡ ws
none_writes [] = refl
none_writes (w ∷ ws) = let p = none_writes ws in let q = same_again_term w.1 0 in λ l. (w.0, q l) ∷ p l

module _ (ns : List (Name × Kind)) (r : FormulaTree) (cr : IsClosed 0 r) where
  abbrev first : Way
  first = at_first ns

  one_start : (b : Branch) → FineBranch b → shown first (branch_formula [] b.items b.writes r) ≡ shown (leaving itself b.writes (inside first b.items)) r
  one_start b cb =
      let p = none_items b.items in
      let q = none_writes b.writes in
      sym (λ l. shown first (branch_formula [] (p l) (q l) r))
      ∙ (branch_ways itself closed_itself [] tt r cr b.items b.writes cb.0.0 cb.0.1 [] 0 0 ns []
      ∙ ap (λ v. shown (leaving itself b.writes v) r) (sym (inside_once [] tt b.items 0 cb.1 first)))

  and_starts : (f : FormulaTree) (bs : List Branch) → EachOf FineBranch bs →
      shown first (and_branches f bs r) ≡ shown first f ++ flat_map (λ (b : Branch). shown (leaving itself b.writes (inside first b.items)) r) bs
  and_starts f [] cb = sym (append_none (shown first f))
  and_starts f (b ∷ bs) cb =
      let g = branch_formula [] b.items b.writes r in
      let rest = flat_map (λ (b : Branch). shown (leaving itself b.writes (inside first b.items)) r) bs in
      and_starts (And f g) bs cb.1 ∙ (append_both (shown first f) (shown first g) rest ∙ ap (λ us. shown first f ++ (us ++ rest)) (one_start b cb.0))

  all_starts : (bs : List Branch) → EachOf FineBranch bs →
      shown first (all_branches bs r) ≡ flat_map (λ (b : Branch). shown (leaving itself b.writes (inside first b.items)) r) bs
  all_starts [] cb = refl
  all_starts (b ∷ bs) cb =
      and_starts (branch_formula [] b.items b.writes r) bs cb.1 ∙ ap (λ us. us ++ flat_map (λ (b : Branch). shown (leaving itself b.writes (inside first b.items)) r) bs) (one_start b cb.0)

pub beginnings_written : (ms : List Machine) → EachMachine (λ m. AsWritten m.init) ms → AsWritten (beginnings ms)
beginnings_written [] h = tt
beginnings_written (m ∷ ms) h = (h.0, beginnings_written ms h.1)

pub start_by_ways : StartByWays
start_by_ways y c fine =
    let ns = own_names y c in
    let ms = machines_of y c in
    let p = Call c.start c.start_args in
    let invs = invariants_of ms in
    let r = Implies invs (wc y c p) in
    let ci = invariants_closed ms (all_listed (λ m. IsPlain m.invariant) y.machines c.machines (λ k m e. (fine.machines k m e).invariant)) in
    let cr : IsClosed 0 r = (ci, wc_closed y c fine p fine.start_args) in
    let bs = branches (beginnings ms) in
    let cb = branches_fine (beginnings ms) (beginnings_written ms (all_listed (λ m. AsWritten m.init) y.machines c.machines (λ k m e. (fine.machines k m e).init))) in
    flat_alike (λ b. ways y c p (start_way y c b)) (λ b. shown (leaving itself b.writes (inside (at_first ns) b.items)) r) bs cb
    (λ b q.
    let v = leaving itself b.writes (inside (at_first ns) b.items) in
    let cv = closed_leaving itself closed_itself b.writes q.0.1 (inside (at_first ns) b.items) (closed_inside b.items (at_first ns) closed_itself) in
    walk y c fine p fine.start_args (start_way y c b) cv ∙ sym (shown_supposing v cv invs (wc y c p) ci))
    ∙ (sym (all_starts ns r cr bs cb) ∙ ap (pieces ns [] 0) (same_again (start_formula y c) 0))
