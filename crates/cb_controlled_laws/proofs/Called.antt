-- What must hold before a call, for a formula to hold after it, fits.
use Rattle.std.proofs.Common.{◌≡◌, ℕ, pos, suc, ◌+◌, ◌<◌, Bool, true, false, ◌||◌, List, [], ◌∷◌, ◌++◌, map, length, Some, refl, sym, ap, ap₂, ◌∙◌, subst, slice_get, if◌then◌else◌, arith}
use Rattle.std.specs.Prelude.{Contains}
use Rattle.std.proofs.lemmas.Bool.{and_from, and_parts}
use Rattle.std.proofs.lemmas.Option.{same_Some}
use Rattle.cb_term.specs.declared.name.Name.{Name}
use Rattle.cb_term.specs.declared.kind.Kind.{Kind}
use Rattle.cb_term.specs.Names.{same_name}
use Rattle.cb_term.specs.Tree as tree
use Rattle.cb_term.specs.Tree.{TermTree, FormulaTree}
use Rattle.cb_term.specs.Change.{mapped_term, bound_stays}
use Rattle.cb_term.proofs.FreeLemmas.{or_left, or_right}
use Rattle.cb_term.proofs.ValueLemmas.{same_name_tells, same_name_self}
use Rattle.cb_seq.specs.Kinds.{kind_in, kind_of, fits}
use Rattle.cb_seq.proofs.MoreNames.{Extends, kind_more}
use Rattle.cb_spec.specs.declared.system.Declared.{Declared}
use Rattle.cb_spec.specs.declared.system.Machine.{Machine}
use Rattle.cb_spec.specs.declared.system.Operation.{Operation}
use Rattle.cb_spec.specs.declared.system.System.{System}
use Rattle.cb_spec.specs.SubstTree.{SubstTree, Skip, Assign, Together, Choice, If, AnyOf, SubstTrees, End, More}
use Rattle.cb_spec.specs.Domains.{kind_of_domain}
use Rattle.cb_spec.specs.Bound.{names, result_names, is_among, only}
use Rattle.cb_spec.specs.Forms.{Form}
use Rattle.cb_spec.specs.Journals.{set_sizes}
use Rattle.cb_spec.specs.States.{IsAt}
use Rattle.cb_spec.specs.TypedTerms.{Scope}
use Rattle.cb_spec.specs.TypedSubsts as typed
use Rattle.cb_spec.specs.TypedSubsts.{always_writes, each_writes, assigned_form, result_form}
use Rattle.cb_spec.specs.TypedProcesses.{scope_of, scope_in, scope_with, result_forms}
use Rattle.cb_spec.specs.Typed.{global_names, targets_of, TypedOperation, Typed}
use Rattle.cb_obligations.specs.Branches.{Item, Bind, Guard, Assigned, Branch, numbered, opened, binds, guarded, bound_branch, joined_branch, branches_from, branches_of_each, branches}
use Rattle.cb_obligations.specs.Transform.{as_bound, assigned, branch_formula, and_branches, all_branches}
use Rattle.cb_obligations.specs.Laws.{NamesUpTo}
use Rattle.cb_obligations.specs.Owed.{with_kinds}
use Rattle.cb_obligations.specs.Written.{IsWritten}
use Rattle.cb_obligations.proofs.Runs.{EachOf, each_append, each_map, each_flat_map, each_step, Numbered}
use Rattle.cb_obligations.proofs.Cutting.{up_to}
use Rattle.cb_obligations.proofs.Calls.{at_some}
use Rattle.cb_typed.specs.Erasure.{kind_of_form, kinds_in}
use Rattle.cb_typed.proofs.Erasing.{formula_fits}
use Rattle.cb_typed.proofs.Naming.{new_written, new_differ}
use Rattle.cb_typed.proofs.Mapping.{IsBelow, below_self, below_then, mapped_fits}
use Rattle.cb_typed.proofs.Kinding.{Names, just_names, just_kinds, Wider, closed_fits, closed_kind, branches_fit}
use Rattle.cb_typed.proofs.Fitting as fitting
use Rattle.cb_conditions.specs.Reading.{itself, with_terms, read_term, replaced, replaced_each, terms_at, given, given_each}
use Rattle.cb_conditions.specs.Conditions.{argued_items, outcome, argued, argued_each, after_operation}
use Rattle.cb_controlled_laws.proofs.Arguing.{kind_is, result_kind}
use Rattle.cb_controlled_laws.proofs.Replacing.{extends_more, AllBelow, Reads, replaced_fits, read_below, reads_args, AllWritten}

-- ---- each branch writes what each run writes

module _ (r : Name) where
  abbrev has : Assigned → Bool
  has [] = false
  has (w ∷ ws) = same_name r w.0 || has ws

  abbrev Has : Branch → Type 0
  Has b = has b.writes ≡ true

  has_left : (ws us : Assigned) → has ws ≡ true → has (ws ++ us) ≡ true
  has_left [] us e = cc
  has_left (w ∷ ws) us e = by (same_name r w.0) e (has_left ws us)
    where
      by : (b : Bool) → (b || has ws) ≡ true → (has ws ≡ true → has (ws ++ us) ≡ true) → (b || has (ws ++ us)) ≡ true
      by true e h = refl
      by false e h = h e

  has_right : (ws us : Assigned) → has us ≡ true → has (ws ++ us) ≡ true
  has_right [] us e = e
  has_right (w ∷ ws) us e = or_right (same_name r w.0) (has (ws ++ us)) (has_right ws us e)

  each_all : (Q : Branch → Type 0) (bs : List Branch) → ((b : Branch) → Q b) → EachOf Q bs
  each_all Q [] h = tt
  each_all Q (b ∷ bs) h = (h b, each_all Q bs h)

  abbrev Joins : ℕ → List Name → SubstTree → Branch → Type 0
  Joins k scope b p = EachOf Has (map (joined_branch p) (branches_from (k + binds p.items) scope b))

  mutual
    writes_each : (s : SubstTree) (k : ℕ) (scope : List Name) → always_writes r s ≡ true → EachOf Has (branches_from k scope s)
    writes_each Skip k scope e = cc
    writes_each (Assign x t) k scope e = (or_left (same_name r x) false e, tt)
    writes_each (Together a b) k scope e =
        (each_flat_map Has (λ p. map (joined_branch p) (branches_from (k + binds p.items) scope b)) (branches_from k scope a)).1
        (by (always_writes r a) e (writes_each a k scope) (λ p. writes_each b (k + binds p.items) scope))
      where
        by : (c : Bool) → (c || always_writes r b) ≡ true → (c ≡ true → EachOf Has (branches_from k scope a)) →
            ((p : Branch) → always_writes r b ≡ true → EachOf Has (branches_from (k + binds p.items) scope b)) → EachOf (Joins k scope b) (branches_from k scope a)
        by true e f g = each_step Has (Joins k scope b) (branches_from k scope a) (f refl)
            (λ p h. (each_map Has (joined_branch p) (branches_from (k + binds p.items) scope b)).1
            (each_all (λ q. Has (joined_branch p q)) (branches_from (k + binds p.items) scope b) (λ q. has_left p.writes q.writes h)))
        by false e f g = each_all (Joins k scope b) (branches_from k scope a)
            (λ p. (each_map Has (joined_branch p) (branches_from (k + binds p.items) scope b)).1
            (each_step Has (λ q. Has (joined_branch p q)) (branches_from (k + binds p.items) scope b) (g p e) (λ q h. has_right p.writes q.writes h)))
    writes_each (Choice ss) k scope e = writes_sides ss k scope e
    writes_each (If p a b) k scope e =
        let w = and_parts (always_writes r a) (always_writes r b) e in
        (each_append Has (map (guarded (opened scope p)) (branches_from k scope a)) (map (guarded (tree.Not (opened scope p))) (branches_from k scope b))).1 (
          (each_map Has (guarded (opened scope p)) (branches_from k scope a)).1 (writes_each a k scope w.0),
          (each_map Has (guarded (tree.Not (opened scope p))) (branches_from k scope b)).1 (writes_each b k scope w.1),
        )
    writes_each (AnyOf z d p s) k scope e =
        let x = numbered z (k + 1) in
        (each_map Has (bound_branch x (kind_of_domain d) (opened (x ∷ scope) p)) (branches_from (k + 1) (x ∷ scope) s)).1 (writes_each s (k + 1) (x ∷ scope) e)

    writes_sides : (ss : SubstTrees) (k : ℕ) (scope : List Name) → each_writes r ss ≡ true → EachOf Has (branches_of_each k scope ss)
    writes_sides End k scope e = tt
    writes_sides (More s ss) k scope e =
        let w = and_parts (always_writes r s) (each_writes r ss) e in
        (each_append Has (branches_from k scope s) (branches_of_each k scope ss)).1 (writes_each s k scope w.0, writes_sides ss k scope w.1)

each_pi : {X : Type 0} (G : X → Branch → Type 0) (bs : List Branch) → ((x : X) → EachOf (G x) bs) → EachOf (λ b. (x : X) → G x b) bs
each_pi G [] h = tt
each_pi G (b ∷ bs) h = ((λ x. (h x).0), each_pi G bs (λ x. (h x).1))

each_both : (F G : Branch → Type 0) (bs : List Branch) → EachOf F bs → EachOf G bs → EachOf (λ b. F b × G b) bs
each_both F G [] f g = tt
each_both F G (b ∷ bs) f g = ((f.0, g.0), each_both F G bs f.1 g.1)

-- ---- places of bound variables

abbrev Behind : ℕ → List Kind → List Kind → Type 0
Behind d ks cs = (j : ℕ) (c : Kind) → slice_get cs j ≡ Some c → slice_get ks (d + j) ≡ Some c

behind_none : (cs : List Kind) → Behind 0 cs cs
behind_none cs j c h = let s : 0 + j ≡ j = omega arith in ap (slice_get cs) s ∙ h

behind_more : (d : ℕ) (ks cs : List Kind) (c : Kind) → Behind d ks cs → Behind (d + 1) (c ∷ ks) cs
behind_more d ks cs c h j k e = let s : d + 1 + j ≡ suc (d + j) = omega arith in ap (slice_get (c ∷ ks)) s ∙ h j k e

pub target_is : (ns : Names) (x : Name) → typed.kind_of_target ns x ≡ kind_in ns x
target_is [] x = refl
target_is (n ∷ ns) x = ap (λ o. if same_name x n.0 then Some n.1 else o) (target_is ns x)

pub kinds_append : (a b : Scope) → kinds_in (a ++ b) ≡ kinds_in a ++ kinds_in b
kinds_append [] b = refl
kinds_append (p ∷ a) b = ap (λ z. (p.0, kind_of_form p.1) ∷ z) (kinds_append a b)

pub among_kind : (ds : List Declared) (x : Name) → is_among x (names ds) ≡ true → (c : Kind) × (kind_in (with_kinds ds) x ≡ Some c)
among_kind [] x e = cc
among_kind (d ∷ ds) x e = by (same_name x d.name) e (among_kind ds x)
  where
    by : (b : Bool) → (b || is_among x (names ds)) ≡ true → (is_among x (names ds) ≡ true → (c : Kind) × (kind_in (with_kinds ds) x ≡ Some c)) →
        (c : Kind) × ((if b then Some (kind_of_domain d.domain) else kind_in (with_kinds ds) x) ≡ Some c)
    by true e r = (kind_of_domain d.domain, refl)
    by false e r = r e

pub up_of : (ds : List Declared) (ns : Names) → AllWritten ds → NamesUpTo 0 ns → NamesUpTo 0 (with_kinds ds ++ ns)
up_of [] ns w u = u
up_of (d ∷ ds) ns w u = (omega (arith, w.0), up_of ds ns w.1 u)

pub all_written : (ds : List Declared) → ((x : Name) → is_among x (names ds) ≡ true → IsWritten x) → AllWritten ds
all_written [] h = tt
all_written (d ∷ ds) h = (
  h d.name (or_left (same_name d.name d.name) (is_among d.name (names ds)) (same_name_self d.name)),
  all_written ds (λ x e. h x (or_right (same_name x d.name) (is_among x (names ds)) e)),
)

-- a name with a number is no parameter
no_arg : (ds : List Declared) (ts : List TermTree) (x : Name) (k : ℕ) → AllWritten ds → x.number ≡ k + 1 → with_terms (terms_at (names ds) ts) itself x ≡ tree.Var x
no_arg [] ts x k w e = refl
no_arg (d ∷ ds) ts x k w e = by ts (λ us. no_arg ds us x k w.1 e)
  where
    other : (b : Bool) → same_name x d.name ≡ b → b ≡ false
    other true s =
        let same : x.number ≡ d.name.number = ap (λ (z : Name). z.number) (same_name_tells x d.name s) in
        let zero : d.name.number ≡ 0 = w.0 in
        absurd (omega (arith, same, e, zero))
    other false s = refl

    by : (ts : List TermTree) → ((us : List TermTree) → with_terms (terms_at (names ds) us) itself x ≡ tree.Var x) → with_terms (terms_at (names (d ∷ ds)) ts) itself x ≡ tree.Var x
    by [] h = ap (λ b. if b then tree.Num (pos 0) else with_terms (terms_at (names ds) []) itself x) (other (same_name x d.name) refl) ∙ h []
    by (t ∷ ts) h = ap (λ b. if b then t else with_terms (terms_at (names ds) ts) itself x) (other (same_name x d.name) refl) ∙ h ts

wider_new : (sizes : List ℕ) (k : ℕ) (ms : Names) (x : Name) (c : Kind) → NamesUpTo k ms → k < x.number → Wider ms ((x, c) ∷ ms)
wider_new sizes k ms x c u lt y d e = by (same_name y x) refl
  where
    by : (b : Bool) → same_name y x ≡ b → (if b then Some c else kind_in ms y) ≡ Some d
    by true s =
        let le = up_to sizes k ms y d u e in
        let same : y.number ≡ x.number = ap (λ (z : Name). z.number) (same_name_tells y x s) in
        absurd (omega (arith, le, lt, same))
    by false s = e

up_more : (k : ℕ) (ms : Names) → NamesUpTo k ms → NamesUpTo (k + 1) ms
up_more k [] u = tt
up_more k (m ∷ ms) u = (omega (arith, u.0), up_more k ms u.1)

module _ (sizes : List ℕ) where
  abbrev WritesFit : Names → Names → Assigned → Type 0
  WritesFit tk ms [] = Unit {0}
  WritesFit tk ms (w ∷ ws) = ((c : Kind) → kind_in tk w.0 ≡ Some c → IsBelow (kind_of sizes ms [] w.1) c) × WritesFit tk ms ws

  abbrev ItemsFit : Names → Names → List Item → Assigned → Type 0
  ItemsFit tk ms [] ws = WritesFit tk ms ws
  ItemsFit tk ms (Bind x c ∷ is) ws = ItemsFit tk ((x, c) ∷ ms) is ws
  ItemsFit tk ms (Guard p ∷ is) ws = (fits sizes ms [] p ≡ true) × ItemsFit tk ms is ws

  abbrev Fine : Names → Names → Branch → Type 0
  Fine tk ms b = Numbered 0 b.items × ItemsFit tk ms b.items b.writes

  given_below : (tk ms : Names) (r : Name) (c : Kind) → kind_in tk r ≡ Some c → (ws : Assigned) → WritesFit tk ms ws → has r ws ≡ true → IsBelow (kind_of sizes ms [] (given ws r)) c
  given_below tk ms r c e [] w h = cc
  given_below tk ms r c e (u ∷ ws) w h = by (same_name r u.0) refl h (given_below tk ms r c e ws w.1)
    where
      by : (b : Bool) → same_name r u.0 ≡ b → (b || has r ws) ≡ true → (has r ws ≡ true → IsBelow (kind_of sizes ms [] (given ws r)) c) → IsBelow (kind_of sizes ms [] (if b then u.1 else given ws r)) c
      by true s h q = w.0 c (ap (kind_in tk) (sym (same_name_tells r u.0 s)) ∙ e)
      by false s h q = q h

  -- ---- what is read after what is written

  module _ (ns bs : Names) where
    abbrev Around : ℕ → List Kind → List Kind → Type 0
    Around d ks ks' = Extends ks' ks × Behind d ks (just_kinds bs)

    -- what the name stands for afterwards is of the kind
    abbrev Stands : Assigned → Name → Kind → Type 0
    Stands [] y c = kind_in ns y ≡ Some c
    Stands (w ∷ ws) y c = (same_name y w.0 ≡ true → IsBelow (kind_of sizes (bs ++ ns) [] w.1) c) × (same_name y w.0 ≡ false → Stands ws y c)

    stands_kind : (ws : Assigned) (y : Name) (c : Kind) (d : ℕ) (ks ks' : List Kind) → Stands ws y c → Around d ks ks' → IsBelow (kind_of sizes ns ks (assigned (just_names bs) ws d y)) c
    stands_kind [] y c d ks ks' l r = (c, l, below_self c)
    stands_kind (w ∷ ws) y c d ks ks' l r = by (same_name y w.0) l.0 l.1 (λ l'. stands_kind ws y c d ks ks' l' r)
      where
        by : (b : Bool) → (b ≡ true → IsBelow (kind_of sizes (bs ++ ns) [] w.1) c) → (b ≡ false → Stands ws y c) → (Stands ws y c → IsBelow (kind_of sizes ns ks (assigned (just_names bs) ws d y)) c) →
            IsBelow (kind_of sizes ns ks (if b then mapped_term (as_bound (just_names bs)) bound_stays d w.1 else assigned (just_names bs) ws d y)) c
        by true p q f = let h = p refl in below_then _ h.0 c (closed_kind sizes ns bs w.1 h.0 d ks [] ((λ j k i. cc), r.1) h.1) h.2
        by false p q f = f (q refl)

    end_fits : (old : Names) (r : FormulaTree) → fits sizes old [] r ≡ true → (ws : Assigned) → ((y : Name) (c : Kind) → kind_in old y ≡ Some c → Stands ws y c) →
        fits sizes ns (just_kinds bs) (branch_formula (just_names bs) [] ws r) ≡ true
    end_fits old r e ws l = mapped_fits sizes ns old (assigned (just_names bs) ws) bound_stays Around
        (λ d ks ks' c a. (extends_more ks' ks c a.0, behind_more d ks (just_kinds bs) c a.1))
        (λ d y c ks ks' a h. stands_kind ws y c d ks ks' (l y c h) a) (λ d j c ks ks' a h. (c, a.0 j c h, below_self c)) r 0 (just_kinds bs) [] ((λ j c h. cc), behind_none (just_kinds bs)) e

  reads_bind : (ms new : Names) (args : Assigned) (x : Name) (c : Kind) (k : ℕ) → NamesUpTo k new → x.number ≡ k + 1 → with_terms args itself x ≡ tree.Var x → Reads sizes ms new args →
      Reads sizes ((x, c) ∷ ms) ((x, c) ∷ new) args
  reads_bind ms new args x c k u at keeps r y d e = by (same_name y x) refl e
    where
      by : (b : Bool) → same_name y x ≡ b → (if b then Some c else kind_in ms y) ≡ Some d → IsBelow (kind_of sizes ((x, c) ∷ new) [] (with_terms args itself y)) d
      by true s e = subst (λ z. IsBelow (kind_of sizes ((x, c) ∷ new) [] (with_terms args itself z)) d) (sym (same_name_tells y x s))
          (subst (λ t. IsBelow (kind_of sizes ((x, c) ∷ new) [] t) d) (sym keeps) (d, ap (λ b. if b then Some c else kind_in new x) (same_name_self x) ∙ e, below_self d))
      by false s e =
          let h = r y d e in
          (h.0, kind_more sizes new ((x, c) ∷ new) (wider_new sizes k new x c u (omega (arith, at))) (with_terms args itself y) [] [] h.0 (λ j l i. i) h.1, h.2)

  -- ---- one call

  module _ (m : Machine) (o : Operation) (ts : List TermTree) (xs : List Name) (ns tk : Names) (params : AllWritten o.params) (G : Name → Form)
      (many : length xs ≡ length o.results)
      (results : (r : Name × Kind) → Contains o.results r → (kind_in tk r.0 ≡ Some r.1) × (kind_of_form (G r.0) ≡ r.1))
      (variables : (y : Name) (c : Kind) → is_among y (names m.variables) ≡ true → kind_in ns y ≡ Some c → kind_in tk y ≡ Some c) where
    abbrev args : Assigned
    args = terms_at (names o.params) ts

    abbrev after : Names
    after = kinds_in (scope_with xs (map G (result_names o.results))) ++ ns

    module _ (bs : Names) (ws : Assigned) where
      stand_variables : (us : Assigned) (ms : Names) → Reads sizes ms (bs ++ ns) args → WritesFit tk ms us → (y : Name) (c : Kind) → kind_in ns y ≡ Some c →
          Stands ns bs (replaced_each args (only (names m.variables) us)) y c
      stand_variables [] ms r w y c e = e
      stand_variables (u ∷ us) ms r w y c e = by (is_among u.0 (names m.variables)) refl (stand_variables us ms r w.1 y c e)
        where
          by : (b : Bool) → is_among u.0 (names m.variables) ≡ b → Stands ns bs (replaced_each args (only (names m.variables) us)) y c →
              Stands ns bs (replaced_each args (if b then u ∷ only (names m.variables) us else only (names m.variables) us)) y c
          by true a rest = (
            (λ s. read_below sizes ms (bs ++ ns) args r u.1 c (w.0 c (variables u.0 c a (ap (kind_in ns) (sym (same_name_tells y u.0 s)) ∙ e)))),
            (λ s. rest),
          )
          by false a rest = rest

      stand_results : (zs : List Name) (rs : List (Name × Kind)) (more : Assigned) → length zs ≡ length rs →
          ((r : Name × Kind) → Contains rs r → IsBelow (kind_of sizes (bs ++ ns) [] (read_term (with_terms args itself) (given ws r.0))) (kind_of_form (G r.0))) →
          (y : Name) (c : Kind) → kind_in (kinds_in (scope_with zs (map G (result_names rs))) ++ ns) y ≡ Some c → (kind_in ns y ≡ Some c → Stands ns bs (replaced_each args more) y c) →
          Stands ns bs (replaced_each args (terms_at zs (given_each ws (result_names rs)) ++ more)) y c
      stand_results [] [] more len h y c e rest = rest e
      stand_results [] (r ∷ rs) more len h y c e rest = absurd (omega (arith, len))
      stand_results (z ∷ zs) [] more len h y c e rest = absurd (omega (arith, len))
      stand_results (z ∷ zs) (r ∷ rs) more len h y c e rest =
          let next = kind_in (kinds_in (scope_with zs (map G (result_names rs))) ++ ns) y in (
            (λ s. subst (λ k. IsBelow (kind_of sizes (bs ++ ns) [] (read_term (with_terms args itself) (given ws r.0))) k)
                (same_Some _ _ (ap (λ b. if b then Some (kind_of_form (G r.0)) else next) (sym s) ∙ e)) (h r (0, omega arith, refl))),
            (λ s. stand_results zs rs more (omega (arith, len)) (λ q i. h q (suc i.0, omega (arith, i.1), i.2)) y c (ap (λ b. if b then Some (kind_of_form (G r.0)) else next) (sym s) ∙ e) rest),
          )

      stand_all : (ms : Names) → Reads sizes ms (bs ++ ns) args → WritesFit tk ms ws → ((r : (q : Name × Kind) × Contains o.results q) → has r.0.0 ws ≡ true) → (y : Name) (c : Kind) → kind_in after y ≡ Some c →
          Stands ns bs (replaced_each args (outcome m o xs ws)) y c
      stand_all ms r w h y c e = stand_results xs o.results (only (names m.variables) ws) many
          (λ q i. read_below sizes ms (bs ++ ns) args r (given ws q.0) (kind_of_form (G q.0))
          (subst (λ k. IsBelow (kind_of sizes ms [] (given ws q.0)) k) (sym (results q i).1) (given_below tk ms q.0 q.1 (results q i).0 ws w (h (q, i)))))
          y c e (stand_variables ws ms r w y c)

    module _ (r : FormulaTree) (e : fits sizes after [] r ≡ true) where
      moved : (k : ℕ) (is : List Item) (ws : Assigned) (ms bs : Names) → Numbered k is → NamesUpTo k (bs ++ ns) → Reads sizes ms (bs ++ ns) args → ItemsFit tk ms is ws →
          ((r : (q : Name × Kind) × Contains o.results q) → has r.0.0 ws ≡ true) →
          fits sizes ns (just_kinds bs) (branch_formula (just_names bs) (argued_items args is) (replaced_each args (outcome m o xs ws)) r) ≡ true
      moved k [] ws ms bs n u rd i h = end_fits ns bs after r e (replaced_each args (outcome m o xs ws)) (stand_all bs ws ms rd i h)
      moved k (Bind x c ∷ is) ws ms bs n u rd i h =
          moved (k + 1) is ws ((x, c) ∷ ms) ((x, c) ∷ bs) n.1 (omega (arith, n.0), up_more k (bs ++ ns) u) (reads_bind ms (bs ++ ns) args x c k u n.0 (no_arg o.params ts x k params n.0) rd) i h
      moved k (Guard g ∷ is) ws ms bs n u rd i h =
          and_from _ _ (closed_fits sizes ns bs (replaced args g) (replaced_fits sizes ms (bs ++ ns) args rd g i.0)) (moved k is ws ms bs n u rd i.1 h)

      module _ (ms : Names) (rd : Reads sizes ms ns args) (up : NamesUpTo 0 ns) where
        abbrev Good : Branch → Type 0
        Good b = Fine tk ms b × ((r : (q : Name × Kind) × Contains o.results q) → has r.0.0 b.writes ≡ true)

        one_fits : (b : Branch) → Good b → fits sizes ns [] (branch_formula [] (argued args m o xs b).items (argued args m o xs b).writes r) ≡ true
        one_fits b g = moved 0 b.items b.writes ms [] g.0.0 up rd g.0.1 g.1

        and_fit : (f : FormulaTree) (bs : List Branch) → fits sizes ns [] f ≡ true → EachOf Good bs → fits sizes ns [] (and_branches f (argued_each args m o xs bs) r) ≡ true
        and_fit f [] h g = h
        and_fit f (b ∷ bs) h g = and_fit (tree.And f (branch_formula [] (argued args m o xs b).items (argued args m o xs b).writes r)) bs (and_from _ _ h (one_fits b g.0)) g.1

        pub each_fits : (bs : List Branch) → EachOf Good bs → fits sizes ns [] (all_branches (argued_each args m o xs bs) r) ≡ true
        each_fits [] g = refl
        each_fits (b ∷ bs) g = and_fit (branch_formula [] (argued args m o xs b).items (argued args m o xs b).writes r) bs (one_fits b g.0) g.1

module _ (y : System) (t : Typed y) (k : ℕ) (m : Machine) (e : IsAt y.machines k m) (o : Operation) (of : TypedOperation y m o) where
  abbrev n : List ℕ
  n = set_sizes y

  abbrev tk : Names
  tk = o.results ++ with_kinds m.variables

  abbrev taken : List Name
  taken = names o.params ++ result_names o.results ++ global_names y

  abbrev inside : Names
  inside = kinds_in (scope_in m o)

  abbrev form_at : Name → Form
  form_at x = result_form (assigned_form n x (scope_in m o) o.body)

  in_scope : inside ≡ with_kinds o.params ++ with_kinds m.variables
  in_scope = kinds_append (scope_of o.params) (scope_of m.variables) ∙ ap₂ (λ a b. a ++ b) (fitting.scope_kinds n o.params) (fitting.scope_kinds n m.variables)

  params_written : AllWritten o.params
  params_written = all_written o.params (new_written (global_names y) (names o.params) (fitting.new_params y t k m e 0 o of))

  inside_up : NamesUpTo 0 inside
  inside_up = subst (NamesUpTo 0) (sym in_scope) (up_of o.params (with_kinds m.variables) params_written (fitting.variables_up y t k m e m.variables (fitting.variable_written y t k m e)))

  agree : (x : Name) (a c : Kind) → typed.kind_of_target (o.results ++ targets_of m.variables) x ≡ Some a → kind_in tk x ≡ Some c → a ≡ c
  agree x a c h i = same_Some a c (sym h ∙ target_is tk x ∙ i)

  body_good : EachOf (λ b. Fine n tk inside b × ((r : (q : Name × Kind) × Contains o.results q) → has r.0.0 b.writes ≡ true)) (branches o.body)
  body_good = each_both (Fine n tk inside) (λ b. (r : (q : Name × Kind) × Contains o.results q) → has r.0.0 b.writes ≡ true) (branches o.body)
      (branches_fit n tk (o.results ++ targets_of m.variables) agree o.body 0 [] (scope_in m o) taken inside of.body (λ x c h. h) inside_up)
      (each_pi (λ (r : (q : Name × Kind) × Contains o.results q) (b : Branch). has r.0.0 b.writes ≡ true) (branches o.body) (λ r. writes_each r.0.0 o.body 0 [] (of.writes_results r.0 r.1)))

  result_is : (q : Name × Kind) → Contains o.results q → (kind_in tk q.0 ≡ Some q.1) × (kind_of_form (form_at q.0) ≡ q.1)
  result_is q i =
      let p = at_some o.results q i in
      let new = fitting.new_results y t k m e 0 o of in
      (sym (target_is tk q.0) ∙ result_kind o.results (targets_of m.variables) (new_differ new.0 (result_names o.results) new.1) p.0 q p.1, kind_is (assigned_form n q.0 (scope_in m o) o.body) q.1 (of.result_kinds q i))

  variable_is : (ns : Names) → Wider (with_kinds m.variables) ns → (x : Name) (c : Kind) → is_among x (names m.variables) ≡ true → kind_in ns x ≡ Some c → kind_in tk x ≡ Some c
  variable_is ns wide x c v h =
      let q = among_kind m.variables x v in
      let same : q.0 ≡ c = same_Some q.0 c (sym (wide x q.0 q.1) ∙ h) in
      sym (target_is tk x) ∙ fitting.no_result o.results (targets_of m.variables) x (fitting.variable_no_result y t k m e 0 o of x v) ∙ fitting.targets_kind n m.variables x ∙ q.1 ∙ ap Some same

  module _ (ts : List TermTree) (ns : Names) (below : AllBelow n ns o.params ts) (wide : Wider (with_kinds m.variables) ns) where
    read : Reads n inside ns (terms_at (names o.params) ts)
    read = subst (λ ms. Reads n ms ns (terms_at (names o.params) ts)) (sym in_scope) (reads_args n o.params ts ns (with_kinds m.variables) below wide)

    pub pre_fits : fits n ns [] (replaced (terms_at (names o.params) ts) o.pre) ≡ true
    pre_fits = replaced_fits n inside ns (terms_at (names o.params) ts) read o.pre (formula_fits n (scope_in m o) taken o.pre [] of.precondition)

    pub after_fits : (xs : List Name) (r : FormulaTree) → NamesUpTo 0 ns → length xs ≡ length o.results → fits n (kinds_in (scope_with xs (result_forms n m o)) ++ ns) [] r ≡ true →
        fits n ns [] (after_operation m o ts xs r) ≡ true
    after_fits xs r up len h = each_fits n m o ts xs ns tk params_written form_at len result_is (variable_is ns wide) r h inside read up (branches o.body) body_good
