-- A machine whose items have kinds is full, and the items behind it go on from there.
use Rattle.std.proofs.Common.{◌≡◌, ℕ, true, List, [], ◌∷◌, ◌++◌, refl, append_assoc, subst, sym, ◌∙◌, arith}
use Rattle.std.specs.Prelude.{Option, Some, None}
use Rattle.std.specs.List.{flat_map}
use Rattle.cb_lex.specs.declared.raw.name.RawName.{RawName}
use Rattle.cb_lex.specs.declared.raw.text.RawMachine.{RawMachine}
use Rattle.cb_lex.specs.declared.raw.text.RawSet.{RawSet}
use Rattle.cb_lex.specs.declared.raw.text.RawProperty.{RawProperty}
use Rattle.cb_lex.specs.declared.raw.text.RawState.{RawState}
use Rattle.cb_lex.specs.declared.raw.text.RawOperation.{RawOperation}
use Rattle.cb_lex.specs.RawSubstTree.{RawSubstTree, RawSubsts}
use Rattle.cb_lex.specs.RawSubstTree as tree
use Rattle.cb_grammar.specs.declared.actions.TheConstants.{MACHINE, APPEND_SET, SOME_STATE, APPEND_OPERATION, APPEND_SIDE, CHOICE, IF, IF_WITHOUT_ELSE, PARALLEL, ANY, AMONG, ASSIGN}
use Rattle.cb_grammar.specs.Signatures.{machine_kind, names_kind, sets_kind, properties_kind, state_kind, operations_kind, substitution_kind, sides_kind, condition_kind, term_kind, formula_kind, domain_kind}
use Rattle.cb_amn_parse.specs.Lexemes.{Lexeme, Named, Did}
use Rattle.cb_amn_parse.specs.Formulas.{term_out, formula_out, names_out, condition_out}
use Rattle.cb_amn_parse.specs.Machines.{domain_out, subst_out, choice_out, set_entry, sets_out, properties_out, state_out, operation_entry, operations_out, machine_out}
use Rattle.cb_shapes.specs.Full.{some, AllOf, HasTwo, IsFullSubst, AreFullSides, IsFullState, IsFull}
use Rattle.cb_shapes.specs.Laws.{MachinesAreFull}
use Rattle.cb_shapes.proofs.Table.{word_kind, no_names, no_properties, no_sides, one_side, spelled_follows}
use Rattle.cb_shapes.proofs.Values.{told, told_items, told_append, told_none, front_told, Tells, told_term, told_formula, told_condition, told_domain, kind_of, told_names, told_properties}

-- past what leaves one kind
past : (ls more : List Lexeme) (x : ℕ) → Tells ls x → (k : List ℕ) → told (ls ++ more) (Some k) ≡ told more (Some (x ∷ k))
past ls more x t k = rw (told_append ls more (Some k), t k) refl

-- past where nothing fits
no_more : {X : Type 0} (more : List Lexeme) (last : List ℕ) → told more None ≡ Some last → X
no_more more last e = absurd (let h : told more None ≡ None = told_none more in cc)

some_more : {X : Type 0} (x : X) (xs : List X) → some (x ∷ xs) ≡ true
some_more x xs = grind arith

-- ---- substitutions

mutual
  full_subst : (s : RawSubstTree) (more : List Lexeme) (k last : List ℕ) → told (subst_out s ++ more) (Some k) ≡ Some last → IsFullSubst s × (told more (Some (substitution_kind ∷ k)) ≡ Some last)
  full_subst tree.Skip more k last e = (tt, e)
  full_subst (tree.Assign x t) more k last e =
      let h : told (term_out t ++ Did ASSIGN ∷ more) (Some (word_kind ∷ k)) ≡ Some last = simp append_assoc at e in
      (tt, rw (past (term_out t) (Did ASSIGN ∷ more) term_kind (told_term t) (word_kind ∷ k)) at h)
  full_subst (tree.Among x d) more k last e =
      let h : told (domain_out d ++ Did AMONG ∷ more) (Some (word_kind ∷ k)) ≡ Some last = simp append_assoc at e in
      (tt, rw (past (domain_out d) (Did AMONG ∷ more) domain_kind (told_domain d) (word_kind ∷ k)) at h)
  full_subst (tree.If f s) more k last e =
      let h : told (formula_out f ++ (subst_out s ++ Did IF_WITHOUT_ELSE ∷ more)) (Some k) ≡ Some last = simp append_assoc at e in
      full_subst s (Did IF_WITHOUT_ELSE ∷ more) (formula_kind ∷ k) last (rw (past (formula_out f) (subst_out s ++ Did IF_WITHOUT_ELSE ∷ more) formula_kind (told_formula f) k) at h)
  full_subst (tree.IfElse f s t) more k last e =
      let h : told (formula_out f ++ (subst_out s ++ (subst_out t ++ Did IF ∷ more))) (Some k) ≡ Some last = simp append_assoc at e in
      let a = full_subst s (subst_out t ++ Did IF ∷ more) (formula_kind ∷ k) last (rw (past (formula_out f) (subst_out s ++ (subst_out t ++ Did IF ∷ more)) formula_kind (told_formula f) k) at h) in
      let b = full_subst t (Did IF ∷ more) (substitution_kind ∷ formula_kind ∷ k) last a.1 in
      ((a.0, b.0), b.1)
  full_subst (tree.Choice ss) more k last e =
      let h : told (choice_out ss ++ Did CHOICE ∷ more) (Some (no_sides ∷ k)) ≡ Some last = simp append_assoc at e in
      full_choice ss more k last h
  full_subst (tree.Any x f s) more k last e =
      let h : told (formula_out f ++ (subst_out s ++ Did ANY ∷ more)) (Some (word_kind ∷ k)) ≡ Some last = simp append_assoc at e in
      full_subst s (Did ANY ∷ more) (formula_kind ∷ word_kind ∷ k) last (rw (past (formula_out f) (subst_out s ++ Did ANY ∷ more) formula_kind (told_formula f) (word_kind ∷ k)) at h)
  full_subst (tree.Parallel s t) more k last e =
      let h : told (subst_out s ++ (subst_out t ++ Did PARALLEL ∷ more)) (Some k) ≡ Some last = simp append_assoc at e in
      let a = full_subst s (subst_out t ++ Did PARALLEL ∷ more) k last h in
      let b = full_subst t (Did PARALLEL ∷ more) (substitution_kind ∷ k) last a.1 in
      ((a.0, b.0), b.1)

  full_choice : (ss : RawSubsts) (more : List Lexeme) (k last : List ℕ) → told (choice_out ss ++ Did CHOICE ∷ more) (Some (no_sides ∷ k)) ≡ Some last →
      (HasTwo ss × AreFullSides ss) × (told more (Some (substitution_kind ∷ k)) ≡ Some last)
  full_choice tree.NoSide more k last e = no_more more last e
  full_choice (tree.Side s tree.NoSide) more k last e =
      let a = full_subst s (Did APPEND_SIDE ∷ Did CHOICE ∷ more) (no_sides ∷ k) last (simp append_assoc at e) in
      no_more more last a.1
  full_choice (tree.Side s (tree.Side t ss)) more k last e =
      let a = full_subst s (Did APPEND_SIDE ∷ (subst_out t ++ Did APPEND_SIDE ∷ (choice_out ss ++ Did CHOICE ∷ more))) (no_sides ∷ k) last (simp append_assoc at e) in
      let b = full_subst t (Did APPEND_SIDE ∷ (choice_out ss ++ Did CHOICE ∷ more)) (one_side ∷ k) last a.1 in
      let c = full_sides ss (Did CHOICE ∷ more) k last b.1 in
      ((tt, (a.0, (b.0, c.0))), c.1)

  full_sides : (ss : RawSubsts) (more : List Lexeme) (k last : List ℕ) → told (choice_out ss ++ more) (Some (sides_kind ∷ k)) ≡ Some last → AreFullSides ss × (told more (Some (sides_kind ∷ k)) ≡ Some last)
  full_sides tree.NoSide more k last e = (tt, e)
  full_sides (tree.Side s ss) more k last e =
      let a = full_subst s (Did APPEND_SIDE ∷ (choice_out ss ++ more)) (sides_kind ∷ k) last (simp append_assoc at e) in
      let b = full_sides ss more k last a.1 in
      ((a.0, b.0), b.1)

-- ---- the parts of a machine

full_set : (s : RawSet) (more : List Lexeme) (k last : List ℕ) → told (set_entry s ++ more) (Some (sets_kind ∷ k)) ≡ Some last → (some s.elements ≡ true) × (told more (Some (sets_kind ∷ k)) ≡ Some last)
full_set s more k last e =
    let h : told (names_out s.elements ++ Did APPEND_SET ∷ more) (Some (word_kind ∷ sets_kind ∷ k)) ≡ Some last = simp append_assoc at e in
    go s.elements (rw (past (names_out s.elements) (Did APPEND_SET ∷ more) (kind_of no_names names_kind s.elements) (told_names s.elements) (word_kind ∷ sets_kind ∷ k)) at h)
  where
    go : (xs : List RawName) → told (Did APPEND_SET ∷ more) (Some (kind_of no_names names_kind xs ∷ word_kind ∷ sets_kind ∷ k)) ≡ Some last → (some xs ≡ true) × (told more (Some (sets_kind ∷ k)) ≡ Some last)
    go [] e = no_more more last e
    go (x ∷ xs) e = (some_more x xs, e)

full_sets : (ss : List RawSet) (more : List Lexeme) (k last : List ℕ) → told (flat_map set_entry ss ++ more) (Some (sets_kind ∷ k)) ≡ Some last → AllOf (λ s. some s.elements ≡ true) ss × (told more (Some (sets_kind ∷ k)) ≡ Some last)
full_sets [] more k last e = (tt, e)
full_sets (s ∷ ss) more k last e =
    let a = full_set s (flat_map set_entry ss ++ more) k last (rw (append_assoc (set_entry s) (flat_map set_entry ss) more) at e) in
    let b = full_sets ss more k last a.1 in
    ((a.0, b.0), b.1)

full_state : (v : Option RawState) (more : List Lexeme) (k last : List ℕ) → told (state_out v ++ more) (Some k) ≡ Some last → IsFullState v × (told more (Some (state_kind ∷ k)) ≡ Some last)
full_state None more k last e = (tt, e)
full_state (Some v) more k last e =
    let h : told (names_out v.variables ++ (formula_out v.invariant ++ (subst_out v.initialisation ++ Did SOME_STATE ∷ more))) (Some k) ≡ Some last = simp append_assoc at e in
    let i = rw (past (names_out v.variables) (formula_out v.invariant ++ (subst_out v.initialisation ++ Did SOME_STATE ∷ more)) (kind_of no_names names_kind v.variables) (told_names v.variables) k) at h in
    let j = rw (past (formula_out v.invariant) (subst_out v.initialisation ++ Did SOME_STATE ∷ more) formula_kind (told_formula v.invariant) (kind_of no_names names_kind v.variables ∷ k)) at i in
    let a = full_subst v.initialisation (Did SOME_STATE ∷ more) (formula_kind ∷ kind_of no_names names_kind v.variables ∷ k) last j in
    let b = go v.variables a.1 in
    ((b.0, a.0), b.1)
  where
    go : (xs : List RawName) → told (Did SOME_STATE ∷ more) (Some (substitution_kind ∷ formula_kind ∷ kind_of no_names names_kind xs ∷ k)) ≡ Some last → (some xs ≡ true) × (told more (Some (state_kind ∷ k)) ≡ Some last)
    go [] e = no_more more last e
    go (x ∷ xs) e = (some_more x xs, e)

full_operation : (o : RawOperation) (more : List Lexeme) (k last : List ℕ) → told (operation_entry o ++ more) (Some (operations_kind ∷ k)) ≡ Some last → IsFullSubst o.body × (told more (Some (operations_kind ∷ k)) ≡ Some last)
full_operation o more k last e =
    let h : told (names_out o.results ++ Named o.name ∷ (names_out o.parameters ++ (condition_out o.precondition ++ (subst_out o.body ++ Did APPEND_OPERATION ∷ more)))) (Some (operations_kind ∷ k)) ≡ Some last = simp append_assoc at e in
    let r : ℕ = kind_of no_names names_kind o.results in
    let p : ℕ = kind_of no_names names_kind o.parameters in
    let i = rw (past (names_out o.results) (Named o.name ∷ (names_out o.parameters ++ (condition_out o.precondition ++ (subst_out o.body ++ Did APPEND_OPERATION ∷ more)))) r (told_names o.results) (operations_kind ∷ k)) at h in
    let j = rw (past (names_out o.parameters) (condition_out o.precondition ++ (subst_out o.body ++ Did APPEND_OPERATION ∷ more)) p (told_names o.parameters) (word_kind ∷ r ∷ operations_kind ∷ k)) at i in
    let c = rw (past (condition_out o.precondition) (subst_out o.body ++ Did APPEND_OPERATION ∷ more) condition_kind (told_condition o.precondition) (p ∷ word_kind ∷ r ∷ operations_kind ∷ k)) at j in
    let a = full_subst o.body (Did APPEND_OPERATION ∷ more) (condition_kind ∷ p ∷ word_kind ∷ r ∷ operations_kind ∷ k) last c in
    (a.0, go o.results o.parameters a.1)
  where
    go : (xs ys : List RawName) → told (Did APPEND_OPERATION ∷ more) (Some (substitution_kind ∷ condition_kind ∷ kind_of no_names names_kind ys ∷ word_kind ∷ kind_of no_names names_kind xs ∷ operations_kind ∷ k)) ≡ Some last →
        told more (Some (operations_kind ∷ k)) ≡ Some last
    go [] [] e = e
    go [] (y ∷ ys) e = e
    go (x ∷ xs) [] e = e
    go (x ∷ xs) (y ∷ ys) e = e

full_operations : (os : List RawOperation) (more : List Lexeme) (k last : List ℕ) → told (flat_map operation_entry os ++ more) (Some (operations_kind ∷ k)) ≡ Some last → AllOf (λ o. IsFullSubst o.body) os × (told more (Some (operations_kind ∷ k)) ≡ Some last)
full_operations [] more k last e = (tt, e)
full_operations (o ∷ os) more k last e =
    let a = full_operation o (flat_map operation_entry os ++ more) k last (rw (append_assoc (operation_entry o) (flat_map operation_entry os) more) at e) in
    let b = full_operations os more k last a.1 in
    ((a.0, b.0), b.1)

-- ---- a machine

-- the kinds before a machine's end
abbrev before_end : List RawName → List RawName → List RawProperty → List ℕ → List ℕ
before_end sees constants ps k = operations_kind ∷ state_kind ∷ kind_of no_properties properties_kind ps ∷ kind_of no_names names_kind constants ∷ sets_kind ∷ kind_of no_names names_kind sees ∷ word_kind ∷ k

both_some : {X Y : Type 0} (x : X) (xs : List X) (y : Y) (ys : List Y) → some (x ∷ xs) ≡ some (y ∷ ys)
both_some x xs y ys = some_more x xs ∙ sym (some_more y ys)

machine_ends : (sees constants : List RawName) (ps : List RawProperty) (more : List Lexeme) (k last : List ℕ) → told (Did MACHINE ∷ more) (Some (before_end sees constants ps k)) ≡ Some last →
    (some constants ≡ some ps) × (told more (Some (machine_kind ∷ k)) ≡ Some last)
machine_ends [] [] [] more k last e = (refl, e)
machine_ends [] [] (p ∷ ps) more k last e = no_more more last e
machine_ends [] (c ∷ cs) [] more k last e = no_more more last e
machine_ends [] (c ∷ cs) (p ∷ ps) more k last e = (both_some c cs p ps, e)
machine_ends (x ∷ xs) [] [] more k last e = (refl, e)
machine_ends (x ∷ xs) [] (p ∷ ps) more k last e = no_more more last e
machine_ends (x ∷ xs) (c ∷ cs) [] more k last e = no_more more last e
machine_ends (x ∷ xs) (c ∷ cs) (p ∷ ps) more k last e = (both_some c cs p ps, e)

pub full_machine : (m : RawMachine) (more : List Lexeme) (k last : List ℕ) → told (machine_out m ++ more) (Some k) ≡ Some last → IsFull m × (told more (Some (machine_kind ∷ k)) ≡ Some last)
full_machine m more k last e =
    let end : List Lexeme = operations_out m.operations ++ Did MACHINE ∷ more in
    let h : told (names_out m.sees ++ (sets_out m.sets ++ (names_out m.constants ++ (properties_out m.properties ++ (state_out m.state ++ end))))) (Some (word_kind ∷ k)) ≡ Some last = simp append_assoc at e in
    let s : ℕ = kind_of no_names names_kind m.sees in
    let c : ℕ = kind_of no_names names_kind m.constants in
    let p : ℕ = kind_of no_properties properties_kind m.properties in
    let h0 = rw (past (names_out m.sees) (sets_out m.sets ++ (names_out m.constants ++ (properties_out m.properties ++ (state_out m.state ++ end)))) s (told_names m.sees) (word_kind ∷ k)) at h in
    let sets = full_sets m.sets (names_out m.constants ++ (properties_out m.properties ++ (state_out m.state ++ end))) (s ∷ word_kind ∷ k) last h0 in
    let h1 = rw (past (names_out m.constants) (properties_out m.properties ++ (state_out m.state ++ end)) c (told_names m.constants) (sets_kind ∷ s ∷ word_kind ∷ k)) at sets.1 in
    let h2 = rw (past (properties_out m.properties) (state_out m.state ++ end) p (told_properties m.properties) (c ∷ sets_kind ∷ s ∷ word_kind ∷ k)) at h1 in
    let state = full_state m.state end (p ∷ c ∷ sets_kind ∷ s ∷ word_kind ∷ k) last h2 in
    let operations = full_operations m.operations (Did MACHINE ∷ more) (state_kind ∷ p ∷ c ∷ sets_kind ∷ s ∷ word_kind ∷ k) last state.1 in
    let last_act = machine_ends m.sees m.constants m.properties more k last operations.1 in
    (record { sets = sets.0; constants = last_act.0; state = state.0; operations = operations.0 }, last_act.1)

pub machines_full : MachinesAreFull
machines_full p depth opened ts taken front rest m q =
    let f = spelled_follows p _ q.items q.read.whole.spelled in
    let i : told (front ++ machine_out m ++ rest) (Some []) ≡ Some f.0 = subst (λ (ls : List Lexeme). told ls (Some []) ≡ Some f.0) q.told (rw (told_items ts q.items (Some [])) f.1) in
    let j = front_told front (machine_out m ++ rest) [] f.0 (rw (append_assoc front (machine_out m) rest) at i) in
    (full_machine m rest j.0 f.0 j.2).0
