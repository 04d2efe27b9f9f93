-- A chain of less than two operands takes a chain of what was written before it.
use Rattle.std.proofs.Common.{◌≡◌, ℕ, ◌+◌, List, [], ◌∷◌, ◌++◌, refl, append_assoc, arith}
use Rattle.std.specs.Prelude.{Some}
use Rattle.cb_lex.specs.declared.raw.event.RawEvent.{RawEvent}
use Rattle.cb_lex.specs.declared.raw.event.RawEvent.TheVariants as event
use Rattle.cb_lex.specs.declared.raw.name.RawName.{RawName}
use Rattle.cb_lex.specs.RawProcessTree.{RawProcessTree, RawProcesses}
use Rattle.cb_lex.specs.RawProcessTree as tree
use Rattle.cb_lex.specs.RawTermTree.{RawTermTree, RawTerms, raw_terms}
use Rattle.cb_lex.specs.RawTermTree as term
use Rattle.cb_grammar.specs.declared.actions.TheConstants.{FIRST_TWO, APPEND_PROCESS, EXTERNAL, INTERNAL, PROCESS_IF, PREFIX, INPUT, OPERATION_CALL}
use Rattle.cb_grammar.specs.Signatures.{names_kind, condition_kind, event_kind, process_kind, chain_kind, formula_kind, terms_kind}
use Rattle.cb_amn_parse.specs.Lexemes.{Lexeme, Did}
use Rattle.cb_amn_parse.specs.Formulas.{listed_out, formula_out, terms_out}
use Rattle.cb_amn_parse.specs.Processes.{event_out, process_out, operands_out, others_out}
use Rattle.cb_shapes.proofs.Table.{word_kind, no_names}
use Rattle.cb_shapes.proofs.Values.{told, told_append, front_told, Tells, told_term, told_formula, told_condition, kind_of, told_names}
use Rattle.cb_spelled_texts.proofs.Acting.{chains, acted_chains}

-- past what leaves one kind
pub past : (ls more : List Lexeme) (x : ℕ) → Tells ls x → (k : List ℕ) → told (ls ++ more) (Some k) ≡ told more (Some (x ∷ k))
past ls more x t k = rw (told_append ls more (Some k), t k) refl

-- ---- what leaves one kind

told_listed : (ts : RawTerms) (k : List ℕ) → told (listed_out ts) (Some (terms_kind ∷ k)) ≡ Some (terms_kind ∷ k)
told_listed term.End k = refl
told_listed (term.More t ts) k = simp (told_append, told_term t, told_listed ts) refl

pub told_terms : (ts : List RawTermTree) → Tells (terms_out ts) terms_kind
told_terms ts k = told_listed (raw_terms ts) k

told_input : (xs : List RawName) (k : List ℕ) → told (Did INPUT ∷ []) (Some (condition_kind ∷ kind_of no_names names_kind xs ∷ word_kind ∷ k)) ≡ Some (event_kind ∷ k)
told_input [] k = refl
told_input (x ∷ xs) k = refl

told_operation : (xs : List RawName) (k : List ℕ) → told (Did OPERATION_CALL ∷ []) (Some (kind_of no_names names_kind xs ∷ terms_kind ∷ word_kind ∷ word_kind ∷ k)) ≡ Some (event_kind ∷ k)
told_operation [] k = refl
told_operation (x ∷ xs) k = refl

told_event : (e : RawEvent) → Tells (event_out e) event_kind
told_event (event.Output x ts f) k = simp (told_append, told_terms ts, told_condition f) refl
told_event (event.Input x xs f) k = simp (told_append, told_names xs, told_condition f) (told_input xs k)
told_event (event.Operation m o ts xs) k = simp (told_append, told_terms ts, told_names xs) (told_operation xs k)

-- ---- chains of less than two operands

abbrev pub short : RawProcesses → ℕ
short tree.NoOperand = 1
short (tree.Operand p tree.NoOperand) = 1
short (tree.Operand p (tree.Operand q ps)) = 0

abbrev mutual
  pub shorts : RawProcessTree → ℕ
  shorts (tree.Stop p) = 0
  shorts (tree.Skip p) = 0
  shorts (tree.Call c) = 0
  shorts (tree.If p f a b) = shorts a + shorts b
  shorts (tree.Prefix e a) = shorts a
  shorts (tree.External ps) = short ps + shorts_of_each ps
  shorts (tree.Internal ps) = short ps + shorts_of_each ps

  pub shorts_of_each : RawProcesses → ℕ
  shorts_of_each tree.NoOperand = 0
  shorts_of_each (tree.Operand p ps) = shorts p + shorts_of_each ps

mutual
  -- each takes a chain that is there already
  pub shorts_take : (p : RawProcessTree) (k m : List ℕ) → told (process_out p) (Some k) ≡ Some m → chains k ≡ chains m + shorts p
  shorts_take (tree.Stop q) k m e = let h : process_kind ∷ k ≡ m = cc in rw (← h) (omega arith)
  shorts_take (tree.Skip q) k m e = let h : process_kind ∷ k ≡ m = cc in rw (← h) (omega arith)
  shorts_take (tree.Call c) k m e =
      let f : told (process_out (tree.Call c)) (Some k) ≡ Some (process_kind ∷ k) = simp (told_append, told_terms c.arguments) refl in
      let h : process_kind ∷ k ≡ m = cc in
      rw (← h) (omega arith)
  shorts_take (tree.If q f a b) k m e =
      let h : told (formula_out f ++ (process_out a ++ (process_out b ++ Did PROCESS_IF ∷ []))) (Some (word_kind ∷ k)) ≡ Some m = simp append_assoc at e in
      let i = rw (past (formula_out f) (process_out a ++ (process_out b ++ Did PROCESS_IF ∷ [])) formula_kind (told_formula f) (word_kind ∷ k)) at h in
      let x = front_told (process_out a) (process_out b ++ Did PROCESS_IF ∷ []) (formula_kind ∷ word_kind ∷ k) m i in
      let y = front_told (process_out b) (Did PROCESS_IF ∷ []) x.0 m x.2 in
      let s = shorts_take a (formula_kind ∷ word_kind ∷ k) x.0 x.1 in
      let t = shorts_take b x.0 y.0 y.1 in
      let u = acted_chains (process_kind ∷ process_kind ∷ formula_kind ∷ word_kind ∷ []) (process_kind ∷ []) y.0 m y.2 in
      omega (arith, s, t, u)
  shorts_take (tree.Prefix e a) k m q =
      let h : told (event_out e ++ (process_out a ++ Did PREFIX ∷ [])) (Some k) ≡ Some m = simp append_assoc at q in
      let i = rw (past (event_out e) (process_out a ++ Did PREFIX ∷ []) event_kind (told_event e) k) at h in
      let x = front_told (process_out a) (Did PREFIX ∷ []) (event_kind ∷ k) m i in
      let s = shorts_take a (event_kind ∷ k) x.0 x.1 in
      let u = acted_chains (process_kind ∷ event_kind ∷ []) (process_kind ∷ []) x.0 m x.2 in
      omega (arith, s, u)
  shorts_take (tree.External ps) k m e =
      let x = front_told (operands_out ps) (Did EXTERNAL ∷ []) k m e in
      let s = operands_take ps k x.0 x.1 in
      let u = acted_chains (chain_kind ∷ []) (process_kind ∷ []) x.0 m x.2 in
      omega (arith, s, u)
  shorts_take (tree.Internal ps) k m e =
      let x = front_told (operands_out ps) (Did INTERNAL ∷ []) k m e in
      let s = operands_take ps k x.0 x.1 in
      let u = acted_chains (chain_kind ∷ []) (process_kind ∷ []) x.0 m x.2 in
      omega (arith, s, u)

  -- two or more make a chain
  operands_take : (ps : RawProcesses) (k m : List ℕ) → told (operands_out ps) (Some k) ≡ Some m → chains k + 1 ≡ chains m + (short ps + shorts_of_each ps)
  operands_take tree.NoOperand k m e = let h : k ≡ m = cc in rw h (omega arith)
  operands_take (tree.Operand p tree.NoOperand) k m e =
      let x = front_told (process_out p) [] k m e in
      let h : x.0 ≡ m = let f = x.2 in cc in
      let s : chains k ≡ chains m + shorts p = shorts_take p k m (rw h at x.1) in
      omega (arith, s)
  operands_take (tree.Operand p (tree.Operand q ps)) k m e =
      let x = front_told (process_out p) (process_out q ++ (Did FIRST_TWO ∷ others_out ps)) k m e in
      let y = front_told (process_out q) (Did FIRST_TWO ∷ others_out ps) x.0 m x.2 in
      let z = front_told (Did FIRST_TWO ∷ []) (others_out ps) y.0 m y.2 in
      let s = shorts_take p k x.0 x.1 in
      let t = shorts_take q x.0 y.0 y.1 in
      let u = acted_chains (process_kind ∷ process_kind ∷ []) (chain_kind ∷ []) y.0 z.0 z.1 in
      let v = others_take ps z.0 m z.2 in
      omega (arith, s, t, u, v)

  others_take : (ps : RawProcesses) (k m : List ℕ) → told (others_out ps) (Some k) ≡ Some m → chains k ≡ chains m + shorts_of_each ps
  others_take tree.NoOperand k m e = let h : k ≡ m = cc in rw h (omega arith)
  others_take (tree.Operand p ps) k m e =
      let x = front_told (process_out p) (Did APPEND_PROCESS ∷ others_out ps) k m e in
      let z = front_told (Did APPEND_PROCESS ∷ []) (others_out ps) x.0 m x.2 in
      let s = shorts_take p k x.0 x.1 in
      let u = acted_chains (process_kind ∷ chain_kind ∷ []) (chain_kind ∷ []) x.0 z.0 z.1 in
      let v = others_take ps z.0 m z.2 in
      omega (arith, s, u, v)

-- ---- without one a process leaves one kind

pub front_none : (a b : ℕ) → a + b ≡ 0 → a ≡ 0
front_none a b e = omega (arith, e)

pub back_none : (a b : ℕ) → a + b ≡ 0 → b ≡ 0
back_none a b e = omega (arith, e)

mutual
  pub told_process : (p : RawProcessTree) → shorts p ≡ 0 → Tells (process_out p) process_kind
  told_process (tree.Stop q) h k = refl
  told_process (tree.Skip q) h k = refl
  told_process (tree.Call c) h k = simp (told_append, told_terms c.arguments) refl
  told_process (tree.If q f a b) h k =
      simp (told_append, told_formula f, told_process a (front_none (shorts a) (shorts b) h), told_process b (back_none (shorts a) (shorts b) h)) refl
  told_process (tree.Prefix e a) h k = simp (told_append, told_event e, told_process a h) refl
  told_process (tree.External ps) h k = simp (told_append, told_operands ps h) refl
  told_process (tree.Internal ps) h k = simp (told_append, told_operands ps h) refl

  told_operands : (ps : RawProcesses) → short ps + shorts_of_each ps ≡ 0 → Tells (operands_out ps) chain_kind
  told_operands tree.NoOperand h k = absurd (omega (arith, h))
  told_operands (tree.Operand p tree.NoOperand) h k = absurd (omega (arith, h))
  told_operands (tree.Operand p (tree.Operand q ps)) h k =
      let a : shorts p ≡ 0 = omega (arith, h) in
      let b : shorts q ≡ 0 = omega (arith, h) in
      let c : shorts_of_each ps ≡ 0 = omega (arith, h) in
      simp (told_append, told_process p a, told_process q b, told_others ps c) refl

  told_others : (ps : RawProcesses) → shorts_of_each ps ≡ 0 → (k : List ℕ) → told (others_out ps) (Some (chain_kind ∷ k)) ≡ Some (chain_kind ∷ k)
  told_others tree.NoOperand h k = refl
  told_others (tree.Operand p ps) h k =
      simp (told_append, told_process p (front_none (shorts p) (shorts_of_each ps) h), told_others ps (back_none (shorts p) (shorts_of_each ps) h)) refl
