-- The lines as written and the table's pieces spell the same.
use Rattle.std.specs.Prelude.{◌≡◌, ℕ, true, List, [], ◌∷◌, ◌++◌, refl}
use Rattle.std.proofs.Common.{inl, inr, append_assoc}
use Rattle.std.proofs.lemmas.List.{append-nil}
use Rattle.cb_engine.specs.declared.Symbol.{Symbol}
use Rattle.cb_engine.specs.declared.Symbol.TheVariants.{Take, Act, Part}
use Rattle.cb_engine.specs.declared.Terminal.{Terminal}
use Rattle.cb_engine.specs.declared.Item.{Item}
use Rattle.cb_lex.specs.declared.token.Sign.TheVariants as sign
use Rattle.cb_engine.specs.Rules.{Runs}
use Rattle.cb_engine.specs.Tables.{rules_of}
use Rattle.cb_engine.specs.Lines.{alternatives, OneOf, NoThen, Repeated, opened, closed, unfolded, folded}
use Rattle.cb_engine.specs.Splitting.{Split, split, rejoined, behind}
use Rattle.cb_engine.specs.Repeating.{each_with_token, again, part_no_then, repeated_no_then, many, from_many}
use Rattle.cb_grammar.specs.declared.table.TheConstants.{GRAMMAR}
use Rattle.cb_grammar.specs.declared.actions.TheConstants as action
use Rattle.cb_grammar.specs.Classes.{sign_class}
use Rattle.cb_grammar.specs.Numbers as part
use Rattle.cb_grammar.specs.Misreadings.{language}
use Rattle.cb_grammar.specs.Written.{LinesArePlain, IsWritten, beside, SubstitutionLine, and_unit, or_unit, PartLine, FormulaLine, times_factor, divided_factor, mod_factor, ProductLine, plus_product, minus_product, SumLine, external_step, internal_step, ProcessLine}
use Rattle.cb_grammar.specs.Written.SubstitutionLine.{substitution}
use Rattle.cb_grammar.specs.Written.PartLine.{unit, conjunction, disjunction}
use Rattle.cb_grammar.specs.Written.FormulaLine.{plain, implication, equivalence}
use Rattle.cb_grammar.specs.Written.ProductLine.{product}
use Rattle.cb_grammar.specs.Written.SumLine.{sum}
use Rattle.cb_grammar.specs.Written.ProcessLine.{step, external, internal}
use Rattle.cb_grammar.proofs.Fine.{all_alone}

abbrev pub Run : List Symbol → List Terminal → List Item → Type 0
Run k ts out = Runs (rules_of GRAMMAR) true k ts out

abbrev pub Read : (List Symbol → Type 0) → List Symbol → List Terminal → List Item → Type 0
Read Line k ts out = (w : List Symbol) × (Line w × Run (w ++ k) ts out)

-- what holds of a part before any symbols
pub record Means (n : ℕ) (Line : List Symbol → Type 0) : Type 0 where
  pub reads : (k : List Symbol) (ts : List Terminal) (out : List Item) → Run (Part n ∷ k) ts out → Read Line k ts out
  pub spells : (w : List Symbol) → Line w → (k : List Symbol) → NoThen k → (ts : List Terminal) (out : List Item) → Run (w ++ k) ts out → Run (Part n ∷ k) ts out

nothing_no_then : NoThen []
nothing_no_then a b j e = absurd (cc)

pub written : (n : ℕ) (Line : List Symbol → Type 0) → Means n Line → IsWritten n Line
unfolding language
written n Line q ts out = (λ m. let r = q.reads [] ts out m in (r.0, (r.1.0, simp append-nil at r.1.1)), λ r. q.spells r.0 r.1.0 [] nothing_no_then ts out (rw append-nil r.1.1))

-- a part of pieces, behind other symbols
module _ (n : ℕ) (ws : List (List Symbol)) (t : each_with_token ws ≡ true) (e : alternatives GRAMMAR n ≡ again n ws) where
  pub many_behind : (u k : List Symbol) (ts : List Terminal) (out : List Item) → Run (u ++ (Part n ∷ k)) ts out → (x : List Symbol) × (Repeated ws x × Run (u ++ (x ++ k)) ts out)
  many_behind u k ts out m =
      let s = split m u (Part n ∷ k) (part_no_then n k) refl in
      let q = many GRAMMAR all_alone n ws t e k s.back s.late s.rest in
      (q.0, (q.1.0, rejoined s (q.0 ++ k) q.1.1))

  pub behind_many : (u k : List Symbol) → NoThen k → (x : List Symbol) → Repeated ws x → (ts : List Terminal) (out : List Item) → Run (u ++ (x ++ k)) ts out → Run (u ++ (Part n ∷ k)) ts out
  behind_many u k free x q ts out m = behind u (x ++ k) (Part n ∷ k) (repeated_no_then ws t q k free) (λ us o r. from_many GRAMMAR all_alone n ws t e q k free us o r) ts out m

-- a head and then pieces
module _ (n head tail : ℕ) (ws : List (List Symbol)) (Line : List Symbol → Type 0) (t : each_with_token ws ≡ true) (e : alternatives GRAMMAR n ≡ (Part head ∷ Part tail ∷ []) ∷ []) (f : alternatives GRAMMAR tail ≡ again tail ws)
    (make : (x : List Symbol) → Repeated ws x → Line (Part head ∷ x)) (made : (w : List Symbol) → Line w → (x : List Symbol) × (Repeated ws x × w ≡ Part head ∷ x)) where
  chain : Means n Line
  chain = record {
    reads = λ k ts out m. reads_of k ts out (opened GRAMMAR all_alone n _ e k ts out m);
    spells = λ w l k free ts out m. spells_of w k free ts out (made w l) m;
  }
    where
      reads_of : (k : List Symbol) (ts : List Terminal) (out : List Item) → OneOf (λ a. Run (a ++ k) ts out) ((Part head ∷ Part tail ∷ []) ∷ []) → Read Line k ts out
      reads_of k ts out (inl m) = let q = many_behind tail ws t f (Part head ∷ []) k ts out m in (Part head ∷ q.0, (make q.0 q.1.0, q.1.1))
      reads_of k ts out (inr m) = absurd m

      spells_of : (w k : List Symbol) → NoThen k → (ts : List Terminal) (out : List Item) → ((x : List Symbol) × (Repeated ws x × w ≡ Part head ∷ x)) → Run (w ++ k) ts out → Run (Part n ∷ k) ts out
      spells_of w k free ts out r m =
          let p : Run (Part head ∷ (r.0 ++ k)) ts out = rw r.1.1 at m in
          closed GRAMMAR all_alone n _ e k ts out (inl (behind_many tail ws t f (Part head ∷ []) k free r.0 r.1.0 ts out p))

pub substitution_means : Means part.substitution SubstitutionLine
substitution_means = chain part.substitution part.simple part.substitution_1 (beside ∷ []) SubstitutionLine refl refl refl substitution made
  where
    made : (w : List Symbol) → SubstitutionLine w → (x : List Symbol) × (Repeated (beside ∷ []) x × w ≡ Part part.simple ∷ x)
    made w (substitution x q) = (x, (q, refl))

pub product_means : Means part.product ProductLine
product_means = chain part.product part.factor part.product_tail (times_factor ∷ divided_factor ∷ mod_factor ∷ []) ProductLine refl refl refl product made
  where
    made : (w : List Symbol) → ProductLine w → (x : List Symbol) × (Repeated (times_factor ∷ divided_factor ∷ mod_factor ∷ []) x × w ≡ Part part.factor ∷ x)
    made w (product x q) = (x, (q, refl))

pub sum_means : Means part.sum SumLine
sum_means = chain part.sum part.product part.sum_tail (plus_product ∷ minus_product ∷ []) SumLine refl refl refl sum made
  where
    made : (w : List Symbol) → SumLine w → (x : List Symbol) × (Repeated (plus_product ∷ minus_product ∷ []) x × w ≡ Part part.product ∷ x)
    made w (sum x q) = (x, (q, refl))

-- part

part_lines : alternatives GRAMMAR part.part ≡ (Part part.unit ∷ Part part.part_tail ∷ []) ∷ []
part_lines = refl

part_tail_lines : alternatives GRAMMAR part.part_tail ≡ (and_unit ++ Part part.and_tail ∷ []) ∷ (or_unit ++ Part part.or_tail ∷ []) ∷ [] ∷ []
part_tail_lines = refl

part_reads : (k : List Symbol) (ts : List Terminal) (out : List Item) → Run (Part part.part ∷ k) ts out → Read PartLine k ts out
part_reads k ts out m = first (opened GRAMMAR all_alone part.part _ part_lines k ts out m)
  where
    tail : (s : Split (rules_of GRAMMAR) (Part part.unit ∷ []) (Part part.part_tail ∷ k) ts out) → OneOf (λ a. Run (a ++ k) s.back s.late) ((and_unit ++ Part part.and_tail ∷ []) ∷ (or_unit ++ Part part.or_tail ∷ []) ∷ [] ∷ []) → Read PartLine k ts out
    tail s (inl p) =
        let q = many_behind part.and_tail (and_unit ∷ []) refl refl and_unit k s.back s.late p in
        (Part part.unit ∷ and_unit ++ q.0, (conjunction q.0 q.1.0, rejoined s (and_unit ++ (q.0 ++ k)) q.1.1))
    tail s (inr (inl p)) =
        let q = many_behind part.or_tail (or_unit ∷ []) refl refl or_unit k s.back s.late p in
        (Part part.unit ∷ or_unit ++ q.0, (disjunction q.0 q.1.0, rejoined s (or_unit ++ (q.0 ++ k)) q.1.1))
    tail s (inr (inr (inl p))) = (Part part.unit ∷ [], (unit, rejoined s k p))
    tail s (inr (inr (inr p))) = absurd p

    first : OneOf (λ a. Run (a ++ k) ts out) ((Part part.unit ∷ Part part.part_tail ∷ []) ∷ []) → Read PartLine k ts out
    first (inl p) =
        let s = split p (Part part.unit ∷ []) (Part part.part_tail ∷ k) (part_no_then part.part_tail k) refl in
        tail s (opened GRAMMAR all_alone part.part_tail _ part_tail_lines k s.back s.late s.rest)
    first (inr p) = absurd p

-- behind a unit
part_of : (k : List Symbol) (ts : List Terminal) (out : List Item) → Run (Part part.unit ∷ Part part.part_tail ∷ k) ts out → Run (Part part.part ∷ k) ts out
part_of k ts out m = closed GRAMMAR all_alone part.part _ part_lines k ts out (inl m)

part_spells : (w : List Symbol) → PartLine w → (k : List Symbol) → NoThen k → (ts : List Terminal) (out : List Item) → Run (w ++ k) ts out → Run (Part part.part ∷ k) ts out
part_spells w unit k free ts out m =
    part_of k ts out (behind (Part part.unit ∷ []) k (Part part.part_tail ∷ k) free (λ us o p. closed GRAMMAR all_alone part.part_tail _ part_tail_lines k us o (inr (inr (inl p)))) ts out m)
part_spells w (conjunction x q) k free ts out m =
    part_of k ts out (behind (Part part.unit ∷ []) (and_unit ++ (x ++ k)) (Part part.part_tail ∷ k) (λ a b j e. absurd (cc)) (λ us o p. closed GRAMMAR all_alone part.part_tail _ part_tail_lines k us o (inl (behind_many part.and_tail (and_unit ∷ []) refl refl and_unit k free x q us o p))) ts out m)
part_spells w (disjunction x q) k free ts out m =
    part_of k ts out (behind (Part part.unit ∷ []) (or_unit ++ (x ++ k)) (Part part.part_tail ∷ k) (λ a b j e. absurd (cc)) (λ us o p. closed GRAMMAR all_alone part.part_tail _ part_tail_lines k us o (inr (inl (behind_many part.or_tail (or_unit ∷ []) refl refl or_unit k free x q us o p)))) ts out m)

pub part_means : Means part.part PartLine
part_means = record { reads = part_reads; spells = part_spells }

-- formula

formula_lines : alternatives GRAMMAR part.formula ≡ (Part part.unit ∷ Part part.formula_tail ∷ []) ∷ []
formula_lines = refl

abbrev implied : List Symbol
implied = Take (sign_class sign.Implies) ∷ Part part.part ∷ Act action.IMPLIES ∷ []

abbrev equal_unit : List Symbol
equal_unit = Take (sign_class sign.Equivalent) ∷ Part part.unit ∷ Act action.EQUIVALENT ∷ []

abbrev formula_tails : List (List Symbol)
formula_tails = (and_unit ++ Part part.and_tail ∷ Part part.implies_tail ∷ []) ∷ (or_unit ++ Part part.or_tail ∷ Part part.implies_tail ∷ []) ∷ implied ∷ equal_unit ∷ [] ∷ []

formula_tail_lines : alternatives GRAMMAR part.formula_tail ≡ formula_tails
formula_tail_lines = refl

implies_tail_lines : alternatives GRAMMAR part.implies_tail ≡ implied ∷ [] ∷ []
implies_tail_lines = refl

-- a formula is a part, with what may come behind it
as_line : (k : List Symbol) (ts : List Terminal) (out : List Item) → OneOf (λ a. Run (Part part.part ∷ (a ++ k)) ts out) (implied ∷ [] ∷ []) → Read FormulaLine k ts out
as_line k ts out (inl m) = (Part part.part ∷ implied, (implication, m))
as_line k ts out (inr (inl m)) = (Part part.part ∷ [], (plain, m))
as_line k ts out (inr (inr m)) = absurd m

formula_reads : (k : List Symbol) (ts : List Terminal) (out : List Item) → Run (Part part.formula ∷ k) ts out → Read FormulaLine k ts out
formula_reads k ts out m = first (opened GRAMMAR all_alone part.formula _ formula_lines k ts out m)
  where
    -- a chain and what comes behind it
    chained : (s : Split (rules_of GRAMMAR) (Part part.unit ∷ []) (Part part.formula_tail ∷ k) ts out) (u : List Symbol) →
        ((j : List Symbol) (us : List Terminal) (o : List Item) → Run (u ++ j) us o → Run (Part part.part_tail ∷ j) us o) → Run (u ++ (Part part.implies_tail ∷ k)) s.back s.late → Read FormulaLine k ts out
    chained s u fold p = behind_it (opened GRAMMAR all_alone part.implies_tail _ implies_tail_lines k q.back q.late q.rest)
      where
        q : Split (rules_of GRAMMAR) u (Part part.implies_tail ∷ k) s.back s.late
        q = split p u (Part part.implies_tail ∷ k) (part_no_then part.implies_tail k) refl

        whole : (j : List Symbol) → Run j q.back q.late → Run (Part part.part ∷ j) ts out
        whole j r = part_of j ts out (rejoined s (Part part.part_tail ∷ j) (fold j s.back s.late (rejoined q j r)))

        behind_it : OneOf (λ a. Run (a ++ k) q.back q.late) (implied ∷ [] ∷ []) → Read FormulaLine k ts out
        behind_it (inl r) = as_line k ts out (inl (whole (implied ++ k) r))
        behind_it (inr (inl r)) = as_line k ts out (inr (inl (whole k r)))
        behind_it (inr (inr r)) = absurd r

    -- nothing but a unit
    alone_of : (s : Split (rules_of GRAMMAR) (Part part.unit ∷ []) (Part part.formula_tail ∷ k) ts out) (j : List Symbol) → Run j s.back s.late → Run (Part part.part ∷ j) ts out
    alone_of s j r = part_of j ts out (rejoined s (Part part.part_tail ∷ j) (closed GRAMMAR all_alone part.part_tail _ part_tail_lines j s.back s.late (inr (inr (inl r)))))

    tail : (s : Split (rules_of GRAMMAR) (Part part.unit ∷ []) (Part part.formula_tail ∷ k) ts out) → OneOf (λ a. Run (a ++ k) s.back s.late) formula_tails → Read FormulaLine k ts out
    tail s (inl p) = chained s (and_unit ++ Part part.and_tail ∷ []) (λ j us o r. closed GRAMMAR all_alone part.part_tail _ part_tail_lines j us o (inl r)) p
    tail s (inr (inl p)) = chained s (or_unit ++ Part part.or_tail ∷ []) (λ j us o r. closed GRAMMAR all_alone part.part_tail _ part_tail_lines j us o (inr (inl r))) p
    tail s (inr (inr (inl p))) = as_line k ts out (inl (alone_of s (implied ++ k) p))
    tail s (inr (inr (inr (inl p)))) = (Part part.unit ∷ equal_unit, (equivalence, rejoined s (equal_unit ++ k) p))
    tail s (inr (inr (inr (inr (inl p))))) = as_line k ts out (inr (inl (alone_of s k p)))
    tail s (inr (inr (inr (inr (inr p))))) = absurd p

    first : OneOf (λ a. Run (a ++ k) ts out) ((Part part.unit ∷ Part part.formula_tail ∷ []) ∷ []) → Read FormulaLine k ts out
    first (inl p) =
        let s = split p (Part part.unit ∷ []) (Part part.formula_tail ∷ k) (part_no_then part.formula_tail k) refl in
        tail s (opened GRAMMAR all_alone part.formula_tail _ formula_tail_lines k s.back s.late s.rest)
    first (inr p) = absurd p

formula_of : (k : List Symbol) (ts : List Terminal) (out : List Item) → Run (Part part.unit ∷ Part part.formula_tail ∷ k) ts out → Run (Part part.formula ∷ k) ts out
formula_of k ts out m = closed GRAMMAR all_alone part.formula _ formula_lines k ts out (inl m)

-- a part with j behind it is a formula before k, where a tail of implications and one of formulas take j
from_part : (j k : List Symbol) → NoThen j → ((us : List Terminal) (o : List Item) → Run j us o → Run (Part part.implies_tail ∷ k) us o) → ((us : List Terminal) (o : List Item) → Run j us o → Run (Part part.formula_tail ∷ k) us o) →
    (ts : List Terminal) (out : List Item) → Run (Part part.part ∷ j) ts out → Run (Part part.formula ∷ k) ts out
from_part j k free short long ts out m = first (opened GRAMMAR all_alone part.part _ part_lines j ts out m)
  where
    tail : (us : List Terminal) (o : List Item) → OneOf (λ a. Run (a ++ j) us o) ((and_unit ++ Part part.and_tail ∷ []) ∷ (or_unit ++ Part part.or_tail ∷ []) ∷ [] ∷ []) → Run (Part part.formula_tail ∷ k) us o
    tail us o (inl p) = closed GRAMMAR all_alone part.formula_tail _ formula_tail_lines k us o (inl (behind (and_unit ++ Part part.and_tail ∷ []) j (Part part.implies_tail ∷ k) free short us o p))
    tail us o (inr (inl p)) = closed GRAMMAR all_alone part.formula_tail _ formula_tail_lines k us o (inr (inl (behind (or_unit ++ Part part.or_tail ∷ []) j (Part part.implies_tail ∷ k) free short us o p)))
    tail us o (inr (inr (inl p))) = long us o p
    tail us o (inr (inr (inr p))) = absurd p

    first : OneOf (λ a. Run (a ++ j) ts out) ((Part part.unit ∷ Part part.part_tail ∷ []) ∷ []) → Run (Part part.formula ∷ k) ts out
    first (inl p) = formula_of k ts out (behind (Part part.unit ∷ []) (Part part.part_tail ∷ j) (Part part.formula_tail ∷ k) (part_no_then part.part_tail j) (λ us o r. tail us o (opened GRAMMAR all_alone part.part_tail _ part_tail_lines j us o r)) ts out p)
    first (inr p) = absurd p

formula_spells : (w : List Symbol) → FormulaLine w → (k : List Symbol) → NoThen k → (ts : List Terminal) (out : List Item) → Run (w ++ k) ts out → Run (Part part.formula ∷ k) ts out
formula_spells w plain k free ts out m =
    from_part k k free (λ us o r. closed GRAMMAR all_alone part.implies_tail _ implies_tail_lines k us o (inr (inl r))) (λ us o r. closed GRAMMAR all_alone part.formula_tail _ formula_tail_lines k us o (inr (inr (inr (inr (inl r)))))) ts out m
formula_spells w implication k free ts out m =
    from_part (implied ++ k) k (λ a b j e. absurd (cc)) (λ us o r. closed GRAMMAR all_alone part.implies_tail _ implies_tail_lines k us o (inl r)) (λ us o r. closed GRAMMAR all_alone part.formula_tail _ formula_tail_lines k us o (inr (inr (inl r)))) ts out m
formula_spells w equivalence k free ts out m =
    formula_of k ts out (behind (Part part.unit ∷ []) (equal_unit ++ k) (Part part.formula_tail ∷ k) (λ a b j e. absurd (cc)) (λ us o r. closed GRAMMAR all_alone part.formula_tail _ formula_tail_lines k us o (inr (inr (inr (inl r))))) ts out m)

pub formula_means : Means part.formula FormulaLine
formula_means = record { reads = formula_reads; spells = formula_spells }

-- process

process_lines : alternatives GRAMMAR part.process ≡ (Part part.step ∷ Part part.process_tail ∷ []) ∷ []
process_lines = refl

abbrev two_external : List Symbol
two_external = Take (sign_class sign.ExternalChoice) ∷ Part part.step ∷ Act action.FIRST_TWO ∷ []

abbrev two_internal : List Symbol
two_internal = Take (sign_class sign.InternalChoice) ∷ Part part.step ∷ Act action.FIRST_TWO ∷ []

abbrev process_tails : List (List Symbol)
process_tails = (two_external ++ Part part.more_external ∷ Act action.EXTERNAL ∷ []) ∷ (two_internal ++ Part part.more_internal ∷ Act action.INTERNAL ∷ []) ∷ [] ∷ []

process_tail_lines : alternatives GRAMMAR part.process_tail ≡ process_tails
process_tail_lines = refl

process_reads : (k : List Symbol) (ts : List Terminal) (out : List Item) → Run (Part part.process ∷ k) ts out → Read ProcessLine k ts out
process_reads k ts out m = first (opened GRAMMAR all_alone part.process _ process_lines k ts out m)
  where
    tail : (s : Split (rules_of GRAMMAR) (Part part.step ∷ []) (Part part.process_tail ∷ k) ts out) → OneOf (λ a. Run (a ++ k) s.back s.late) process_tails → Read ProcessLine k ts out
    tail s (inl p) =
        let q = many_behind part.more_external (external_step ∷ []) refl refl two_external (Act action.EXTERNAL ∷ k) s.back s.late p in
        (Part part.step ∷ two_external ++ (q.0 ++ Act action.EXTERNAL ∷ []), (external q.0 q.1.0, rw (append_assoc q.0 (Act action.EXTERNAL ∷ []) k) (rejoined s (two_external ++ (q.0 ++ (Act action.EXTERNAL ∷ k))) q.1.1)))
    tail s (inr (inl p)) =
        let q = many_behind part.more_internal (internal_step ∷ []) refl refl two_internal (Act action.INTERNAL ∷ k) s.back s.late p in
        (Part part.step ∷ two_internal ++ (q.0 ++ Act action.INTERNAL ∷ []), (internal q.0 q.1.0, rw (append_assoc q.0 (Act action.INTERNAL ∷ []) k) (rejoined s (two_internal ++ (q.0 ++ (Act action.INTERNAL ∷ k))) q.1.1)))
    tail s (inr (inr (inl p))) = (Part part.step ∷ [], (step, rejoined s k p))
    tail s (inr (inr (inr p))) = absurd p

    first : OneOf (λ a. Run (a ++ k) ts out) ((Part part.step ∷ Part part.process_tail ∷ []) ∷ []) → Read ProcessLine k ts out
    first (inl p) =
        let s = split p (Part part.step ∷ []) (Part part.process_tail ∷ k) (part_no_then part.process_tail k) refl in
        tail s (opened GRAMMAR all_alone part.process_tail _ process_tail_lines k s.back s.late s.rest)
    first (inr p) = absurd p

process_of : (j k : List Symbol) → NoThen j → ((us : List Terminal) (o : List Item) → Run j us o → Run (Part part.process_tail ∷ k) us o) → (ts : List Terminal) (out : List Item) → Run (Part part.step ∷ j) ts out → Run (Part part.process ∷ k) ts out
process_of j k free fold ts out m = closed GRAMMAR all_alone part.process _ process_lines k ts out (inl (behind (Part part.step ∷ []) j (Part part.process_tail ∷ k) free fold ts out m))

act_no_then : (a : ℕ) (k : List Symbol) → NoThen (Act a ∷ k)
act_no_then a k = λ b c j e. absurd (cc)

process_spells : (w : List Symbol) → ProcessLine w → (k : List Symbol) → NoThen k → (ts : List Terminal) (out : List Item) → Run (w ++ k) ts out → Run (Part part.process ∷ k) ts out
process_spells w step k free ts out m = process_of k k free (λ us o p. closed GRAMMAR all_alone part.process_tail _ process_tail_lines k us o (inr (inr (inl p)))) ts out m
process_spells w (external x q) k free ts out m =
    process_of (two_external ++ (x ++ (Act action.EXTERNAL ∷ k))) k (λ a b j e. absurd (cc)) (λ us o p. closed GRAMMAR all_alone part.process_tail _ process_tail_lines k us o (inl (behind_many part.more_external (external_step ∷ []) refl refl two_external (Act action.EXTERNAL ∷ k) (act_no_then action.EXTERNAL k) x q us o p))) ts out
    (rw (append_assoc x (Act action.EXTERNAL ∷ []) k) at m)
process_spells w (internal x q) k free ts out m =
    process_of (two_internal ++ (x ++ (Act action.INTERNAL ∷ k))) k (λ a b j e. absurd (cc)) (λ us o p. closed GRAMMAR all_alone part.process_tail _ process_tail_lines k us o (inr (inl (behind_many part.more_internal (internal_step ∷ []) refl refl two_internal (Act action.INTERNAL ∷ k) (act_no_then action.INTERNAL k) x q us o p)))) ts out
    (rw (append_assoc x (Act action.INTERNAL ∷ []) k) at m)

pub process_means : Means part.process ProcessLine
process_means = record { reads = process_reads; spells = process_spells }

-- every part
pub lines_are_plain : LinesArePlain
unfolding language
lines_are_plain n k ts out = (λ m. unfolded GRAMMAR all_alone m n k refl, λ o. folded GRAMMAR all_alone n k ts out o)
