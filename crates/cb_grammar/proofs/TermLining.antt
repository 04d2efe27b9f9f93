-- The line of terms as written and the table's pieces spell the same.
use Rattle.std.specs.Prelude.{◌≡◌, List, [], ◌∷◌, ◌++◌, refl}
use Rattle.std.proofs.Common.{inl, inr}
use Rattle.cb_engine.specs.declared.Symbol.{Symbol}
use Rattle.cb_engine.specs.declared.Symbol.TheVariants.{Part}
use Rattle.cb_engine.specs.declared.Terminal.{Terminal}
use Rattle.cb_engine.specs.declared.Item.{Item}
use Rattle.cb_engine.specs.Tables.{rules_of}
use Rattle.cb_engine.specs.Lines.{alternatives, OneOf, NoThen, opened, closed}
use Rattle.cb_engine.specs.Splitting.{Split, split, rejoined, behind}
use Rattle.cb_engine.specs.Repeating.{part_no_then}
use Rattle.cb_grammar.specs.declared.table.TheConstants.{GRAMMAR}
use Rattle.cb_grammar.specs.Numbers as part
use Rattle.cb_grammar.specs.Written.{times_factor, divided_factor, mod_factor, plus_product, minus_product, to_sum, union_factor, intersection_factor, TermLine}
use Rattle.cb_grammar.specs.Written.TermLine.{sum, range, union, intersection}
use Rattle.cb_grammar.proofs.Fine.{all_alone}
use Rattle.cb_grammar.proofs.Lining.{Run, Read, Means, many_behind, behind_many}

term_lines : alternatives GRAMMAR part.term ≡ (Part part.factor ∷ Part part.term_tail ∷ []) ∷ []
term_lines = refl

sum_lines : alternatives GRAMMAR part.sum ≡ (Part part.product ∷ Part part.sum_tail ∷ []) ∷ []
sum_lines = refl

product_lines : alternatives GRAMMAR part.product ≡ (Part part.factor ∷ Part part.product_tail ∷ []) ∷ []
product_lines = refl

abbrev of_product : List Symbol
of_product = Part part.product_tail ∷ Part part.sum_tail ∷ []

abbrev product_tails : List (List Symbol)
product_tails = (times_factor ++ Part part.product_tail ∷ []) ∷ (divided_factor ++ Part part.product_tail ∷ []) ∷ (mod_factor ++ Part part.product_tail ∷ []) ∷ [] ∷ []

abbrev sum_tails : List (List Symbol)
sum_tails = (plus_product ++ Part part.sum_tail ∷ []) ∷ (minus_product ++ Part part.sum_tail ∷ []) ∷ [] ∷ []

abbrev term_tails : List (List Symbol)
term_tails =
    to_sum ∷ (union_factor ++ Part part.union_tail ∷ []) ∷ (intersection_factor ++ Part part.intersection_tail ∷ []) ∷
    (times_factor ++ of_product ++ Part part.range_tail ∷ []) ∷ (divided_factor ++ of_product ++ Part part.range_tail ∷ []) ∷ (mod_factor ++ of_product ++ Part part.range_tail ∷ []) ∷
    (plus_product ++ Part part.sum_tail ∷ Part part.range_tail ∷ []) ∷ (minus_product ++ Part part.sum_tail ∷ Part part.range_tail ∷ []) ∷ [] ∷ []

product_tail_lines : alternatives GRAMMAR part.product_tail ≡ product_tails
product_tail_lines = refl

sum_tail_lines : alternatives GRAMMAR part.sum_tail ≡ sum_tails
sum_tail_lines = refl

term_tail_lines : alternatives GRAMMAR part.term_tail ≡ term_tails
term_tail_lines = refl

range_tail_lines : alternatives GRAMMAR part.range_tail ≡ to_sum ∷ [] ∷ []
range_tail_lines = refl

-- a sum from its pieces
sum_of : (j : List Symbol) (ts : List Terminal) (out : List Item) → Run (Part part.factor ∷ (of_product ++ j)) ts out → Run (Part part.sum ∷ j) ts out
sum_of j ts out m =
    closed GRAMMAR all_alone part.sum _ sum_lines j ts out (inl (closed GRAMMAR all_alone part.product _ product_lines (Part part.sum_tail ∷ j) ts out (inl m)))

no_product : (j : List Symbol) (ts : List Terminal) (out : List Item) → Run (Part part.sum_tail ∷ j) ts out → Run (of_product ++ j) ts out
no_product j ts out m = closed GRAMMAR all_alone part.product_tail _ product_tail_lines (Part part.sum_tail ∷ j) ts out (inr (inr (inr (inl m))))

no_sum : (j : List Symbol) (ts : List Terminal) (out : List Item) → Run j ts out → Run (of_product ++ j) ts out
no_sum j ts out m = no_product j ts out (closed GRAMMAR all_alone part.sum_tail _ sum_tail_lines j ts out (inr (inr (inl m))))

-- a term is a sum, with what may come behind it
as_line : (k : List Symbol) (ts : List Terminal) (out : List Item) → OneOf (λ a. Run (Part part.sum ∷ (a ++ k)) ts out) (to_sum ∷ [] ∷ []) → Read TermLine k ts out
as_line k ts out (inl m) = (Part part.sum ∷ to_sum, (range, m))
as_line k ts out (inr (inl m)) = (Part part.sum ∷ [], (sum, m))
as_line k ts out (inr (inr m)) = absurd m

term_reads : (k : List Symbol) (ts : List Terminal) (out : List Item) → Run (Part part.term ∷ k) ts out → Read TermLine k ts out
term_reads k ts out m = first (opened GRAMMAR all_alone part.term _ term_lines k ts out m)
  where
    summed : (s : Split (rules_of GRAMMAR) (Part part.factor ∷ []) (Part part.term_tail ∷ k) ts out) (j : List Symbol) → Run (of_product ++ j) s.back s.late → Run (Part part.sum ∷ j) ts out
    summed s j r = sum_of j ts out (rejoined s (of_product ++ j) r)

    chained : (s : Split (rules_of GRAMMAR) (Part part.factor ∷ []) (Part part.term_tail ∷ k) ts out) (u : List Symbol) →
        ((j : List Symbol) (us : List Terminal) (o : List Item) → Run (u ++ j) us o → Run (of_product ++ j) us o) → Run (u ++ (Part part.range_tail ∷ k)) s.back s.late → Read TermLine k ts out
    chained s u fold p = behind_it (opened GRAMMAR all_alone part.range_tail _ range_tail_lines k q.back q.late q.rest)
      where
        q : Split (rules_of GRAMMAR) u (Part part.range_tail ∷ k) s.back s.late
        q = split p u (Part part.range_tail ∷ k) (part_no_then part.range_tail k) refl

        behind_it : OneOf (λ a. Run (a ++ k) q.back q.late) (to_sum ∷ [] ∷ []) → Read TermLine k ts out
        behind_it (inl r) = as_line k ts out (inl (summed s (to_sum ++ k) (fold (to_sum ++ k) s.back s.late (rejoined q (to_sum ++ k) r))))
        behind_it (inr (inl r)) = as_line k ts out (inr (inl (summed s k (fold k s.back s.late (rejoined q k r)))))
        behind_it (inr (inr r)) = absurd r

    tail : (s : Split (rules_of GRAMMAR) (Part part.factor ∷ []) (Part part.term_tail ∷ k) ts out) → OneOf (λ a. Run (a ++ k) s.back s.late) term_tails → Read TermLine k ts out
    tail s (inl p) = as_line k ts out (inl (summed s (to_sum ++ k) (no_sum (to_sum ++ k) s.back s.late p)))
    tail s (inr (inl p)) =
        let q = many_behind part.union_tail (union_factor ∷ []) refl refl union_factor k s.back s.late p in
        (Part part.factor ∷ union_factor ++ q.0, (union q.0 q.1.0, rejoined s (union_factor ++ (q.0 ++ k)) q.1.1))
    tail s (inr (inr (inl p))) =
        let q = many_behind part.intersection_tail (intersection_factor ∷ []) refl refl intersection_factor k s.back s.late p in
        (Part part.factor ∷ intersection_factor ++ q.0, (intersection q.0 q.1.0, rejoined s (intersection_factor ++ (q.0 ++ k)) q.1.1))
    tail s (inr (inr (inr (inl p)))) =
        chained s (times_factor ++ of_product) (λ j us o r. closed GRAMMAR all_alone part.product_tail _ product_tail_lines (Part part.sum_tail ∷ j) us o (inl r)) p
    tail s (inr (inr (inr (inr (inl p))))) =
        chained s (divided_factor ++ of_product) (λ j us o r. closed GRAMMAR all_alone part.product_tail _ product_tail_lines (Part part.sum_tail ∷ j) us o (inr (inl r))) p
    tail s (inr (inr (inr (inr (inr (inl p)))))) =
        chained s (mod_factor ++ of_product) (λ j us o r. closed GRAMMAR all_alone part.product_tail _ product_tail_lines (Part part.sum_tail ∷ j) us o (inr (inr (inl r)))) p
    tail s (inr (inr (inr (inr (inr (inr (inl p))))))) =
        chained s (plus_product ++ Part part.sum_tail ∷ []) (λ j us o r. no_product j us o (closed GRAMMAR all_alone part.sum_tail _ sum_tail_lines j us o (inl r))) p
    tail s (inr (inr (inr (inr (inr (inr (inr (inl p)))))))) =
        chained s (minus_product ++ Part part.sum_tail ∷ []) (λ j us o r. no_product j us o (closed GRAMMAR all_alone part.sum_tail _ sum_tail_lines j us o (inr (inl r)))) p
    tail s (inr (inr (inr (inr (inr (inr (inr (inr (inl p))))))))) = as_line k ts out (inr (inl (summed s k (no_sum k s.back s.late p))))
    tail s (inr (inr (inr (inr (inr (inr (inr (inr (inr p))))))))) = absurd p

    first : OneOf (λ a. Run (a ++ k) ts out) ((Part part.factor ∷ Part part.term_tail ∷ []) ∷ []) → Read TermLine k ts out
    first (inl p) =
        let s = split p (Part part.factor ∷ []) (Part part.term_tail ∷ k) (part_no_then part.term_tail k) refl in
        tail s (opened GRAMMAR all_alone part.term_tail _ term_tail_lines k s.back s.late s.rest)
    first (inr p) = absurd p

-- behind a factor
term_of : (j k : List Symbol) → NoThen j → ((us : List Terminal) (o : List Item) → Run j us o → Run (Part part.term_tail ∷ k) us o) → (ts : List Terminal) (out : List Item) → Run (Part part.factor ∷ j) ts out → Run (Part part.term ∷ k) ts out
term_of j k free fold ts out m = closed GRAMMAR all_alone part.term _ term_lines k ts out (inl (behind (Part part.factor ∷ []) j (Part part.term_tail ∷ k) free fold ts out m))

tail_of : (k : List Symbol) (ts : List Terminal) (out : List Item) → OneOf (λ a. Run (a ++ k) ts out) term_tails → Run (Part part.term_tail ∷ k) ts out
tail_of k ts out o = closed GRAMMAR all_alone part.term_tail _ term_tail_lines k ts out o

-- a sum with j behind it is a term before k, where a tail of ranges and one of terms take j
from_sum : (j k : List Symbol) → NoThen j → ((us : List Terminal) (o : List Item) → Run j us o → Run (Part part.range_tail ∷ k) us o) → ((us : List Terminal) (o : List Item) → Run j us o → Run (Part part.term_tail ∷ k) us o) →
    (ts : List Terminal) (out : List Item) → Run (Part part.sum ∷ j) ts out → Run (Part part.term ∷ k) ts out
from_sum j k free short long ts out m = first (opened GRAMMAR all_alone part.sum _ sum_lines j ts out m)
  where
    plus : (us : List Terminal) (o : List Item) → OneOf (λ a. Run (a ++ j) us o) sum_tails → Run (Part part.term_tail ∷ k) us o
    plus us o (inl p) = tail_of k us o (inr (inr (inr (inr (inr (inr (inl (behind (plus_product ++ Part part.sum_tail ∷ []) j (Part part.range_tail ∷ k) free short us o p))))))))
    plus us o (inr (inl p)) = tail_of k us o (inr (inr (inr (inr (inr (inr (inr (inl (behind (minus_product ++ Part part.sum_tail ∷ []) j (Part part.range_tail ∷ k) free short us o p)))))))))
    plus us o (inr (inr (inl p))) = long us o p
    plus us o (inr (inr (inr p))) = absurd p

    times : (us : List Terminal) (o : List Item) → OneOf (λ a. Run (a ++ (Part part.sum_tail ∷ j)) us o) product_tails → Run (Part part.term_tail ∷ k) us o
    times us o (inl p) = tail_of k us o (inr (inr (inr (inl (behind (times_factor ++ of_product) j (Part part.range_tail ∷ k) free short us o p)))))
    times us o (inr (inl p)) = tail_of k us o (inr (inr (inr (inr (inl (behind (divided_factor ++ of_product) j (Part part.range_tail ∷ k) free short us o p))))))
    times us o (inr (inr (inl p))) = tail_of k us o (inr (inr (inr (inr (inr (inl (behind (mod_factor ++ of_product) j (Part part.range_tail ∷ k) free short us o p)))))))
    times us o (inr (inr (inr (inl p)))) = plus us o (opened GRAMMAR all_alone part.sum_tail _ sum_tail_lines j us o p)
    times us o (inr (inr (inr (inr p)))) = absurd p

    second : OneOf (λ a. Run (a ++ (Part part.sum_tail ∷ j)) ts out) ((Part part.factor ∷ Part part.product_tail ∷ []) ∷ []) → Run (Part part.term ∷ k) ts out
    second (inl p) = term_of (of_product ++ j) k (part_no_then part.product_tail (Part part.sum_tail ∷ j)) (λ us o r. times us o (opened GRAMMAR all_alone part.product_tail _ product_tail_lines (Part part.sum_tail ∷ j) us o r)) ts out p
    second (inr p) = absurd p

    first : OneOf (λ a. Run (a ++ j) ts out) ((Part part.product ∷ Part part.sum_tail ∷ []) ∷ []) → Run (Part part.term ∷ k) ts out
    first (inl p) = second (opened GRAMMAR all_alone part.product _ product_lines (Part part.sum_tail ∷ j) ts out p)
    first (inr p) = absurd p

term_spells : (w : List Symbol) → TermLine w → (k : List Symbol) → NoThen k → (ts : List Terminal) (out : List Item) → Run (w ++ k) ts out → Run (Part part.term ∷ k) ts out
term_spells w sum k free ts out m =
    from_sum k k free (λ us o r. closed GRAMMAR all_alone part.range_tail _ range_tail_lines k us o (inr (inl r))) (λ us o r. tail_of k us o (inr (inr (inr (inr (inr (inr (inr (inr (inl r)))))))))) ts out m
term_spells w range k free ts out m =
    from_sum (to_sum ++ k) k (λ a b j e. absurd (cc)) (λ us o r. closed GRAMMAR all_alone part.range_tail _ range_tail_lines k us o (inl r)) (λ us o r. tail_of k us o (inl r)) ts out m
term_spells w (union x q) k free ts out m =
    term_of (union_factor ++ (x ++ k)) k (λ a b j e. absurd (cc)) (λ us o r. tail_of k us o (inr (inl (behind_many part.union_tail (union_factor ∷ []) refl refl union_factor k free x q us o r)))) ts out m
term_spells w (intersection x q) k free ts out m =
    term_of (intersection_factor ++ (x ++ k)) k (λ a b j e. absurd (cc)) (λ us o r. tail_of k us o (inr (inr (inl (behind_many part.intersection_tail (intersection_factor ∷ []) refl refl intersection_factor k free x q us o r))))) ts out m

pub term_means : Means part.term TermLine
term_means = record { reads = term_reads; spells = term_spells }
