-- Simple substitutions.
use Rattle.std.specs.Prelude.{◌≡◌, ◌<◌, ℕ, zero, suc, List, [], ◌∷◌, ◌++◌, refl, length}
use Rattle.std.proofs.Common.{arith, inl, inr, append_assoc, ap}
use Rattle.cb_lex.specs.declared.token.Keyword.TheVariants as keyword
use Rattle.cb_lex.specs.declared.token.Sign.TheVariants as sign
use Rattle.cb_engine.specs.declared.Symbol.{Symbol}
use Rattle.cb_engine.specs.declared.Symbol.TheVariants.{Take, Keep, Act, Part}
use Rattle.cb_engine.specs.declared.Terminal.{Terminal}
use Rattle.cb_engine.specs.declared.Item.{Item}
use Rattle.cb_engine.specs.Lines.{alternatives, OneOf, NoThen, Among, Repeated}
use Rattle.cb_engine.specs.Splitting.{split, rejoined}
use Rattle.cb_engine.specs.Repeating.{part_no_then}
use Rattle.cb_grammar.specs.declared.table.TheConstants.{GRAMMAR}
use Rattle.cb_grammar.specs.declared.actions.TheConstants as action
use Rattle.cb_grammar.specs.Classes.{keyword_class, sign_class}
use Rattle.cb_grammar.specs.Numbers as part
use Rattle.cb_written.specs.Substitutions.{elsif, elsifs, ifs, if_ends, or_side, SimpleLine}
use Rattle.cb_written.specs.Substitutions.SimpleLine.{skip, assign, among, begin, if, choice, any}
use Rattle.cb_written.proofs.Pieces.{Run, Into, Read, Means, take_no_then, among_no_then, under, open_part, close_part, expand, contract, many_behind, behind_many}

-- IF

abbrev if_rests : List (List Symbol)
if_rests = (elsif ++ Part part.if_rest ∷ Act action.IF ∷ []) ∷ if_ends

if_rest_lines : alternatives GRAMMAR part.if_rest ≡ if_rests
if_rest_lines = refl

one_more : (n : ℕ) (k : List Symbol) → ifs n ++ Act action.IF ∷ k ≡ Act action.IF ∷ (ifs n ++ k)
one_more zero k = refl
one_more (suc n) k = ap (λ (x : List Symbol). Act action.IF ∷ x) (one_more n k)

record Rest (k : List Symbol) (ts : List Terminal) (out : List Item) : Type 0 where
  pub count : ℕ
  pub last : List Symbol
  pub is_end : Among if_ends last
  pub runs : Run (elsifs count ++ (last ++ (ifs count ++ k))) ts out

rest_within : (f : ℕ) (k : List Symbol) (ts : List Terminal) (out : List Item) → length ts < f → Run (Part part.if_rest ∷ k) ts out → Rest k ts out
rest_within zero k ts out l m = absurd (omega arith)
rest_within (suc f) k ts out l m = go (open_part part.if_rest if_rests if_rest_lines k ts out m) (λ us o s. rest_within f (Act action.IF ∷ k) us o s)
  where
    go : OneOf (λ a. Run (a ++ k) ts out) if_rests → ((us : List Terminal) (o : List Item) → length us < f → Run (Part part.if_rest ∷ Act action.IF ∷ k) us o → Rest (Act action.IF ∷ k) us o) → Rest k ts out
    go (inl p) more =
        let s = split p elsif (Part part.if_rest ∷ Act action.IF ∷ k) (part_no_then part.if_rest (Act action.IF ∷ k)) refl in
        let t = s.token refl in
        let q = more s.back s.late (omega (arith, t, l)) s.rest in
        let r : Run (elsifs q.count ++ (q.last ++ (Act action.IF ∷ (ifs q.count ++ k)))) s.back s.late = rw (one_more q.count k) at q.runs in
        record {
          count = suc q.count;
          last = q.last;
          is_end = q.is_end;
          runs = rw (append_assoc elsif (elsifs q.count) (q.last ++ (Act action.IF ∷ (ifs q.count ++ k)))) (rejoined s (elsifs q.count ++ (q.last ++ (Act action.IF ∷ (ifs q.count ++ k)))) r);
        }
    go (inr (inl p)) more = record { count = zero; last = Take (keyword_class keyword.Else) ∷ Part part.substitution ∷ Take (keyword_class keyword.End) ∷ Act action.IF ∷ []; is_end = inl refl; runs = p }
    go (inr (inr (inl p))) more = record { count = zero; last = Take (keyword_class keyword.End) ∷ Act action.IF_WITHOUT_ELSE ∷ []; is_end = inr (inl refl); runs = p }
    go (inr (inr (inr p))) more = absurd p

rest_no_then : (n : ℕ) (e k : List Symbol) → Among if_ends e → NoThen (elsifs n ++ (e ++ k))
rest_no_then zero e k a = among_no_then if_ends refl e k a
rest_no_then (suc n) e k a = λ b c j q. absurd (cc)

of_rest : (n : ℕ) (e : List Symbol) → Among if_ends e → (k : List Symbol) → Into (elsifs n ++ (e ++ (ifs n ++ k))) (Part part.if_rest ∷ k)
of_rest zero e a k ts out m = contract part.if_rest if_rests if_rest_lines [] e k (inr a) (among_no_then if_ends refl e (ifs zero ++ k) a) ts out m
of_rest (suc n) e a k ts out m =
    let p : Run (elsif ++ (elsifs n ++ (e ++ (ifs n ++ Act action.IF ∷ k)))) ts out = rw (one_more n k) (rw (append_assoc elsif (elsifs n) (e ++ (Act action.IF ∷ (ifs n ++ k)))) at m) in
    close_part part.if_rest if_rests if_rest_lines k ts out (inl (under elsif (elsifs n ++ (e ++ (ifs n ++ Act action.IF ∷ k))) (Part part.if_rest ∷ Act action.IF ∷ k) (rest_no_then n e (ifs n ++ Act action.IF ∷ k) a) (of_rest n e a (Act action.IF ∷ k)) ts out p))

-- simple

abbrev if_start : List Symbol
if_start = Take (keyword_class keyword.If) ∷ Part part.formula ∷ Take (keyword_class keyword.Then) ∷ Part part.substitution ∷ []

abbrev choice_start : List Symbol
choice_start = Take (keyword_class keyword.Choice) ∷ Act action.NO_SIDES ∷ Part part.substitution ∷ Act action.APPEND_SIDE ∷ or_side

abbrev choice_end : List Symbol
choice_end = Take (keyword_class keyword.End) ∷ Act action.CHOICE ∷ []

abbrev simple_lines : List (List Symbol)
simple_lines =
    (Take (keyword_class keyword.Skip) ∷ Act action.SKIP ∷ []) ∷
    (Keep 1 ∷ Part part.simple_rest ∷ []) ∷
    (Take (keyword_class keyword.Begin) ∷ Part part.substitution ∷ Take (keyword_class keyword.End) ∷ []) ∷
    (if_start ++ Part part.if_rest ∷ []) ∷
    (choice_start ++ Part part.simple_1 ∷ choice_end) ∷
    (Take (keyword_class keyword.AnyOf) ∷ Keep 1 ∷ Take (keyword_class keyword.Where) ∷ Part part.formula ∷ Take (keyword_class keyword.Then) ∷ Part part.substitution ∷ Take (keyword_class keyword.End) ∷ Act action.ANY ∷ []) ∷ []

lines_of_simple : alternatives GRAMMAR part.simple ≡ simple_lines
lines_of_simple = refl

abbrev named_rests : List (List Symbol)
named_rests = (Take (sign_class sign.Assign) ∷ Part part.term ∷ Act action.ASSIGN ∷ []) ∷ (Take (sign_class sign.Among) ∷ Part part.domain ∷ Act action.AMONG ∷ []) ∷ []

named_rest_lines : alternatives GRAMMAR part.simple_rest ≡ named_rests
named_rest_lines = refl

simple_reads : (k : List Symbol) (ts : List Terminal) (out : List Item) → Run (Part part.simple ∷ k) ts out → Read SimpleLine k ts out
simple_reads k ts out m = go (open_part part.simple simple_lines lines_of_simple k ts out m)
  where
    with_name : (p : List Symbol) × (Among named_rests p × Run (Keep 1 ∷ (p ++ k)) ts out) → Read SimpleLine k ts out
    with_name (p, (inl e, m)) = (_, (assign, rw e at m))
    with_name (p, (inr (inl e), m)) = (_, (among, rw e at m))
    with_name (p, (inr (inr e), m)) = absurd e

    chosen : (x : List Symbol) × (Repeated (or_side ∷ []) x × Run (choice_start ++ (x ++ (choice_end ++ k))) ts out) → Read SimpleLine k ts out
    chosen (x, (q, m)) = (_, (choice x q, rw (append_assoc x choice_end k) m))

    go : OneOf (λ a. Run (a ++ k) ts out) simple_lines → Read SimpleLine k ts out
    go (inl p) = (_, (skip, p))
    go (inr (inl p)) = with_name (expand part.simple_rest named_rests named_rest_lines (Keep 1 ∷ []) k ts out p)
    go (inr (inr (inl p))) = (_, (begin, p))
    go (inr (inr (inr (inl p)))) =
        let s = split p if_start (Part part.if_rest ∷ k) (part_no_then part.if_rest k) refl in
        let q = rest_within (suc (length s.back)) k s.back s.late (omega arith) s.rest in
        let r : Run (if_start ++ (elsifs q.count ++ (q.last ++ (ifs q.count ++ k)))) ts out = rejoined s (elsifs q.count ++ (q.last ++ (ifs q.count ++ k))) q.runs in
        (if_start ++ (elsifs q.count ++ (q.last ++ ifs q.count)), (if q.count q.last q.is_end, rw (append_assoc (elsifs q.count) (q.last ++ ifs q.count) k, append_assoc q.last (ifs q.count) k) r))
    go (inr (inr (inr (inr (inl p))))) = chosen (many_behind part.simple_1 (or_side ∷ []) refl refl choice_start (choice_end ++ k) ts out p)
    go (inr (inr (inr (inr (inr (inl p)))))) = (_, (any, p))
    go (inr (inr (inr (inr (inr (inr p)))))) = absurd p

simple_spells : (w : List Symbol) → SimpleLine w → (k : List Symbol) → NoThen k → Into (w ++ k) (Part part.simple ∷ k)
simple_spells w skip k free ts out m = close_part part.simple simple_lines lines_of_simple k ts out (inl m)
simple_spells w assign k free ts out m = close_part part.simple simple_lines lines_of_simple k ts out (inr (inl (contract part.simple_rest named_rests named_rest_lines (Keep 1 ∷ []) _ k (inl refl) (take_no_then _ _) ts out m)))
simple_spells w among k free ts out m = close_part part.simple simple_lines lines_of_simple k ts out (inr (inl (contract part.simple_rest named_rests named_rest_lines (Keep 1 ∷ []) _ k (inr (inl refl)) (take_no_then _ _) ts out m)))
simple_spells w begin k free ts out m = close_part part.simple simple_lines lines_of_simple k ts out (inr (inr (inl m)))
simple_spells w (if n e a) k free ts out m =
    let p : Run (if_start ++ (elsifs n ++ (e ++ (ifs n ++ k)))) ts out = rw (append_assoc (elsifs n) (e ++ ifs n) k, append_assoc e (ifs n) k) at m in
    close_part part.simple simple_lines lines_of_simple k ts out (inr (inr (inr (inl (under if_start (elsifs n ++ (e ++ (ifs n ++ k))) (Part part.if_rest ∷ k) (rest_no_then n e (ifs n ++ k) a) (of_rest n e a k) ts out p)))))
simple_spells w (choice x q) k free ts out m =
    let p : Run (choice_start ++ (x ++ (choice_end ++ k))) ts out = rw (append_assoc x choice_end k) at m in
    close_part part.simple simple_lines lines_of_simple k ts out (inr (inr (inr (inr (inl (behind_many part.simple_1 (or_side ∷ []) refl refl choice_start (choice_end ++ k) (take_no_then _ _) x q ts out p))))))
simple_spells w any k free ts out m = close_part part.simple simple_lines lines_of_simple k ts out (inr (inr (inr (inr (inr (inl m))))))

pub simple_means : Means part.simple SimpleLine
simple_means = record { reads = simple_reads; spells = simple_spells }
