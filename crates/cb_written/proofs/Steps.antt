-- Steps, items and events.
use Rattle.std.specs.Prelude.{◌≡◌, List, [], ◌∷◌, ◌++◌, refl}
use Rattle.std.proofs.Common.{inl, inr, append_assoc}
use Rattle.cb_lex.specs.declared.token.Keyword.TheVariants as keyword
use Rattle.cb_lex.specs.declared.token.Sign.TheVariants as sign
use Rattle.cb_engine.specs.declared.Symbol.{Symbol}
use Rattle.cb_engine.specs.declared.Symbol.TheVariants.{Take, Keep, Act, Part}
use Rattle.cb_engine.specs.declared.Terminal.{Terminal}
use Rattle.cb_engine.specs.declared.Item.{Item}
use Rattle.cb_engine.specs.Lines.{alternatives, OneOf, NoThen, Among}
use Rattle.cb_engine.specs.Repeating.{part_no_then}
use Rattle.cb_grammar.specs.declared.table.TheConstants.{GRAMMAR}
use Rattle.cb_grammar.specs.declared.actions.TheConstants as action
use Rattle.cb_grammar.specs.Classes.{keyword_class, sign_class}
use Rattle.cb_grammar.specs.Numbers as part
use Rattle.cb_grammar.specs.Written.{opening, closing, dot}
use Rattle.cb_written.specs.Processes.{terms_or_none, names_or_none, guards, passed, returned, EventLine, ItemLine, StepLine}
use Rattle.cb_written.specs.Processes.EventLine.{output, input, operation_call}
use Rattle.cb_written.specs.Processes.ItemLine.{stop, skip, call, parentheses, if}
use Rattle.cb_written.specs.Processes.StepLine.{prefix, item}
use Rattle.cb_written.proofs.Pieces.{Run, Into, Read, Means, take_no_then, among_no_then, open_part, close_part, expand, contract}

abbrev arrow : List Symbol
arrow = Take (sign_class sign.Arrow) ∷ Part part.step ∷ Act action.PREFIX ∷ []

abbrev sent : List Symbol
sent = Take (sign_class sign.Bang) ∷ opening ∷ Act action.NO_TERMS ∷ []

abbrev received : List Symbol
received = Take (sign_class sign.Query) ∷ opening ∷ []

abbrev called : List Symbol
called = dot ∷ Keep 1 ∷ Act action.NO_TERMS ∷ []

abbrev named_rests : List (List Symbol)
named_rests =
    (sent ++ Part part.terms_end ∷ Part part.guard ∷ Act action.OUTPUT ∷ arrow) ∷
    (received ++ Part part.names_end ∷ Part part.guard ∷ Act action.INPUT ∷ arrow) ∷
    (called ++ Part part.step_rest_1 ∷ Part part.step_rest_2 ∷ Act action.OPERATION_CALL ∷ arrow) ∷
    (opening ∷ Act action.NO_TERMS ∷ Part part.terms ∷ closing ∷ Act action.CALL ∷ []) ∷
    (Act action.NO_TERMS ∷ Act action.CALL ∷ []) ∷ []

abbrev steps : List (List Symbol)
steps =
    (Keep (keyword_class keyword.Stop) ∷ Act action.STOP ∷ []) ∷
    (Keep (keyword_class keyword.SkipProcess) ∷ Act action.SKIP_PROCESS ∷ []) ∷
    (opening ∷ Part part.process ∷ closing ∷ []) ∷
    (Keep (keyword_class keyword.If) ∷ Part part.formula ∷ Take (keyword_class keyword.Then) ∷ Part part.process ∷ Take (keyword_class keyword.Else) ∷ Part part.process ∷ Take (keyword_class keyword.End) ∷ Act action.PROCESS_IF ∷ []) ∷
    (Keep 1 ∷ Part part.step_rest ∷ []) ∷ []

step_lines : alternatives GRAMMAR part.step ≡ steps
step_lines = refl

named_rest_lines : alternatives GRAMMAR part.step_rest ≡ named_rests
named_rest_lines = refl

terms_end_lines : alternatives GRAMMAR part.terms_end ≡ terms_or_none
terms_end_lines = refl

names_end_lines : alternatives GRAMMAR part.names_end ≡ names_or_none
names_end_lines = refl

guard_lines : alternatives GRAMMAR part.guard ≡ guards
guard_lines = refl

passed_lines : alternatives GRAMMAR part.step_rest_1 ≡ passed
passed_lines = refl

returned_lines : alternatives GRAMMAR part.step_rest_2 ≡ returned
returned_lines = refl

-- an event's pieces, before what comes behind them
flat : (t g s k : List Symbol) → ((t ++ (g ++ s)) ++ arrow) ++ k ≡ t ++ (g ++ (s ++ (arrow ++ k)))
flat t g s k = simp append_assoc refl

-- two parts behind the same symbols
module _ (n m : _) (ns ms : List (List Symbol)) (e : alternatives GRAMMAR n ≡ ns) (f : alternatives GRAMMAR m ≡ ms) where
  record Two (u k : List Symbol) (ts : List Terminal) (out : List Item) : Type 0 where
    pub first : List Symbol
    pub second : List Symbol
    pub is_first : Among ns first
    pub is_second : Among ms second
    pub runs : Run (u ++ (first ++ (second ++ k))) ts out

  two_of : (u k : List Symbol) (ts : List Terminal) (out : List Item) → Run (u ++ (Part n ∷ Part m ∷ k)) ts out → Two u k ts out
  two_of u k ts out r =
      let p = expand n ns e u (Part m ∷ k) ts out r in
      let q = expand m ms f (u ++ p.0) k ts out (rw (append_assoc u p.0 (Part m ∷ k)) p.1.1) in
      record { first = p.0; second = q.0; is_first = p.1.0; is_second = q.1.0; runs = rw (append_assoc u p.0 (q.0 ++ k)) at q.1.1 }

  of_two : (u p q k : List Symbol) → Among ns p → Among ms q → NoThen (p ++ (Part m ∷ k)) → NoThen (q ++ k) → Into (u ++ (p ++ (q ++ k))) (u ++ (Part n ∷ Part m ∷ k))
  of_two u p q k a b free late ts out r =
      let s : Run (u ++ (p ++ (Part m ∷ k))) ts out = rw (append_assoc u p (Part m ∷ k)) at (contract m ms f (u ++ p) q k b late ts out (rw (append_assoc u p (q ++ k)) r)) in
      contract n ns e u p (Part m ∷ k) a free ts out s

step_reads : (k : List Symbol) (ts : List Terminal) (out : List Item) → Run (Part part.step ∷ k) ts out → Read StepLine k ts out
step_reads k ts out m = go (open_part part.step steps step_lines k ts out m)
  where
    with_name : (p : List Symbol) × (Among named_rests p × Run (Keep 1 ∷ (p ++ k)) ts out) → Read StepLine k ts out
    with_name (p, (inl e, m)) =
        let q = two_of part.terms_end part.guard terms_or_none guards terms_end_lines guard_lines (Keep 1 ∷ sent) (Act action.OUTPUT ∷ (arrow ++ k)) ts out (rw e at m) in
        ((Keep 1 ∷ sent ++ (q.first ++ (q.second ++ Act action.OUTPUT ∷ []))) ++ arrow, (prefix _ (output q.first q.second q.is_first q.is_second), rw (flat q.first q.second (Act action.OUTPUT ∷ []) k) q.runs))
    with_name (p, (inr (inl e), m)) =
        let q = two_of part.names_end part.guard names_or_none guards names_end_lines guard_lines (Keep 1 ∷ received) (Act action.INPUT ∷ (arrow ++ k)) ts out (rw e at m) in
        ((Keep 1 ∷ received ++ (q.first ++ (q.second ++ Act action.INPUT ∷ []))) ++ arrow, (prefix _ (input q.first q.second q.is_first q.is_second), rw (flat q.first q.second (Act action.INPUT ∷ []) k) q.runs))
    with_name (p, (inr (inr (inl e)), m)) =
        let q = two_of part.step_rest_1 part.step_rest_2 passed returned passed_lines returned_lines (Keep 1 ∷ called) (Act action.OPERATION_CALL ∷ (arrow ++ k)) ts out (rw e at m) in
        ((Keep 1 ∷ called ++ (q.first ++ (q.second ++ Act action.OPERATION_CALL ∷ []))) ++ arrow, (prefix _ (operation_call q.first q.second q.is_first q.is_second), rw (flat q.first q.second (Act action.OPERATION_CALL ∷ []) k) q.runs))
    with_name (p, (inr (inr (inr (inl e))), m)) = (_, (item _ (call (opening ∷ Act action.NO_TERMS ∷ Part part.terms ∷ closing ∷ []) (inl refl)), rw e at m))
    with_name (p, (inr (inr (inr (inr (inl e)))), m)) = (_, (item _ (call (Act action.NO_TERMS ∷ []) (inr (inl refl))), rw e at m))
    with_name (p, (inr (inr (inr (inr (inr e)))), m)) = absurd e

    go : OneOf (λ a. Run (a ++ k) ts out) steps → Read StepLine k ts out
    go (inl p) = (_, (item _ stop, p))
    go (inr (inl p)) = (_, (item _ skip, p))
    go (inr (inr (inl p))) = (_, (item _ parentheses, p))
    go (inr (inr (inr (inl p)))) = (_, (item _ if, p))
    go (inr (inr (inr (inr (inl p))))) = with_name (expand part.step_rest named_rests named_rest_lines (Keep 1 ∷ []) k ts out p)
    go (inr (inr (inr (inr (inr p))))) = absurd p

-- behind a name
of_name : (p k : List Symbol) → Among named_rests p → Into (Keep 1 ∷ (p ++ k)) (Part part.step ∷ k)
of_name p k a ts out m = close_part part.step steps step_lines k ts out (inr (inr (inr (inr (inl (contract part.step_rest named_rests named_rest_lines (Keep 1 ∷ []) p k a (among_no_then named_rests refl p k a) ts out m))))))

passed_no_then : (p k : List Symbol) → Among passed p → NoThen k → NoThen (p ++ k)
passed_no_then p k (inl q) free = rw q (take_no_then _ _)
passed_no_then p k (inr (inl q)) free = rw q free
passed_no_then p k (inr (inr q)) free = absurd q

event_spells : (e : List Symbol) → EventLine e → (k : List Symbol) → Into ((e ++ arrow) ++ k) (Part part.step ∷ k)
event_spells e (output t g a b) k ts out m =
    let p : Run (Keep 1 ∷ sent ++ (t ++ (g ++ (Act action.OUTPUT ∷ (arrow ++ k))))) ts out = rw (flat t g (Act action.OUTPUT ∷ []) k) at m in
    of_name _ k (inl refl) ts out (of_two part.terms_end part.guard terms_or_none guards terms_end_lines guard_lines (Keep 1 ∷ sent) t g (Act action.OUTPUT ∷ (arrow ++ k)) a b (among_no_then terms_or_none refl t _ a) (among_no_then guards refl g _ b) ts out p)
event_spells e (input n g a b) k ts out m =
    let p : Run (Keep 1 ∷ received ++ (n ++ (g ++ (Act action.INPUT ∷ (arrow ++ k))))) ts out = rw (flat n g (Act action.INPUT ∷ []) k) at m in
    of_name _ k (inr (inl refl)) ts out (of_two part.names_end part.guard names_or_none guards names_end_lines guard_lines (Keep 1 ∷ received) n g (Act action.INPUT ∷ (arrow ++ k)) a b (among_no_then names_or_none refl n _ a) (among_no_then guards refl g _ b) ts out p)
event_spells e (operation_call p r a b) k ts out m =
    let q : Run (Keep 1 ∷ called ++ (p ++ (r ++ (Act action.OPERATION_CALL ∷ (arrow ++ k))))) ts out = rw (flat p r (Act action.OPERATION_CALL ∷ []) k) at m in
    of_name _ k (inr (inr (inl refl))) ts out (of_two part.step_rest_1 part.step_rest_2 passed returned passed_lines returned_lines (Keep 1 ∷ called) p r (Act action.OPERATION_CALL ∷ (arrow ++ k)) a b (passed_no_then p _ a (part_no_then _ _)) (among_no_then returned refl r _ b) ts out q)

item_spells : (i : List Symbol) → ItemLine i → (k : List Symbol) → Into (i ++ k) (Part part.step ∷ k)
item_spells i stop k ts out m = close_part part.step steps step_lines k ts out (inl m)
item_spells i skip k ts out m = close_part part.step steps step_lines k ts out (inr (inl m))
item_spells i parentheses k ts out m = close_part part.step steps step_lines k ts out (inr (inr (inl m)))
item_spells i if k ts out m = close_part part.step steps step_lines k ts out (inr (inr (inr (inl m))))
item_spells i (call a (inl q)) k ts out m = of_name _ k (inr (inr (inr (inl refl)))) ts out (rw q at m)
item_spells i (call a (inr (inl q))) k ts out m = of_name _ k (inr (inr (inr (inr (inl refl))))) ts out (rw q at m)
item_spells i (call a (inr (inr q))) k ts out m = absurd q

step_spells : (w : List Symbol) → StepLine w → (k : List Symbol) → NoThen k → Into (w ++ k) (Part part.step ∷ k)
step_spells w (prefix e l) k free ts out m = event_spells e l k ts out m
step_spells w (item i l) k free ts out m = item_spells i l k ts out m

pub step_means : Means part.step StepLine
step_means = record { reads = step_reads; spells = step_spells }
