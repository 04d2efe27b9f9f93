-- Operations.
use Rattle.std.specs.Prelude.{◌≡◌, List, [], ◌∷◌, ◌++◌, refl}
use Rattle.std.proofs.Common.{inl, inr, append_assoc}
use Rattle.cb_lex.specs.declared.token.Sign.TheVariants as sign
use Rattle.cb_engine.specs.declared.Symbol.{Symbol}
use Rattle.cb_engine.specs.declared.Symbol.TheVariants.{Take, Keep, Act, Part}
use Rattle.cb_engine.specs.declared.Terminal.{Terminal}
use Rattle.cb_engine.specs.declared.Item.{Item}
use Rattle.cb_engine.specs.Lines.{alternatives, OneOf, NoThen, Among, Repeated}
use Rattle.cb_engine.specs.Lines.Repeated.{none, more}
use Rattle.cb_engine.specs.Repeating.{part_no_then}
use Rattle.cb_grammar.specs.declared.table.TheConstants.{GRAMMAR}
use Rattle.cb_grammar.specs.declared.actions.TheConstants as action
use Rattle.cb_grammar.specs.Classes.{sign_class}
use Rattle.cb_grammar.specs.Numbers as part
use Rattle.cb_written.specs.Texts.{results, parameters, bodies, OperationLine}
use Rattle.cb_written.specs.Texts.OperationLine.{operation}
use Rattle.cb_written.proofs.Pieces.{Run, Into, Read, Means, take_no_then, act_no_then, among_no_then, act_first, act_last, under, open_part, close_part, expand, contract, many_behind, behind_many}

abbrev comma_name : List Symbol
comma_name = Take (sign_class sign.Comma) ∷ Keep 1 ∷ Act action.APPEND_NAME ∷ []

abbrev first_name : List Symbol
first_name = Act action.NO_NAMES ∷ Keep 1 ∷ Act action.APPEND_NAME ∷ []

abbrev named : List Symbol
named = Take (sign_class sign.Returns) ∷ Keep 1 ∷ Part part.signature ∷ []

abbrev operation_rests : List (List Symbol)
operation_rests =
    (Take (sign_class sign.Comma) ∷ Act action.APPEND_NAME ∷ Keep 1 ∷ Act action.APPEND_NAME ∷ Part part.more_results ∷ named) ∷
    (Take (sign_class sign.Returns) ∷ Act action.APPEND_NAME ∷ Keep 1 ∷ Part part.signature ∷ []) ∷
    (Part part.signature ∷ []) ∷ []

abbrev operation_end : List Symbol
operation_end = Take (sign_class sign.Equal) ∷ Part part.body ∷ Act action.APPEND_OPERATION ∷ []

operation_lines : alternatives GRAMMAR part.operation ≡ (Act action.NO_NAMES ∷ Keep 1 ∷ Part part.operation_rest ∷ operation_end) ∷ []
operation_lines = refl

operation_rest_lines : alternatives GRAMMAR part.operation_rest ≡ operation_rests
operation_rest_lines = refl

names_lines : alternatives GRAMMAR part.names ≡ (first_name ++ Part part.names_1 ∷ []) ∷ []
names_lines = refl

signature_lines : alternatives GRAMMAR part.signature ≡ parameters
signature_lines = refl

body_lines : alternatives GRAMMAR part.body ≡ bodies
body_lines = refl

-- names with something behind them
names_of : (x k : List Symbol) → Repeated (comma_name ∷ []) x → NoThen k → Into (first_name ++ (x ++ k)) (Part part.names ∷ k)
names_of x k q free ts out m = close_part part.names _ names_lines k ts out (inl (behind_many part.names_1 (comma_name ∷ []) refl refl first_name k free x q ts out m))

-- with its results, or none
abbrev Headed : List Symbol → List Terminal → List Item → Type 0
Headed k ts out = (r : List Symbol) × (Among results r × Run (r ++ (Keep 1 ∷ Part part.signature ∷ k)) ts out)

headed : (p k : List Symbol) → Among operation_rests p → (ts : List Terminal) (out : List Item) → Run (Act action.NO_NAMES ∷ Keep 1 ∷ (p ++ k)) ts out → Headed k ts out
headed p k (inl e) ts out m =
    let a : Run (first_name ++ (comma_name ++ (Part part.more_results ∷ (named ++ k)))) ts out =
    under (Act action.NO_NAMES ∷ Keep 1 ∷ []) _ _ (take_no_then _ _) (act_first (sign_class sign.Comma) action.APPEND_NAME (Keep 1 ∷ Act action.APPEND_NAME ∷ Part part.more_results ∷ (named ++ k))) ts out (rw e at m) in
    let q = many_behind part.more_results (comma_name ∷ []) refl refl (first_name ++ comma_name) (named ++ k) ts out a in
    (Part part.names ∷ Take (sign_class sign.Returns) ∷ [], (inl refl, names_of (comma_name ++ q.0) (named ++ k) (more comma_name q.0 (inl refl) q.1.0) (take_no_then _ _) ts out q.1.1))
headed p k (inr (inl e)) ts out m =
    let a : Run (first_name ++ (named ++ k)) ts out = under (Act action.NO_NAMES ∷ Keep 1 ∷ []) _ _ (take_no_then _ _) (act_first (sign_class sign.Returns) action.APPEND_NAME (Keep 1 ∷ Part part.signature ∷ k)) ts out (rw e at m) in
    (Part part.names ∷ Take (sign_class sign.Returns) ∷ [], (inl refl, names_of [] (named ++ k) none (take_no_then _ _) ts out a))
headed p k (inr (inr (inl e))) ts out m = (Act action.NO_NAMES ∷ [], (inr (inl refl), rw e at m))
headed p k (inr (inr (inr e))) ts out m = absurd e

flat : (r p b s k : List Symbol) → (r ++ Keep 1 ∷ (p ++ Take (sign_class sign.Equal) ∷ (b ++ s))) ++ k ≡ r ++ (Keep 1 ∷ (p ++ (Take (sign_class sign.Equal) ∷ (b ++ (s ++ k)))))
flat r p b s k = simp append_assoc refl

flat_body : (r p j : List Symbol) → (r ++ (Keep 1 ∷ (p ++ Take (sign_class sign.Equal) ∷ []))) ++ j ≡ r ++ (Keep 1 ∷ (p ++ (Take (sign_class sign.Equal) ∷ j)))
flat_body r p j = simp append_assoc refl

abbrev appended : List Symbol
appended = Act action.APPEND_OPERATION ∷ []

operation_reads : (k : List Symbol) (ts : List Terminal) (out : List Item) → Run (Part part.operation ∷ k) ts out → Read OperationLine k ts out
operation_reads k ts out m = go (open_part part.operation _ operation_lines k ts out m)
  where
    ended : Headed (operation_end ++ k) ts out → Read OperationLine k ts out
    ended (r, (a, m)) =
        let p = expand part.signature parameters signature_lines (r ++ Keep 1 ∷ []) (operation_end ++ k) ts out (rw (append_assoc r (Keep 1 ∷ []) (Part part.signature ∷ (operation_end ++ k))) m) in
        let n : Run (r ++ (Keep 1 ∷ (p.0 ++ (operation_end ++ k)))) ts out = rw (append_assoc r (Keep 1 ∷ []) (p.0 ++ (operation_end ++ k))) at p.1.1 in
        let b = expand part.body bodies body_lines (r ++ (Keep 1 ∷ (p.0 ++ Take (sign_class sign.Equal) ∷ []))) (appended ++ k) ts out (rw (flat_body r p.0 (Part part.body ∷ (appended ++ k))) n) in
        (r ++ Keep 1 ∷ (p.0 ++ Take (sign_class sign.Equal) ∷ (b.0 ++ appended)), (operation r p.0 b.0 a p.1.0 b.1.0, rw (flat r p.0 b.0 appended k, ← flat_body r p.0 (b.0 ++ (appended ++ k))) b.1.1))

    go : OneOf (λ a. Run (a ++ k) ts out) ((Act action.NO_NAMES ∷ Keep 1 ∷ Part part.operation_rest ∷ operation_end) ∷ []) → Read OperationLine k ts out
    go (inl p) = let q = expand part.operation_rest operation_rests operation_rest_lines (Act action.NO_NAMES ∷ Keep 1 ∷ []) (operation_end ++ k) ts out p in ended (headed q.0 (operation_end ++ k) q.1.0 ts out q.1.1)
    go (inr p) = absurd p

of_rest : (p k : List Symbol) → Among operation_rests p → NoThen (p ++ (operation_end ++ k)) → Into (Act action.NO_NAMES ∷ Keep 1 ∷ (p ++ (operation_end ++ k))) (Part part.operation ∷ k)
of_rest p k a free ts out m = close_part part.operation _ operation_lines k ts out (inl (contract part.operation_rest operation_rests operation_rest_lines (Act action.NO_NAMES ∷ Keep 1 ∷ []) p (operation_end ++ k) a free ts out m))

with_results : (x k : List Symbol) → Repeated (comma_name ∷ []) x → Into (first_name ++ (x ++ (named ++ (operation_end ++ k)))) (Part part.operation ∷ k)
with_results x k none ts out m =
    of_rest _ k (inr (inl refl)) (take_no_then _ _) ts out (under (Act action.NO_NAMES ∷ Keep 1 ∷ []) _ _ (act_no_then _ _) (act_last (sign_class sign.Returns) action.APPEND_NAME (Keep 1 ∷ Part part.signature ∷ (operation_end ++ k))) ts out m)
with_results x k (more w y (inl e) q) ts out m =
    let a : Run (first_name ++ (comma_name ++ (y ++ (named ++ (operation_end ++ k))))) ts out = rw (e, append_assoc comma_name y (named ++ (operation_end ++ k))) at m in
    let b = behind_many part.more_results (comma_name ∷ []) refl refl (first_name ++ comma_name) (named ++ (operation_end ++ k)) (take_no_then _ _) y q ts out a in
    of_rest _ k (inl refl) (take_no_then _ _) ts out (under (Act action.NO_NAMES ∷ Keep 1 ∷ []) _ _ (act_no_then _ _) (act_last (sign_class sign.Comma) action.APPEND_NAME (Keep 1 ∷ Act action.APPEND_NAME ∷ Part part.more_results ∷ (named ++ (operation_end ++ k)))) ts out b)
with_results x k (more w y (inr e) q) ts out m = absurd e

with_head : (r k : List Symbol) → Among results r → Into (r ++ (Keep 1 ∷ Part part.signature ∷ (operation_end ++ k))) (Part part.operation ∷ k)
with_head r k (inl e) ts out m = go (open_part part.names _ names_lines (named ++ (operation_end ++ k)) ts out (rw e at m))
  where
    go : OneOf (λ a. Run (a ++ (named ++ (operation_end ++ k))) ts out) ((first_name ++ Part part.names_1 ∷ []) ∷ []) → Run (Part part.operation ∷ k) ts out
    go (inl p) = let q = many_behind part.names_1 (comma_name ∷ []) refl refl first_name (named ++ (operation_end ++ k)) ts out p in with_results q.0 k q.1.0 ts out q.1.1
    go (inr p) = absurd p
with_head r k (inr (inl e)) ts out m = of_rest _ k (inr (inr (inl refl))) (part_no_then _ _) ts out (rw e at m)
with_head r k (inr (inr e)) ts out m = absurd e

operation_spells : (w : List Symbol) → OperationLine w → (k : List Symbol) → NoThen k → Into (w ++ k) (Part part.operation ∷ k)
operation_spells w (operation r p b a c d) k free ts out m =
    let u : Run ((r ++ (Keep 1 ∷ (p ++ Take (sign_class sign.Equal) ∷ []))) ++ (b ++ (appended ++ k))) ts out = rw (flat_body r p (b ++ (appended ++ k))) (rw (flat r p b appended k) at m) in
    let v = contract part.body bodies body_lines (r ++ (Keep 1 ∷ (p ++ Take (sign_class sign.Equal) ∷ []))) b (appended ++ k) d (among_no_then bodies refl b _ d) ts out u in
    let n : Run ((r ++ Keep 1 ∷ []) ++ (p ++ (operation_end ++ k))) ts out = rw (append_assoc r (Keep 1 ∷ []) (p ++ (operation_end ++ k))) (rw (flat_body r p (Part part.body ∷ (appended ++ k))) at v) in
    let l = contract part.signature parameters signature_lines (r ++ Keep 1 ∷ []) p (operation_end ++ k) c (among_no_then parameters refl p _ c) ts out n in
    with_head r k a ts out (rw (append_assoc r (Keep 1 ∷ []) (Part part.signature ∷ (operation_end ++ k))) at l)

pub operation_means : Means part.operation OperationLine
operation_means = record { reads = operation_reads; spells = operation_spells }
