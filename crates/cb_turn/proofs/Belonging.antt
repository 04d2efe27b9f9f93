-- A pass stays one of its turn.
use Rattle.std.proofs.Common.{◌≡◌, true, false, [], ◌∷◌, Option, None, sym, ap, ◌∙◌, subst}
use Rattle.atomic_table.specs.Table.{Me}
use Rattle.cb_turn.specs.declared.view.View.{View}
use Rattle.cb_turn.specs.declared.turn.Pass.{Pass}
use Rattle.cb_turn.specs.declared.turn.Turn.{Turn}
use Rattle.cb_turn.specs.Views.{IsInOrder}
use Rattle.cb_turn.specs.Words.{Belongs}

-- a step of the pass leaves it with this view and these slots
pub belongs_after : {T P E : Type 0} (turn : Turn T P E) (old new : Pass T P E) (me : Me (Option T) (View P E)) → Belongs turn old → new.seat.table_id ≡ old.seat.table_id → new.seat.me ≡ me
    → me.0.spent ≡ false → IsInOrder me.0 → (me.0.holds ≡ false → me.1 ≡ []) → (me.0.holds ≡ true → me.1 ≡ (0, None) ∷ []) → Belongs turn new
belongs_after {T} {P} {E} turn old new me b table is live in_order empty out = record {
  table = table ∙ b.table;
  words = b.words;
  slots = b.slots;
  live = ap (λ (m : Me (Option T) (View P E)). m.0.spent) is ∙ live;
  in_order = subst (λ (m : Me (Option T) (View P E)). IsInOrder m.0) (sym is) in_order;
  empty = λ free. ap (λ (m : Me (Option T) (View P E)). m.1) is ∙ empty (sym (holds_is) ∙ free);
  out = λ holds. ap (λ (m : Me (Option T) (View P E)). m.1) is ∙ out (sym (holds_is) ∙ holds);
}
  where
    holds_is : new.seat.me.0.holds ≡ me.0.holds
    holds_is = ap (λ (m : Me (Option T) (View P E)). m.0.holds) is
