-- What clauses say of a turn and its passes.
use Rattle.std.specs.Prelude.{◌≡◌, ℕ, true, false, List, [], ◌∷◌, Option, None}
use Rattle.cb_turn.specs.declared.view.View.{View}
use Rattle.cb_turn.specs.declared.turn.Pass.{Pass}
use Rattle.cb_turn.specs.declared.turn.Turn.{Turn}
use Rattle.cb_turn.specs.Views.{IsInOrder}

module _ {T P E : Type 0} where
  -- what the pass knows
  abbrev pub facts : Pass T P E → View P E
  facts p = p.seat.me.0

  -- the plan of the value
  abbrev pub plan : Pass T P E → Option P
  plan p = (facts p).plan

  -- the entries that the pass has seen; while it holds the value, the list that it took
  abbrev pub seen : Pass T P E → List E
  seen p = (facts p).seen

  -- the places of the entries that it gave in
  abbrev pub mine : Pass T P E → List ℕ
  mine p = (facts p).mine

  -- it has taken the value and not given it back
  abbrev pub IsHolding : Pass T P E → Type 0
  IsHolding p = (facts p).holds ≡ true

  abbrev pub IsFree : Pass T P E → Type 0
  IsFree p = (facts p).holds ≡ false

  -- it came with the turn, and was not split off
  abbrev pub IsFirst : Pass T P E → Type 0
  IsFirst p = (facts p).first ≡ true

  -- the number of passes split off from it that are not joined
  abbrev pub splits : Pass T P E → ℕ
  splits p = (facts p).splits

  -- the pass is one of this turn and not joined, its places are in order, and it has the slot exactly while it holds the value
  pub record Belongs (turn : Turn T P E) (p : Pass T P E) : Type 0 where
    pub table : p.seat.table_id ≡ turn.table.shared.table_id
    pub words : turn.table.shared.table_id.words ≡ 1
    pub slots : turn.table.shared.table_id.slots ≡ 1
    pub live : (facts p).spent ≡ false
    pub in_order : IsInOrder (facts p)
    pub empty : (facts p).holds ≡ false → p.seat.me.1 ≡ []
    pub out : (facts p).holds ≡ true → p.seat.me.1 ≡ (0, None) ∷ []
