-- The sides that a resolved process offers fit the rendezvous table.
use Rattle.std.proofs.Common.{◌≡◌, ℕ, suc, ◌+◌, ◌-◌, ◌<◌, ◌^◌, List, [], ◌∷◌, ◌++◌, length, slice_get, slice_set, Option, Some, None, unwrap_or, refl, sym, ap, subst, ◌∙◌, arith}
use Rattle.cb_spec.specs.declared.state.Entry.{Entry}
use Rattle.cb_spec.specs.declared.state.Entry.TheVariants as entry
use Rattle.cb_spec.specs.declared.state.End.{End}
use Rattle.cb_spec.specs.declared.system.System.{System}
use Rattle.cb_spec.specs.ProcessTree.{ProcessTree}
use Rattle.cb_spec.specs.Stores.{Writes, look_of}
use Rattle.cb_spec.specs.States.{IsAt, state_of}
use Rattle.cb_spec.specs.Journals.{events, set_sizes}
use Rattle.cb_spec.specs.Settling.{Settles}
use Rattle.cb_safety_laws.proofs.Lists.{at_below, map_length}
use Rattle.cb_safety_laws.proofs.Steps.{branches_are_few}
use Rattle.cb_code.specs.declared.place.Place.{Place}
use Rattle.cb_code.specs.declared.place.Place.TheVariants.{At}
use Rattle.cb_code.specs.Nodes.{part}
use Rattle.cb_settling.specs.declared.settle.Outcome.{Outcome}
use Rattle.cb_settling.specs.declared.settle.Outcome.TheVariants.{Shown, Over}
use Rattle.cb_settling.specs.Calling.{IsRoomy}
use Rattle.cb_settling.specs.Branches.{offered, branches_at}
use Rattle.cb_settling.specs.Resolving.{here_of, outcome_of}
use Rattle.cb_offers.specs.declared.offers.Side.{Side}
use Rattle.cb_offers.specs.declared.offers.Side.TheVariants as side
use Rattle.cb_offers.specs.Tables.{AreWithin, IsOffered}
use Rattle.cb_beginning.specs.Placed.{state_in, Laid}
use Rattle.cb_system.specs.Views.{last_end}
use Rattle.cb_system.specs.Kept.{Keeps, lives, AreCounted}
use Rattle.cb_system.specs.Moves.{AreGood, after, SettledAt}
use Rattle.cb_system.specs.Branches.{AreOffered}
use Rattle.cb_system.specs.Rows.{side_at, row_at, row_shown, rows_at}
use Rattle.cb_system.proofs.PlaceLemmas.{get_map, get_same, control_at}
use Rattle.cb_system.proofs.StepLemmas.{settled_counts, step_settled}
use Rattle.cb_system.proofs.CauseLemmas.{sender_is, receiver_is, output_there, input_there}

abbrev IsWithin : ℕ → Side → Type 0
IsWithin n (side.Output k) = k < n
IsWithin n (side.Input k) = k < n
IsWithin n side.Call = Unit {0}

within_all : (n : ℕ) (row : List Side) → ((b : ℕ) (s : Side) → slice_get row b ≡ Some s → IsWithin n s) → AreWithin n row
within_all n [] h = tt
within_all n (side.Output k ∷ row) h = (h 0 (side.Output k) refl, within_all n row (λ b s at. h (suc b) s at))
within_all n (side.Input k ∷ row) h = (h 0 (side.Input k) refl, within_all n row (λ b s at. h (suc b) s at))
within_all n (side.Call ∷ row) h = within_all n row (λ b s at. h (suc b) s at)

-- channels of what is offered in a good state are there
module _ (y : System) (ps : List ProcessTree) (store : Writes) (places : List Place) (good : AreGood y ps store places) (all : AreOffered ps places) where
  one_within : (i b : ℕ) (s : Side) → IsOffered (rows_at ps places) i b s → IsWithin (length y.channels) s
  one_within i b (side.Output k) at = let c = sender_is y ps store places good all k i b (output_there y ps store places good all k i b at) in at_below y.channels k c.0 c.1
  one_within i b (side.Input k) at = let c = receiver_is y ps store places good all k i b (input_there y ps store places good all k i b at) in at_below y.channels k c.0 c.1
  one_within i b side.Call at = tt

  row_within : (i : ℕ) (p : Place) → IsAt places i p → AreWithin (length y.channels) (row_at ps p)
  row_within i p at = within_all (length y.channels) (row_at ps p) (λ b s here. one_within i b s (ap (λ (o : Option (List Side)). slice_get (unwrap_or o []) b) (get_map (row_at ps) places i p at) ∙ here))

pub row_is : (ps : List ProcessTree) (env : Writes) (o : Outcome) → row_shown ps o ≡ row_at ps (after env o)
row_is ps env (Shown ks own) = refl
row_is ps env Over = refl

module _ (y : System) (limit : ℕ) (s0 : Writes) (es : List Entry) (ps : List ProcessTree) (store : Writes) (places : List Place) (bodies : List (List ℕ)) (count : ℕ) (end : Option End) (len room unsettled living : ℕ)
    (h : Keeps y limit s0 es (state_in ps store places) count end len room × Laid y ps places bodies × IsRoomy y store × AreCounted places unsettled living)
    (i : ℕ) (outcome : Outcome) (bits : ℕ) (settled : SettledAt y ps places i outcome bits) where
  pub shown_few : length (row_shown ps outcome) < 2 ^ 32
  shown_few = by outcome settled.1.1.1.1.1.settles
    where
      by : (o : Outcome) → Settles (set_sizes y) settled.0.definitions settled.1.1.1.1.1.depth (part ps settled.1.1.0) (look_of settled.1.1.1.0) settled.1.1.1.1.1.sides (outcome_of ps settled.1.1.1.0 o) → length (row_shown ps o) < 2 ^ 32
      by Over r = omega arith
      by (Shown ks own) r =
          let first = settled.1.1.1.0 in
          let few = branches_are_few y h.0.good.typed (state_of (state_in ps store places)) h.0.good.fit i settled.0 settled.1.0 (part ps settled.1.1.0) (look_of first)
          (control_at ps store places i (At settled.1.1.0 first) settled.1.1.1.1.0) settled.1.1.1.1.1.depth settled.1.1.1.1.1.sides (branches_at ps ks (look_of (here_of first own))) r in
          let a = map_length (λ k. offered (part ps k) (look_of (here_of first own))) ks in
          let b = map_length (λ k. side_at (part ps k)) ks in
          omega (arith, few, a, b)

  pub shown_within : last_end es ≡ None → events es < limit → AreWithin (length y.channels) (row_shown ps outcome)
  shown_within none few =
      let k = settled.1.1.0 in
      let first = settled.1.1.1.0 in
      let last = after first outcome in
      let more = settled_counts y limit s0 es ps store places bodies count end len room unsettled living h i outcome bits settled in
      let left : (n : ℕ) × (n + 1 ≡ living + lives outcome) = (living + lives outcome - 1, let l = more.1 in omega (arith, l)) in
      let next = step_settled y limit s0 es ps store places bodies count end len room unsettled living h i outcome bits settled 0 1 (unsettled - 1) left.0 (es ++ entry.Settle i bits ∷ []) last (At k first) last
      none few refl refl refl (omega arith) refl left.1 in
      let places' = slice_set (slice_set places i last) i last in
      let good : AreGood y ps store places' = record { limit = limit; beginning = s0; journal = es ++ entry.Settle i bits ∷ []; good = next.0.good } in
      let at : IsAt places' i last = get_same (slice_set places i last) i last last (get_same places i last (At k first) settled.1.1.1.1.0) in
      subst (AreWithin (length y.channels)) (sym (row_is ps first outcome)) (row_within y ps store places' good next.1.offered i last at)
