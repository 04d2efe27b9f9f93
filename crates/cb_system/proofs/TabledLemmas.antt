-- The rendezvous table stays that of the places.
use Rattle.std.proofs.Common.{◌≡◌, ℕ, List, length, slice_set, sym, ap, subst, ◌∙◌}
use Rattle.cb_spec.specs.declared.system.System.{System}
use Rattle.cb_spec.specs.ProcessTree.{ProcessTree}
use Rattle.cb_safety_laws.proofs.Lists.{map_length}
use Rattle.cb_code.specs.declared.place.Place.{Place}
use Rattle.cb_offers.specs.declared.offers.Side.{Side}
use Rattle.cb_offers.specs.Tables.{OffersView}
use Rattle.cb_system.specs.Rows.{row_at}
use Rattle.cb_system.specs.Tabled.{IsTabled}
use Rattle.cb_system.proofs.PlaceLemmas.{set_map, set_twice}

module _ (y : System) (ps : List ProcessTree) (places : List Place) (offers : OffersView) (h : IsTabled y ps places offers) where
  pub rows_long : length offers.rows ≡ length places
  rows_long = ap (λ (rows : List (List Side)). length rows) h.rows_are ∙ map_length (row_at ps) places

  -- one controller's row is new
  pub tabled_set : (i : ℕ) (p : Place) (row : List Side) (new : OffersView) → new ≡ record { channels = offers.channels; rows = slice_set offers.rows i row } → row ≡ row_at ps p → IsTabled y ps (slice_set places i p) new
  tabled_set i p row new is row_is = record {
    rows_are = ap (λ (o : OffersView). o.rows) is ∙ (λ j. slice_set (h.rows_are j) i (row_is j)) ∙ sym (set_map (row_at ps) places i p);
    channels_are = ap (λ (o : OffersView). o.channels) is ∙ h.channels_are;
  }

  -- the same, where something stood between in the controller's place
  pub tabled_over : (i : ℕ) (between p : Place) (row : List Side) (new : OffersView) → new ≡ record { channels = offers.channels; rows = slice_set offers.rows i row } → row ≡ row_at ps p →
      IsTabled y ps (slice_set (slice_set places i between) i p) new
  tabled_over i between p row new is row_is = subst (λ (qs : List Place). IsTabled y ps qs new) (sym (set_twice places i between p)) (tabled_set i p row new is row_is)
