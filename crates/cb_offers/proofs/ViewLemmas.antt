-- What contracts see of a table.
use Rattle.std.proofs.Common.{◌≡◌, ℕ, ◌<◌, Option, Some, None, Result, Ok, Err, option_map, OnOk, OnErr, List, [], ◌∷◌, length, slice_get, get_or, set, refl, sym, ap, subst, ◌∙◌}
use Rattle.std.proofs.lemmas.Option.{slice_get_read}
use Rattle.cb_offers.specs.declared.offers.Side.{Side}
use Rattle.cb_offers.specs.declared.marks.Mark.{Mark}
use Rattle.cb_offers.specs.declared.channels.Channel.{Channel}
use Rattle.cb_offers.specs.declared.table.Table.{Table}
use Rattle.cb_offers.specs.Tables.{OffersView, AreWithin, both, meeting}
use Rattle.cb_offers.specs.Kept.{senders_of, receivers_of, rows_of, row_at, IsKept, Steps}
use Rattle.cb_offers.proofs.TableLemmas.{steps_none}
use Rattle.cb_offers.proofs.ReadyLemmas.{first_branch, marks_meet}

abbrev pub seen : Table → OffersView
seen table = record { channels = length table.channels.items; rows = rows_of table }

same_parts : (a b : OffersView) → a.channels ≡ b.channels → a.rows ≡ b.rows → a ≡ b
same_parts a b p q = λ i. record { channels = p i; rows = q i }

-- what follows from either clause
pub either_way : {T E A B P : Type 0} (r : Result T E) → OnOk r A → OnErr r B → (A → P) → (B → P) → P
either_way (Ok x) a b f g = f a
either_way (Err e) a b f g = g b

pub on_err_weaker : {T E P Q : Type 0} (r : Result T E) → (P → Q) → OnErr r P → OnErr r Q
on_err_weaker (Ok x) f p = p
on_err_weaker (Err e) f p = f p

module _ (table : Table) (self : OffersView) (view : seen table ≡ self) where
  pub range_seen : (c : ℕ) → c < length self.rows → c < length (rows_of table)
  range_seen c l = subst (λ (v : OffersView). c < length v.rows) (sym view) l

  pub within_seen : (sides : List Side) → AreWithin self.channels sides → AreWithin (length table.channels.items) sides
  within_seen sides w = subst (λ (v : OffersView). AreWithin v.channels sides) (sym view) w

  pub stepped_view : (new : Table) (c : ℕ) (row : List Side) → Steps c table new row → seen new ≡ record { channels = self.channels; rows = set self.rows c row }
  stepped_view new c row steps = same_parts (seen new) (record { channels = self.channels; rows = set self.rows c row }) (steps.as_many ∙ ap (λ (v : OffersView). v.channels) view) (steps.rows ∙ ap (λ (v : OffersView). set v.rows c row) view)

  pub same_view : (new : Table) (c : ℕ) → IsKept table → Steps c table new (row_at table c) → seen new ≡ self
  same_view new c kept steps = same_parts (seen new) (seen table) steps.as_many (steps.rows ∙ sym (steps_none table c kept).rows) ∙ view

-- ---- a channel's first marks

first_none : (ms : List Mark) → slice_get ms 0 ≡ None → first_branch ms ≡ None
first_none [] e = refl
first_none (m ∷ ms) e = absurd (cc)

first_some : (ms : List Mark) (m : Mark) → slice_get ms 0 ≡ Some m → first_branch ms ≡ Some m.branch
first_some [] m e = absurd (cc)
first_some (n ∷ ms) m e = ap (option_map (λ (x : Mark). x.branch)) e

both_none_right : (m : Option ℕ) → both m None ≡ None
both_none_right None = refl
both_none_right (Some a) = refl

module _ (table : Table) (self : OffersView) (view : seen table ≡ self) (kept : IsKept table) (k : ℕ) (channel : Channel) (range : k < self.channels) (at : channel ≡ get_or table.channels.items k channel) where
  ends : both (first_branch channel.senders.items) (first_branch channel.receivers.items) ≡ meeting self.rows k
  ends =
      let l : k < length table.channels.items = subst (λ (v : OffersView). k < v.channels) (sym view) range in
      let here : slice_get table.channels.items k ≡ Some channel = slice_get_read table.channels.items (length table.channels.items) k channel refl l at in
      sym (ap (λ o. both (first_branch (senders_of o)) (first_branch (receivers_of o))) here) ∙ marks_meet table kept k ∙ ap (λ (v : OffersView). meeting v.rows k) view

  pub both_meet : (s r : Mark) → slice_get channel.senders.items 0 ≡ Some s → slice_get channel.receivers.items 0 ≡ Some r → Some (s.branch, r.branch) ≡ meeting self.rows k
  both_meet s r e f = sym (λ i. both (first_some channel.senders.items s e i) (first_some channel.receivers.items r f i)) ∙ ends

  pub no_sender : slice_get channel.senders.items 0 ≡ None → None ≡ meeting self.rows k
  no_sender e = sym (ap (λ o. both o (first_branch channel.receivers.items)) (first_none channel.senders.items e)) ∙ ends

  pub no_receiver : slice_get channel.receivers.items 0 ≡ None → None ≡ meeting self.rows k
  no_receiver e = sym (ap (both (first_branch channel.senders.items)) (first_none channel.receivers.items e) ∙ both_none_right (first_branch channel.senders.items)) ∙ ends
