-- The cause that is found is the one that is due.
use Rattle.std.proofs.Common.{◌≡◌, ℕ, ◌≢◌, ◌<◌, List, Option, None, Some, sym, subst, ◌∙◌, arith}
use Rattle.cb_spec.specs.declared.state.Entry.{Entry}
use Rattle.cb_spec.specs.declared.state.End.{End}
use Rattle.cb_spec.specs.declared.state.End.TheVariants.{Ended, Limit, Quiet, Memory}
use Rattle.cb_spec.specs.declared.system.System.{System}
use Rattle.cb_spec.specs.ProcessTree.{ProcessTree}
use Rattle.cb_spec.specs.Stores.{Writes}
use Rattle.cb_spec.specs.States.{StateView, state_of}
use Rattle.cb_spec.specs.Journals.{events, AllEnded, IsStill, Due}
use Rattle.cb_code.specs.declared.place.Place.{Place}
use Rattle.cb_offers.specs.declared.offers.Side.{Side}
use Rattle.cb_offers.specs.Tables.{AreIdle}
use Rattle.cb_beginning.specs.Placed.{state_in, Laid}
use Rattle.cb_system.specs.Kept.{Keeps, AreCounted}
use Rattle.cb_system.specs.Dues.{IsCause}
use Rattle.cb_system.specs.Rows.{rows_at}
use Rattle.cb_system.proofs.CauseLemmas.{still_there, stirs_there}
use Rattle.cb_system.proofs.CountLemmas.{all_ended, none_living, all_settled, none_unsettled}

module _ (y : System) (limit : ℕ) (s0 : Writes) (es : List Entry) (ps : List ProcessTree) (store : Writes) (places : List Place) (bodies : List (List ℕ)) (count : ℕ) (end : Option End) (len room unsettled living : ℕ)
    (rows : List (List Side)) (rows_are : rows ≡ rows_at ps places)
    (keeps : Keeps y limit s0 es (state_in ps store places) count end len room) (laid : Laid y ps places bodies) (counted : AreCounted places unsettled living) where
  abbrev now : StateView
  now = state_of (state_in ps store places)

  living_on : living ≢ 0 → ¬ AllEnded now.controls
  living_on n all = n (counted.living_is ∙ none_living ps places all)

  not_limit : count ≢ limit → events es ≢ limit
  not_limit n e = n (keeps.count_is ∙ e)

  still : AreIdle rows → IsStill y now
  still idle = still_there y ps store places (record { limit = limit; beginning = s0; journal = es; good = keeps.good }) laid.offered (subst AreIdle rows_are idle)

  stirs : (¬ AreIdle rows) → ¬ IsStill y now
  stirs busy = stirs_there y ps store places (record { limit = limit; beginning = s0; journal = es; good = keeps.good }) laid.offered (λ idle. busy (subst AreIdle (sym rows_are) idle))

  pub due_is : (c : End) → IsCause living unsettled count limit rows (Some c) → Due y limit es now c
  due_is Ended h = all_ended ps places (sym counted.living_is ∙ h)
  due_is Limit h = (living_on h.0, sym keeps.count_is ∙ h.1)
  due_is Quiet h = (living_on h.0, not_limit h.1, all_settled ps places (sym counted.unsettled_is ∙ h.2), still h.3)
  due_is Memory h = h

  pub none_due : IsCause living unsettled count limit rows None → (c : End) → ¬ Due y limit es now c
  none_due h Ended d = h.0 (counted.living_is ∙ none_living ps places d)
  none_due h Limit d = h.1 (keeps.count_is ∙ d.1)
  none_due h Quiet d = stirs (h.2 (counted.unsettled_is ∙ none_unsettled ps places d.2)) d.3
  none_due h Memory d = d

  pub more_due : IsCause living unsettled count limit rows None → events es < limit
  more_due h = let n = h.1 in let w = keeps.within in let c = keeps.count_is in omega (arith, n, w, c)
