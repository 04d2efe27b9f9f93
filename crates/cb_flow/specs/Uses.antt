-- The users of one end of all channels at once.
use Rattle.std.specs.Prelude.{ℕ, ◌+◌, List, [], ◌∷◌, Option, if◌then◌else◌}
use Rattle.cb_lex.specs.declared.token.Place.{Place}
use Rattle.cb_lex.specs.declared.raw.event.RawEvent.{RawEvent}
use Rattle.cb_lex.specs.declared.raw.text.RawChannel.{RawChannel}
use Rattle.cb_lex.specs.declared.raw.text.RawController.{RawController}
use Rattle.cb_lex.specs.declared.raw.text.RawDefinition.{RawDefinition}
use Rattle.cb_lex.specs.RawProcessTree.{RawProcessTree, RawProcesses}
use Rattle.cb_judge.specs.Meanings.{Names}
use Rattle.cb_text_laws.specs.UseFaults.{Side, Users, is_number, with_use, after_event_use, after_use, after_uses, definitions_use, controllers_use, users_of}

module _ {A B : Type 0} where
  -- each with the number of its place, the first with k
  abbrev pub each_from : (ℕ → A → B) → ℕ → List A → List B
  each_from f k [] = []
  each_from f k (a ∷ rest) = f k a ∷ each_from f (k + 1) rest

-- the users of each channel, after those of the list; the controller has the number i
unfoldable pub number_uses : ℕ → Place → Option ℕ → List Users → List Users
number_uses i p number us = each_from (λ k u. if is_number k number then with_use i p u else u) 0 us

module _ (names : Names) (side : Side) where
  unfoldable pub event_uses : ℕ → RawEvent → List Users → List Users
  event_uses i e us = each_from (λ k u. after_event_use names side k i u e) 0 us

  unfoldable pub process_uses : ℕ → RawProcessTree → List Users → List Users
  process_uses i p us = each_from (λ k u. after_use names side k i u p) 0 us

  unfoldable pub processes_uses : ℕ → RawProcesses → List Users → List Users
  processes_uses i ps us = each_from (λ k u. after_uses names side k i u ps) 0 us

  unfoldable pub definitions_uses : ℕ → List RawDefinition → List Users → List Users
  definitions_uses i ds us = each_from (λ k u. definitions_use names side k i u ds) 0 us

  -- of these controllers, the first of which has the number i
  unfoldable pub controllers_uses : ℕ → List RawController → List Users → List Users
  controllers_uses i cs us = each_from (λ k u. controllers_use names side k i u cs) 0 us

  -- of the whole text
  unfoldable pub all_users : List RawController → List RawChannel → List Users
  all_users cs channels = each_from (λ k c. users_of names side k cs) 0 channels
