-- What written annotations owe, event by event, and the domains of the values that they name.
use Rattle.std.proofs.Common.{◌≡◌, ℕ, zero, suc, ◌+◌, ◌<◌, List, [], ◌∷◌, ◌++◌, length, drop, get_or, append_assoc, Some, None, slice_get, refl, sym, ap, ◌∙◌, add-one}
use Rattle.cb_term.proofs.Steps.{drop_step}
use Rattle.cb_term.specs.declared.name.Name.{Name}
use Rattle.cb_spec.specs.declared.event.Event.{Event}
use Rattle.cb_spec.specs.declared.event.Event.TheVariants as event
use Rattle.cb_spec.specs.declared.system.Declared.{Declared}
use Rattle.cb_spec.specs.declared.system.System.{System}
use Rattle.cb_spec.specs.ProcessTree.{ProcessTree, Prefix}
use Rattle.cb_conditions.specs.Conditions.{declared_as, match_formulas}
use Rattle.cb_matches.specs.Matches.{declared_at, event_formulas}

pub of_prefix : (y : System) (e : Event) (p : ProcessTree) → match_formulas y (Prefix e p) ≡ event_formulas y e ++ match_formulas y p
of_prefix y (event.Output k ts None) p = refl
of_prefix y (event.Output k ts (Some f)) p = refl
of_prefix y (event.Input k xs None) p = refl
of_prefix y (event.Input k xs (Some f)) p = refl
of_prefix y (event.Call k j ts xs) p = refl

-- two sides, one after the other
pub of_sides : (y : System) (a b left right : ProcessTree) → a ≡ left → b ≡ right → match_formulas y left ++ match_formulas y right ≡ match_formulas y a ++ match_formulas y b
of_sides y a b left right is_left is_right =
    ap (λ p. match_formulas y p ++ match_formulas y right) (sym is_left) ∙ ap (λ q. match_formulas y a ++ match_formulas y q) (sym is_right)

-- ---- one name more

none_declared : (xs : List Name) → declared_as xs [] ≡ []
none_declared [] = refl
none_declared (x ∷ xs) = refl

next_declared : (x : Name) (xs : List Name) (ds : List Declared) (i : ℕ) →
    declared_as (x ∷ xs) (drop i ds) ≡ declared_at x (slice_get ds i) ++ declared_as xs (drop (suc i) ds)
next_declared x xs [] zero = sym (none_declared xs)
next_declared x xs [] (suc i) = sym (none_declared xs)
next_declared x xs (d ∷ ds) zero = refl
next_declared x xs (d ∷ ds) (suc i) = next_declared x xs ds i

pub declared_step : (xs : List Name) (ds : List Declared) (i : ℕ) (x : Name) (old new whole : List Declared) → i < length xs → x ≡ get_or xs i x →
    new ≡ old ++ declared_at x (slice_get ds i) → old ++ declared_as (drop i xs) (drop i ds) ≡ whole →
    new ++ declared_as (drop (i + 1) xs) (drop (i + 1) ds) ≡ whole
declared_step xs ds i x old new whole lt is is_new so_far =
    ap (λ l. l ++ declared_as (drop (i + 1) xs) (drop (i + 1) ds)) is_new
    ∙ append_assoc old (declared_at x (slice_get ds i)) (declared_as (drop (i + 1) xs) (drop (i + 1) ds))
    ∙ ap (λ k. old ++ (declared_at x (slice_get ds i) ++ declared_as (drop (i + 1) xs) (drop k ds))) (add-one i)
    ∙ ap (λ l. old ++ l) (sym (next_declared x (drop (i + 1) xs) ds i))
    ∙ ap (λ l. old ++ declared_as l (drop i ds)) (sym (drop_step xs i x lt is)) ∙ so_far
