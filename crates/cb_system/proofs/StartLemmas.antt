-- A running value that begins keeps what it keeps.
use Rattle.std.proofs.Common.{◌≡◌, ℕ, suc, ◌<◌, ◌^◌, List, [], ◌∷◌, map, length, replicate, slice_get, None, Some, refl, sym, ap, subst, ◌∙◌, arith}
use Rattle.std.specs.List.{sum_by}
use Rattle.std.proofs.lemmas.List.Sums.{sum_by-cons}
use Rattle.cb_spec.specs.declared.state.Entry.{Entry}
use Rattle.cb_spec.specs.declared.system.Controller.{Controller}
use Rattle.cb_spec.specs.declared.system.System.{System}
use Rattle.cb_spec.specs.ProcessTree.{ProcessTree}
use Rattle.cb_spec.specs.States.{ControlView, StateView, control_of}
use Rattle.cb_spec.specs.Journals.{begin_at}
use Rattle.cb_spec.specs.Typed.{AllBelow, Typed}
use Rattle.cb_spec.specs.Sound.{Sound, Good}
use Rattle.cb_safety_laws.proofs.Lists.{there}
use Rattle.cb_safety_laws.proofs.Runs.{good_begins}
use Rattle.cb_code.specs.declared.place.Place.{Place}
use Rattle.cb_code.specs.declared.place.Place.TheVariants.{At, Ready, Ended}
use Rattle.cb_offers.specs.declared.offers.Side.{Side}
use Rattle.cb_offers.specs.Tables.{OffersView}
use Rattle.cb_settling.specs.Calling.{IsRoomy}
use Rattle.cb_beginning.specs.declared.begin.Beginning.{Beginning}
use Rattle.cb_beginning.specs.Placed.{tree_control, state_in, Laid}
use Rattle.cb_beginning.specs.Begins.{Begins}
use Rattle.cb_system.specs.Kept.{Keeps, is_unsettled, is_living, AreCounted}
use Rattle.cb_system.specs.Rows.{rows_at}
use Rattle.cb_system.specs.Tabled.{IsTabled}

abbrev AllAt : List Place → Type 0
AllAt [] = Unit {0}
AllAt (At k env ∷ places) = AllAt places
AllAt (Ready ks env ∷ places) = ⊥
AllAt (Ended ∷ places) = ⊥

below_rest : (n k : ℕ) (ks : List ℕ) → AllBelow n (k ∷ ks) → AllBelow n ks
below_rest n k ks h i j at = h (suc i) j at

module _ (ps : List ProcessTree) (cs : List Controller) where
  abbrev begun : List ℕ → List ControlView
  begun order = map (λ k. begin_at (slice_get cs k)) order

  all_at : (places : List Place) (order : List ℕ) → AllBelow (length cs) order → map control_of (map (tree_control ps) places) ≡ begun order → AllAt places
  all_at [] order low e = tt
  all_at (p ∷ places) [] low e = absurd (cc)
  all_at (p ∷ places) (k ∷ order) low e =
      let c = there cs k (low 0 k refl) in
      let head : control_of (tree_control ps p) ≡ begin_at (slice_get cs k) = (cc) in
      let tail : map control_of (map (tree_control ps) places) ≡ begun order = (cc) in
      by p c.0 (head ∙ ap begin_at c.1) (all_at places order (below_rest (length cs) k order low) tail)
    where
      by : (p : Place) (c : Controller) → control_of (tree_control ps p) ≡ begin_at (Some c) → AllAt places → AllAt (p ∷ places)
      by (At j env) c e rest = rest
      by (Ready ks env) c e rest = absurd (cc)
      by Ended c e rest = absurd (cc)

unsettled_all : (places : List Place) → AllAt places → sum_by is_unsettled places ≡ length places
unsettled_all [] h = refl
unsettled_all (At k env ∷ places) h = let c = sum_by-cons is_unsettled (At k env) places in let r = unsettled_all places h in omega (arith, c, r)
unsettled_all (Ready ks env ∷ places) h = absurd h
unsettled_all (Ended ∷ places) h = absurd h

living_all : (places : List Place) → AllAt places → sum_by is_living places ≡ length places
living_all [] h = refl
living_all (At k env ∷ places) h = let c = sum_by-cons is_living (At k env) places in let r = living_all places h in omega (arith, c, r)
living_all (Ready ks env ∷ places) h = absurd h
living_all (Ended ∷ places) h = absurd h

no_rows : (ps : List ProcessTree) (places : List Place) → AllAt places → replicate (length places) [] ≡ rows_at ps places
no_rows ps [] h = refl
no_rows ps (At k env ∷ places) h = ap (λ (rows : List (List Side)). [] ∷ rows) (no_rows ps places h)
no_rows ps (Ready ks env ∷ places) h = absurd h
no_rows ps (Ended ∷ places) h = absurd h

module _ (y : System) (typed : Typed y) (sound : Sound y) (limit : ℕ) (b : Beginning) (begins : Begins y b) where
  at_first : AllAt b.places.items
  at_first = all_at b.code y.controllers b.places.items y.order typed.order_within (ap (λ (s : StateView). s.controls) begins.controls)

  pub few_places : length b.places.items < 2 ^ 32
  few_places = let m = begins.laid.many in let n = typed.numbers in let few = typed.few_controllers in omega (arith, m, n, few)

  pub started : (n len room k : ℕ) (es : List Entry) (offers : OffersView) → n ≡ length b.places.items → es ≡ [] → len < room → k ≡ length y.channels → offers ≡ record { channels = k; rows = replicate n [] } →
      (Keeps y limit b.initial es (state_in b.code b.store b.places.items) 0 None len room × Laid y b.code b.places.items b.bodies.items × IsRoomy y b.store × AreCounted b.places.items n n) × IsTabled y b.code b.places.items offers
  started n len room k es offers many none some channels table = (
    (
      subst (λ (l : List Entry). Keeps y limit b.initial l (state_in b.code b.store b.places.items) 0 None len room) (sym none) (record {
        good = subst (Good y limit b.initial []) (sym begins.controls) (good_begins y typed sound limit b.initial begins.joined begins.begun begins.initial);
        count_is = refl;
        within = omega arith;
        end_is = refl;
        goes_on = λ e. tt;
        space = λ e. some;
      }),
      begins.laid,
      begins.room,
      record { unsettled_is = many ∙ sym (unsettled_all b.places.items at_first); living_is = many ∙ sym (living_all b.places.items at_first) },
    ),
    record { rows_are = ap (λ (o : OffersView). o.rows) table ∙ ap (λ m. replicate m []) many ∙ no_rows b.code b.places.items at_first; channels_are = ap (λ (o : OffersView). o.channels) table ∙ channels },
  )
