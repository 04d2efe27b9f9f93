-- What the numbers of controllers tell: when all have ended, and when all wait.
use Rattle.std.proofs.Common.{◌≡◌, ◌≤◌, List, [], ◌∷◌, map, length, refl, arith}
use Rattle.std.specs.List.{sum_by}
use Rattle.std.proofs.lemmas.List.Sums.{sum_by-cons}
use Rattle.cb_spec.specs.ProcessTree.{ProcessTree}
use Rattle.cb_spec.specs.States.{control_of}
use Rattle.cb_spec.specs.Journals.{AllEnded, AllSettled}
use Rattle.cb_code.specs.declared.place.Place.{Place}
use Rattle.cb_code.specs.declared.place.Place.TheVariants.{At, Ready, Ended}
use Rattle.cb_beginning.specs.Placed.{tree_control}
use Rattle.cb_system.specs.Kept.{is_unsettled, is_living}

pub all_ended : (ps : List ProcessTree) (places : List Place) → sum_by is_living places ≡ 0 → AllEnded (map control_of (map (tree_control ps) places))
all_ended ps [] e = tt
all_ended ps (At k env ∷ places) e = let c = sum_by-cons is_living (At k env) places in absurd (omega (arith, c, e))
all_ended ps (Ready ks env ∷ places) e = let c = sum_by-cons is_living (Ready ks env) places in absurd (omega (arith, c, e))
all_ended ps (Ended ∷ places) e = let c = sum_by-cons is_living Ended places in all_ended ps places (omega (arith, c, e))

pub none_living : (ps : List ProcessTree) (places : List Place) → AllEnded (map control_of (map (tree_control ps) places)) → sum_by is_living places ≡ 0
none_living ps [] h = refl
none_living ps (At k env ∷ places) h = absurd h
none_living ps (Ready ks env ∷ places) h = absurd h
none_living ps (Ended ∷ places) h = let c = sum_by-cons is_living Ended places in let r = none_living ps places h in omega (arith, c, r)

pub all_settled : (ps : List ProcessTree) (places : List Place) → sum_by is_unsettled places ≡ 0 → AllSettled (map control_of (map (tree_control ps) places))
all_settled ps [] e = tt
all_settled ps (At k env ∷ places) e = let c = sum_by-cons is_unsettled (At k env) places in absurd (omega (arith, c, e))
all_settled ps (Ready ks env ∷ places) e = let c = sum_by-cons is_unsettled (Ready ks env) places in all_settled ps places (omega (arith, c, e))
all_settled ps (Ended ∷ places) e = let c = sum_by-cons is_unsettled Ended places in all_settled ps places (omega (arith, c, e))

pub none_unsettled : (ps : List ProcessTree) (places : List Place) → AllSettled (map control_of (map (tree_control ps) places)) → sum_by is_unsettled places ≡ 0
none_unsettled ps [] h = refl
none_unsettled ps (At k env ∷ places) h = absurd h
none_unsettled ps (Ready ks env ∷ places) h = let c = sum_by-cons is_unsettled (Ready ks env) places in let r = none_unsettled ps places h in omega (arith, c, r)
none_unsettled ps (Ended ∷ places) h = let c = sum_by-cons is_unsettled Ended places in let r = none_unsettled ps places h in omega (arith, c, r)

-- no more than there are controllers
pub few_unsettled : (places : List Place) → sum_by is_unsettled places ≤ length places
few_unsettled [] = omega arith
few_unsettled (At k env ∷ places) = let c = sum_by-cons is_unsettled (At k env) places in let r = few_unsettled places in omega (arith, c, r)
few_unsettled (Ready ks env ∷ places) = let c = sum_by-cons is_unsettled (Ready ks env) places in let r = few_unsettled places in omega (arith, c, r)
few_unsettled (Ended ∷ places) = let c = sum_by-cons is_unsettled Ended places in let r = few_unsettled places in omega (arith, c, r)
