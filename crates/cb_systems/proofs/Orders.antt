-- Places of controllers in the order, and channels one after another.
use Rattle.std.proofs.Common.{◌≡◌, ◌∙◌, ◌+◌, ◌<◌, ◌++◌, ◌∷◌, [], ℕ, Bool, true, false, List, Option, Some, None, length, drop, get_or, sym, ap, append_assoc, refl, arith, cond, not, nat_lt, if◌then◌else◌, ◌==◌, ◌≤◌}
use Rattle.std.specs.List.{prefix_len}
use Rattle.std.specs.Prelude.{position as first_place}
use Rattle.std.proofs.lemmas.Bool.{ltb-false}
use Rattle.std.proofs.lemmas.Option.{same_Some}
use Rattle.cb_term.proofs.Steps.{drop_step}
use Rattle.cb_lex.specs.declared.raw.text.RawChannel.{RawChannel}
use Rattle.cb_lex.specs.declared.raw.text.RawController.{RawController}
use Rattle.cb_spec.specs.declared.system.Channel.{Channel}
use Rattle.cb_judge.specs.declared.names.View.{View}
use Rattle.cb_judge.specs.Meanings.{Names}
use Rattle.cb_types.specs.Declares.{next}
use Rattle.cb_text_laws.specs.NormalTexts.{channel_in, channels_in, position}

-- how many stand before the number is its place
place_is : (k : ℕ) (ks : List ℕ) → prefix_len (λ j. not (k == j)) ks ≡ position k ks
place_is k [] = refl
place_is k (j ∷ ks) = by_test (k == j) (place_is k ks)
  where
    by_test : (b : Bool) → prefix_len (λ i. not (k == i)) ks ≡ position k ks →
        cond (not b) (1 + prefix_len (λ i. not (k == i)) ks) 0 ≡ (if b then 0 else position k ks + 1)
    by_test true e = refl
    by_test false e = omega (arith, e)

within : (p : ℕ → Bool) (ks : List ℕ) → prefix_len p ks ≤ length ks
within p [] = omega arith
within p (k ∷ ks) = by_test (p k) (within p ks)
  where
    by_test : (b : Bool) → prefix_len p ks ≤ length ks → cond b (1 + prefix_len p ks) 0 ≤ length (k ∷ ks)
    by_test true l = omega (arith, l)
    by_test false l = omega arith

-- where it stands, if it stands there
pub found_at : (k : ℕ) (ks : List ℕ) (i : ℕ) → first_place (λ j. k == j) ks ≡ Some i → i ≡ position k ks
found_at k ks i e = by_test (nat_lt (prefix_len (λ j. not (k == j)) ks) (length ks)) e
  where
    by_test : (b : Bool) → cond b (Some (prefix_len (λ j. not (k == j)) ks)) None ≡ Some i → i ≡ position k ks
    by_test true e = sym (same_Some _ i e) ∙ place_is k ks
    by_test false e = cc

pub lost : (k : ℕ) (ks : List ℕ) → first_place (λ j. k == j) ks ≡ None → length ks ≡ position k ks
lost k ks e = by_test (nat_lt (prefix_len (λ j. not (k == j)) ks) (length ks)) refl e
  where
    by_test : (b : Bool) → nat_lt (prefix_len (λ j. not (k == j)) ks) (length ks) ≡ b → cond b (Some (prefix_len (λ j. not (k == j)) ks)) None ≡ None → length ks ≡ position k ks
    by_test true l e = cc
    by_test false l e = omega (arith, ltb-false _ _ l, within (λ j. not (k == j)) ks, place_is k ks)

-- with one channel more
pub one_more : (v : View) (names : Names) (cs : List RawController) (order : List ℕ) (channels : List RawChannel) (i number after : ℕ) (c : RawChannel) (done new : List Channel) (y : Channel) →
    i < length channels → c ≡ get_or channels i c → after ≡ next number → new ≡ done ++ y ∷ [] → y ≡ channel_in v names cs order number c →
    done ++ channels_in v names cs order number (drop i channels) ≡ channels_in v names cs order 0 channels →
    new ++ channels_in v names cs order after (drop (i + 1) channels) ≡ channels_in v names cs order 0 channels
one_more v names cs order channels i number after c done new y lt is ea en ey before =
    let rest : ℕ → List Channel = λ n. channels_in v names cs order n (drop (i + 1) channels) in
    ap (λ (z : List Channel). z ++ rest after) en
    ∙ append_assoc done (y ∷ []) (rest after)
    ∙ ap (λ (z : Channel). done ++ z ∷ rest after) ey
    ∙ ap (λ n. done ++ channel_in v names cs order number c ∷ rest n) ea
    ∙ sym (ap (λ (l : List RawChannel). done ++ channels_in v names cs order number l) (drop_step channels i c lt is))
    ∙ before
