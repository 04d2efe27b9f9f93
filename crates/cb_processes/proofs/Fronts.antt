-- The names outside of those that an event binds are in front.
use Rattle.std.proofs.Common.{◌≡◌, ℕ, Bool, true, false, List, [], ◌∷◌, ◌++◌, take, length, is_some, refl, sym, ap, ◌∙◌, append_assoc}
use Rattle.cb_lex.specs.declared.raw.event.RawEvent.{RawEvent}
use Rattle.cb_lex.specs.declared.raw.event.RawEvent.TheVariants as event
use Rattle.cb_lex.specs.declared.raw.name.RawName.{RawName}
use Rattle.cb_lex.specs.declared.raw.text.RawChannel.{RawChannel}
use Rattle.cb_lex.specs.declared.raw.text.RawMachine.{RawMachine}
use Rattle.cb_forms.specs.declared.form.Form.{Form as Known}
use Rattle.cb_forms.specs.Find.{found, inside, free_spelling}
use Rattle.cb_judge.specs.declared.names.Entry.{Entry}
use Rattle.cb_judge.specs.declared.names.View.{View}
use Rattle.cb_judge.specs.Meanings.{Names}
use Rattle.cb_text_laws.specs.ProcessFaults.{first_meaning, other_forms, with_local, with_locals, after_event}
use Rattle.cb_text_laws.specs.Signatures.{Definitions}

abbrev Grows : Names → Names → Type 0
Grows w v = (es : Names) × (v ≡ w ++ es)

nothing : (w : Names) → w ++ [] ≡ w
nothing [] = refl
nothing (e ∷ w) = ap (λ v. e ∷ v) (nothing w)

stays : (w : Names) → Grows w w
stays w = ([], sym (nothing w))

one : (x : List ℕ) (e : Entry) (w : Names) → Grows w (inside x e w)
one x e w = by (is_some (found x w)) refl
  where
    by : (b : Bool) → is_some (found x w) ≡ b → Grows w (inside x e w)
    by true q = rw q (stays w)
    by false q = rw q ((x, e) ∷ [], refl)

two : (w v u : Names) → Grows w v → Grows v u → Grows w u
two w v u g h = (g.0 ++ h.0, h.1 ∙ ap (λ t. t ++ h.0) g.1 ∙ append_assoc w g.0 h.0)

grows : (w : Names) (xs : List RawName) (fs : List Known) → Grows w (with_locals w xs fs)
grows w [] fs = stays w
grows w (x ∷ xs) fs =
    let v = with_local x (first_meaning fs) w in
    two w v (with_locals v xs (other_forms fs)) (one (free_spelling x.text w) _ w) (grows v xs (other_forms fs))

front : (w es : Names) → take (length w) (w ++ es) ≡ w
front [] es = refl
front (e ∷ w) es = ap (λ v. e ∷ v) (front w es)

pub take_locals : (w : Names) (xs : List RawName) (fs : List Known) → take (length w) (with_locals w xs fs) ≡ w
take_locals w xs fs = ap (take (length w)) (grows w xs fs).1 ∙ front w (grows w xs fs).0

module _ (before globals : Names) (ms : List RawMachine) (channels : List RawChannel) (v : View) (own : List ℕ) (ds : Definitions) where
  take_event : (w : Names) (e : RawEvent) → take (length w) (after_event before globals ms channels v own ds w e) ≡ w
  take_event w (event.Output x ts said) = ap (take (length w)) (stays w).1 ∙ front w (stays w).0
  take_event w (event.Input x xs said) = take_locals w xs _
  take_event w (event.Operation x y ts xs) = take_locals w xs _

  -- the names before an event are left where the walk behind it ends as it began
  pub left_event : (w inner ended back : Names) (n : ℕ) (e : RawEvent) → inner ≡ after_event before globals ms channels v own ds w e → ended ≡ inner → n ≡ length w → back ≡ take n ended → back ≡ w
  left_event w inner ended back n e is kept count cut = cut ∙ ap (λ k. take k ended) count ∙ ap (take (length w)) (kept ∙ is) ∙ take_event w e
