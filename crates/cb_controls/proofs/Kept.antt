-- The definitions of a controller, which a table and their forms keep one after another.
use Rattle.std.proofs.Common.{◌≡◌, ◌⊎◌, inl, inr, ℕ, ◌+◌, ◌<◌, Bool, true, false, Option, Some, None, is_some, List, [], ◌∷◌, ◌++◌, length, drop, get_or, bytes_eq, if◌then◌else◌, option_map, refl, sym, ap, subst, ◌∙◌, arith}
use Rattle.std.proofs.lemmas.List.{length_push, get_or_push}
use Rattle.std.proofs.Math.ListN.{get_or-append}
use Rattle.cb_forms.specs.declared.form.Form.{Form as Known}
use Rattle.cb_forms.specs.Find.{found, inside}
use Rattle.cb_judge.specs.declared.names.View.{View}
use Rattle.cb_judge.specs.Meanings.{Names}
use Rattle.cb_lex.specs.declared.raw.text.RawDefinition.{RawDefinition}
use Rattle.cb_term.proofs.Steps.{drop_step}
use Rattle.cb_types.specs.Declares.{next}
use Rattle.cb_text_laws.specs.Signatures.{Definitions, definitions_from, parameter_forms}
use Rattle.cb_typing.proofs.Lookups.{bytes_tell, found_front, found_last, found_other, inside_new, inside_cases}
use Rattle.cb_controls.specs.declared.definition.Head.{Head}
use Rattle.cb_controls.specs.Heads.{headed, definitions_at}

pub found_headed : (forms : List (List Known)) (heads : List (List ℕ × Head)) (x : List ℕ) → found x (definitions_at forms heads) ≡ option_map (headed forms) (found x heads)
found_headed forms [] x = refl
found_headed forms (e ∷ heads) x = by (bytes_eq x e.0) (found_headed forms heads x)
  where
    by : (b : Bool) → found x (definitions_at forms heads) ≡ option_map (headed forms) (found x heads) →
        (if b then Some (headed forms e.1) else found x (definitions_at forms heads)) ≡ option_map (headed forms) (if b then Some e.1 else found x heads)
    by true r = refl
    by false r = r

module _ {M : Type 0} (x y : List ℕ) (m : M) (w : List (List ℕ × M)) where
  stays : (k : M) → found x w ≡ Some k → found x (inside y m w) ≡ Some k
  stays k e = by (is_some (found y w))
    where
      by : (b : Bool) → found x (if b then w else w ++ (y, m) ∷ []) ≡ Some k
      by true = e
      by false = found_front x k w ((y, m) ∷ []) e

  added : bytes_eq x y ≡ true → found x w ≡ None → found x (inside y m w) ≡ Some m
  added q e =
      let s : x ≡ y = bytes_tell x y q in
      let n : found y w ≡ None = ap (λ z. found z w) (sym s) ∙ e in
      ap (λ z. found z (inside y m w)) s ∙ ap (found y) (inside_new y m w n) ∙ found_last y m w n

  absent : bytes_eq x y ≡ false → found x w ≡ None → found x (inside y m w) ≡ None
  absent q e = by (is_some (found y w))
    where
      by : (b : Bool) → found x (if b then w else w ++ (y, m) ∷ []) ≡ None
      by true = e
      by false = found_other x y m w q ∙ e

abbrev or_else : {A : Type 0} → Option A → Option A → Option A
or_else None b = b
or_else (Some a) b = Some a

-- what is kept or else among the rest is all; and each kept name's forms are there
pub record Keeps (forms : List (List Known)) (heads : List (List ℕ × Head)) (rest all : Definitions) : Type 0 where
  pub same : (x : List ℕ) → or_else (found x (definitions_at forms heads)) (found x rest) ≡ found x all
  pub placed : (x : List ℕ) (h : Head) → found x heads ≡ Some h → h.forms < length forms

module _ (forms : List (List Known)) (heads : List (List ℕ × Head)) (y : List ℕ) (k : ℕ) (own : List Known) (rest all : Definitions) (kept : Keeps forms heads ((y, (k, own)) ∷ rest) all) where
  abbrev head : Head
  head = record { number = k; forms = length forms }

  abbrev more : List (List Known)
  more = forms ++ own ∷ []

  finds : (x : List ℕ) (o : Option Head) → found x (inside y head heads) ≡ o → found x (definitions_at more (inside y head heads)) ≡ option_map (headed more) o
  finds x o e = found_headed more (inside y head heads) x ∙ ap (option_map (headed more)) e

  found_before : (x : List ℕ) (o : Option Head) → found x heads ≡ o →
      or_else (option_map (headed forms) o) (if bytes_eq x y then Some (k, own) else found x rest) ≡ found x all
  found_before x o e =
      ap (λ (a : Option (ℕ × List Known)). or_else a (if bytes_eq x y then Some (k, own) else found x rest)) (sym (found_headed forms heads x ∙ ap (option_map (headed forms)) e))
      ∙ kept.same x

  same_next : (x : List ℕ) (o : Option Head) → found x heads ≡ o → (b : Bool) → bytes_eq x y ≡ b →
      or_else (found x (definitions_at more (inside y head heads))) (found x rest) ≡ found x all
  same_next x (Some h) e b q =
      let there : get_or more h.forms [] ≡ get_or forms h.forms [] = get_or-append forms (own ∷ []) [] h.forms (kept.placed x h e) in
      ap (λ (a : Option (ℕ × List Known)). or_else a (found x rest)) (finds x (Some h) (stays x y head heads h e) ∙ ap (λ fs. Some (h.number, fs)) there)
      ∙ found_before x (Some h) e
  same_next x None e true q =
      let there : get_or more (length forms) [] ≡ own = get_or_push forms own [] (length forms) refl in
      ap (λ (a : Option (ℕ × List Known)). or_else a (found x rest)) (finds x (Some head) (added x y head heads q e) ∙ ap (λ fs. Some (k, fs)) there)
      ∙ ap (λ (b : Bool). if b then Some (k, own) else found x rest) (sym q) ∙ found_before x None e
  same_next x None e false q =
      ap (λ (a : Option (ℕ × List Known)). or_else a (found x rest)) (finds x None (absent x y head heads q e))
      ∙ ap (λ (b : Bool). if b then Some (k, own) else found x rest) (sym q) ∙ found_before x None e

  placed_next : (x : List ℕ) (h : Head) → (found x heads ≡ Some h) ⊎ ((x ≡ y) × (head ≡ h)) → h.forms < length more
  placed_next x h (inl e) = let p = kept.placed x h e in let n = length_push forms own in omega arith
  placed_next x h (inr s) = let p : length forms ≡ h.forms = ap (λ g. g.forms) s.1 in let n = length_push forms own in omega arith

  pub keeps_next : Keeps more (inside y head heads) rest all
  keeps_next = record {
    same = λ x. same_next x (found x heads) refl (bytes_eq x y) refl;
    placed = λ x h e. placed_next x h (inside_cases x y head h heads e);
  }

-- what is found in the table is found among the definitions
pub looks_up : (forms : List (List Known)) (heads : List (List ℕ × Head)) (ds : Definitions) (x : List ℕ) (o : Option Head) → definitions_at forms heads ≡ ds → o ≡ found x heads →
    option_map (headed forms) o ≡ found x ds
looks_up forms heads ds x o view e = ap (option_map (headed forms)) e ∙ sym (found_headed forms heads x) ∙ ap (found x) view

module _ (v : View) (names : Names) (ds : List RawDefinition) (i k : ℕ) (d : RawDefinition) (lt : i < length ds) (is : d ≡ get_or ds i d) where
  rest_here : definitions_from v names k (drop i ds) ≡ (d.name.text, (k, parameter_forms v names d)) ∷ definitions_from v names (next k) (drop (i + 1) ds)
  rest_here = ap (definitions_from v names k) (drop_step ds i d lt is)

  pub keeps_step : (forms : List (List Known)) (heads : List (List ℕ × Head)) (own : List Known) → own ≡ parameter_forms v names d →
      Keeps forms heads (definitions_from v names k (drop i ds)) (definitions_from v names 0 ds) →
      Keeps (forms ++ own ∷ []) (inside d.name.text (record { number = k; forms = length forms }) heads) (definitions_from v names (next k) (drop (i + 1) ds)) (definitions_from v names 0 ds)
  keeps_step forms heads own e kept =
      let here : definitions_from v names k (drop i ds) ≡ (d.name.text, (k, own)) ∷ definitions_from v names (next k) (drop (i + 1) ds) =
      rest_here ∙ ap (λ f. (d.name.text, (k, f)) ∷ definitions_from v names (next k) (drop (i + 1) ds)) (sym e) in
      keeps_next forms heads d.name.text k own (definitions_from v names (next k) (drop (i + 1) ds)) (definitions_from v names 0 ds)
      (subst (λ r. Keeps forms heads r (definitions_from v names 0 ds)) here kept)
