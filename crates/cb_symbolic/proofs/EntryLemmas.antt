-- The last entries of a store, and lists that are taken from their ends.
use Rattle.std.proofs.Common.{◌≡◌, ℕ, ◌+◌, ◌-◌, ◌<◌, ◌≤◌, true, false, List, [], ◌∷◌, ◌++◌, length, take, drop, reverse, get_or, append_assoc, length-append, refl, sym, ap, ◌∙◌, arith, if◌then◌else◌}
use Rattle.std.proofs.lemmas.List.{take_more, take-append-le, drop-append-le, reverse-append, length-take}
use Rattle.cb_term.specs.declared.name.Name.{Name}
use Rattle.cb_term.specs.Names.{same_name}
use Rattle.cb_term.specs.Tree.{TermTree}
use Rattle.cb_obligations.specs.Branches.{Assigned}
use Rattle.cb_conditions.specs.Reading.{Meaning, itself, with_terms}
use Rattle.cb_symbolic.specs.Stores.{standing, meaning_of}

-- ---- what the last entries stand for

standing_append : (s : Meaning) (es ws : Assigned) → standing s (es ++ ws) ≡ standing (standing s es) ws
standing_append s [] ws = refl
standing_append s (e ∷ es) ws = standing_append (with_terms (e ∷ []) s) es ws

pub meaning_push : (es : Assigned) (e : Name × TermTree) → meaning_of (es ++ e ∷ []) ≡ with_terms (e ∷ []) (meaning_of es)
meaning_push es e = standing_append itself es (e ∷ [])

-- by the entries up to one, a name stands for what this one or those before it say
last_entry : (es : Assigned) (i : ℕ) (e : Name × TermTree) (y : Name) → 0 < i → i ≤ length es → e ≡ get_or es (i - 1) e →
    meaning_of (take i es) y ≡ (if same_name y e.0 then e.1 else meaning_of (take (i - 1) es) y)
last_entry es i e y some within is =
    let next : i ≡ i - 1 + 1 = omega (arith, some) in
    ap (λ n. meaning_of (take n es) y) next
    ∙ (ap (λ l. meaning_of l y) (take_more es (i - 1) e (omega (arith, some, within)) ∙ ap (λ x. take (i - 1) es ++ x ∷ []) (sym is))
    ∙ ap (λ (s : Meaning). s y) (meaning_push (take (i - 1) es) e))

pub found_entry : (es : Assigned) (i : ℕ) (e : Name × TermTree) (x : Name) (t : TermTree) (y : Name) → 0 < i → i ≤ length es → e ≡ get_or es (i - 1) e →
    (x, t) ≡ e → same_name y x ≡ true → meaning_of (take i es) y ≡ e.1
found_entry es i e x t y some within is view same =
    last_entry es i e y some within is ∙ ap (λ b. if b then e.1 else meaning_of (take (i - 1) es) y) ((λ l. same_name y (sym view l).0) ∙ same)

pub passed_entry : (es : Assigned) (i : ℕ) (e : Name × TermTree) (x : Name) (t : TermTree) (y : Name) → 0 < i → i ≤ length es → e ≡ get_or es (i - 1) e →
    (x, t) ≡ e → same_name y x ≡ false → meaning_of (take i es) y ≡ meaning_of (take (i - 1) es) y
passed_entry es i e x t y some within is view other =
    last_entry es i e y some within is ∙ ap (λ b. if b then e.1 else meaning_of (take (i - 1) es) y) ((λ l. same_name y (sym view l).0) ∙ other)

-- ---- writes, the last first

with_last : (ws : Assigned) (w : Name × TermTree) (s : Meaning) (y : Name) → with_terms (ws ++ w ∷ []) s y ≡ with_terms ws (with_terms (w ∷ []) s) y
with_last [] w s y = refl
with_last (v ∷ ws) w s y = ap (λ t. if same_name y v.0 then v.1 else t) (with_last ws w s y)

-- what is written last of the list is put first
pub put_step : (all ws es new : Assigned) (w : Name × TermTree) (s : Meaning) → all ≡ ws ++ w ∷ [] → new ≡ es ++ w ∷ [] →
    with_terms all (meaning_of es) ≡ s → with_terms ws (meaning_of new) ≡ s
put_step all ws es new w s is_all is_new so_far =
    ap (λ l. with_terms ws (meaning_of l)) is_new ∙ (ap (λ m. with_terms ws m) (meaning_push es w)
    ∙ ((λ l y. sym (with_last ws w (meaning_of es) y) l) ∙ (ap (λ l. with_terms l (meaning_of es)) (sym is_all) ∙ so_far)))

-- ---- lists that are the first part of others

pub still_first : {A : Type 0} (first all new : List A) (x : A) → new ≡ all ++ x ∷ [] → take (length first) all ≡ first → take (length first) new ≡ first
still_first first all new x is_new is_first =
    let short : length first ≤ length all = omega (arith, ap length is_first, length-take (length first) all) in
    ap (take (length first)) is_new ∙ (take-append-le (length first) all (x ∷ []) short ∙ is_first)

-- ---- lists that are taken from their ends

pub rest_step : {A : Type 0} (n : ℕ) (all new whole : List A) (x : A) → all ≡ new ++ x ∷ [] → n < length all → take n all ≡ whole → take n new ≡ whole
rest_step n all new whole x is above so_far =
    let short : n ≤ length new = omega (arith, above, ap length is, length-append new (x ∷ [])) in
    sym (take-append-le n new (x ∷ []) short) ∙ (ap (take n) (sym is) ∙ so_far)

pub part_step : {A : Type 0} (n : ℕ) (all new last more whole : List A) (x : A) → all ≡ new ++ x ∷ [] → n < length all → more ≡ last ++ x ∷ [] →
    drop n all ++ reverse last ≡ whole → drop n new ++ reverse more ≡ whole
part_step n all new last more whole x is above is_more so_far =
    let short : n ≤ length new = omega (arith, above, ap length is, length-append new (x ∷ [])) in
    ap (λ l. drop n new ++ l) (ap reverse is_more ∙ reverse-append last (x ∷ []))
    ∙ (sym (append_assoc (drop n new) (x ∷ []) (reverse last))
    ∙ (ap (λ l. l ++ reverse last) (sym (drop-append-le n new (x ∷ []) short) ∙ ap (drop n) (sym is)) ∙ so_far))

pub turn_step : {A : Type 0} (all new made more whole : List A) (x : A) → all ≡ new ++ x ∷ [] → more ≡ made ++ x ∷ [] →
    made ++ reverse all ≡ whole → more ++ reverse new ≡ whole
turn_step all new made more whole x is is_more so_far =
    ap (λ l. l ++ reverse new) is_more ∙ (append_assoc made (x ∷ []) (reverse new)
    ∙ (ap (λ l. made ++ l) (sym (reverse-append new (x ∷ [])) ∙ ap reverse (sym is)) ∙ so_far))
