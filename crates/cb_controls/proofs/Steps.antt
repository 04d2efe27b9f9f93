-- One step of a walk over arguments and the forms of what they are given to.
use Rattle.std.proofs.Common.{◌≡◌, ◌∙◌, ℕ, ◌+◌, ◌<◌, zero, suc, List, [], ◌∷◌, length, drop, get_or, slice_get, refl, ap, arith}
use Rattle.cb_lex.specs.RawTermTree.{RawTermTree}
use Rattle.cb_forms.specs.declared.form.Form.{Form as Known}
use Rattle.cb_forms.specs.Faults.{first, least, Both}
use Rattle.cb_judge.specs.declared.names.View.{View}
use Rattle.cb_judge.specs.Meanings.{Names}
use Rattle.cb_term.proofs.Steps.{drop_step}
use Rattle.cb_text_laws.specs.ProcessFaults.{arguments_fault}
use Rattle.cb_controls.specs.Given.{given_fault}

-- the forms may have run out
head : (v : View) (names : Names) (fs : List Known) (i : ℕ) (t : RawTermTree) (ts : List RawTermTree) →
    arguments_fault v names (drop i fs) (t ∷ ts) ≡ Both (given_fault v names (slice_get fs i) t) (arguments_fault v names (drop (suc i) fs) ts)
head v names [] zero t ts = refl
head v names [] (suc i) t ts = refl
head v names (f ∷ fs) zero t ts = refl
head v names (f ∷ fs) (suc i) t ts = head v names fs i t ts

pub arguments_step : (v : View) (names : Names) (fs : List Known) (ts : List RawTermTree) (i : ℕ) (t : RawTermTree) → i < length ts → t ≡ get_or ts i t →
    first (arguments_fault v names (drop i fs) (drop i ts)) ≡ least (first (given_fault v names (slice_get fs i) t)) (first (arguments_fault v names (drop (i + 1) fs) (drop (i + 1) ts)))
arguments_step v names fs ts i t lt is =
    let more : suc i ≡ i + 1 = omega arith in
    ap (λ (l : List RawTermTree). first (arguments_fault v names (drop i fs) l)) (drop_step ts i t lt is)
    ∙ ap first (head v names fs i t (drop (i + 1) ts))
    ∙ ap (λ k. first (Both (given_fault v names (slice_get fs i) t) (arguments_fault v names (drop k fs) (drop (i + 1) ts)))) more
