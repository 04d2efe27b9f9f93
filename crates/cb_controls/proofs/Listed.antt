-- Parameters: the domains after `<:`, and names that are declared one after another.
use Rattle.std.proofs.Common.{◌≡◌, ℕ, ◌+◌, ◌<◌, List, [], ◌∷◌, map, length, drop, get_or, Option, Some, None, refl, sym, ap, ◌∙◌}
use Rattle.std.specs.Prelude.{ℤ}
use Rattle.cb_lex.specs.declared.raw.domain.RawParam.{RawParam}
use Rattle.cb_lex.specs.declared.raw.name.RawName.{RawName}
use Rattle.cb_forms.specs.declared.fault.Fault.{Fault}
use Rattle.cb_forms.specs.Faults.{Faults, Both, first, least}
use Rattle.cb_judge.specs.Meanings.{Names, double_fault}
use Rattle.cb_judge.specs.Choices.{range_of, subset_of}
use Rattle.cb_term.proofs.Steps.{drop_step}
use Rattle.cb_types.specs.declared.declare.Sort.TheVariants as sort
use Rattle.cb_types.specs.Declares.{Domains, next, with_name, declared, declare_fault, sort_fault}
use Rattle.cb_text_laws.specs.Signatures.{param_name}
use Rattle.cb_controls.specs.Sets.{sets_of}

pub sets_range : (a b : Option ℤ) → sets_of (range_of a b) ≡ subset_of a b
sets_range None b = refl
sets_range (Some lo) None = refl
sets_range (Some lo) (Some hi) = refl

least_none : (a : Option Fault) → least a None ≡ a
least_none None = refl
least_none (Some f) = refl

module _ (ds : Domains) where
  -- the place of a parameter in its list plays no part
  any_place : (i j : ℕ) (w : Names) (xs : List RawName) → declared sort.Parameter [] ds i w xs ≡ declared sort.Parameter [] ds j w xs
  any_place i j w [] = refl
  any_place i j w (x ∷ xs) = any_place (next i) (next j) (with_name sort.Parameter [] ds i x w) xs

  abbrev own : Names → RawName → Faults
  own w x = Both (double_fault w x) (sort_fault sort.Parameter [] ds x)

  any_place_fault : (i j : ℕ) (w : Names) (xs : List RawName) → first (declare_fault sort.Parameter [] ds i w xs) ≡ first (declare_fault sort.Parameter [] ds j w xs)
  any_place_fault i j w [] = refl
  any_place_fault i j w (x ∷ xs) = ap (λ f. least (first (own w x)) f) (any_place_fault (next i) (next j) (with_name sort.Parameter [] ds i x w) xs)

  module _ (w : Names) (ps : List RawParam) (i : ℕ) (p : RawParam) (lt : i < length ps) (is : p ≡ get_or ps i p) where
    abbrev rest : List RawName
    rest = map param_name (drop (i + 1) ps)

    -- the names with that of the first parameter alone
    abbrev one : Names
    one = declared sort.Parameter [] ds 0 w (param_name p ∷ [])

    here : map param_name (drop i ps) ≡ param_name p ∷ rest
    here = ap (map param_name) (drop_step ps i p lt is)

    pub declared_step : declared sort.Parameter [] ds 0 w (map param_name (drop i ps)) ≡ declared sort.Parameter [] ds 0 one rest
    declared_step = ap (declared sort.Parameter [] ds 0 w) here ∙ any_place (next 0) 0 one rest

    pub fault_step : first (declare_fault sort.Parameter [] ds 0 w (map param_name (drop i ps)))
        ≡ least (first (declare_fault sort.Parameter [] ds 0 w (param_name p ∷ []))) (first (declare_fault sort.Parameter [] ds 0 one rest))
    fault_step =
        ap (λ xs. first (declare_fault sort.Parameter [] ds 0 w xs)) here
        ∙ ap (λ f. least (first (own w (param_name p))) f) (any_place_fault (next 0) 0 one rest)
        ∙ ap (λ f. least f (first (declare_fault sort.Parameter [] ds 0 one rest))) (sym (least_none (first (own w (param_name p)))))
