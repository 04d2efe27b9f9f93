-- Texts with commas, put together piece by piece.
use Rattle.std.proofs.Common.{◌≡◌, ℕ, zero, suc, ◌+◌, ◌<◌, ◌≤◌, ℤ, pos, min, Bool, false, not, codes, get_or, List, [], ◌∷◌, ◌++◌, length, drop, refl, sym, ap, ◌∙◌, arith}
use Rattle.std.proofs.lemmas.List.{append_assoc, drop_more}
use Rattle.cb_term.specs.declared.kind.Base.{Base}
use Rattle.cb_term.specs.declared.kind.Kind.{Kind}
use Rattle.cb_term.specs.declared.table.SetNames.{SetNames}
use Rattle.cb_term.specs.declared.value.Value.{Value}
use Rattle.cb_term.specs.Text.{only_if}
use Rattle.cb_run_text.specs.Traces.{item_text, items_text, values_text}

-- a comma, or none, and then a piece
pub put_step : (out comma piece rest mid new : List ℕ) → mid ≡ out ++ comma → new ≡ mid ++ piece → new ++ rest ≡ out ++ (comma ++ piece ++ rest)
put_step out comma piece rest mid new m k =
    ap (λ xs. xs ++ rest) (k ∙ ap (λ xs. xs ++ piece) m) ∙ append_assoc (out ++ comma) piece rest ∙ append_assoc out comma (piece ++ rest)
    ∙ ap (λ xs. out ++ xs) (sym (append_assoc comma piece rest))

module _ (sets : List SetNames) (first : Bool) where
  none_left : (ks : List Kind) → values_text sets first ks [] ≡ []
  none_left [] = refl
  none_left (k ∷ ks) = refl

  -- where the kinds or the values are at an end, nothing more is put
  pub values_end : (i : ℕ) (ks : List Kind) (vs : List Value) → min (length ks) (length vs) ≤ i → values_text sets first (drop i ks) (drop i vs) ≡ []
  values_end zero [] vs h = refl
  values_end zero (k ∷ ks) [] h = refl
  values_end zero (k ∷ ks) (v ∷ vs) h = absurd (omega (arith, h))
  values_end (suc i) [] vs h = refl
  values_end (suc i) (k ∷ ks) [] h = none_left (drop i ks)
  values_end (suc i) (k ∷ ks) (v ∷ vs) h = values_end i ks vs (omega (arith, h))

-- what is left of a list of items begins with the one that is read
pub items_more : (sets : List SetNames) (b : Base) (first : Bool) (ns : List ℤ) (i : ℕ) → i < length ns →
    items_text sets b first (drop i ns) ≡ only_if (not first) (codes ", ") ++ item_text sets b (get_or ns i (pos 0)) ++ items_text sets b false (drop (i + 1) ns)
items_more sets b first ns i lt = ap (items_text sets b first) (drop_more ns i (pos 0) lt)
