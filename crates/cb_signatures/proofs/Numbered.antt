-- The operations of a machine are found by its number, where there are not too many machines.
use Rattle.std.proofs.Common.{◌≡◌, ◌∙◌, ◌+◌, ◌^◌, ◌<◌, ◌++◌, ℕ, zero, suc, Bool, true, false, List, [], ◌∷◌, length, Option, Some, None, bytes_eq, is_some, cond, slice_get, refl, sym, ap, arith, true≢false}
use Rattle.cb_lex.specs.declared.raw.text.RawMachine.{RawMachine}
use Rattle.cb_lex.specs.declared.raw.text.RawOperation.{RawOperation}
use Rattle.cb_forms.specs.Find.{found, inside}
use Rattle.cb_judge.specs.Meanings.{Names}
use Rattle.cb_types.specs.Declares.{inner_view, next}
use Rattle.cb_typing.proofs.Lookups.{bytes_tell}
use Rattle.cb_text_laws.specs.Signatures.{Callee, operations_from, callee_of, callee_in}
use Rattle.cb_signatures.specs.Calls.{among, AreCallees}
use Rattle.cb_signatures.specs.Tables.{signature_of, entered_from, operations_of}

module _ {M : Type 0} where
  -- what is found first, or else this
  abbrev or_else : Option M → Option M → Option M
  or_else None b = b
  or_else (Some a) b = Some a

  or_none : (a : Option M) → a ≡ or_else a None
  or_none None = refl
  or_none (Some a) = refl

  found_already : (o a b : Option M) → is_some o ≡ true → or_else o a ≡ or_else o b
  found_already None a b p = absurd (true≢false (sym p))
  found_already (Some m) a b p = refl

  found_end : (x y : List ℕ) (m : M) (es : List (List ℕ × M)) (b : Option M) → is_some (found y es) ≡ false →
      or_else (found x (es ++ (y, m) ∷ [])) b ≡ or_else (found x es) (cond (bytes_eq x y) (Some m) b)
  found_end x y m [] b p = by (bytes_eq x y) refl
    where
      by : (t : Bool) → bytes_eq x y ≡ t → or_else (found x ((y, m) ∷ [])) b ≡ cond (bytes_eq x y) (Some m) b
      by true q = rw q refl
      by false q = rw q refl
  found_end x y m (e ∷ es) b p = by (bytes_eq x e.0) (bytes_eq y e.0) refl refl (found_end x y m es b)
    where
      by : (t u : Bool) → bytes_eq x e.0 ≡ t → bytes_eq y e.0 ≡ u →
          (is_some (found y es) ≡ false → or_else (found x (es ++ (y, m) ∷ [])) b ≡ or_else (found x es) (cond (bytes_eq x y) (Some m) b)) →
          or_else (found x ((e ∷ es) ++ (y, m) ∷ [])) b ≡ or_else (found x (e ∷ es)) (cond (bytes_eq x y) (Some m) b)
      by t true q r rest = absurd (true≢false (rw r at p))
      by true false q r rest = rw q refl
      by false false q r rest = rw q (rest (rw r at p))

  found_inside : (x y : List ℕ) (m : M) (es : List (List ℕ × M)) (b : Option M) →
      or_else (found x (inside y m es)) b ≡ or_else (found x es) (cond (bytes_eq x y) (Some m) b)
  found_inside x y m es b = by (is_some (found y es)) (bytes_eq x y) refl refl
    where
      by : (t u : Bool) → is_some (found y es) ≡ t → bytes_eq x y ≡ u →
          or_else (found x (inside y m es)) b ≡ or_else (found x es) (cond (bytes_eq x y) (Some m) b)
      by false u p q = let whole = found_end x y m es b p in rw p whole
      by true false p q = rw (p, q) refl
      by true true p q =
          let there : is_some (found x es) ≡ true = ap (λ z. is_some (found z es)) (bytes_tell x y q) ∙ p in
          rw (p, q) (found_already (found x es) b (Some m) there)

module _ (before names : Names) where
  entered_is : (x : List ℕ) (owner j : ℕ) (m : RawMachine) (os : List RawOperation) (entered : List (List ℕ × Callee)) →
      found x (entered_from (inner_view before owner m) names owner j entered os)
      ≡ or_else (found x entered) (callee_of before names owner m (found x (operations_from j os)))
  entered_is x owner j m [] entered = or_none (found x entered)
  entered_is x owner j m (o ∷ os) entered =
      let s = signature_of (inner_view before owner m) names owner j o in
      let rest = callee_of before names owner m (found x (operations_from (next j) os)) in
      entered_is x owner (next j) m os (inside o.name.text s entered)
      ∙ found_inside x o.name.text s entered rest
      ∙ ap (or_else (found x entered)) (by (bytes_eq x o.name.text) refl)
    where
      by : (t : Bool) → bytes_eq x o.name.text ≡ t →
          cond (bytes_eq x o.name.text) (Some (signature_of (inner_view before owner m) names owner j o)) (callee_of before names owner m (found x (operations_from (next j) os)))
          ≡ callee_of before names owner m (found x (operations_from j (o ∷ os)))
      by true q = rw q refl
      by false q = rw q refl

  numbered_is : (x : List ℕ) (ms : List RawMachine) (i k n : ℕ) → i + length ms < 2 ^ 32 → i + k ≡ n →
      among (slice_get (operations_of before names i ms) k) x ≡ callee_in before names n (slice_get ms k) x
  numbered_is x [] i k n few is = refl
  numbered_is x (m ∷ ms) i zero n few is =
      let same : i ≡ n = omega (arith, is) in
      entered_is x i 0 m m.operations [] ∙ ap (λ (owner : ℕ). callee_in before names owner (Some m) x) same
  numbered_is x (m ∷ ms) i (suc k) n few is =
      let step : next i ≡ i + 1 = grind (arith, few) in
      ap (λ (owner : ℕ). among (slice_get (operations_of before names owner ms) k) x) step
      ∙ numbered_is x ms (i + 1) k n (omega (arith, few)) (omega (arith, is))

  pub are_callees : (ms : List RawMachine) → length ms < 2 ^ 32 → AreCallees before names ms (operations_of before names 0 ms)
  are_callees ms few None x = refl
  are_callees ms few (Some k) x = numbered_is x ms 0 k k (omega (arith, few)) (omega arith)
