-- How many chains of processes are among kinds, and what an action with one effect does to them.
use Rattle.std.proofs.Common.{◌≡◌, ℕ, ◌+◌, Bool, true, false, eqb, List, [], ◌∷◌, ◌++◌, refl, arith, cond}
use Rattle.std.specs.Prelude.{Option, Some, None}
use Rattle.cb_engine.specs.Kinds.{Effect, same_kinds}
use Rattle.cb_engine.specs.Leading.{kinds_same}
use Rattle.cb_grammar.specs.Signatures.{chain_kind}
use Rattle.cb_shapes.proofs.Finer.{onto, split, within, act}

abbrev one : Bool → ℕ
one true = 1
one false = 0

abbrev pub chains : List ℕ → ℕ
chains [] = 0
chains (k ∷ ks) = one (eqb k chain_kind) + chains ks

chains_append : (a b : List ℕ) → chains (a ++ b) ≡ chains a + chains b
chains_append [] b = omega arith
chains_append (k ∷ a) b = let h = chains_append a b in omega (arith, h)

-- an action that takes and leaves these, always as many
abbrev pub only : List ℕ → List ℕ → List Effect
only t l = record { takes = t; leaves = l } ∷ []

split_is : (w k : List ℕ) (p : List ℕ × List ℕ) → split w k ≡ Some p → k ≡ p.0 ++ p.1
split_is [] k p e = let q : p ≡ ([], k) = cc in rw q refl
split_is (x ∷ w) [] p e = absurd (cc)
split_is (x ∷ w) (y ∷ k) p e = go (split w k) refl (split_is w k) e
  where
    go : (o : Option (List ℕ × List ℕ)) → split w k ≡ o → ((q : List ℕ × List ℕ) → split w k ≡ Some q → k ≡ q.0 ++ q.1) → onto y o ≡ Some p → y ∷ k ≡ p.0 ++ p.1
    go None f more e = absurd (cc)
    go (Some q) f more e =
        let h : k ≡ q.0 ++ q.1 = more q f in
        let i : p ≡ (y ∷ q.0, q.1) = cc in
        rw (i, ← h) refl

-- what an action takes is on top, and what it leaves takes the place
pub acted_is : (t l k m : List ℕ) → act (only t l) k ≡ Some m → (r : List ℕ) × (k ≡ t ++ r) × (m ≡ l ++ r)
acted_is t l k m e = go (split t k) refl e
  where
    turn : (p : List ℕ × List ℕ) → k ≡ p.0 ++ p.1 → (b : Bool) → same_kinds t p.0 ≡ b → cond b (Some (l ++ p.1)) None ≡ Some m → (r : List ℕ) × (k ≡ t ++ r) × (m ≡ l ++ r)
    turn p f false g e = absurd (cc)
    turn p f true g e =
        let h : t ≡ p.0 = kinds_same t p.0 g in
        let i : m ≡ l ++ p.1 = cc in
        (p.1, rw h f, i)

    go : (o : Option (List ℕ × List ℕ)) → split t k ≡ o → within (only t l) o ≡ Some m → (r : List ℕ) × (k ≡ t ++ r) × (m ≡ l ++ r)
    go None f e = absurd (cc)
    go (Some p) f e = turn p (split_is t k p f) (same_kinds t p.0) refl e

chains_of : (t r k : List ℕ) → k ≡ t ++ r → chains k ≡ chains t + chains r
chains_of t r k e = rw e (chains_append t r)

pub acted_chains : (t l k m : List ℕ) → act (only t l) k ≡ Some m → chains k + chains l ≡ chains m + chains t
acted_chains t l k m e =
    let h = acted_is t l k m e in
    omega (arith, chains_of t h.0 k h.1, chains_of l h.0 m h.2)
