-- What is known while values are tried.
use Rattle.std.proofs.Common.{◌≡◌, ℕ, ◌+◌, ◌<◌, ◌≤◌, inl, inr, Bool, true, false, IsTrue, ◌↔◌, if◌then◌else◌, List, [], refl, sym, ap, subst, ◌∙◌, arith}
use Rattle.std.proofs.lemmas.Bool.{cases_lt}
use Rattle.cb_term.specs.declared.name.Name.{Name}
use Rattle.cb_term.specs.declared.kind.Domain.{Domain}
use Rattle.cb_term.specs.declared.value.Value.{Value}
use Rattle.cb_term.specs.Names.{same_name}
use Rattle.cb_term.specs.Tree.{FormulaTree}
use Rattle.cb_term.specs.Values.{Look, set_at}
use Rattle.cb_term.specs.Holds.{Holds}
use Rattle.cb_eval.specs.TypedIn.{TypedIn}
use Rattle.cb_eval.specs.Walks.{count_of, value_number}
use Rattle.cb_eval.proofs.WalkLemmas.{walk_in, numbered}
use Rattle.cb_spec.specs.Stores.{Writes, look_of}
use Rattle.cb_relation.specs.declared.known.Known.{Known}
use Rattle.cb_relation.specs.Trying.{writes_of, look_in, TypedForEach, SomeMeets, IsChosen}

-- the look-ups differ at this name alone
abbrev pub SameBut : Name → Look → Look → Type 0
SameBut z look look' = (v : Value) → set_at look z v ≡ set_at look' z v

pub set_again : (look : Look) (z : Name) (u v : Value) → set_at (set_at look z u) z v ≡ set_at look z v
set_again look z u v = λ i y. again y i
  where
    again : (y : Name) → set_at (set_at look z u) z v y ≡ set_at look z v y
    again y = elim (same_name y z) as (λ b. (if b then v else (if b then u else look y)) ≡ (if b then v else look y)) [ true ↦ refl | false ↦ refl ]

is_last : {i j : ℕ} → i ≤ j → j < i + 1 → j ≡ i
is_last lo hi = omega (arith, lo, hi)

-- names stand for what they did, but z, and the values with these numbers fail the test
pub record Tried (sizes : List ℕ) (old new : Look) (z : Name) (domain : Domain) (p : FormulaTree) (from to : ℕ) : Type 0 where
  pub same : SameBut z new old
  pub fail : (i : ℕ) → from ≤ i → i < to → ¬ Holds sizes (set_at old z (value_number sizes domain i)) p []

module _ (sizes : List ℕ) (z : Name) (domain : Domain) (p : FormulaTree) where
  pub tried_none : (old new : Look) (from : ℕ) → SameBut z new old → Tried sizes old new z domain p from from
  tried_none old new from same = record { same = same; fail = λ i lo hi. absurd (omega (arith, lo, hi)) }

  -- the value with this number
  abbrev at : Look → ℕ → Look
  at look i = set_at look z (value_number sizes domain i)

  -- the test is still typed
  pub tried_typed : (old new : Look) → SameBut z new old → TypedForEach sizes old z domain p → TypedForEach sizes new z domain p
  tried_typed old new same typed v i = subst (λ l. TypedIn sizes l p) (sym (same v)) (typed v i)

  pub put_typed : (old : Look) (i : ℕ) (v : Value) (known : Known) (store : Writes) → TypedForEach sizes old z domain p → i < count_of sizes domain →
      v ≡ value_number sizes domain i → look_in known ≡ set_at old z v → store ≡ writes_of known → TypedIn sizes (look_of store) p
  put_typed old i v known store typed below is put in_store =
      let look_is : look_of store ≡ at old i = ap look_of in_store ∙ put ∙ ap (set_at old z) is in
      subst (λ l. TypedIn sizes l p) (sym look_is) (typed (value_number sizes domain i) (walk_in sizes domain i below))

  pub tried_same : (old mid new : Look) (i : ℕ) → SameBut z mid old → new ≡ at mid i → SameBut z new old
  tried_same old mid new i same is v = ap (λ l. set_at l z v) is ∙ set_again mid z (value_number sizes domain i) v ∙ same v

  -- one more that fails
  pub tried_more : (old mid new : Look) (from i : ℕ) (b : Bool) → Tried sizes old mid z domain p from i → new ≡ at mid i →
      (IsTrue b ↔ Holds sizes (at mid i) p []) → b ≡ false → Tried sizes old new z domain p from (i + 1)
  tried_more old mid new from i b t is met not_met = record {
    same = tried_same old mid new i t.same is;
    fail = λ j lo hi holds. elim (cases_lt j i) [
      | inl below ↦ t.fail j lo below holds
      | inr last ↦ fails (subst (λ l. Holds sizes l p []) (sym (t.same (value_number sizes domain i))) (subst (λ k. Holds sizes (at old k) p []) (is_last last hi) holds))
    ];
  }
    where
      fails : ¬ Holds sizes (at mid i) p []
      fails h = let is_met : b ≡ true = met.1 h in cc

  -- one that meets it
  pub tried_found : (old mid new : Look) (i : ℕ) (b : Bool) → SameBut z mid old → i < count_of sizes domain → new ≡ at mid i →
      (IsTrue b ↔ Holds sizes (at mid i) p []) → b ≡ true → IsChosen sizes old new z domain p
  tried_found old mid new i b same below is met is_met =
      let v = value_number sizes domain i in
      (v, (walk_in sizes domain i below, subst (λ l. Holds sizes l p []) (same v) (met.0 is_met), is ∙ same v))

  -- not all fail
  pub tried_all : (old new new' : Look) (start end i : ℕ) → SomeMeets sizes old z domain p → end ≡ count_of sizes domain →
      Tried sizes old new z domain p start end → Tried sizes old new' z domain p 0 i → start ≤ i → ⊥
  tried_all old new new' start end i some is high low through = some (λ v is_in holds.
      let n = numbered sizes domain v is_in in
      let holds' : Holds sizes (at old n.number) p [] = subst (λ w. Holds sizes (set_at old z w) p []) (sym n.is) holds in
      elim (cases_lt n.number start) [
        | inl below ↦ low.fail n.number (omega arith) (omega (arith, below, through)) holds'
        | inr from ↦ high.fail n.number from (subst (λ k. n.number < k) (sym is) n.below) holds'
      ])
