-- What is true of `Meets` and `Holds` at every term and formula.
use Rattle.std.proofs.Common.{◌≡◌, ℕ, Bool, true, false, List, ◌∷◌, ◌↔◌, IsTrue, ℤ, refl, sym, ap, ap₂, subst, true≢false}
use Rattle.cb_term.specs.declared.value.Value.{Value}
use Rattle.cb_term.specs.declared.value.Value.TheVariants as value
use Rattle.cb_term.specs.Tree.{TermTree, Var, Bound, Num, Truth, Elem, Bin, Neg, Card, Listed, Elems, Truths, Test, TermTrees, End, More, FormulaTree, True, False, Rel, Not, And, Or, Implies, Iff, Every, Exist}
use Rattle.cb_term.specs.Sets.{insert}
use Rattle.cb_term.specs.Values.{Look, item, bin, neg, card, rel}
use Rattle.cb_term.specs.Holds.{Meets, MeetsAll, Holds, IsValue}

-- nothing is lost by a double denial
abbrev pub IsStable : Type 0 → Type 0
IsStable A = ¬ ¬ A → A

pub true_stable : (b : Bool) → IsStable (IsTrue b)
true_stable true h = refl
true_stable false h = absurd (h (λ e. true≢false (sym e)))

module _ (sizes : List ℕ) (look : Look) where
  mutual
    pub meets_mono : (t : TermTree) (env : List Value) (P Q : Value → Type 0) → ((v : Value) → P v → Q v) → Meets sizes look t env P → Meets sizes look t env Q
    meets_mono (Var x) env P Q h m = h _ m
    meets_mono (Bound j) env P Q h m = h _ m
    meets_mono (Num n) env P Q h m = h _ m
    meets_mono (Truth b) env P Q h m = h _ m
    meets_mono (Elem s i) env P Q h m = h _ m
    meets_mono (Elems s) env P Q h m = h _ m
    meets_mono Truths env P Q h m = h _ m
    meets_mono (Bin s a b) env P Q h m = meets_mono a env _ _ (λ u. meets_mono b env _ _ (λ w. h (bin s u w))) m
    meets_mono (Neg a) env P Q h m = meets_mono a env _ _ (λ u. h (neg u)) m
    meets_mono (Card a) env P Q h m = meets_mono a env _ _ (λ u. h (card u)) m
    meets_mono (Listed ts) env P Q h m = all_mono ts env _ _ (λ xs. h (value.Set xs)) m
    meets_mono (Test f) env P Q h m = λ b e. h _ (m b e)

    pub all_mono : (ts : TermTrees) (env : List Value) (P Q : List ℤ → Type 0) → ((xs : List ℤ) → P xs → Q xs) → MeetsAll sizes look ts env P → MeetsAll sizes look ts env Q
    all_mono End env P Q h m = h _ m
    all_mono (More t ts) env P Q h m = meets_mono t env _ _ (λ u. all_mono ts env _ _ (λ xs. h (insert (item u) xs))) m

  mutual
    pub meets_stable : (t : TermTree) (env : List Value) (P : Value → Type 0) → ((v : Value) → IsStable (P v)) → IsStable (Meets sizes look t env P)
    meets_stable (Var x) env P st m = st _ m
    meets_stable (Bound j) env P st m = st _ m
    meets_stable (Num n) env P st m = st _ m
    meets_stable (Truth b) env P st m = st _ m
    meets_stable (Elem s i) env P st m = st _ m
    meets_stable (Elems s) env P st m = st _ m
    meets_stable Truths env P st m = st _ m
    meets_stable (Bin s a b) env P st m = meets_stable a env _ (λ u. meets_stable b env _ (λ w. st (bin s u w))) m
    meets_stable (Neg a) env P st m = meets_stable a env _ (λ u. st (neg u)) m
    meets_stable (Card a) env P st m = meets_stable a env _ (λ u. st (card u)) m
    meets_stable (Listed ts) env P st m = all_stable ts env _ (λ xs. st (value.Set xs)) m
    meets_stable (Test f) env P st m = λ b e. st _ (λ k. m (λ g. k (g b e)))

    pub all_stable : (ts : TermTrees) (env : List Value) (P : List ℤ → Type 0) → ((xs : List ℤ) → IsStable (P xs)) → IsStable (MeetsAll sizes look ts env P)
    all_stable End env P st m = st _ m
    all_stable (More t ts) env P st m = meets_stable t env _ (λ u. all_stable ts env _ (λ xs. st (insert (item u) xs))) m

  pub holds_stable : (f : FormulaTree) (env : List Value) → IsStable (Holds sizes look f env)
  holds_stable True env h = tt
  holds_stable False env h = h (λ e. e)
  holds_stable (Rel s a b) env h = meets_stable a env _ (λ u. meets_stable b env _ (λ w. true_stable (rel s u w))) h
  holds_stable (Not f) env h = λ p. h (λ n. n p)
  holds_stable (And f g) env h = (holds_stable f env (λ n. h (λ p. n p.0)), holds_stable g env (λ n. h (λ p. n p.1)))
  holds_stable (Or f g) env h = λ n. h (λ k. k n)
  holds_stable (Implies f g) env h = λ p. holds_stable g env (λ n. h (λ k. n (k p)))
  holds_stable (Iff f g) env h = (λ p. holds_stable g env (λ n. h (λ k. n (k.0 p))), λ p. holds_stable f env (λ n. h (λ k. n (k.1 p))))
  holds_stable (Every x kind f) env h = λ v i. holds_stable f (v ∷ env) (λ n. h (λ k. n (k v i)))
  holds_stable (Exist x kind f) env h = λ n. h (λ k. k n)

pub like_truths : {A : Type 0} (b c : Bool) → (IsTrue b ↔ A) → (IsTrue c ↔ A) → b ≡ c
like_truths true true e f = refl
like_truths true false e f = sym (f.1 (e.0 refl))
like_truths false true e f = e.1 (f.0 refl)
like_truths false false e f = refl

-- a formula has a truth value, as far as a stable goal can tell
pub by_truth : {A C : Type 0} → IsStable C → ((b : Bool) → (IsTrue b ↔ A) → C) → C
by_truth {A} st go = st (λ nc.
    let no : ¬ A = λ a. nc (go true ((λ _. a), (λ _. refl))) in
    nc (go false ((λ e. absurd (true≢false (sym e))), (λ a. absurd (no a)))))

module _ (sizes : List ℕ) (look : Look) where
  mutual
    -- a term has a value, as far as a stable goal can tell
    pub by_value : (t : TermTree) (env : List Value) (C : Type 0) → IsStable C → ((v : Value) → IsValue sizes look t env v → C) → C
    by_value (Var x) env C st go = go _ refl
    by_value (Bound j) env C st go = go _ refl
    by_value (Num n) env C st go = go _ refl
    by_value (Truth b) env C st go = go _ refl
    by_value (Elem s i) env C st go = go _ refl
    by_value (Elems s) env C st go = go _ refl
    by_value Truths env C st go = go _ refl
    by_value (Bin s a b) env C st go = by_value a env C st (λ u hu. by_value b env C st (λ w hw. go (bin s u w)
        (meets_mono sizes look a env _ _ (λ u' e. meets_mono sizes look b env _ _ (λ w' e'. ap₂ (bin s) e e') hw) hu)))
    by_value (Neg a) env C st go = by_value a env C st (λ u hu. go (neg u) (meets_mono sizes look a env _ _ (λ u' e. ap neg e) hu))
    by_value (Card a) env C st go = by_value a env C st (λ u hu. go (card u) (meets_mono sizes look a env _ _ (λ u' e. ap card e) hu))
    by_value (Listed ts) env C st go = by_values ts env C st (λ xs hx. go (value.Set xs) (all_mono sizes look ts env _ _ (λ ys e. ap value.Set e) hx))
    by_value (Test f) env C st go = by_truth st (λ b e. go (value.Truth b) (λ c e'. ap value.Truth (like_truths c b e' e)))

    pub by_values : (ts : TermTrees) (env : List Value) (C : Type 0) → IsStable C → ((xs : List ℤ) → MeetsAll sizes look ts env (λ ys. ys ≡ xs) → C) → C
    by_values End env C st go = go _ refl
    by_values (More t ts) env C st go = by_value t env C st (λ u hu. by_values ts env C st (λ xs hx. go (insert (item u) xs)
        (meets_mono sizes look t env _ _ (λ u' e. all_mono sizes look ts env _ _ (λ ys e'. ap₂ (λ w zs. insert (item w) zs) e e') hx) hu)))

  mutual
    pub meets_both : (t : TermTree) (env : List Value) (P Q : Value → Type 0) → Meets sizes look t env P → Meets sizes look t env Q → Meets sizes look t env (λ v. P v × Q v)
    meets_both (Var x) env P Q p q = (p, q)
    meets_both (Bound j) env P Q p q = (p, q)
    meets_both (Num n) env P Q p q = (p, q)
    meets_both (Truth b) env P Q p q = (p, q)
    meets_both (Elem s i) env P Q p q = (p, q)
    meets_both (Elems s) env P Q p q = (p, q)
    meets_both Truths env P Q p q = (p, q)
    meets_both (Bin s a b) env P Q p q = meets_mono sizes look a env _ _ (λ u h. meets_both b env _ _ h.0 h.1) (meets_both a env _ _ p q)
    meets_both (Neg a) env P Q p q = meets_both a env _ _ p q
    meets_both (Card a) env P Q p q = meets_both a env _ _ p q
    meets_both (Listed ts) env P Q p q = all_both ts env _ _ p q
    meets_both (Test f) env P Q p q = λ b e. (p b e, q b e)

    pub all_both : (ts : TermTrees) (env : List Value) (P Q : List ℤ → Type 0) → MeetsAll sizes look ts env P → MeetsAll sizes look ts env Q → MeetsAll sizes look ts env (λ v. P v × Q v)
    all_both End env P Q p q = (p, q)
    all_both (More t ts) env P Q p q = meets_mono sizes look t env _ _ (λ u h. all_both ts env _ _ h.0 h.1) (meets_both t env _ _ p q)

  mutual
    -- what holds whatever the value is
    pub meets_const : (t : TermTree) (env : List Value) (C : Type 0) → IsStable C → Meets sizes look t env (λ _. C) → C
    meets_const (Var x) env C st m = m
    meets_const (Bound j) env C st m = m
    meets_const (Num n) env C st m = m
    meets_const (Truth b) env C st m = m
    meets_const (Elem s i) env C st m = m
    meets_const (Elems s) env C st m = m
    meets_const Truths env C st m = m
    meets_const (Bin s a b) env C st m = meets_const a env C st (meets_mono sizes look a env _ _ (λ u. meets_const b env C st) m)
    meets_const (Neg a) env C st m = meets_const a env C st m
    meets_const (Card a) env C st m = meets_const a env C st m
    meets_const (Listed ts) env C st m = all_const ts env C st m
    meets_const (Test f) env C st m = by_truth st m

    pub all_const : (ts : TermTrees) (env : List Value) (C : Type 0) → IsStable C → MeetsAll sizes look ts env (λ _. C) → C
    all_const End env C st m = m
    all_const (More t ts) env C st m = meets_const t env C st (meets_mono sizes look t env _ _ (λ u. all_const ts env C st) m)

  -- what the value meets, the term meets
  pub meets_at : (t : TermTree) (env : List Value) (v : Value) (P : Value → Type 0) → IsValue sizes look t env v → P v → Meets sizes look t env P
  meets_at t env v P is p = meets_mono sizes look t env _ P (λ w e. subst P (sym e) p) is

  pub meets_gives : (t : TermTree) (env : List Value) (v : Value) (P : Value → Type 0) → IsStable (P v) → IsValue sizes look t env v → Meets sizes look t env P → P v
  meets_gives t env v P st is m =
      meets_const t env (P v) st (meets_mono sizes look t env _ _ (λ w h. subst P h.0 h.1) (meets_both t env _ P is m))

  -- what the term's value meets is what the term meets
  pub value_iff : (t : TermTree) (env : List Value) (v : Value) (P : Value → Type 0) → IsStable (P v) → IsValue sizes look t env v → Meets sizes look t env P ↔ P v
  value_iff t env v P st is = (meets_gives t env v P st is, meets_at t env v P is)

pub meets_iff : (sizes : List ℕ) (look : Look) (t : TermTree) (env : List Value) (P Q : Value → Type 0) → ((v : Value) → P v ↔ Q v) → Meets sizes look t env P ↔ Meets sizes look t env Q
meets_iff sizes look t env P Q h = (meets_mono sizes look t env P Q (λ v. (h v).0), meets_mono sizes look t env Q P (λ v. (h v).1))
