-- Trees read with opened names.
use Rattle.std.proofs.Common.{◌≡◌, ℕ, ◌+◌, ◌==◌, if◌then◌else◌, Bool, true, false, List, [], ◌∷◌, refl, sym, ap, ◌∙◌}
use Rattle.cb_term.specs.declared.name.Name.{Name}
use Rattle.cb_term.specs.Change.{mapped_term, mapped_terms, mapped_formula, name_stays, bound_stays}
use Rattle.cb_term.specs.Size.{term_nodes, terms_nodes, formula_nodes}
use Rattle.cb_term.specs.Tree.{TermTree, Var, Bound, Num, Truth, Elem, Bin, Neg, Card, Listed, Elems, Truths, Test, TermTrees, End, More, FormulaTree, True, False, Rel, Not, And, Or, Implies, Iff, Every, Exist}
use Rattle.cb_obligations.specs.Pieces.{freed}
use Rattle.cb_conditions.specs.Reading.{Meaning, meaning_at, read_term, read}
use Rattle.cb_conditions.proofs.Trees.{fused_term, fused, same_again_term, same_again}
use Rattle.cb_symbolic.specs.Stores.{opened_names, read_opened}

-- ---- one map for reading and opening

abbrev Equally : ℕ → ℕ → ℕ → Type 0
Equally i j k = i ≡ k

equally_more : (i j k : ℕ) → Equally i j k → Equally (i + 1) (j + 1) (k + 1)
equally_more i j k e = ap (λ n. n + 1) e

module _ (s : Meaning) (ys : List Name) where
  names_are : (i j k : ℕ) (y : Name) → Equally i j k → mapped_term name_stays (freed ys) i (meaning_at s j y) ≡ opened_names s ys k y
  names_are i j k y e = ap (λ n. mapped_term name_stays (freed ys) n (s y)) e

  bounds_are : (i j k m : ℕ) → Equally i j k → mapped_term name_stays (freed ys) i (bound_stays j m) ≡ freed ys k m
  bounds_are i j k m e = ap (λ n. freed ys n m) e

  pub opened_is : (f : FormulaTree) → mapped_formula (opened_names s ys) (freed ys) 0 f ≡ read_opened s ys f
  opened_is f = sym (fused name_stays (freed ys) (meaning_at s) bound_stays (opened_names s ys) (freed ys) Equally equally_more names_are bounds_are f 0 0 0 refl)

  pub opened_term_is : (t : TermTree) → mapped_term (opened_names s ys) (freed ys) 0 t ≡ mapped_term name_stays (freed ys) 0 (read_term s t)
  opened_term_is t = sym (fused_term name_stays (freed ys) (meaning_at s) bound_stays (opened_names s ys) (freed ys) Equally equally_more names_are bounds_are t 0 0 0 refl)

-- where nothing is opened, trees stay
pub none_opened : (s : Meaning) (f : FormulaTree) → read_opened s [] f ≡ read s f
none_opened s f = same_again (read s f) 0

pub term_is : (s : Meaning) (t : TermTree) → mapped_term (opened_names s []) (freed []) 0 t ≡ read_term s t
term_is s t = opened_term_is s [] t ∙ same_again_term (read_term s t) 0

-- ---- the depth is nothing to what is read

module _ (s : Meaning) where
  mutual
    depth_term : (t : TermTree) (j k : ℕ) → mapped_term (meaning_at s) bound_stays j t ≡ mapped_term (meaning_at s) bound_stays k t
    depth_term (Bin sign a b) j k = let p = depth_term a j k in let q = depth_term b j k in λ l. Bin sign (p l) (q l)
    depth_term (Neg a) j k = let p = depth_term a j k in λ l. Neg (p l)
    depth_term (Card a) j k = let p = depth_term a j k in λ l. Card (p l)
    depth_term (Listed ts) j k = let p = depth_terms ts j k in λ l. Listed (p l)
    depth_term (Test f) j k = let p = depth f j k in λ l. Test (p l)
    depth_term (Var y) j k = refl
    depth_term (Bound i) j k = refl
    depth_term (Num n) j k = refl
    depth_term (Truth b) j k = refl
    depth_term (Elem set index) j k = refl
    depth_term (Elems set) j k = refl
    depth_term Truths j k = refl

    depth_terms : (ts : TermTrees) (j k : ℕ) → mapped_terms (meaning_at s) bound_stays j ts ≡ mapped_terms (meaning_at s) bound_stays k ts
    depth_terms End j k = refl
    depth_terms (More a ts) j k = let p = depth_term a j k in let q = depth_terms ts j k in λ l. More (p l) (q l)

    pub depth : (f : FormulaTree) (j k : ℕ) → mapped_formula (meaning_at s) bound_stays j f ≡ mapped_formula (meaning_at s) bound_stays k f
    depth True j k = refl
    depth False j k = refl
    depth (Rel sign a b) j k = let p = depth_term a j k in let q = depth_term b j k in λ l. Rel sign (p l) (q l)
    depth (Not f) j k = let p = depth f j k in λ l. Not (p l)
    depth (And f g) j k = let p = depth f j k in let q = depth g j k in λ l. And (p l) (q l)
    depth (Or f g) j k = let p = depth f j k in let q = depth g j k in λ l. Or (p l) (q l)
    depth (Implies f g) j k = let p = depth f j k in let q = depth g j k in λ l. Implies (p l) (q l)
    depth (Iff f g) j k = let p = depth f j k in let q = depth g j k in λ l. Iff (p l) (q l)
    depth (Every x kind f) j k = let p = depth f (j + 1) (k + 1) in λ l. Every x kind (p l)
    depth (Exist x kind f) j k = let p = depth f (j + 1) (k + 1) in λ l. Exist x kind (p l)

-- ---- opened names are as large as what they stand for

freed_size : (ys : List Name) (k j : ℕ) → term_nodes (freed ys k j) ≡ 1
freed_size [] k j = refl
freed_size (y ∷ ys) k j = by (j == k) (freed_size ys (k + 1) j)
  where
    by : (b : Bool) → term_nodes (freed ys (k + 1) j) ≡ 1 → term_nodes (if b then Var y else freed ys (k + 1) j) ≡ 1
    by true e = refl
    by false e = e

module _ (ys : List Name) where
  mutual
    size_term : (t : TermTree) (k : ℕ) → term_nodes (mapped_term name_stays (freed ys) k t) ≡ term_nodes t
    size_term (Var y) k = refl
    size_term (Bound j) k = freed_size ys k j
    size_term (Num n) k = refl
    size_term (Truth b) k = refl
    size_term (Elem set index) k = refl
    size_term (Bin sign a b) k = let p = size_term a k in let q = size_term b k in λ l. p l + q l + 1
    size_term (Neg a) k = let p = size_term a k in λ l. p l + 1
    size_term (Card a) k = let p = size_term a k in λ l. p l + 1
    size_term (Listed ts) k = let p = size_terms ts k in λ l. p l + 1
    size_term (Elems set) k = refl
    size_term Truths k = refl
    size_term (Test f) k = let p = size f k in λ l. p l + 1

    size_terms : (ts : TermTrees) (k : ℕ) → terms_nodes (mapped_terms name_stays (freed ys) k ts) ≡ terms_nodes ts
    size_terms End k = refl
    size_terms (More a ts) k = let p = size_term a k in let q = size_terms ts k in λ l. p l + q l

    size : (f : FormulaTree) (k : ℕ) → formula_nodes (mapped_formula name_stays (freed ys) k f) ≡ formula_nodes f
    size True k = refl
    size False k = refl
    size (Rel sign a b) k = let p = size_term a k in let q = size_term b k in λ l. p l + q l + 1
    size (Not f) k = let p = size f k in λ l. p l + 1
    size (And f g) k = let p = size f k in let q = size g k in λ l. p l + q l + 1
    size (Or f g) k = let p = size f k in let q = size g k in λ l. p l + q l + 1
    size (Implies f g) k = let p = size f k in let q = size g k in λ l. p l + q l + 1
    size (Iff f g) k = let p = size f k in let q = size g k in λ l. p l + q l + 1
    size (Every x kind f) k = let p = size f (k + 1) in λ l. p l + 1
    size (Exist x kind f) k = let p = size f (k + 1) in λ l. p l + 1

pub opened_size : (s : Meaning) (ys : List Name) (f : FormulaTree) → formula_nodes (read_opened s ys f) ≡ formula_nodes (read s f)
opened_size s ys f = size ys (read s f) 0
