-- The printed text of terms and formulas. `sets` are the enumerated sets, and `bound` has the written names of the binders
-- around the tree, the innermost last. What the table or the binders lack prints nothing.
use Rattle.std.specs.Prelude.{ℕ, ◌-◌, ◌==◌, nat_lt, Bool, true, false, not, if◌then◌else◌, List, [], ◌∷◌, ◌++◌, length, Option, Some, None, slice_get, codes, decimal}
pub use Rattle.std.specs.Fmt.{signed_decimal}
use Rattle.cb_term.specs.declared.name.Name.{Name}
use Rattle.cb_term.specs.declared.table.SetNames.{SetNames}
use Rattle.cb_term.specs.declared.sign.TermSign.{TermSign}
use Rattle.cb_term.specs.declared.sign.TermSign.TheVariants.{Add, Minus, Mul, Div, Mod, Range, Union, Inter}
use Rattle.cb_term.specs.declared.sign.RelSign.{RelSign}
use Rattle.cb_term.specs.declared.sign.RelSign.TheVariants.{Equal, Less, AtMost, Member, Subset}
use Rattle.cb_term.specs.Tree.{TermTree, Var, Bound, Num, Truth, Elem, Bin, Neg, Card, Listed, Elems, Truths, Test, TermTrees, End, More, FormulaTree, True, False, Rel, Not, And, Or, Implies, Iff, Every, Exist}

-- ---- names

-- `x` as written, `x#k` opened
abbrev pub name_text : Name → List ℕ
name_text x = if x.number == 0 then x.text else x.text ++ codes "#" ++ decimal x.number

abbrev pub found_text : Option Name → List ℕ
found_text None = []
found_text (Some x) = name_text x

abbrev pub set_text : Option SetNames → List ℕ
set_text None = []
set_text (Some s) = name_text s.name

abbrev pub element_text : Option SetNames → ℕ → List ℕ
element_text None index = []
element_text (Some s) index = found_text (slice_get s.elements index)

abbrev pub bound_text : List Name → ℕ → List ℕ
bound_text bound k = if nat_lt k (length bound) then found_text (slice_get bound (length bound - 1 - k)) else []

-- ---- signs

abbrev pub term_sign_text : TermSign → List ℕ
term_sign_text Add = codes " + "
term_sign_text Minus = codes " - "
term_sign_text Mul = codes " * "
term_sign_text Div = codes " / "
term_sign_text Mod = codes " mod "
term_sign_text Range = codes ".."
term_sign_text Union = 32 ∷ 92 ∷ 47 ∷ 32 ∷ []
term_sign_text Inter = 32 ∷ 47 ∷ 92 ∷ 32 ∷ []

abbrev pub rel_sign_text : RelSign → List ℕ
rel_sign_text Equal = codes " = "
rel_sign_text Less = codes " < "
rel_sign_text AtMost = codes " <= "
rel_sign_text Member = codes " : "
rel_sign_text Subset = codes " <: "

-- ---- trees

abbrev pub only_if : Bool → List ℕ → List ℕ
only_if wanted bytes = if wanted then bytes else []

abbrev pub wrapped : Bool → List ℕ → List ℕ
wrapped w bytes = only_if w (codes "(") ++ bytes ++ only_if w (codes ")")

-- `=` and `:`, which print a negation as a sign of their own
abbrev pub has_negated_sign : FormulaTree → Bool
has_negated_sign (Rel Equal a b) = true
has_negated_sign (Rel Member a b) = true
has_negated_sign f = false

abbrev pub is_and : FormulaTree → Bool
is_and (And f g) = true
is_and f = false

abbrev pub is_or : FormulaTree → Bool
is_or (Or f g) = true
is_or f = false

-- A tree that is `inner` is an operand, of a sign, a minus or a connective: then it has parentheses if it has such a sign or
-- connective between two operands itself. Only an `&` on the left of an `&`, and an `or` on the left of an `or`, has none
module _ (sets : List SetNames) where
  abbrev mutual
    pub term_text : List Name → Bool → TermTree → List ℕ
    term_text bound inner (Var x) = name_text x
    term_text bound inner (Bound k) = bound_text bound k
    term_text bound inner (Num n) = signed_decimal n
    term_text bound inner (Truth b) = if b then codes "TRUE" else codes "FALSE"
    term_text bound inner (Elem set index) = element_text (slice_get sets set) index
    term_text bound inner (Bin sign a b) = wrapped inner (term_text bound true a ++ term_sign_text sign ++ term_text bound true b)
    term_text bound inner (Neg a) = codes "-" ++ term_text bound true a
    term_text bound inner (Card a) = codes "card(" ++ term_text bound false a ++ codes ")"
    term_text bound inner (Listed ts) = codes "{" ++ terms_text bound true ts ++ codes "}"
    term_text bound inner (Elems set) = set_text (slice_get sets set)
    term_text bound inner Truths = codes "BOOL"
    term_text bound inner (Test f) = codes "bool(" ++ formula_text bound false f ++ codes ")"

    -- the terms with commas between them
    pub terms_text : List Name → Bool → TermTrees → List ℕ
    terms_text bound first End = []
    terms_text bound first (More t ts) = only_if (not first) (codes ", ") ++ term_text bound false t ++ terms_text bound false ts

    pub formula_text : List Name → Bool → FormulaTree → List ℕ
    formula_text bound inner True = codes "btrue"
    formula_text bound inner False = codes "bfalse"
    formula_text bound inner (Rel sign a b) = term_text bound false a ++ rel_sign_text sign ++ term_text bound false b
    formula_text bound inner (Not (Rel Equal a b)) = term_text bound false a ++ codes " /= " ++ term_text bound false b
    formula_text bound inner (Not (Rel Member a b)) = term_text bound false a ++ codes " /: " ++ term_text bound false b
    formula_text bound inner (Not f) = codes "not (" ++ formula_text bound false f ++ codes ")"
    formula_text bound inner (And f g) = wrapped inner (formula_text bound (not (is_and f)) f ++ codes " & " ++ formula_text bound true g)
    formula_text bound inner (Or f g) = wrapped inner (formula_text bound (not (is_or f)) f ++ codes " or " ++ formula_text bound true g)
    formula_text bound inner (Implies f g) = wrapped inner (formula_text bound true f ++ codes " => " ++ formula_text bound true g)
    formula_text bound inner (Iff f g) = wrapped inner (formula_text bound true f ++ codes " <=> " ++ formula_text bound true g)
    formula_text bound inner (Every x kind f) = codes "!" ++ name_text x ++ codes ".(" ++ formula_text (bound ++ x ∷ []) false f ++ codes ")"
    formula_text bound inner (Exist x kind f) = codes "#" ++ name_text x ++ codes ".(" ++ formula_text (bound ++ x ∷ []) false f ++ codes ")"
