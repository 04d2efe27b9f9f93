-- The normal form of terms and formulas. What it is of one with a fault does not matter.
use Rattle.std.specs.Prelude.{ℕ, ℤ, pos, neg_ℤ, ◌-◌, ◌^◌, min, true, false, List, length, Option, Some, None, if◌then◌else◌}
use Rattle.std.specs.Ordering.{int_eq}
use Rattle.cb_lex.specs.declared.raw.sign.RawAtom.{RawAtom}
use Rattle.cb_lex.specs.declared.raw.sign.RawAtom.TheVariants as atom
use Rattle.cb_lex.specs.declared.raw.sign.RawOperator.{RawOperator}
use Rattle.cb_lex.specs.declared.raw.sign.RawOperator.TheVariants as operator
use Rattle.cb_lex.specs.declared.raw.sign.RawRelation.{RawRelation}
use Rattle.cb_lex.specs.declared.raw.sign.RawRelation.TheVariants as relation
use Rattle.cb_lex.specs.RawTermTree.{RawTermTree, RawTerms, RawFormulaTree}
use Rattle.cb_lex.specs.RawTermTree as raw
use Rattle.cb_term.specs.declared.kind.Domain.{Domain}
use Rattle.cb_term.specs.declared.kind.Domain.TheVariants as domain
use Rattle.cb_term.specs.declared.name.Name.{Name}
use Rattle.cb_term.specs.declared.sign.RelSign.TheVariants.{Equal, Less, AtMost, Member, Subset}
use Rattle.cb_term.specs.declared.sign.TermSign.{TermSign}
use Rattle.cb_term.specs.declared.sign.TermSign.TheVariants as sign
use Rattle.cb_term.specs.Tree.{TermTree, Var, Bound, Num, Truth, Elem, Bin, Neg, Card, Listed, Elems, Truths, Test, TermTrees, End, More, FormulaTree, True, False, Rel, Not, And, Or, Implies, Iff, Every, Exist}
use Rattle.cb_spec.specs.Domains.{kind_of_domain}
use Rattle.cb_forms.specs.Find.{found}
use Rattle.cb_judge.specs.declared.domain.Choice.{Choice}
use Rattle.cb_judge.specs.declared.names.Entry.{Entry}
use Rattle.cb_judge.specs.declared.names.Meaning.{Meaning}
use Rattle.cb_judge.specs.declared.names.Meaning.TheVariants as meaning
use Rattle.cb_judge.specs.declared.names.View.{View}
use Rattle.cb_judge.specs.Meanings.{Names}
use Rattle.cb_judge.specs.Choices.{maxint, typing_in}
use Rattle.cb_judge.specs.Judged.{under}

-- a name as it is written
abbrev pub written : List ℕ → Name
written x = record { text = x; number = 0 }

-- the binders between a bound variable and its own, where so many names are known; there are fewer than 2 ^ 32
abbrev pub index_of : ℕ → ℕ → ℕ
index_of known level = min (known - level - 1) (2 ^ 32 - 1)

-- what stands for a name where so many names are known
abbrev pub meaning_term : ℕ → List ℕ → Meaning → TermTree
meaning_term known x (meaning.Constant owner n) = Num n
meaning_term known x (meaning.Element owner set index) = Elem set index
meaning_term known x (meaning.Set owner set size) = Elems set
meaning_term known x (meaning.Bound level form) = Bound (index_of known level)
meaning_term known x m = Var (written x)

abbrev pub named : ℕ → List ℕ → Option Entry → TermTree
named known x None = Var (written x)
named known x (Some e) = meaning_term known x e.meaning

abbrev pub range : ℤ → ℤ → TermTree
range lo hi = Bin sign.Range (Num lo) (Num hi)

abbrev pub atom_term : RawAtom → TermTree
atom_term atom.True = Truth true
atom_term atom.False = Truth false
atom_term atom.MaxInt = Num maxint
atom_term atom.MinInt = Num (neg_ℤ maxint)
atom_term atom.Nat = range (pos 0) maxint
atom_term atom.Nat1 = range (pos 1) maxint
atom_term atom.Int = range (neg_ℤ maxint) maxint
atom_term atom.Truths = Truths

abbrev pub sign_of : RawOperator → TermSign
sign_of operator.Plus = sign.Add
sign_of operator.Minus = sign.Minus
sign_of operator.Times = sign.Mul
sign_of operator.Divide = sign.Div
sign_of operator.Mod = sign.Mod
sign_of operator.UpTo = sign.Range
sign_of operator.Union = sign.Union
sign_of operator.Intersection = sign.Inter

-- a minus, which a number takes in where 64 bits hold it then
abbrev pub minus : TermTree → TermTree
minus (Num n) = if int_eq n (neg_ℤ (pos (2 ^ 63))) then Neg (Num n) else Num (neg_ℤ n)
minus t = Neg t

abbrev pub related : RawRelation → TermTree → TermTree → FormulaTree
related relation.Equal a b = Rel Equal a b
related relation.Unequal a b = Not (Rel Equal a b)
related relation.Less a b = Rel Less a b
related relation.AtMost a b = Rel AtMost a b
related relation.Greater a b = Rel Less b a
related relation.AtLeast a b = Rel AtMost b a
related relation.Member a b = Rel Member a b
related relation.NotMember a b = Not (Rel Member a b)
related relation.Subset a b = Rel Subset a b

abbrev pub domain_or : Option Choice → Domain
domain_or None = domain.Range (pos 0) (pos 0)
domain_or (Some c) = c.domain

module _ (v : View) where
  abbrev mutual
    pub term_in : Names → RawTermTree → TermTree
    term_in names (raw.Number n p) = Num n
    term_in names (raw.Name x) = named (length names) x.text (found x.text names)
    term_in names (raw.Atom a p) = atom_term a
    term_in names (raw.Binary o p a b) = Bin (sign_of o) (term_in names a) (term_in names b)
    term_in names (raw.Minus p a) = minus (term_in names a)
    term_in names (raw.Card p a) = Card (term_in names a)
    term_in names (raw.TruthOf p f) = Test (formula_in names f)
    term_in names (raw.Listed p ts) = Listed (terms_in names ts)

    pub terms_in : Names → RawTerms → TermTrees
    terms_in names raw.End = End
    terms_in names (raw.More t ts) = More (term_in names t) (terms_in names ts)

    pub formula_in : Names → RawFormulaTree → FormulaTree
    formula_in names raw.True = True
    formula_in names raw.False = False
    formula_in names (raw.Not f) = Not (formula_in names f)
    formula_in names (raw.And f g) = And (formula_in names f) (formula_in names g)
    formula_in names (raw.Or f g) = Or (formula_in names f) (formula_in names g)
    formula_in names (raw.Implies f g) = Implies (formula_in names f) (formula_in names g)
    formula_in names (raw.Equivalent f g) = Iff (formula_in names f) (formula_in names g)
    formula_in names (raw.Relation r p a b) = related r (term_in names a) (term_in names b)
    formula_in names (raw.Every x d f) =
        Every (written x.text) (kind_of_domain (domain_or (typing_in v names x.text d)))
        (Implies (formula_in (under x (typing_in v names x.text d) names) d) (formula_in (under x (typing_in v names x.text d) names) f))
    formula_in names (raw.Exists x f) =
        Exist (written x.text) (kind_of_domain (domain_or (typing_in v names x.text f))) (formula_in (under x (typing_in v names x.text f) names) f)
