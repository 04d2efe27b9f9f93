-- The printed text of terms and formulas. A tree that is `inner` is an operand: then it has parentheses if it joins two
-- operands itself. Only an `&` on the left of an `&`, and an `or` on the left of an `or`, has none.
use Rattle.std.specs.Prelude.{ℕ, Bool, true, false, not, List, [], ◌++◌, codes}
use Rattle.cb_lex.specs.declared.token.Sort.TheVariants as sort
use Rattle.cb_lex.specs.RawTermTree.{RawTermTree, RawTerms, RawFormulaTree}
use Rattle.cb_lex.specs.RawTermTree as tree
use Rattle.cb_amn_parse.specs.Words.{atom_sort, operator_sort, relation_sort}
use Rattle.cb_amn_print.specs.Tokens.{said, name_text, only_if, wrapped}

abbrev pub is_and : RawFormulaTree → Bool
is_and (tree.And f g) = true
is_and f = false

abbrev pub is_or : RawFormulaTree → Bool
is_or (tree.Or f g) = true
is_or f = false

-- `=>` and `<=>`, which join two formulas and no more
abbrev pub is_arrow : RawFormulaTree → Bool
is_arrow (tree.Implies f g) = true
is_arrow (tree.Equivalent f g) = true
is_arrow f = false

abbrev mutual
  pub term_text : Bool → RawTermTree → List ℕ
  term_text inner (tree.Number n p) = said (sort.Number n)
  term_text inner (tree.Name x) = name_text x
  term_text inner (tree.Atom a p) = said (atom_sort a)
  term_text inner (tree.Binary o p l r) = wrapped inner (term_text true l ++ said (operator_sort o) ++ term_text true r)
  term_text inner (tree.Minus p t) = codes "- " ++ term_text true t
  term_text inner (tree.Card p t) = codes "card ( " ++ term_text false t ++ codes ") "
  term_text inner (tree.TruthOf p f) = codes "bool ( " ++ formula_text false f ++ codes ") "
  term_text inner (tree.Listed p ts) = codes "{ " ++ terms_text true ts ++ codes "} "

  -- the terms with commas between them
  pub terms_text : Bool → RawTerms → List ℕ
  terms_text first tree.End = []
  terms_text first (tree.More t ts) = only_if (not first) (codes ", ") ++ term_text false t ++ terms_text false ts

  pub formula_text : Bool → RawFormulaTree → List ℕ
  formula_text inner tree.True = codes "btrue "
  formula_text inner tree.False = codes "bfalse "
  formula_text inner (tree.Not f) = codes "not ( " ++ formula_text false f ++ codes ") "
  formula_text inner (tree.And f g) = wrapped inner (formula_text (not (is_and f)) f ++ codes "& " ++ formula_text true g)
  formula_text inner (tree.Or f g) = wrapped inner (formula_text (not (is_or f)) f ++ codes "or " ++ formula_text true g)
  formula_text inner (tree.Implies f g) = wrapped inner (formula_text true f ++ codes "=> " ++ formula_text true g)
  formula_text inner (tree.Equivalent f g) = wrapped inner (formula_text true f ++ codes "<=> " ++ formula_text true g)
  formula_text inner (tree.Relation r p a b) = term_text false a ++ said (relation_sort r) ++ term_text false b
  formula_text inner (tree.Every x d f) = codes "! " ++ name_text x ++ codes ". ( " ++ formula_text (is_arrow d) d ++ codes "=> " ++ formula_text (is_arrow f) f ++ codes ") "
  formula_text inner (tree.Exists x f) = codes "# " ++ name_text x ++ codes ". ( " ++ formula_text (is_arrow f) f ++ codes ") "
