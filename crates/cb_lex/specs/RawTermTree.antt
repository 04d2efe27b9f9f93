-- Terms and formulas as they are written, as plain trees.
use Rattle.std.specs.Prelude.{ℕ, ℤ, ◌+◌, List, [], ◌∷◌}
use Rattle.cb_lex.specs.declared.token.Place.{Place}
use Rattle.cb_lex.specs.declared.raw.name.RawName.{RawName}
use Rattle.cb_lex.specs.declared.raw.sign.RawAtom.{RawAtom}
use Rattle.cb_lex.specs.declared.raw.sign.RawOperator.{RawOperator}
use Rattle.cb_lex.specs.declared.raw.sign.RawRelation.{RawRelation}

mutual
  pub data RawTermTree : Type 0 where
    Number : ℤ → Place → RawTermTree
    Name : RawName → RawTermTree
    Atom : RawAtom → Place → RawTermTree
    Binary : RawOperator → Place → RawTermTree → RawTermTree → RawTermTree
    Minus : Place → RawTermTree → RawTermTree
    Card : Place → RawTermTree → RawTermTree
    TruthOf : Place → RawFormulaTree → RawTermTree
    Listed : Place → RawTerms → RawTermTree

  -- the terms of a set
  pub data RawTerms : Type 0 where
    End : RawTerms
    More : RawTermTree → RawTerms → RawTerms

  pub data RawFormulaTree : Type 0 where
    True : RawFormulaTree
    False : RawFormulaTree
    Not : RawFormulaTree → RawFormulaTree
    And : RawFormulaTree → RawFormulaTree → RawFormulaTree
    Or : RawFormulaTree → RawFormulaTree → RawFormulaTree
    Implies : RawFormulaTree → RawFormulaTree → RawFormulaTree
    Equivalent : RawFormulaTree → RawFormulaTree → RawFormulaTree
    Relation : RawRelation → Place → RawTermTree → RawTermTree → RawFormulaTree
    Every : RawName → RawFormulaTree → RawFormulaTree → RawFormulaTree
    Exists : RawName → RawFormulaTree → RawFormulaTree

-- a list as the tree holds it
abbrev pub raw_terms : List RawTermTree → RawTerms
raw_terms [] = End
raw_terms (t ∷ ts) = More t (raw_terms ts)

-- how many nodes a tree has
abbrev mutual
  pub term_nodes : RawTermTree → ℕ
  term_nodes (Number n p) = 1
  term_nodes (Name x) = 1
  term_nodes (Atom a p) = 1
  term_nodes (Binary o p a b) = term_nodes a + term_nodes b + 1
  term_nodes (Minus p a) = term_nodes a + 1
  term_nodes (Card p a) = term_nodes a + 1
  term_nodes (TruthOf p f) = formula_nodes f + 1
  term_nodes (Listed p ts) = terms_nodes ts + 1

  pub terms_nodes : RawTerms → ℕ
  terms_nodes End = 0
  terms_nodes (More t ts) = term_nodes t + terms_nodes ts

  pub formula_nodes : RawFormulaTree → ℕ
  formula_nodes True = 1
  formula_nodes False = 1
  formula_nodes (Not f) = formula_nodes f + 1
  formula_nodes (And f g) = formula_nodes f + formula_nodes g + 1
  formula_nodes (Or f g) = formula_nodes f + formula_nodes g + 1
  formula_nodes (Implies f g) = formula_nodes f + formula_nodes g + 1
  formula_nodes (Equivalent f g) = formula_nodes f + formula_nodes g + 1
  formula_nodes (Relation r p a b) = term_nodes a + term_nodes b + 1
  formula_nodes (Every x d f) = formula_nodes d + formula_nodes f + 1
  formula_nodes (Exists x f) = formula_nodes f + 1
