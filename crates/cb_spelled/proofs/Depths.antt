-- Each binder writes a word.
use Rattle.std.proofs.Common.{◌≤◌, arith}
use Rattle.cb_lex.specs.RawTermTree.{RawTermTree, RawTerms, RawFormulaTree}
use Rattle.cb_lex.specs.RawTermTree as term
use Rattle.cb_lex.specs.RawSubstTree.{RawSubstTree, RawSubsts}
use Rattle.cb_lex.specs.RawSubstTree as subst
use Rattle.cb_amn_parse.specs.Formulas.{term_out, listed_out, formula_out}
use Rattle.cb_amn_parse.specs.Machines.{subst_out, choice_out}
use Rattle.cb_shapes.specs.Words.{words}
use Rattle.cb_shapes.specs.Full.{IsFullSubst, AreFullSides}
use Rattle.cb_typing.specs.Depths.{term_depth, terms_depth, formula_depth, subst_depth, sides_depth}
use Rattle.cb_typing.specs.Sides.{HasSides, EachHasSides}
use Rattle.cb_spelled.proofs.Parts.{words_append}

mutual
  term_words : (t : RawTermTree) → term_depth t ≤ words (term_out t)
  term_words (term.Number n p) = omega arith
  term_words (term.Name x) = omega arith
  term_words (term.Atom a p) = omega arith
  term_words (term.Binary o p a b) = simp words_append (omega (arith, term_words a, term_words b))
  term_words (term.Minus p a) = simp words_append (omega (arith, term_words a))
  term_words (term.Card p a) = simp words_append (omega (arith, term_words a))
  term_words (term.TruthOf p f) = simp words_append (omega (arith, formula_words f))
  term_words (term.Listed p ts) = simp words_append (omega (arith, listed_words ts))

  listed_words : (ts : RawTerms) → terms_depth ts ≤ words (listed_out ts)
  listed_words term.End = omega arith
  listed_words (term.More t ts) = simp words_append (omega (arith, term_words t, listed_words ts))

  pub formula_words : (f : RawFormulaTree) → formula_depth f ≤ words (formula_out f)
  formula_words term.True = omega arith
  formula_words term.False = omega arith
  formula_words (term.Not f) = simp words_append (omega (arith, formula_words f))
  formula_words (term.And f g) = simp words_append (omega (arith, formula_words f, formula_words g))
  formula_words (term.Or f g) = simp words_append (omega (arith, formula_words f, formula_words g))
  formula_words (term.Implies f g) = simp words_append (omega (arith, formula_words f, formula_words g))
  formula_words (term.Equivalent f g) = simp words_append (omega (arith, formula_words f, formula_words g))
  formula_words (term.Relation r p a b) = simp words_append (omega (arith, term_words a, term_words b))
  formula_words (term.Every x d f) = simp words_append (omega (arith, formula_words d, formula_words f))
  formula_words (term.Exists x f) = simp words_append (omega (arith, formula_words f))

mutual
  pub subst_words : (s : RawSubstTree) → subst_depth s ≤ words (subst_out s)
  subst_words subst.Skip = omega arith
  subst_words (subst.Assign x t) = simp words_append (omega (arith, term_words t))
  subst_words (subst.Among x d) = omega arith
  subst_words (subst.If f s) = simp words_append (omega (arith, formula_words f, subst_words s))
  subst_words (subst.IfElse f s t) = simp words_append (omega (arith, formula_words f, subst_words s, subst_words t))
  subst_words (subst.Choice ss) = simp words_append (omega (arith, sides_words ss))
  subst_words (subst.Any x f s) = simp words_append (omega (arith, formula_words f, subst_words s))
  subst_words (subst.Parallel s t) = simp words_append (omega (arith, subst_words s, subst_words t))

  sides_words : (ss : RawSubsts) → sides_depth ss ≤ words (choice_out ss)
  sides_words subst.NoSide = omega arith
  sides_words (subst.Side s ss) = simp words_append (omega (arith, subst_words s, sides_words ss))

-- a CHOICE of two sides has sides
mutual
  pub full_has_sides : (s : RawSubstTree) → IsFullSubst s → HasSides s
  full_has_sides subst.Skip h = tt
  full_has_sides (subst.Assign x t) h = tt
  full_has_sides (subst.Among x d) h = tt
  full_has_sides (subst.If f s) h = full_has_sides s h
  full_has_sides (subst.IfElse f s t) h = (full_has_sides s h.0, full_has_sides t h.1)
  full_has_sides (subst.Choice subst.NoSide) h = absurd h.0
  full_has_sides (subst.Choice (subst.Side s ss)) h = (full_has_sides s h.1.0, full_have_sides ss h.1.1)
  full_has_sides (subst.Any x f s) h = full_has_sides s h
  full_has_sides (subst.Parallel s t) h = (full_has_sides s h.0, full_has_sides t h.1)

  full_have_sides : (ss : RawSubsts) → AreFullSides ss → EachHasSides ss
  full_have_sides subst.NoSide h = tt
  full_have_sides (subst.Side s ss) h = (full_has_sides s h.0, full_have_sides ss h.1)
