-- A proof without what no text spells: a rule whose word takes other arguments or another number of premises, LIN without
-- a row, and an obligation with a group that doesn't have such parts.
use Rattle.std.specs.Prelude.{◌≡◌, ℕ, List, [], ◌∷◌, codes}
use Rattle.std.proofs.Common.{◌⊎◌}
use Rattle.cb_lex.specs.declared.raw.name.RawName.{RawName}
use Rattle.cb_lex.specs.declared.raw.proof.RawObligation.{RawObligation}
use Rattle.cb_lex.specs.declared.raw.proof.RawObligation.TheVariants as obligation
use Rattle.cb_lex.specs.declared.raw.proof.RawArguments.{RawArguments}
use Rattle.cb_lex.specs.declared.raw.proof.RawArguments.TheVariants as given
use Rattle.cb_lex.specs.declared.raw.proof.RawRule.{RawRule}
use Rattle.cb_lex.specs.declared.raw.proof.RawProof.{RawProof}
use Rattle.cb_lex.specs.RawCertTree.{RawCertTree, RawCerts}
use Rattle.cb_lex.specs.RawCertTree as tree

abbrev pub IsOneOf : List (List ℕ) → List ℕ → Type 0
IsOneOf [] text = ⊥
IsOneOf (w ∷ ws) text = (text ≡ w) ⊎ IsOneOf ws text

-- The name is one of these words. An opened name is none.
abbrev pub IsWordOf : List (List ℕ) → RawName → Type 0
IsWordOf ws x = IsOneOf ws x.text × (x.number ≡ 0)

-- the words of the rules with such arguments and so many premises
abbrev pub words_of : RawArguments → RawCerts → List (List ℕ)
words_of given.Nothing tree.NoChild = codes "EVAL" ∷ codes "REFL" ∷ []
words_of given.Nothing (tree.Child c tree.NoChild) = codes "OR1" ∷ codes "OR2" ∷ codes "IMPR" ∷ codes "NOTR" ∷ codes "ALLR" ∷ codes "BOOLR" ∷ codes "MEMBER" ∷ codes "SUBSET" ∷ []
words_of given.Nothing (tree.Child c (tree.Child d tree.NoChild)) = codes "ANDR" ∷ codes "IFFR" ∷ codes "EQLE" ∷ codes "RNG" ∷ codes "EXT" ∷ []
words_of (given.Hypothesis n) tree.NoChild = codes "HYP" ∷ codes "EVALNOT" ∷ []
words_of (given.Hypothesis n) (tree.Child c tree.NoChild) = codes "ANDL" ∷ codes "IFFL" ∷ codes "NOTL" ∷ codes "EXL" ∷ codes "EQ" ∷ codes "BOOLL" ∷ codes "RNGL" ∷ codes "MEMBERL" ∷ []
words_of (given.Hypothesis n) (tree.Child c (tree.Child d tree.NoChild)) = codes "ORL" ∷ codes "IMPL" ∷ []
words_of (given.TwoHypotheses m n) tree.NoChild = codes "CONTRA" ∷ []
words_of (given.TwoHypotheses m n) (tree.Child c tree.NoChild) = codes "EQIN" ∷ []
words_of (given.Rows rs) tree.NoChild = codes "LIN" ∷ []
words_of (given.Formula f) (tree.Child c (tree.Child d tree.NoChild)) = codes "CUT" ∷ codes "CASES" ∷ []
words_of (given.Term t) (tree.Child c tree.NoChild) = codes "ELEMS" ∷ codes "EXR" ∷ codes "CARDPOS" ∷ []
words_of (given.Term t) (tree.Child c (tree.Child d tree.NoChild)) = codes "ELEMS" ∷ codes "BOOLCASES" ∷ []
words_of (given.Term t) (tree.Child c (tree.Child d (tree.Child e cs))) = codes "ELEMS" ∷ []
words_of (given.TwoTerms s t) (tree.Child c (tree.Child d tree.NoChild)) = codes "CARDADD" ∷ codes "CARDDEL" ∷ codes "CARDSUB" ∷ []
words_of (given.TwoTerms s t) (tree.Child c (tree.Child d (tree.Child e tree.NoChild))) = codes "SPLIT" ∷ codes "MULSIGN" ∷ []
words_of (given.HypothesisTerm n t) (tree.Child c tree.NoChild) = codes "ALLL" ∷ codes "SUBSETL" ∷ []
words_of (given.TermNumber t n) (tree.Child c tree.NoChild) = codes "DIVMOD" ∷ []
words_of a cs = []

abbrev pub HasRows : RawArguments → Type 0
HasRows (given.Rows []) = ⊥
HasRows a = Unit {0}

pub record IsFullRule (r : RawRule) (cs : RawCerts) : Type 0 where
  pub word : IsWordOf (words_of r.arguments cs) r.word
  pub rows : HasRows r.arguments

abbrev mutual
  pub IsFullCert : RawCertTree → Type 0
  IsFullCert (tree.Node r cs) = IsFullRule r cs × AreFullCerts cs

  pub AreFullCerts : RawCerts → Type 0
  AreFullCerts tree.NoChild = Unit {0}
  AreFullCerts (tree.Child c cs) = IsFullCert c × AreFullCerts cs

abbrev pub IsFullObligation : RawObligation → Type 0
IsFullObligation (obligation.OfOwner g o n) = IsWordOf (codes "INIT" ∷ []) g
IsFullObligation (obligation.OfStart p o n) = Unit {0}
IsFullObligation (obligation.OfPart g o x n) = IsWordOf (codes "LIVE" ∷ codes "OP" ∷ codes "LOOP" ∷ codes "MATCH" ∷ []) g
IsFullObligation (obligation.OfInitialisation g o p n) = IsWordOf (codes "LIVE" ∷ []) g

pub record IsFull (p : RawProof) : Type 0 where
  pub name : IsFullObligation p.name
  pub cert : IsFullCert p.cert

abbrev pub AreFull : List RawProof → Type 0
AreFull [] = Unit {0}
AreFull (p ∷ ps) = IsFull p × AreFull ps
