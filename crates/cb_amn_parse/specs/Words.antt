-- The tokens of the words in raw values, and their kinds.
use Rattle.std.specs.Prelude.{ℕ, Bool, true, false}
use Rattle.cb_lex.specs.declared.token.Sort.{Sort}
use Rattle.cb_lex.specs.declared.token.Sort.TheVariants.{Keyword, Sign}
use Rattle.cb_lex.specs.declared.token.Keyword.TheVariants as keyword
use Rattle.cb_lex.specs.declared.token.Sign.TheVariants as sign
use Rattle.cb_lex.specs.declared.raw.sign.RawAtom.{RawAtom}
use Rattle.cb_lex.specs.declared.raw.sign.RawAtom.TheVariants as atom
use Rattle.cb_lex.specs.declared.raw.sign.RawOperator.{RawOperator}
use Rattle.cb_lex.specs.declared.raw.sign.RawOperator.TheVariants as operator
use Rattle.cb_lex.specs.declared.raw.sign.RawRelation.{RawRelation}
use Rattle.cb_lex.specs.declared.raw.sign.RawRelation.TheVariants as relation
use Rattle.cb_grammar.specs.declared.actions.TheConstants.{TRUTH_TERM, LIMIT_TERM, SET_TERM, BINARY, SUBTRACT}
use Rattle.cb_grammar.specs.Signatures.{operator_kind, minus_kind}

abbrev pub atom_sort : RawAtom → Sort
atom_sort atom.True = Keyword keyword.True
atom_sort atom.False = Keyword keyword.False
atom_sort atom.MaxInt = Keyword keyword.MaxInt
atom_sort atom.MinInt = Keyword keyword.MinInt
atom_sort atom.Nat = Keyword keyword.Nat
atom_sort atom.Nat1 = Keyword keyword.Nat1
atom_sort atom.Int = Keyword keyword.Int
atom_sort atom.Truths = Keyword keyword.Truths

-- the action that makes a term of the word
abbrev pub atom_action : RawAtom → ℕ
atom_action atom.True = TRUTH_TERM
atom_action atom.False = TRUTH_TERM
atom_action atom.MaxInt = LIMIT_TERM
atom_action atom.MinInt = LIMIT_TERM
atom_action atom.Nat = SET_TERM
atom_action atom.Nat1 = SET_TERM
atom_action atom.Int = SET_TERM
atom_action atom.Truths = SET_TERM

abbrev pub operator_sort : RawOperator → Sort
operator_sort operator.Plus = Sign sign.Plus
operator_sort operator.Minus = Sign sign.Minus
operator_sort operator.Times = Sign sign.Times
operator_sort operator.Divide = Sign sign.Divide
operator_sort operator.Mod = Keyword keyword.Mod
operator_sort operator.UpTo = Sign sign.UpTo
operator_sort operator.Union = Sign sign.Union
operator_sort operator.Intersection = Sign sign.Intersection

-- the action that joins two terms by the sign
abbrev pub operator_action : RawOperator → ℕ
operator_action operator.Minus = SUBTRACT
operator_action _ = BINARY

abbrev pub kind_of_operator : RawOperator → ℕ
kind_of_operator operator.Minus = minus_kind
kind_of_operator _ = operator_kind

abbrev pub relation_sort : RawRelation → Sort
relation_sort relation.Equal = Sign sign.Equal
relation_sort relation.Unequal = Sign sign.Unequal
relation_sort relation.Less = Sign sign.Less
relation_sort relation.AtMost = Sign sign.AtMost
relation_sort relation.Greater = Sign sign.Greater
relation_sort relation.AtLeast = Sign sign.AtLeast
relation_sort relation.Member = Sign sign.Member
relation_sort relation.NotMember = Sign sign.NotMember
relation_sort relation.Subset = Sign sign.Subset
