-- A word of proofs is one of formulas, or a keyword that only names of obligations have.
use Rattle.std.proofs.Common.{◌≡◌, ℕ, zero, suc, List, [], ◌∷◌, get_or, true, refl}
use Rattle.std.specs.Prelude.{Some, slice_get}
use Rattle.cb_lex.specs.declared.token.Token.{Token}
use Rattle.cb_lex.specs.declared.token.Sort.{Sort}
use Rattle.cb_lex.specs.declared.token.Sort.TheVariants as sort
use Rattle.cb_lex.specs.declared.token.Keyword.TheVariants as keyword
use Rattle.cb_lex.specs.declared.token.Sign.TheVariants as sign
use Rattle.cb_engine.specs.Rules.{stands, group}
use Rattle.cb_grammar.specs.Terminals.{word_class}
use Rattle.cb_grammar.specs.Signatures.{word_kind, name_kind}
use Rattle.cb_amn_parse.specs.Own.{own_kinds, sort_kind}
use Rattle.cb_amn_parse.proofs.Hearing.{word_is_name}
use Rattle.cb_cert.specs.Own.{proof_kinds, is_formula_word}

-- the token at a place
pub token_at : (ts : List Token) (i : ℕ) (t u : Token) → slice_get ts i ≡ Some u → t ≡ get_or ts i t → t ≡ u
token_at [] i t u e f = absurd (cc)
token_at (x ∷ ts) zero t u e f = cc
token_at (x ∷ ts) (suc i) t u e f = token_at ts i t u e f

pub formula_word : (s : Sort) → is_formula_word s ≡ true → stands proof_kinds (sort_kind s) ≡ true → stands own_kinds (sort_kind s) ≡ true
formula_word (sort.Word text) w e = let h : word_kind (group (word_class text)) ≡ name_kind = word_is_name text in rw h refl
formula_word (sort.Opened text number) w e = refl
formula_word (sort.Number n) w e = refl
formula_word (sort.Keyword keyword.Machine) w e = absurd (cc)
formula_word (sort.Keyword keyword.Sees) w e = absurd (cc)
formula_word (sort.Keyword keyword.Sets) w e = absurd (cc)
formula_word (sort.Keyword keyword.Constants) w e = absurd (cc)
formula_word (sort.Keyword keyword.Properties) w e = absurd (cc)
formula_word (sort.Keyword keyword.Variables) w e = absurd (cc)
formula_word (sort.Keyword keyword.Invariant) w e = absurd (cc)
formula_word (sort.Keyword keyword.Initialisation) w e = absurd (cc)
formula_word (sort.Keyword keyword.Operations) w e = absurd (cc)
formula_word (sort.Keyword keyword.End) w e = absurd (cc)
formula_word (sort.Keyword keyword.Pre) w e = absurd (cc)
formula_word (sort.Keyword keyword.Then) w e = absurd (cc)
formula_word (sort.Keyword keyword.If) w e = absurd (cc)
formula_word (sort.Keyword keyword.Elsif) w e = absurd (cc)
formula_word (sort.Keyword keyword.Else) w e = absurd (cc)
formula_word (sort.Keyword keyword.Choice) w e = absurd (cc)
formula_word (sort.Keyword keyword.ChoiceOr) w e = absurd (cc)
formula_word (sort.Keyword keyword.AnyOf) w e = absurd (cc)
formula_word (sort.Keyword keyword.Where) w e = absurd (cc)
formula_word (sort.Keyword keyword.Begin) w e = absurd (cc)
formula_word (sort.Keyword keyword.Channels) w e = absurd (cc)
formula_word (sort.Keyword keyword.Controller) w e = absurd (cc)
formula_word (sort.Keyword keyword.Machines) w e = absurd (cc)
formula_word (sort.Keyword keyword.Start) w e = absurd (cc)
formula_word (sort.Keyword keyword.Processes) w e = absurd (cc)
formula_word (sort.Keyword keyword.Inv) w e = absurd (cc)
formula_word (sort.Keyword keyword.System) w e = absurd (cc)
formula_word (sort.Keyword keyword.Proof) w e = absurd (cc)
formula_word (sort.Keyword keyword.Stop) w e = absurd (cc)
formula_word (sort.Keyword keyword.SkipProcess) w e = absurd (cc)
formula_word (sort.Keyword keyword.True) w e = refl
formula_word (sort.Keyword keyword.False) w e = refl
formula_word (sort.Keyword keyword.Truths) w e = refl
formula_word (sort.Keyword keyword.Nat) w e = refl
formula_word (sort.Keyword keyword.Nat1) w e = refl
formula_word (sort.Keyword keyword.Int) w e = refl
formula_word (sort.Keyword keyword.MaxInt) w e = refl
formula_word (sort.Keyword keyword.MinInt) w e = refl
formula_word (sort.Keyword keyword.Skip) w e = absurd (cc)
formula_word (sort.Keyword keyword.Any) w e = absurd (cc)
formula_word (sort.Keyword keyword.Or) w e = absurd (cc)
formula_word (sort.Keyword keyword.Not) w e = absurd (cc)
formula_word (sort.Keyword keyword.Mod) w e = refl
formula_word (sort.Keyword keyword.Card) w e = refl
formula_word (sort.Keyword keyword.Bool) w e = refl
formula_word (sort.Keyword keyword.AlwaysTrue) w e = absurd (cc)
formula_word (sort.Keyword keyword.AlwaysFalse) w e = absurd (cc)
formula_word (sort.Sign sign.Assign) w e = absurd (cc)
formula_word (sort.Sign sign.Among) w e = absurd (cc)
formula_word (sort.Sign sign.Parallel) w e = absurd (cc)
formula_word (sort.Sign sign.Returns) w e = absurd (cc)
formula_word (sort.Sign sign.Member) w e = refl
formula_word (sort.Sign sign.NotMember) w e = refl
formula_word (sort.Sign sign.Subset) w e = refl
formula_word (sort.Sign sign.Union) w e = refl
formula_word (sort.Sign sign.Intersection) w e = refl
formula_word (sort.Sign sign.UpTo) w e = refl
formula_word (sort.Sign sign.Dot) w e = absurd (cc)
formula_word (sort.Sign sign.Comma) w e = absurd (cc)
formula_word (sort.Sign sign.Semicolon) w e = absurd (cc)
formula_word (sort.Sign sign.And) w e = absurd (cc)
formula_word (sort.Sign sign.Implies) w e = absurd (cc)
formula_word (sort.Sign sign.Equivalent) w e = absurd (cc)
formula_word (sort.Sign sign.Equal) w e = refl
formula_word (sort.Sign sign.Unequal) w e = refl
formula_word (sort.Sign sign.Less) w e = refl
formula_word (sort.Sign sign.AtMost) w e = refl
formula_word (sort.Sign sign.Greater) w e = refl
formula_word (sort.Sign sign.AtLeast) w e = refl
formula_word (sort.Sign sign.Bang) w e = absurd (cc)
formula_word (sort.Sign sign.Query) w e = absurd (cc)
formula_word (sort.Sign sign.Hash) w e = absurd (cc)
formula_word (sort.Sign sign.OpenParenthesis) w e = absurd (cc)
formula_word (sort.Sign sign.CloseParenthesis) w e = absurd (cc)
formula_word (sort.Sign sign.OpenBrace) w e = refl
formula_word (sort.Sign sign.CloseBrace) w e = absurd (cc)
formula_word (sort.Sign sign.OpenBracket) w e = absurd (cc)
formula_word (sort.Sign sign.CloseBracket) w e = absurd (cc)
formula_word (sort.Sign sign.ExternalChoice) w e = absurd (cc)
formula_word (sort.Sign sign.InternalChoice) w e = absurd (cc)
formula_word (sort.Sign sign.Arrow) w e = absurd (cc)
formula_word (sort.Sign sign.Plus) w e = refl
formula_word (sort.Sign sign.Minus) w e = refl
formula_word (sort.Sign sign.Times) w e = refl
formula_word (sort.Sign sign.Divide) w e = refl
formula_word sort.Finish w e = absurd (cc)
