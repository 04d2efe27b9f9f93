-- What each token does to the depth.
use Rattle.cb_lex.specs.declared.token.Token.{Token}
use Rattle.cb_lex.specs.declared.token.Sort.{Sort}
use Rattle.cb_lex.specs.declared.token.Sort.TheVariants as sort
use Rattle.cb_lex.specs.declared.token.Keyword.{Keyword}
use Rattle.cb_lex.specs.declared.token.Keyword.TheVariants as keyword
use Rattle.cb_lex.specs.declared.token.Sign.{Sign}
use Rattle.cb_lex.specs.declared.token.Sign.TheVariants as sign
use Rattle.cb_grammar.specs.declared.depth.Mark.{Mark}
use Rattle.cb_grammar.specs.declared.depth.Mark.TheVariants as mark

abbrev pub keyword_mark : Keyword → Mark
keyword_mark keyword.If = mark.Block
keyword_mark keyword.Choice = mark.Block
keyword_mark keyword.AnyOf = mark.Block
keyword_mark keyword.Begin = mark.Block
keyword_mark keyword.Pre = mark.Block
keyword_mark keyword.Elsif = mark.Elsif
keyword_mark keyword.End = mark.End
keyword_mark keyword.Proof = mark.Proof
keyword_mark keyword.Or = mark.Counted
keyword_mark keyword.Mod = mark.Counted
keyword_mark keyword.Machine = mark.Reset
keyword_mark keyword.Sees = mark.Reset
keyword_mark keyword.Sets = mark.Reset
keyword_mark keyword.Constants = mark.Reset
keyword_mark keyword.Properties = mark.Reset
keyword_mark keyword.Variables = mark.Reset
keyword_mark keyword.Invariant = mark.Reset
keyword_mark keyword.Initialisation = mark.Reset
keyword_mark keyword.Operations = mark.Reset
keyword_mark keyword.Then = mark.Reset
keyword_mark keyword.Else = mark.Reset
keyword_mark keyword.ChoiceOr = mark.Reset
keyword_mark keyword.Where = mark.Reset
keyword_mark keyword.Channels = mark.Reset
keyword_mark keyword.Controller = mark.Reset
keyword_mark keyword.Machines = mark.Reset
keyword_mark keyword.Start = mark.Reset
keyword_mark keyword.Processes = mark.Reset
keyword_mark keyword.Inv = mark.Reset
keyword_mark keyword.System = mark.Reset
keyword_mark _ = mark.Other

abbrev pub sign_mark : Sign → Mark
sign_mark sign.OpenParenthesis = mark.Parenthesis
sign_mark sign.CloseParenthesis = mark.CloseParenthesis
sign_mark sign.OpenBrace = mark.Brace
sign_mark sign.OpenBracket = mark.Bracket
sign_mark sign.CloseBrace = mark.Close
sign_mark sign.CloseBracket = mark.Close
sign_mark sign.And = mark.Counted
sign_mark sign.Implies = mark.Counted
sign_mark sign.Equivalent = mark.Counted
sign_mark sign.Plus = mark.Counted
sign_mark sign.Minus = mark.Counted
sign_mark sign.Times = mark.Counted
sign_mark sign.Divide = mark.Counted
sign_mark sign.Union = mark.Counted
sign_mark sign.Intersection = mark.Counted
sign_mark sign.Arrow = mark.Counted
sign_mark sign.ExternalChoice = mark.Counted
sign_mark sign.InternalChoice = mark.Counted
sign_mark sign.Parallel = mark.Counted
sign_mark sign.Comma = mark.Reset
sign_mark sign.Semicolon = mark.Reset
sign_mark _ = mark.Other

abbrev pub sort_mark : Sort → Mark
sort_mark (sort.Word text) = mark.Word
sort_mark (sort.Keyword k) = keyword_mark k
sort_mark (sort.Sign s) = sign_mark s
sort_mark (sort.Opened text number) = mark.Other
sort_mark (sort.Number n) = mark.Other
sort_mark sort.Finish = mark.Other

abbrev pub mark_of : Token → Mark
mark_of t = sort_mark t.sort
