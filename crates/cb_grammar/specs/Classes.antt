-- The classes of tokens. Written by tools/table.py from tools/cspb.grammar.
use Rattle.std.specs.Prelude.{ℕ, List, [], ◌∷◌, codes}
use Rattle.cb_lex.specs.declared.token.Keyword.{Keyword}
use Rattle.cb_lex.specs.declared.token.Keyword.TheVariants as keyword
use Rattle.cb_lex.specs.declared.token.Sign.{Sign}
use Rattle.cb_lex.specs.declared.token.Sign.TheVariants as sign

-- the class of a keyword
abbrev pub keyword_class : Keyword → ℕ
keyword_class keyword.Machine = 4
keyword_class keyword.Sees = 5
keyword_class keyword.Sets = 6
keyword_class keyword.Constants = 7
keyword_class keyword.Properties = 8
keyword_class keyword.Variables = 9
keyword_class keyword.Invariant = 10
keyword_class keyword.Initialisation = 11
keyword_class keyword.Operations = 12
keyword_class keyword.End = 13
keyword_class keyword.Pre = 14
keyword_class keyword.Then = 15
keyword_class keyword.If = 16
keyword_class keyword.Elsif = 17
keyword_class keyword.Else = 18
keyword_class keyword.Choice = 19
keyword_class keyword.ChoiceOr = 20
keyword_class keyword.AnyOf = 21
keyword_class keyword.Where = 22
keyword_class keyword.Begin = 23
keyword_class keyword.Channels = 24
keyword_class keyword.Controller = 25
keyword_class keyword.Machines = 26
keyword_class keyword.Start = 27
keyword_class keyword.Processes = 28
keyword_class keyword.Inv = 29
keyword_class keyword.System = 30
keyword_class keyword.Proof = 31
keyword_class keyword.Stop = 32
keyword_class keyword.SkipProcess = 33
keyword_class keyword.True = 34
keyword_class keyword.False = 35
keyword_class keyword.Truths = 36
keyword_class keyword.Nat = 37
keyword_class keyword.Nat1 = 38
keyword_class keyword.Int = 39
keyword_class keyword.MaxInt = 40
keyword_class keyword.MinInt = 41
keyword_class keyword.Skip = 42
keyword_class keyword.Any = 43
keyword_class keyword.Or = 44
keyword_class keyword.Not = 45
keyword_class keyword.Mod = 46
keyword_class keyword.Card = 47
keyword_class keyword.Bool = 48
keyword_class keyword.AlwaysTrue = 49
keyword_class keyword.AlwaysFalse = 50

-- the class of a sign
abbrev pub sign_class : Sign → ℕ
sign_class sign.Assign = 51
sign_class sign.Among = 52
sign_class sign.Parallel = 53
sign_class sign.Returns = 54
sign_class sign.Member = 55
sign_class sign.NotMember = 56
sign_class sign.Subset = 57
sign_class sign.Union = 58
sign_class sign.Intersection = 59
sign_class sign.UpTo = 60
sign_class sign.Dot = 61
sign_class sign.Comma = 62
sign_class sign.Semicolon = 63
sign_class sign.And = 64
sign_class sign.Implies = 65
sign_class sign.Equivalent = 66
sign_class sign.Equal = 67
sign_class sign.Unequal = 68
sign_class sign.Less = 69
sign_class sign.AtMost = 70
sign_class sign.Greater = 71
sign_class sign.AtLeast = 72
sign_class sign.Bang = 73
sign_class sign.Query = 74
sign_class sign.Hash = 75
sign_class sign.OpenParenthesis = 76
sign_class sign.CloseParenthesis = 77
sign_class sign.OpenBrace = 78
sign_class sign.CloseBrace = 79
sign_class sign.OpenBracket = 80
sign_class sign.CloseBracket = 81
sign_class sign.ExternalChoice = 82
sign_class sign.InternalChoice = 83
sign_class sign.Arrow = 84
sign_class sign.Plus = 85
sign_class sign.Minus = 86
sign_class sign.Times = 87
sign_class sign.Divide = 88

-- The names that are words with a meaning of their own in some places, in the order of their classes.
unfoldable pub words : List (List ℕ)
words =
    codes "INIT" ∷
    codes "OP" ∷
    codes "LOOP" ∷
    codes "MATCH" ∷
    codes "LIVE" ∷
    codes "HYP" ∷
    codes "CONTRA" ∷
    codes "EVAL" ∷
    codes "EVALNOT" ∷
    codes "REFL" ∷
    codes "LIN" ∷
    codes "CUT" ∷
    codes "CASES" ∷
    codes "ANDR" ∷
    codes "OR1" ∷
    codes "OR2" ∷
    codes "IMPR" ∷
    codes "NOTR" ∷
    codes "IFFR" ∷
    codes "ALLR" ∷
    codes "EXR" ∷
    codes "ANDL" ∷
    codes "ORL" ∷
    codes "IMPL" ∷
    codes "IFFL" ∷
    codes "NOTL" ∷
    codes "ALLL" ∷
    codes "EXL" ∷
    codes "EQ" ∷
    codes "EQIN" ∷
    codes "BOOLCASES" ∷
    codes "BOOLR" ∷
    codes "BOOLL" ∷
    codes "ELEMS" ∷
    codes "SPLIT" ∷
    codes "EQLE" ∷
    codes "RNG" ∷
    codes "RNGL" ∷
    codes "DIVMOD" ∷
    codes "MULSIGN" ∷
    codes "MEMBER" ∷
    codes "MEMBERL" ∷
    codes "SUBSET" ∷
    codes "SUBSETL" ∷
    codes "EXT" ∷
    codes "CARDPOS" ∷
    codes "CARDADD" ∷
    codes "CARDDEL" ∷
    codes "CARDSUB" ∷
    []
