-- How keywords and signs are spelled.
use Rattle.std.specs.Prelude.{ℕ, Bool, true, false, ◌&&◌, ◌==◌, if◌then◌else◌, List, [], ◌∷◌, Option, Some, None, length, filter, codes}
use Rattle.std.specs.Str.{bytes_eq}
use Rattle.cb_lex.specs.declared.token.Keyword.{Keyword}
use Rattle.cb_lex.specs.declared.token.Keyword.TheVariants as keyword
use Rattle.cb_lex.specs.declared.token.Sign.{Sign}
use Rattle.cb_lex.specs.declared.token.Sign.TheVariants as sign

abbrev pub letters : Keyword → List ℕ
letters keyword.Machine = codes "MACHINE"
letters keyword.Sees = codes "SEES"
letters keyword.Sets = codes "SETS"
letters keyword.Constants = codes "CONSTANTS"
letters keyword.Properties = codes "PROPERTIES"
letters keyword.Variables = codes "VARIABLES"
letters keyword.Invariant = codes "INVARIANT"
letters keyword.Initialisation = codes "INITIALISATION"
letters keyword.Operations = codes "OPERATIONS"
letters keyword.End = codes "END"
letters keyword.Pre = codes "PRE"
letters keyword.Then = codes "THEN"
letters keyword.If = codes "IF"
letters keyword.Elsif = codes "ELSIF"
letters keyword.Else = codes "ELSE"
letters keyword.Choice = codes "CHOICE"
letters keyword.ChoiceOr = codes "OR"
letters keyword.AnyOf = codes "ANY"
letters keyword.Where = codes "WHERE"
letters keyword.Begin = codes "BEGIN"
letters keyword.Channels = codes "CHANNELS"
letters keyword.Controller = codes "CONTROLLER"
letters keyword.Machines = codes "MACHINES"
letters keyword.Start = codes "START"
letters keyword.Processes = codes "PROCESSES"
letters keyword.Inv = codes "INV"
letters keyword.System = codes "SYSTEM"
letters keyword.Proof = codes "PROOF"
letters keyword.Stop = codes "STOP"
letters keyword.SkipProcess = codes "SKIP"
letters keyword.True = codes "TRUE"
letters keyword.False = codes "FALSE"
letters keyword.Truths = codes "BOOL"
letters keyword.Nat = codes "NAT"
letters keyword.Nat1 = codes "NAT1"
letters keyword.Int = codes "INT"
letters keyword.MaxInt = codes "MAXINT"
letters keyword.MinInt = codes "MININT"
letters keyword.Skip = codes "skip"
letters keyword.Any = codes "any"
letters keyword.Or = codes "or"
letters keyword.Not = codes "not"
letters keyword.Mod = codes "mod"
letters keyword.Card = codes "card"
letters keyword.Bool = codes "bool"
letters keyword.AlwaysTrue = codes "btrue"
letters keyword.AlwaysFalse = codes "bfalse"

abbrev pub keywords : List Keyword
keywords = keyword.Machine ∷ keyword.Sees ∷ keyword.Sets ∷ keyword.Constants ∷ keyword.Properties ∷ keyword.Variables ∷ keyword.Invariant ∷ keyword.Initialisation ∷ keyword.Operations ∷ keyword.End ∷ keyword.Pre ∷ keyword.Then ∷ keyword.If ∷ keyword.Elsif ∷ keyword.Else ∷ keyword.Choice ∷ keyword.ChoiceOr ∷ keyword.AnyOf ∷ keyword.Where ∷ keyword.Begin ∷ keyword.Channels ∷ keyword.Controller ∷ keyword.Machines ∷ keyword.Start ∷ keyword.Processes ∷ keyword.Inv ∷ keyword.System ∷ keyword.Proof ∷ keyword.Stop ∷ keyword.SkipProcess ∷ keyword.True ∷ keyword.False ∷ keyword.Truths ∷ keyword.Nat ∷ keyword.Nat1 ∷ keyword.Int ∷ keyword.MaxInt ∷ keyword.MinInt ∷ keyword.Skip ∷ keyword.Any ∷ keyword.Or ∷ keyword.Not ∷ keyword.Mod ∷ keyword.Card ∷ keyword.Bool ∷ keyword.AlwaysTrue ∷ keyword.AlwaysFalse ∷ []

-- the first keyword of a list that is spelled so
abbrev pub spelled : List Keyword → List ℕ → Option Keyword
spelled [] word = None
spelled (k ∷ ks) word = if bytes_eq (letters k) word then Some k else spelled ks word

-- the keyword that a word is
unfoldable pub keyword_of : List ℕ → Option Keyword
keyword_of word = spelled keywords word

abbrev pub keywords_of_length : ℕ → List Keyword
keywords_of_length n = filter (λ k. length (letters k) == n) keywords

-- the bytes of a sign
abbrev pub marks : Sign → List ℕ
marks sign.Assign = codes ":="
marks sign.Among = codes "::"
marks sign.Parallel = codes "||"
marks sign.Returns = codes "<--"
marks sign.Member = codes ":"
marks sign.NotMember = codes "/:"
marks sign.Subset = codes "<:"
marks sign.Union = codes "\\/"
marks sign.Intersection = codes "/\\"
marks sign.UpTo = codes ".."
marks sign.Dot = codes "."
marks sign.Comma = codes ","
marks sign.Semicolon = codes ";"
marks sign.And = codes "&"
marks sign.Implies = codes "=>"
marks sign.Equivalent = codes "<=>"
marks sign.Equal = codes "="
marks sign.Unequal = codes "/="
marks sign.Less = codes "<"
marks sign.AtMost = codes "<="
marks sign.Greater = codes ">"
marks sign.AtLeast = codes ">="
marks sign.Bang = codes "!"
marks sign.Query = codes "?"
marks sign.Hash = codes "#"
marks sign.OpenParenthesis = codes "("
marks sign.CloseParenthesis = codes ")"
marks sign.OpenBrace = codes "{"
marks sign.CloseBrace = codes "}"
marks sign.OpenBracket = codes "["
marks sign.CloseBracket = codes "]"
marks sign.ExternalChoice = codes "[]"
marks sign.InternalChoice = codes "|~|"
marks sign.Arrow = codes "->"
marks sign.Plus = codes "+"
marks sign.Minus = codes "-"
marks sign.Times = codes "*"
marks sign.Divide = codes "/"

-- a sign with the number of its bytes
abbrev pub measured : Sign → Sign × ℕ
measured s = (s, length (marks s))

-- the signs, the longer ones first
abbrev pub signs : List Sign
signs = sign.Returns ∷ sign.Equivalent ∷ sign.InternalChoice ∷ sign.Assign ∷ sign.Among ∷ sign.Parallel ∷ sign.NotMember ∷ sign.Subset ∷ sign.Union ∷ sign.Intersection ∷ sign.UpTo ∷ sign.Implies ∷ sign.Unequal ∷ sign.AtMost ∷ sign.AtLeast ∷ sign.ExternalChoice ∷ sign.Arrow ∷ sign.OpenParenthesis ∷ sign.CloseParenthesis ∷ sign.Comma ∷ sign.Semicolon ∷ sign.Equal ∷ sign.Member ∷ sign.Dot ∷ sign.And ∷ sign.Less ∷ sign.Greater ∷ sign.Bang ∷ sign.Query ∷ sign.Hash ∷ sign.OpenBrace ∷ sign.CloseBrace ∷ sign.OpenBracket ∷ sign.CloseBracket ∷ sign.Plus ∷ sign.Minus ∷ sign.Times ∷ sign.Divide ∷ []

-- whether bytes begin with a mark
abbrev pub begins : List ℕ → List ℕ → Bool
begins [] bs = true
begins (m ∷ ms) [] = false
begins (m ∷ ms) (b ∷ bs) = (b == m) && begins ms bs

-- the first sign of a list that is at the front
abbrev pub sign_in : List Sign → List ℕ → Option Sign
sign_in [] bs = None
sign_in (s ∷ ss) bs = if begins (marks s) bs then Some s else sign_in ss bs

-- the longest sign at the front
unfoldable pub sign_at : List ℕ → Option Sign
sign_at bs = sign_in signs bs
