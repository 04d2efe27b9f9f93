-- Substitutions in which each CHOICE has a side.
use Rattle.std.specs.Prelude.{⊤}
use Rattle.cb_lex.specs.RawSubstTree.{RawSubstTree, Skip, Assign, Among, If, IfElse, Choice, Any, Parallel, RawSubsts, NoSide, Side}

abbrev mutual
  pub HasSides : RawSubstTree → Type 0
  HasSides Skip = ⊤
  HasSides (Assign x t) = ⊤
  HasSides (Among x d) = ⊤
  HasSides (If f s) = HasSides s
  HasSides (IfElse f s t) = HasSides s × HasSides t
  HasSides (Choice NoSide) = ⊥
  HasSides (Choice (Side s ss)) = HasSides s × EachHasSides ss
  HasSides (Any x f s) = HasSides s
  HasSides (Parallel s t) = HasSides s × HasSides t

  pub EachHasSides : RawSubsts → Type 0
  EachHasSides NoSide = ⊤
  EachHasSides (Side s ss) = HasSides s × EachHasSides ss
