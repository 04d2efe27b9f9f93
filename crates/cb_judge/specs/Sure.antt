-- What each branch of a substitution writes, as one table.
use Rattle.std.specs.Prelude.{List, [], Option, Some, None}
use Rattle.cb_lex.specs.declared.token.Place.{Place}
use Rattle.cb_lex.specs.RawSubstTree.{RawSubstTree, Skip, Assign, Among, If, IfElse, Choice, Any, Parallel, RawSubsts, NoSide, Side}
use Rattle.cb_forms.specs.Find.{with_common}
use Rattle.cb_judge.specs.Writes.{Written, with_target}

abbrev pub nowhere : Place
nowhere = record { line = 0; col = 0 }

abbrev pub both_sure : Option Written → Written → Written
both_sure None own = own
both_sure (Some common) own = with_common nowhere [] common own

abbrev pub with_all : Written → Option Written → Written
with_all w None = w
with_all w (Some common) = with_common nowhere w common common

abbrev mutual
  pub sure : Written → RawSubstTree → Written
  sure w Skip = w
  sure w (Assign x t) = with_target x w
  sure w (Among x d) = with_target x w
  sure w (If f s) = w
  sure w (IfElse f s t) = with_common nowhere w (sure [] s) (sure [] t)
  sure w (Choice ss) = with_all w (sure_sides None ss)
  sure w (Any x f s) = sure w s
  sure w (Parallel s t) = sure (sure w s) t

  pub sure_sides : Option Written → RawSubsts → Option Written
  sure_sides common NoSide = common
  sure_sides common (Side s ss) = sure_sides (Some (both_sure common (sure [] s))) ss
