-- The names outside of a list of parameters are in front.
use Rattle.std.proofs.Common.{◌≡◌, List, [], None, take, length}
use Rattle.cb_lex.specs.RawSubstTree.{Skip}
use Rattle.cb_lex.specs.declared.raw.name.RawName.{RawName}
use Rattle.cb_judge.specs.Meanings.{Names}
use Rattle.cb_types.specs.declared.declare.Sort.TheVariants as sort
use Rattle.cb_types.specs.Declares.{Domains, declared}
use Rattle.cb_types.proofs.Growing.{take_operation}

-- such a list is that of an operation without results
pub take_declared : (ds : Domains) (x : RawName) (xs : List RawName) (w : Names) → take (length w) (declared sort.Parameter [] ds 0 w xs) ≡ w
take_declared ds x xs w = take_operation ds (record { results = []; name = x; parameters = xs; precondition = None; body = Skip }) w
