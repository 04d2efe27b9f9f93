-- The substitutions of the tests.
use Rattle.std.specs.Prelude.{ℤ, pos, ◌-ℤ◌}
use Rattle.cb_term.specs.declared.name.Name.{Name}
use Rattle.cb_term.specs.declared.kind.Domain.TheVariants as domain
use Rattle.cb_term.specs.declared.sign.TermSign.TheVariants.{Range}
use Rattle.cb_term.specs.declared.sign.RelSign.TheVariants.{Equal, Less, Member, Subset}
use Rattle.cb_term.specs.Tree.{Var, Num, Bin, Rel, And}
use Rattle.cb_spec.specs.Example.{letter}
use Rattle.cb_spec.specs.SubstTree.{SubstTree, Assign, Together, Choice, If, AnyOf, End, More}

abbrev pub m : Name
m = letter 109

abbrev pub n : Name
n = letter 110

abbrev pub z : Name
z = letter 122

abbrev pub either : SubstTree → SubstTree → SubstTree
either a b = Choice (More a (More b End))

-- CHOICE n := 1 OR n := 2 END
abbrev pub one_or_two : SubstTree
one_or_two = either (Assign n (Num (pos 1))) (Assign n (Num (pos 2)))

-- IF n = 0 THEN m := 4 ELSE m := 5 END
abbrev pub if_zero : SubstTree
if_zero = If (Rel Equal (Var n) (Num (pos 0))) (Assign m (Num (pos 4))) (Assign m (Num (pos 5)))

-- n := 1 || IF n = 0 THEN m := 4 ELSE m := 5 END
abbrev pub side_by_side : SubstTree
side_by_side = Together (Assign n (Num (pos 1))) if_zero

-- CHOICE n := 1 || IF n = 0 THEN m := 4 ELSE m := 5 END OR CHOICE n := 1 OR n := 2 END END
abbrev pub nested : SubstTree
nested = either side_by_side one_or_two

-- ANY z WHERE z : 1..last & last - 1 < z THEN n := z END
abbrev pub last_of : ℤ → SubstTree
last_of last = AnyOf z (domain.Range (pos 1) last) (And (Rel Member (Var z) (Bin Range (Num (pos 1)) (Num last))) (Rel Less (Num (last -ℤ pos 1)) (Var z))) (Assign n (Var z))

-- ANY z WHERE z <: 0..1 & 1 : z THEN n := z END
abbrev pub set_with_one : SubstTree
set_with_one = AnyOf z (domain.Subsets (pos 0) (pos 1)) (And (Rel Subset (Var z) (Bin Range (Num (pos 0)) (Num (pos 1)))) (Rel Member (Num (pos 1)) (Var z))) (Assign n (Var z))
