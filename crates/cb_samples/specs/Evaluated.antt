-- A formula for the tests: each number from 0 to 65535 is at most `last`.
use Rattle.std.specs.Prelude.{ℤ, pos, []}
use Rattle.cb_term.specs.declared.kind.Kind.TheVariants as kind
use Rattle.cb_term.specs.declared.sign.TermSign.TheVariants.{Range}
use Rattle.cb_term.specs.declared.sign.RelSign.TheVariants.{Member, AtMost}
use Rattle.cb_term.specs.Tree.{FormulaTree, Bound, Num, Bin, Rel, Implies, Every}

abbrev pub every_number_to : ℤ → FormulaTree
every_number_to last =
    Every (record { text = []; number = 0 }) kind.Integer (Implies (Rel Member (Bound 0) (Bin Range (Num (pos 0)) (Num (pos 65535)))) (Rel AtMost (Bound 0) (Num last)))
