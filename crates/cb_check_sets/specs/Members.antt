-- What membership in a set says, by what the set is made of.
use Rattle.std.specs.Prelude.{Option, Some, None}
use Rattle.cb_term.specs.declared.sign.TermSign.TheVariants.{Minus, Range, Union, Inter}
use Rattle.cb_term.specs.declared.sign.RelSign.TheVariants.{Equal, AtMost, Member}
use Rattle.cb_term.specs.Tree.{TermTree, Bin, Listed, Elems, Truths, TermTrees, End, More, FormulaTree, True, False, Rel, Not, And, Or}

-- f, or t is one of the terms
abbrev pub or_one_of : FormulaTree → TermTree → TermTrees → FormulaTree
or_one_of f t End = f
or_one_of f t (More e es) = or_one_of (Or f (Rel Equal t e)) t es

-- what it says that t is a member of s, where s is made of other terms or is a set of the table
abbrev pub membership : TermTree → TermTree → Option FormulaTree
membership t (Bin Union a b) = Some (Or (Rel Member t a) (Rel Member t b))
membership t (Bin Inter a b) = Some (And (Rel Member t a) (Rel Member t b))
membership t (Bin Minus a b) = Some (And (Rel Member t a) (Not (Rel Member t b)))
membership t (Bin Range a b) = Some (And (Rel AtMost a t) (Rel AtMost t b))
membership t (Listed End) = Some False
membership t (Listed (More e es)) = Some (or_one_of (Rel Equal t e) t es)
membership t (Elems set) = Some True
membership t Truths = Some True
membership t s = None
