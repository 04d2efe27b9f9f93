-- When two signs are the same.
use Rattle.std.specs.Prelude.{Bool, true, false}
use Rattle.cb_term.specs.declared.sign.TermSign.{TermSign}
use Rattle.cb_term.specs.declared.sign.TermSign.TheVariants.{Add, Minus, Mul, Div, Mod, Range, Union, Inter}
use Rattle.cb_term.specs.declared.sign.RelSign.{RelSign}
use Rattle.cb_term.specs.declared.sign.RelSign.TheVariants.{Equal, Less, AtMost, Member, Subset}

abbrev pub same_sign : TermSign → TermSign → Bool
same_sign Add Add = true
same_sign Minus Minus = true
same_sign Mul Mul = true
same_sign Div Div = true
same_sign Mod Mod = true
same_sign Range Range = true
same_sign Union Union = true
same_sign Inter Inter = true
same_sign r s = false

abbrev pub same_rel : RelSign → RelSign → Bool
same_rel Equal Equal = true
same_rel Less Less = true
same_rel AtMost AtMost = true
same_rel Member Member = true
same_rel Subset Subset = true
same_rel r s = false
