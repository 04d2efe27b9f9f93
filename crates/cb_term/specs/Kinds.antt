-- When two kinds are the same.
use Rattle.std.specs.Prelude.{◌==◌, Bool, true, false}
use Rattle.cb_term.specs.declared.kind.Kind.{Kind}
use Rattle.cb_term.specs.declared.kind.Kind.TheVariants as kind
use Rattle.cb_term.specs.declared.kind.Base.{Base}
use Rattle.cb_term.specs.declared.kind.Base.TheVariants as base

abbrev pub same_base : Base → Base → Bool
same_base base.Integer base.Integer = true
same_base base.Truth base.Truth = true
same_base (base.Elem j) (base.Elem k) = j == k
same_base b c = false

abbrev pub same_kind : Kind → Kind → Bool
same_kind kind.Integer kind.Integer = true
same_kind kind.Truth kind.Truth = true
same_kind (kind.Elem j) (kind.Elem k) = j == k
same_kind (kind.SetOf b) (kind.SetOf c) = same_base b c
same_kind kind.EmptySet kind.EmptySet = true
same_kind k l = false
