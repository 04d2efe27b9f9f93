-- The kind that a form tells.
use Rattle.std.specs.Prelude.{List, map}
use Rattle.cb_term.specs.declared.name.Name.{Name}
use Rattle.cb_term.specs.declared.kind.Kind.{Kind}
use Rattle.cb_term.specs.declared.kind.Kind.TheVariants as kind
use Rattle.cb_term.specs.declared.kind.Base.TheVariants as base
use Rattle.cb_spec.specs.Forms.{Form, Number, Truth, Element, Numbers, TruthSet, Elements, Empty}
use Rattle.cb_spec.specs.TypedTerms.{Scope}

abbrev pub kind_of_form : Form → Kind
kind_of_form (Number lo hi) = kind.Integer
kind_of_form Truth = kind.Truth
kind_of_form (Element set) = kind.Elem set
kind_of_form (Numbers lo hi) = kind.SetOf base.Integer
kind_of_form TruthSet = kind.SetOf base.Truth
kind_of_form (Elements set) = kind.SetOf (base.Elem set)
kind_of_form Empty = kind.EmptySet

-- names with the kinds of their forms
abbrev pub kinds_in : Scope → List (Name × Kind)
kinds_in scope = map (λ (p : Name × Form). (p.0, kind_of_form p.1)) scope

-- the kinds alone, of bound variables
abbrev pub kinds_under : Scope → List Kind
kinds_under inner = map (λ (p : Name × Form). kind_of_form p.1) inner
