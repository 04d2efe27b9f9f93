-- Which arguments of rules fit, where names have kinds.
use Rattle.std.specs.Prelude.{ℕ, ◌==◌, Bool, true, false, ◌&&◌, List, [], Option, Some, None}
use Rattle.cb_term.specs.declared.name.Name.{Name}
use Rattle.cb_term.specs.declared.kind.Kind.{Kind}
use Rattle.cb_term.specs.declared.kind.Kind.TheVariants as kind
use Rattle.cb_term.specs.Kinds.{same_base}
use Rattle.cb_seq.specs.declared.rule.FormulaArgument.{FormulaArgument}
use Rattle.cb_seq.specs.declared.rule.FormulaArgument.TheVariants as formula
use Rattle.cb_seq.specs.declared.rule.TermArgument.{TermArgument}
use Rattle.cb_seq.specs.declared.rule.TermArgument.TheVariants as term
use Rattle.cb_seq.specs.declared.rule.Rule.{Rule}
use Rattle.cb_seq.specs.declared.rule.Rule.TheVariants as rule
use Rattle.cb_term.specs.Tree.{TermTree}
use Rattle.cb_seq.specs.Clear.{is_kind, term_is_clear, is_clear}
use Rattle.cb_seq.specs.Kinds.{kind_of, fits}

abbrev pub formula_fits : List ℕ → List (Name × Kind) → FormulaArgument → Bool
formula_fits sizes names (formula.Formula f) = is_clear f && fits sizes names [] f
formula_fits sizes names formula.Unclear = false

-- the term is clear, and has the kind that is written with it
abbrev pub term_fits : List ℕ → List (Name × Kind) → TermArgument → Bool
term_fits sizes names (term.Term t k) = term_is_clear t && is_kind k (kind_of sizes names [] t)
term_fits sizes names (term.Read t) = false
term_fits sizes names term.Unclear = false

abbrev pub arguments_fit : List ℕ → List (Name × Kind) → Rule → Bool
arguments_fit sizes names (rule.Cut f) = formula_fits sizes names f
arguments_fit sizes names (rule.Cases f) = formula_fits sizes names f
arguments_fit sizes names (rule.ExR t) = term_fits sizes names t
arguments_fit sizes names (rule.AllL h t) = term_fits sizes names t
arguments_fit sizes names (rule.BoolCases t) = term_fits sizes names t
arguments_fit sizes names (rule.Elems t) = term_fits sizes names t
arguments_fit sizes names (rule.Split s t) = term_fits sizes names s && term_fits sizes names t
arguments_fit sizes names (rule.DivMod t d) = term_fits sizes names t
arguments_fit sizes names (rule.MulSign s t) = term_fits sizes names s && term_fits sizes names t
arguments_fit sizes names (rule.SubsetL h t) = term_fits sizes names t
arguments_fit sizes names (rule.CardPos s) = term_fits sizes names s
arguments_fit sizes names (rule.CardAdd s t) = term_fits sizes names s && term_fits sizes names t
arguments_fit sizes names (rule.CardDel s t) = term_fits sizes names s && term_fits sizes names t
arguments_fit sizes names (rule.CardSub s t) = term_fits sizes names s && term_fits sizes names t
arguments_fit sizes names r = true

-- ---- terms that are read

-- the term with its kind, where it has one
abbrev pub with_kind : TermTree → Option Kind → TermArgument
with_kind t None = term.Unclear
with_kind t (Some k) = term.Term t k

-- a term that is read has the kind that it has among the names
abbrev pub argument_among : List ℕ → List (Name × Kind) → TermArgument → TermArgument
argument_among sizes names (term.Read t) = with_kind t (kind_of sizes names [] t)
argument_among sizes names (term.Term t k) = term.Term t k
argument_among sizes names term.Unclear = term.Unclear

abbrev pub rule_among : List ℕ → List (Name × Kind) → Rule → Rule
rule_among sizes names (rule.ExR t) = rule.ExR (argument_among sizes names t)
rule_among sizes names (rule.AllL h t) = rule.AllL h (argument_among sizes names t)
rule_among sizes names (rule.BoolCases t) = rule.BoolCases (argument_among sizes names t)
rule_among sizes names (rule.Elems t) = rule.Elems (argument_among sizes names t)
rule_among sizes names (rule.Split s t) = rule.Split (argument_among sizes names s) (argument_among sizes names t)
rule_among sizes names (rule.DivMod t d) = rule.DivMod (argument_among sizes names t) d
rule_among sizes names (rule.MulSign s t) = rule.MulSign (argument_among sizes names s) (argument_among sizes names t)
rule_among sizes names (rule.SubsetL h t) = rule.SubsetL h (argument_among sizes names t)
rule_among sizes names (rule.CardPos s) = rule.CardPos (argument_among sizes names s)
rule_among sizes names (rule.CardAdd s t) = rule.CardAdd (argument_among sizes names s) (argument_among sizes names t)
rule_among sizes names (rule.CardDel s t) = rule.CardDel (argument_among sizes names s) (argument_among sizes names t)
rule_among sizes names (rule.CardSub s t) = rule.CardSub (argument_among sizes names s) (argument_among sizes names t)
rule_among sizes names r = r

-- the rule, where no other stands for it
abbrev pub or_itself : Rule → Option Rule → Rule
or_itself r None = r
or_itself r (Some told) = told

-- a value of the first kind is one of the second
abbrev pub counts_as : Kind → Kind → Bool
counts_as kind.Integer kind.Integer = true
counts_as kind.Truth kind.Truth = true
counts_as (kind.Elem j) (kind.Elem k) = j == k
counts_as (kind.SetOf b) (kind.SetOf c) = same_base b c
counts_as kind.EmptySet (kind.SetOf c) = true
counts_as kind.EmptySet kind.EmptySet = true
counts_as k l = false
