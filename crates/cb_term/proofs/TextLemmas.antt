-- The text of a negation.
use Rattle.std.specs.Prelude.{codes}
use Rattle.std.proofs.Common.{◌≡◌, ℕ, Bool, false, List, ◌++◌, refl, sym, ap, ◌∙◌, append-nil, true≢false}
use Rattle.cb_term.specs.declared.name.Name.{Name}
use Rattle.cb_term.specs.declared.table.SetNames.{SetNames}
use Rattle.cb_term.specs.declared.sign.RelSign.{RelSign}
use Rattle.cb_term.specs.declared.sign.RelSign.TheVariants.{Equal, Less, AtMost, Member, Subset}
use Rattle.cb_term.specs.Tree.{TermTree, FormulaTree, True, False, Rel, Not, And, Or, Implies, Iff, Every, Exist}
use Rattle.cb_term.specs.Text.{only_if, has_negated_sign, term_text, formula_text}

-- where the sign has no negated form
pub plain_negation : (sets : List SetNames) (bound : List Name) (inner : Bool) (f : FormulaTree) → has_negated_sign f ≡ false →
    formula_text sets bound inner (Not f) ≡ codes "not (" ++ formula_text sets bound false f ++ codes ")"
plain_negation sets bound inner (Rel Equal a b) e = absurd (true≢false e)
plain_negation sets bound inner (Rel Member a b) e = absurd (true≢false e)
plain_negation sets bound inner (Rel Less a b) e = refl
plain_negation sets bound inner (Rel AtMost a b) e = refl
plain_negation sets bound inner (Rel Subset a b) e = refl
plain_negation sets bound inner True e = refl
plain_negation sets bound inner False e = refl
plain_negation sets bound inner (Not f) e = refl
plain_negation sets bound inner (And f g) e = refl
plain_negation sets bound inner (Or f g) e = refl
plain_negation sets bound inner (Implies f g) e = refl
plain_negation sets bound inner (Iff f g) e = refl
plain_negation sets bound inner (Every x k f) e = refl
plain_negation sets bound inner (Exist x k f) e = refl

pub not_text : (sets : List SetNames) (bound : List Name) (inner : Bool) (f g : FormulaTree) (b : Bool) → f ≡ Not g → b ≡ has_negated_sign g → b ≡ false →
    formula_text sets bound inner f ≡ codes "not (" ++ formula_text sets bound false g ++ codes ")"
not_text sets bound inner f g b is answer off = ap (formula_text sets bound inner) is ∙ plain_negation sets bound inner g (sym answer ∙ off)

pub nothing_put : (out' out x : List ℕ) (b : Bool) → out' ≡ out ++ only_if b x → b ≡ false → out' ≡ out
nothing_put out' out x b is off = is ∙ ap (λ c. out ++ only_if c x) off ∙ append-nil out

pub unequal_text : (sets : List SetNames) (bound : List Name) (inner : Bool) (f : FormulaTree) (s : RelSign) (a b : TermTree) → f ≡ Rel s a b → s ≡ Equal →
    formula_text sets bound inner (Not f) ≡ term_text sets bound false a ++ codes " /= " ++ term_text sets bound false b
unequal_text sets bound inner f s a b is sign = ap (λ g. formula_text sets bound inner (Not g)) (is ∙ ap (λ r. Rel r a b) sign)

pub no_member_text : (sets : List SetNames) (bound : List Name) (inner : Bool) (f : FormulaTree) (s : RelSign) (a b : TermTree) → f ≡ Rel s a b → s ≡ Member →
    formula_text sets bound inner (Not f) ≡ term_text sets bound false a ++ codes " /: " ++ term_text sets bound false b
no_member_text sets bound inner f s a b is sign = ap (λ g. formula_text sets bound inner (Not g)) (is ∙ ap (λ r. Rel r a b) sign)
