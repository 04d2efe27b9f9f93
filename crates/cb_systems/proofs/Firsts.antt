-- The first of a whole text's faults.
use Rattle.std.proofs.Common.{◌≡◌, Some, None, subst}
use Rattle.cb_lex.specs.declared.raw.text.RawText.{RawText}
use Rattle.cb_forms.specs.declared.fault.Fault.{Fault}
use Rattle.cb_forms.specs.Faults.{first, Occurs, IsFirst}
use Rattle.cb_forms.proofs.Order.{first_is}
use Rattle.cb_text_laws.specs.WholeText.{faults_of, WellFormed, FirstFault}

pub none_is_fine : (t : RawText) → first (faults_of t) ≡ None → WellFormed t
none_is_fine t e = (subst (λ o. IsFirst o (Occurs (faults_of t))) e (first_is (faults_of t))).least

pub some_is_first : (t : RawText) (f : Fault) → first (faults_of t) ≡ Some f → FirstFault t f
some_is_first t f e = (subst (λ o. IsFirst o (Occurs (faults_of t))) e (first_is (faults_of t))).least
