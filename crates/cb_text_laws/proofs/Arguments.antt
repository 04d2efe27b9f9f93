-- Arguments without a fault are typed.
use Rattle.std.proofs.Common.{◌≡◌, ℕ, ◌==◌, true, false, List, [], ◌∷◌, map, length, Some, sym, ap, ◌∙◌, subst, arith, IsSomeAnd}
use Rattle.std.proofs.lemmas.Bool.{eqb-true}
use Rattle.cb_lex.specs.declared.token.Place.{Place}
use Rattle.cb_lex.specs.declared.raw.name.RawName.{RawName}
use Rattle.cb_lex.specs.RawTermTree.{RawTermTree}
use Rattle.cb_term.specs.declared.kind.Domain.{Domain}
use Rattle.cb_term.specs.declared.name.Name.{Name}
use Rattle.cb_term.specs.declared.sign.RelSign.TheVariants.{Equal}
use Rattle.cb_spec.specs.Domains.{kind_of_domain}
use Rattle.cb_spec.specs.Forms.{form_of_domain, is_of_kind, may_relate}
use Rattle.cb_spec.specs.TypedProcesses.{kinds_of, TypedArgs}
use Rattle.cb_spec.specs.TypedTerms.{Scope, TypedAs}
use Rattle.cb_forms.specs.declared.form.Form.{Form as Known}
use Rattle.cb_forms.specs.Find.{found}
use Rattle.cb_forms.specs.Kinds.{form_of as form_of_known, may_meet}
use Rattle.cb_judge.specs.declared.names.View.{View}
use Rattle.cb_judge.specs.Meanings.{Names}
use Rattle.cb_judge.specs.Choices.{form_or_nought}
use Rattle.cb_judge.specs.Judged.{place_of, form_in}
use Rattle.cb_normal.specs.Normal.{term_in, domain_or}
use Rattle.cb_types.specs.Declares.{Domains}
use Rattle.cb_types.specs.NormalMachines.{declared_name}
use Rattle.cb_typing.specs.Reflects.{Reflects}
use Rattle.cb_typing.proofs.Clean.{Clean, is_good}
use Rattle.cb_typing.proofs.Members.{nought_form}
use Rattle.cb_typing.proofs.Substs.{meets_kind}
use Rattle.cb_typing.proofs.Terms.{term_good}
use Rattle.cb_text_laws.specs.Signatures.{forms_of}
use Rattle.cb_text_laws.specs.ProcessFaults.{argument_fault, arguments_fault, count_fault}
use Rattle.cb_text_laws.specs.SpelledText.{AreWrittenTerms}

pub counted : (n m : ℕ) (p : Place) → Clean (count_fault n m p) → n ≡ m
counted n m p h = eqb-true n m (is_good (n == m) 22 p h)

module _ (v : View) (sizes : List ℕ) (ns : Names) (scope : Scope) (taken : List Name) (r : Reflects v ns sizes scope taken []) where
  pub argument_typed : (k : Known) (d : Domain) → form_of_known k ≡ form_of_domain d → (t : RawTermTree) → AreWrittenTerms (t ∷ []) → Clean (argument_fault v ns k t) → TypedAs sizes scope taken (kind_of_domain d) (term_in v ns t)
  argument_typed k d e t w h =
      let l = w.0 in
      let g = term_good v sizes scope taken t ns [] r false (omega (arith, l)) h.0 in
      let m : may_meet (Some (form_of_known k)) (form_in v ns t) ≡ true = is_good _ 5 (place_of t) h.1 in
      let n : may_relate Equal (form_of_domain d) g.form ≡ true = ap (λ f. may_relate Equal f g.form) (sym e) ∙ ap (may_meet (Some (form_of_known k))) (sym g.as_judged) ∙ m in
      (g.typed, subst (λ o. IsSomeAnd o (λ f. is_of_kind f (kind_of_domain d) ≡ true)) (sym g.as_typed) (meets_kind d g.form n))

  pub arguments_typed : (ds : Domains) (xs : List RawName) (ts : List RawTermTree) → length ts ≡ length xs → AreWrittenTerms ts → Clean (arguments_fault v ns (forms_of ds xs) ts) → TypedArgs sizes scope taken (kinds_of (map (declared_name ds) xs)) (map (term_in v ns) ts)
  unfolding declared_name
  arguments_typed ds [] [] l w h = tt
  arguments_typed ds [] (t ∷ ts) l w h = absurd (omega (arith, l))
  arguments_typed ds (x ∷ xs) [] l w h = absurd (omega (arith, l))
  arguments_typed ds (x ∷ xs) (t ∷ ts) l w h =
      (argument_typed (form_or_nought (found x.text ds)) (domain_or (found x.text ds)) (nought_form (found x.text ds)) t (w.0, tt) h.0, arguments_typed ds xs ts (omega (arith, l)) w.1 h.1)
