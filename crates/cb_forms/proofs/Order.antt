-- The order of faults.
use Rattle.std.proofs.Common.{◌≡◌, Bool, true, false, ◌⊎◌, inl, inr, Option, Some, None, arith, refl, sym, subst, cond, ◌∙◌}
use Rattle.std.proofs.lemmas.Bool.Decides.{nat_tests}
use Rattle.cb_forms.specs.declared.fault.Fault.{Fault}
use Rattle.cb_forms.specs.Faults.{before, least, Faults, Nowhere, At, Both, first, Occurs, IsFirst}

-- h isn't before a, and b is: so h isn't before b
before_left : (h b a : Fault) → before h a ≡ false → before b a ≡ true → before h b ≡ false
before_left h b a p q = grind (arith, nat_tests)

before_mid : (h b a : Fault) → before h b ≡ false → before b a ≡ false → before h a ≡ false
before_mid h b a p q = grind (arith, nat_tests)

before_itself : (h f : Fault) → h ≡ f → before h f ≡ false
before_itself h f e = subst (λ x. before x f ≡ false) (sym e) (grind (arith, nat_tests))

module _ (P Q : Fault → Type 0) where
  join : (a b : Option Fault) → IsFirst a P → IsFirst b Q → IsFirst (least a b) (λ h. P h ⊎ Q h)
  join None None i j = record { least = λ h s. elim s [ inl p ↦ i.least h p | inr q ↦ j.least h q ] }
  join None (Some y) i j = record { least = (inr j.least.0, λ h s. elim s [ inl p ↦ absurd (i.least h p) | inr q ↦ j.least.1 h q ]) }
  join (Some x) None i j = record { least = (inl i.least.0, λ h s. elim s [ inl p ↦ i.least.1 h p | inr q ↦ absurd (j.least h q) ]) }
  join (Some x) (Some y) i j = by (before y x) refl
    where
      by : (b : Bool) → before y x ≡ b → IsFirst (least (Some x) (Some y)) (λ h. P h ⊎ Q h)
      by true e = subst (λ t. IsFirst (cond t (Some y) (Some x)) (λ h. P h ⊎ Q h)) (sym e)
          (record { least = (inr j.least.0, λ h s. elim s [ inl p ↦ before_left h y x (i.least.1 h p) e | inr q ↦ j.least.1 h q ]) })
      by false e = subst (λ t. IsFirst (cond t (Some y) (Some x)) (λ h. P h ⊎ Q h)) (sym e)
          (record { least = (inl i.least.0, λ h s. elim s [ inl p ↦ i.least.1 h p | inr q ↦ before_mid h y x (j.least.1 h q) e ]) })

pub first_is : (fs : Faults) → IsFirst (first fs) (Occurs fs)
first_is Nowhere = record { least = λ h n. n }
first_is (At code p) = record { least = (refl, λ h e. before_itself h _ e) }
first_is (Both a b) = join (Occurs a) (Occurs b) (first a) (first b) (first_is a) (first_is b)

pub least_assoc : (a b c : Option Fault) → least (least a b) c ≡ least a (least b c)
least_assoc None b c = refl
least_assoc (Some x) None c = refl
least_assoc (Some x) (Some y) None = by (before y x) refl
  where
    by : (b : Bool) → before y x ≡ b → least (least (Some x) (Some y)) None ≡ least (Some x) (least (Some y) None)
    by true e = rw e refl
    by false e = rw e refl
least_assoc (Some x) (Some y) (Some z) = by (before y x) (before z y) (before z x) refl refl refl
  where
    by : (b c d : Bool) → before y x ≡ b → before z y ≡ c → before z x ≡ d → least (least (Some x) (Some y)) (Some z) ≡ least (Some x) (least (Some y) (Some z))
    by true true true e f g = rw (e, f) (rw g refl)
    by true true false e f g = absurd (let n : before z x ≡ true = grind (arith, nat_tests) in let m : false ≡ true = sym g ∙ n in cc)
    by true false d e f g = rw (e, f) (rw e refl)
    by false true true e f g = rw (e, f) refl
    by false true false e f g = rw (e, f) refl
    by false false true e f g = absurd (let n : before z x ≡ false = before_mid z y x f e in let m : true ≡ false = sym g ∙ n in cc)
    by false false false e f g = rw (e, f) (rw (e, g) refl)
