-- Trees of faults in which none occurs.
use Rattle.std.proofs.Common.{◌≡◌, ℕ, Bool, true, false, not, inl, inr, refl}
use Rattle.cb_lex.specs.declared.token.Place.{Place}
use Rattle.cb_forms.specs.Faults.{Faults, Nowhere, At, Both, fault_if}
use Rattle.cb_typing.specs.Laws.{NoFault}

abbrev pub Clean : Faults → Type 0
Clean Nowhere = Unit {0}
Clean (At code p) = ⊥
Clean (Both a b) = Clean a × Clean b

pub clean_of : (fs : Faults) → NoFault fs → Clean fs
clean_of Nowhere h = tt
clean_of (At code p) h = h (record { code = code; place = p }) refl
clean_of (Both a b) h = (clean_of a (λ f o. h f (inl o)), clean_of b (λ f o. h f (inr o)))

pub not_bad : (b : Bool) (code : ℕ) (p : Place) → Clean (fault_if b code p) → b ≡ false
not_bad true code p h = absurd h
not_bad false code p h = refl

pub is_good : (b : Bool) (code : ℕ) (p : Place) → Clean (fault_if (not b) code p) → b ≡ true
is_good true code p h = refl
is_good false code p h = absurd h
